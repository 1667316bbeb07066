-- The goals of `pass` that the check leaves.
use Rattle.components.specs.computed.QuickTests.{may_read_unwritten, matrix_may_read_unwritten, tex_may_read_unwritten, indexed_may_read_unwritten}
use Rattle.faults.specs.computed.LawfulTests.{is_lawful, is_lawful_matrix, is_lawful_tex, is_lawful_indexed}
use Rattle.faults.proofs.LawfulToken.{lawful, lawful_matrix, lawful_tex}
use Rattle.faults.proofs.LawfulIndexed.{lawful_indexed}
use Rattle.verifier.proofs.GlanceLaw.{passes_by, passes_kil}
use Rattle.verifier.proofs.glance.pass.Goals as goal

pub returns-then-is_lawful_indexed : goal.returns-then-is_lawful_indexed
returns-then-is_lawful_indexed c =
    rw c.passed_unless.ensures (passes_by c.args.f (λ u. is_lawful_indexed u c.args.f) indexed_may_read_unwritten (λ edition stage. lawful_indexed edition stage c.args.f)
    _ _ c.is_lawful_indexed.ensures.answer c.if-is_lawful_indexed.true _ _ c.indexed_may_read_unwritten.ensures.0)

pub returns-then-is_lawful : goal.returns-then-is_lawful
returns-then-is_lawful c =
    rw c.passed_unless-then-is_lawful.ensures (passes_by c.args.f (λ u. is_lawful u c.args.f) may_read_unwritten (λ edition stage. lawful edition stage c.args.f)
    _ _ c.is_lawful.ensures.answer c.if-is_lawful.true _ _ c.may_read_unwritten.ensures.0)

pub returns-then-is_lawful_matrix : goal.returns-then-is_lawful_matrix
returns-then-is_lawful_matrix c =
    rw c.passed_unless-then-is_lawful_matrix.ensures (passes_by c.args.f (λ u. is_lawful_matrix u c.args.f) matrix_may_read_unwritten (λ edition stage. lawful_matrix edition stage c.args.f)
    _ _ c.is_lawful_matrix.ensures.answer c.if-is_lawful_matrix.true _ _ c.matrix_may_read_unwritten.ensures.0)

pub returns-then-is_lawful_tex : goal.returns-then-is_lawful_tex
returns-then-is_lawful_tex c =
    rw c.passed_unless-then-is_lawful_tex.ensures (passes_by c.args.f (λ u. is_lawful_tex u c.args.f) tex_may_read_unwritten (λ edition stage. lawful_tex edition stage c.args.f)
    _ _ c.is_lawful_tex.ensures.answer c.if-is_lawful_tex.true _ _ c.tex_may_read_unwritten.ensures.0)

pub returns-then-is_lawful_kil : goal.returns-then-is_lawful_kil
returns-then-is_lawful_kil c = rw c.then_some.ensures (passes_kil _ _ _ c.is_lawful_kil.ensures.answer c.if-is_lawful_kil.true _ _ c.kil_may_read_unwritten.ensures.0)
