-- The token of a branch that the test tells as lawful has no fault of fields and none of faults 10 to 19, and reads what its fields tell.
-- Assumes nothing.
use Prim.Native.Nat.{ℕ}
use mathlib.Core.Bool.{Bool, true, false, not, cond, ◌&&◌}
use mathlib.Core.List.{◌++◌}
use mathlib.Core.Path.{◌≡◌, refl, ◌∙◌, ap, sym, subst}
use native.Mathlib.Omega.{arith}
use lib.Dec.{eqb}
use borrow.Author.Tests.{ne_eqb, eqb-true, eqb-false, not-true, not-false}
use Rattle.laws.proofs.Every.{both}
use Rattle.layout.specs.Opcodes.{openers, bare_opcodes, is_fragment_only, is_matrix, is_opener, shape_of, flow_of}
use Rattle.layout.specs.computed.Groups.{is_branch, source_shape}
use Rattle.layout.specs.Records.{direct_of, token_of}
use Rattle.layout.specs.declared.fields.Fields.{Fields}
use Rattle.layout.specs.declared.opcodes.Flow.TheVariants.{Opener}
use Rattle.layout.specs.declared.opcodes.OperandShape.TheVariants.{Source}
use Rattle.layout.proofs.OpcodeLists.{none_of, branch_shape, branch_shape_lem, opener_flow}
use Rattle.layout.proofs.OpcodeSets.{one_row, outside_matrices}
use Rattle.paths.specs.computed.Check.{lacks}
use Rattle.components.specs.computed.QuickTests.{opener_may_read_unwritten}
use Rattle.components.specs.Reads.{reads1, reads2, temporaries}
use Rattle.components.specs.computed.ReadsWritten.{ReadsWritten}
use Rattle.components.specs.computed.Written.{component_set}
use Rattle.components.specs.declared.written.Written.{Written}
use Rattle.components.proofs.QuickLaws.{opener_reads}
use Rattle.faults.specs.Rules.{opcode_too_new, matrix_swizzled}
use Rattle.faults.specs.computed.LawfulTests.{is_lawful_either, is_lawful_branch, usable_of}
use Rattle.faults.proofs.LawfulOpcodes.{if_no, no_stage, no_selectors}
use Rattle.faults.proofs.LawfulOperands.{LawfulSource, no_destination, no_source, lawful_either}
use Rattle.faults.proofs.LawfulToken.{ToldLawful, together}
use Rattle.faults.proofs.UsableCounts.{usable_in}

module _ (edition stage : ℕ) (f : Fields) where
  abbrev o : ℕ
  o = f.opcode

  -- an opener has its test of what it reads; els and eif read nothing
  abbrev Enough : Written → Type 0
  Enough s = flow_of o ≡ Opener → opener_may_read_unwritten s f ≡ false

  -- what is shown of a branch
  abbrev pub LawfulBranch : Type 0
  LawfulBranch = ToldLawful edition stage true false Enough f

  bare_reads : shape_of o ≡ branch_shape false → (s : Written) → ReadsWritten s f
  unfolding token_of
  bare_reads whole s = subst (λ x. (lacks (component_set s) (temporaries (reads1 (token_of x f))) ≡ false) × (lacks (component_set s) (temporaries (reads2 (token_of x f))) ≡ false)) (sym whole) (refl, refl)

  branch_reads : (opener : Bool) → is_opener o ≡ opener → shape_of o ≡ branch_shape opener → (s : Written) → Enough s → ReadsWritten s f
  branch_reads true is whole s enough = opener_reads s f (enough (opener_flow o is)) is
  branch_reads false is whole s enough = bare_reads whole s

  -- from what is shown of its two sources
  by_shape : is_branch o ≡ true → (opener : Bool) → is_opener o ≡ opener → shape_of o ≡ branch_shape opener → (edition ≡ 1 → ⊥) → f.destination ≡ 0
      → LawfulSource edition stage (source_shape opener) 1 f.source1 → LawfulSource edition stage (source_shape opener) 1 f.source2 → LawfulBranch
  by_shape branch opener is whole later none first second =
      let fragment = none_of (openers ++ bare_opcodes) is_fragment_only tt o branch in
      let matrix = none_of (openers ++ bare_opcodes) is_matrix tt o branch in
      let new : opcode_too_new edition o ≡ false = rw (ne_eqb edition 1 later) in
      let through = subst (λ n. LawfulSource edition stage (source_shape opener) n f.source2) (sym (one_row o (outside_matrices o matrix))) second in
      together edition stage f (source_shape opener) whole (no_destination edition stage o f.destination none) first branch new (no_stage edition stage o fragment) (no_selectors edition stage o fragment (direct_of f.source1).swizzle)
      through.defined (through.right (matrix_swizzled o) 3 (ap (λ b. b && not (eqb (direct_of f.source2).swizzle 0xe4)) matrix)) Enough (branch_reads opener is whole)

  -- the test of a source, by whether the token is an opener
  abbrev source : Bool → ℕ → Bool
  source opener field = cond opener (is_lawful_either (usable_in edition stage) true 1 field) (eqb field 0)

  abbrev tests : Bool → Bool
  tests opener = not (eqb edition 1) && eqb f.destination 0 && source opener f.source1 && source opener f.source2

  lawful_source : (opener : Bool) (field : ℕ) → source opener field ≡ true → LawfulSource edition stage (source_shape opener) 1 field
  lawful_source true field e = lawful_either edition stage 1 field (omega arith) Source refl e
  lawful_source false field e = no_source edition stage 1 field (eqb-true field 0 e)

  when_branch : is_branch o ≡ true → (opener : Bool) → is_opener o ≡ opener → tests opener ≡ true → LawfulBranch
  when_branch branch opener is e =
      let (three, second) = both _ _ e in
      let (two, first) = both _ _ three in
      let (later, unwritten) = both _ _ two in
      by_shape branch opener is (branch_shape_lem o branch ∙ ap branch_shape is)
      (eqb-false edition 1 (not-true (eqb edition 1) later)) (eqb-true f.destination 0 unwritten)
      (lawful_source opener f.source1 first) (lawful_source opener f.source2 second)

  pub lawful_branch : is_lawful_branch (usable_in edition stage) f ≡ true → LawfulBranch
  unfolding is_lawful_branch usable_of
  lawful_branch e = let (h, k) = if_no _ _ e in go (not-false _ h) (is_opener o) refl k
    where
      go : is_branch o ≡ true → (opener : Bool) → is_opener o ≡ opener → cond opener (tests true) (tests false) ≡ true → LawfulBranch
      go branch true is k = when_branch branch true is k
      go branch false is k = when_branch branch false is k
