-- A token that the tests tell as lawful has none of faults 9 to 19.
-- Assumes nothing.
use Prim.Native.Nat.{ℕ, ◌≤◌}
use mathlib.Core.Bool.{Bool, true}
use mathlib.Core.Option.{Option, none, some}
use mathlib.Core.Path.{◌≡◌, refl, ◌∙◌, ap, sym, subst}
use native.Mathlib.Omega.{arith}
use Rattle.bytecode.specs.Decode.{no_refusal}
use Rattle.bytecode.specs.computed.CleanFields.{is_clean}
use Rattle.bytecode.specs.Fields.{fields_of}
use Rattle.bytecode.proofs.DecodeLaws.{clean_by, clean_none, no_faults}
use Rattle.layout.specs.Opcodes.{shape_of}
use Rattle.layout.specs.Records.{token_of}
use Rattle.layout.specs.declared.fields.Fields.{Fields}
use Rattle.paths.specs.Paths.{TokenFault}
use Rattle.components.specs.declared.written.Written.{Written}
use Rattle.registers.specs.Counts.{count_of}
use Rattle.faults.specs.computed.Faults.{refusal_at}
use Rattle.faults.specs.Lawful.{Lawful}
use Rattle.faults.specs.computed.LawfulTests.{is_lawful, is_lawful_matrix, is_lawful_tex, is_lawful_kil, is_lawful_indexed, is_lawful_branch, is_lawful_either, is_rightly_indexed, usable_beside, LawfulWith, LawfulUnder}
use Rattle.bytecode.specs.Fields.{record_of}
use Rattle.faults.specs.computed.Profile.{profile_of}
use Rattle.faults.specs.declared.lawful.Usable.{Usable}
use Rattle.faults.specs.declared.profile.Profile.{Profile}
use Rattle.faults.proofs.LawfulToken.{NoOwnFault, ToldLawful, lawful, lawful_matrix, lawful_tex}
use Rattle.faults.proofs.LawfulIndexed.{lawful_indexed}
use Rattle.faults.proofs.LawfulKil.{lawful_kil}
use Rattle.faults.proofs.LawfulBranch.{lawful_branch}
use Rattle.faults.proofs.OwnFault.{token_numbered, taken_fault}
use Rattle.faults.proofs.UsableCounts.{usable_in}

no_rule : (x : Option TokenFault) → ((f : TokenFault) → x ≡ some f → 9 ≤ f.number) → refusal_at 0 x ≡ no_refusal → x ≡ none
no_rule none numbered e = refl
no_rule (some f) numbered e = absurd (omega (arith, numbered f refl, ap (λ r. r.number) e))

-- no fault of fields, and none of 10 to 19
pub none_broken : (edition stage : ℕ) (f : Fields) {branch used : Bool} {Enough : Written → Type 0} → ToldLawful edition stage branch used Enough f → Lawful edition stage f
none_broken edition stage f p s h e =
    let fields = fields_of s in
    let clean-here = subst (λ g. is_clean (shape_of g.opcode) g ≡ true) (sym e) p.clean in
    let right-here = subst (λ g. NoOwnFault (profile_of edition stage) (token_of (shape_of g.opcode) g)) (sym e) p.right in
    let no_fault = clean_none (shape_of fields.opcode) fields (clean_by (shape_of fields.opcode) fields clean-here) in
    let taken = no_faults s h (ap (λ r. r.number) no_fault) in
    no_rule _ (λ f k. (token_numbered (λ k. count_of k edition stage) edition stage s f k).0)
    ((taken_fault edition stage 0 s h (record_of s) (sym taken.answer)).1 ∙ right-here 0)

-- so what a test tells of the fields in an edition and a stage, it tells under the profile of these
told : (test : Usable → Bool) (f : Fields) {branch used : Bool} {Enough : Written → Type 0}
    → ((edition stage : ℕ) → test (usable_in edition stage) ≡ true → ToldLawful edition stage branch used Enough f)
    → (usable : Usable) → test usable ≡ true → LawfulUnder usable f
unfolding LawfulUnder
told test f law usable e edition stage of = none_broken edition stage f (law edition stage (ap test (sym of) ∙ e))

-- and, where it asks of no profile, wherever the same may be used
told_beside : (test : Usable → Bool) (f : Fields) {branch used : Bool} {Enough : Written → Type 0}
    → ((u : Usable) (p : Profile) → test (usable_beside u p) ≡ test u)
    → ((edition stage : ℕ) → test (usable_in edition stage) ≡ true → ToldLawful edition stage branch used Enough f)
    → (usable : Usable) → test usable ≡ true → LawfulWith usable f
unfolding LawfulWith
told_beside test f alike law usable e edition stage of =
    none_broken edition stage f (law edition stage (ap test (sym of) ∙ alike usable (profile_of edition stage) ∙ e))

module _ (u : Usable) (f : Fields) where
  pub means_lawful : is_lawful u f ≡ true → LawfulWith u f
  unfolding is_lawful
  means_lawful = told_beside (λ u. is_lawful u f) f (λ u p. refl) (λ edition stage. lawful edition stage f) u

  pub matrix_means_lawful : is_lawful_matrix u f ≡ true → LawfulWith u f
  unfolding is_lawful_matrix
  matrix_means_lawful = told_beside (λ u. is_lawful_matrix u f) f (λ u p. refl) (λ edition stage. lawful_matrix edition stage f) u

  pub tex_means_lawful : is_lawful_tex u f ≡ true → LawfulUnder u f
  tex_means_lawful = told (λ u. is_lawful_tex u f) f (λ edition stage. lawful_tex edition stage f) u

  pub kil_means_lawful : is_lawful_kil u f ≡ true → LawfulUnder u f
  kil_means_lawful = told (λ u. is_lawful_kil u f) f (λ edition stage. lawful_kil edition stage f) u

  pub indexed_means_lawful : is_lawful_indexed u f ≡ true → LawfulWith u f
  unfolding is_lawful_indexed is_lawful_either is_rightly_indexed
  indexed_means_lawful = told_beside (λ u. is_lawful_indexed u f) f (λ u p. refl) (λ edition stage. lawful_indexed edition stage f) u

  pub branch_means_lawful : is_lawful_branch u f ≡ true → LawfulUnder u f
  branch_means_lawful = told (λ u. is_lawful_branch u f) f (λ edition stage. lawful_branch edition stage f) u
