-- A kil that the test tells as lawful has no fault of fields and none of faults 10 to 19, and reads what its fields tell.
-- Assumes nothing.
use Prim.Native.Nat.{ℕ, ◌<◌}
use mathlib.Core.Bool.{Bool, true, false, not, ◌&&◌, beq}
use mathlib.Core.Path.{◌≡◌, refl, ◌∙◌, ap, sym}
use native.Mathlib.Omega.{arith}
use lib.Dec.{eqb, lit≤}
use borrow.Author.Tests.{eqb-true}
use Rattle.laws.proofs.Every.{both, same→eq, below}
use Rattle.layout.specs.Layout as layout
use Rattle.layout.specs.Layout.{value_of}
use Rattle.layout.specs.Opcodes.{kil, is_added, row_of, shape_of_row, shape_of}
use Rattle.layout.specs.computed.Groups.{is_branch}
use Rattle.layout.specs.Swizzles.{selectors_agree}
use Rattle.layout.specs.declared.fields.Fields.{Fields}
use Rattle.layout.specs.declared.opcodes.OperandShape.TheVariants.{Unused}
use Rattle.components.specs.computed.QuickTests.{kil_may_read_unwritten}
use Rattle.components.proofs.QuickLaws.{kil_reads}
use Rattle.faults.specs.Rules.{selectors_differ}
use Rattle.faults.specs.computed.LawfulTests.{is_lawful_source, repeats_first, is_lawful_kil, usable_of}
use Rattle.faults.proofs.LawfulOpcodes.{if_yes, no_edition, is_fragment, in_fragment}
use Rattle.faults.proofs.LawfulOperands.{is_direct, lawful_direct, no_destination, no_source}
use Rattle.faults.proofs.LawfulToken.{ToldLawful, together}
use Rattle.faults.proofs.UsableCounts.{usable_in}

-- the test of a swizzle finds exactly what 18 asks for
repeats_agree : (z : ℕ) → z < 256 → repeats_first z ≡ selectors_agree z
repeats_agree z h = same→eq (repeats_first z) (selectors_agree z) (below (λ z. beq (repeats_first z) (selectors_agree z)) 256 tt z h)

module _ (edition stage : ℕ) (f : Fields) where
  abbrev o : ℕ
  o = f.opcode

  -- what is shown of kil
  abbrev pub LawfulKil : Type 0
  LawfulKil = ToldLawful edition stage false false (λ s. kil_may_read_unwritten s f ≡ false) f

  abbrev fragment : Bool
  fragment = is_fragment stage

  abbrev bare : Bool
  bare = eqb f.destination 0

  abbrev single : Bool
  single = eqb f.source2 0

  abbrev first : Bool
  first = is_lawful_source (usable_in edition stage).readable true 1 f.source1

  abbrev swizzle : ℕ
  swizzle = value_of layout.swizzle f.source1

  right_swizzle : o ≡ kil → repeats_first swizzle ≡ true → selectors_differ o swizzle ≡ false
  right_swizzle is e = ap (λ o. selectors_differ o swizzle) is ∙ ap not (sym (repeats_agree swizzle (omega arith)) ∙ e)

  when_kil : o ≡ kil → (fragment && bare && single && first && repeats_first swizzle) ≡ true → LawfulKil
  unfolding row_of shape_of_row
  when_kil is e =
      let (four, agree) = both _ _ e in
      let (three, direct) = both _ _ four in
      let (two, no-second) = both _ _ three in
      let (for-stage, unwritten) = both _ _ two in
      let into = no_destination edition stage o f.destination (eqb-true f.destination 0 unwritten) in
      let from = lawful_direct edition stage 1 f.source1 (lit≤ tt) direct in
      let none = no_source edition stage 1 f.source2 (eqb-true f.source2 0 no-second) in
      together edition stage f Unused (ap shape_of is) into from (ap is_branch is) (no_edition edition stage o (ap is_added is)) (in_fragment edition stage o for-stage)
      (right_swizzle is agree)
      none.defined refl
      (λ s. kil_may_read_unwritten s f ≡ false) (λ s l. kil_reads s f l is (is_direct (usable_in edition stage).readable true 1 f.source1 direct))

  pub lawful_kil : is_lawful_kil (usable_in edition stage) f ≡ true → LawfulKil
  unfolding is_lawful_kil usable_of
  lawful_kil e = let (h, k) = if_yes _ _ e in when_kil (eqb-true o kil h) k
