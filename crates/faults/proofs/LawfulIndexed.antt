-- A token with an indexed source that the test tells as lawful has no fault of fields and none of faults 10 to 19, and reads what its fields
-- tell.
-- Assumes nothing.
use Prim.Native.Nat.{ℕ}
use mathlib.Core.Bool.{Bool, true, false, not, ◌&&◌, ◌||◌}
use mathlib.Core.Path.{◌≡◌, refl, ◌∙◌}
use native.Mathlib.Omega.{arith}
use lib.Dec.{eqb}
use borrow.Author.Tests.{not-false}
use Rattle.laws.proofs.Every.{both}
use Rattle.layout.specs.Layout as layout
use Rattle.layout.specs.Layout.{value_of}
use Rattle.layout.specs.Opcodes.{shape_of, row_count2}
use Rattle.layout.specs.declared.fields.Fields.{Fields}
use Rattle.layout.specs.declared.opcodes.OperandShape.TheVariants.{Source}
use Rattle.layout.specs.computed.Sets.{among_of, ordinary_set}
use Rattle.layout.proofs.OpcodeLists.{many_rows}
use Rattle.components.specs.computed.QuickTests.{indexed_may_read_unwritten}
use Rattle.components.proofs.QuickLaws.{indexed_reads}
use Rattle.faults.specs.computed.LawfulTests.{is_source, is_lawful_destination, is_lawful_either, is_lawful_indexed, usable_of}
use Rattle.faults.proofs.LawfulOpcodes.{if_no, LawfulOpcode, ordinary_opcode, matrix_opcode}
use Rattle.faults.proofs.LawfulOperands.{lawful_destination, lawful_either}
use Rattle.faults.proofs.LawfulToken.{LawfulToken, by_opcode}
use Rattle.faults.proofs.UsableCounts.{usable_in}

module _ (edition stage : ℕ) (f : Fields) where
  abbrev o : ℕ
  o = f.opcode

  abbrev destination : Bool
  destination = is_lawful_destination (usable_in edition stage).writable o f.destination

  abbrev first : Bool
  first = is_lawful_either (usable_in edition stage) true 1 f.source1

  abbrev second : Bool
  second = is_lawful_either (usable_in edition stage) (is_source (shape_of o).source2) (row_count2 o) f.source2

  abbrev unswizzled : Bool
  unswizzled = eqb (row_count2 o) 1 || eqb (value_of layout.swizzle f.source2) 0xe4

  when_indexed : LawfulOpcode edition stage o → (destination && first && second && unswizzled) ≡ true → LawfulToken edition stage indexed_may_read_unwritten f
  when_indexed rules e =
      let (three, plain) = both _ _ e in
      let (two, used) = both _ _ three in
      let (writes, reads) = both _ _ two in
      let into = lawful_destination edition stage o f.destination writes in
      let from = lawful_either edition stage 1 f.source1 (omega arith) Source refl reads in
      let through = lawful_either edition stage (row_count2 o) f.source2 rules.rows (shape_of o).source2 rules.shape.1 used in
      by_opcode edition stage f rules into from through plain indexed_may_read_unwritten (λ s l. indexed_reads s f l rules.kind)

  -- the opcode is an ordinary one, or that of a matrix
  opcode_known : (one known : Bool) → eqb (row_count2 o) 1 ≡ one → among_of (ordinary_set edition) o ≡ known → (one && not known) ≡ false → LawfulOpcode edition stage o
  opcode_known true known a b e = ordinary_opcode edition stage o (b ∙ not-false known e)
  opcode_known false known a b e = matrix_opcode edition stage o (many_rows o a)

  pub lawful_indexed : is_lawful_indexed (usable_in edition stage) f ≡ true → LawfulToken edition stage indexed_may_read_unwritten f
  unfolding is_lawful_indexed usable_of
  lawful_indexed e = let (h, k) = if_no _ _ e in when_indexed (opcode_known _ _ refl refl h) k
