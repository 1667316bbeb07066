-- A token's fields as the code takes them: those of any bytes, and whether they are without a fault that decode tells.
use Rattle.std.specs.Prelude.{ℕ, Bool, not, cond, ◌&&◌, ◌||◌, List, ltb, eqb, ◌≡◌, length, Option, Some, None}
use Rattle.layout.specs.Layout.{destination_bits, operand_bits, is_stray}
use Rattle.layout.specs.declared.fields.Fields.{Fields}
use Rattle.layout.specs.declared.opcodes.Shape.{Shape}
use Rattle.bytecode.specs.Decode.{lowest_part}
use Rattle.bytecode.specs.Fields.{fields_of}

-- the fields of 24 bytes or more; all 0 where there are fewer
unfoldable pub fields_in : List ℕ → Fields
fields_in s = cond (ltb (length s) 24) (record { opcode = 0; destination = 0; source1 = 0; source2 = 0 }) (fields_of s)

-- no fault of fields: the opcode is listed, and no field has a bit that is not among its defined ones
unfoldable pub is_clean : Shape → Fields → Bool
is_clean shape f =
    shape.listed && not
    (is_stray (destination_bits shape.destination) f.destination
    || is_stray (operand_bits shape.source1) f.source1
    || is_stray (operand_bits shape.source2) f.source2)

-- the part that a number names; 0 names none
abbrev pub part_of : ℕ → Option ℕ
part_of part = cond (eqb part 0) None (Some part)

-- the lowest part at fault, by what a test answers of each field and its defined bits
pub record LowestPart (Test : ℕ → ℕ → Bool → Type 0) (shape : Shape) (f : Fields) (part : Option ℕ) : Type 0 where
  pub destination : Bool
  pub source1 : Bool
  pub source2 : Bool
  pub of_destination : Test (destination_bits shape.destination) f.destination destination
  pub of_source1 : Test (operand_bits shape.source1) f.source1 source1
  pub of_source2 : Test (operand_bits shape.source2) f.source2 source2
  pub lowest : part ≡ part_of (lowest_part destination source1 source2)
