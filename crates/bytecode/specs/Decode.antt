-- Document 01: the faults that decode gives, 24, then 9, 12, 13, and the record where there is none.
use Rattle.std.specs.Prelude.{ℕ, Bool, not, cond, ◌&&◌, List, ◌≡◌, eqb, length, Result, Ok, Err, ⊤}
use Rattle.layout.specs.Opcodes.{shape_of}
use Rattle.layout.specs.Layout.{destination_bits, operand_bits, is_stray}
use Rattle.bytecode.specs.Fields.{fields_of}
use Rattle.bytecode.specs.Numbers.{found_numbers, decoded_numbers}
use Rattle.layout.specs.Records.{token_of}
use Rattle.layout.specs.declared.opcodes.Shape.{Shape}
use Rattle.layout.specs.declared.fields.Fields.{Fields}
use Rattle.bytecode.specs.declared.answers.Refusal.{Refusal}
use Rattle.layout.specs.declared.record.Token.{Token}

-- the numbers of a refusal: fault, token and part
abbrev pub refusal : ℕ → ℕ → ℕ → Refusal
refusal n t p = record { number = n; token = t; part = p }

-- nothing is refused: all numbers are 0
abbrev pub no_refusal : Refusal
no_refusal = refusal 0 0 0

-- what a function answers that only looks for a fault: the fault, if it is one
abbrev pub outcome : Refusal → Result ⊤ Refusal
outcome fault = cond (eqb fault.number 0) (Ok tt) (Err fault)

-- 12: an unused field, one with no defined bit, is not 0
abbrev pub unused_not_zero : ℕ → ℕ → Bool
unused_not_zero defined field = eqb defined 0 && is_stray defined field

-- 13: an undefined bit is set in a used field
abbrev pub undefined_bit_set : ℕ → ℕ → Bool
undefined_bit_set defined field = not (eqb defined 0) && is_stray defined field

-- "12 and 13 name the lowest part at fault": 1 destination, 2 source 1, 3 source 2; 0 where none is at fault
abbrev pub lowest_part : Bool → Bool → Bool → ℕ
lowest_part destination source1 source2 = cond destination 1 (cond source1 2 (cond source2 3 0))

unfoldable pub unused_part : Shape → Fields → ℕ
unused_part shape f =
    lowest_part
    (unused_not_zero (destination_bits shape.destination) f.destination)
    (unused_not_zero (operand_bits shape.source1) f.source1)
    (unused_not_zero (operand_bits shape.source2) f.source2)

unfoldable pub undefined_part : Shape → Fields → ℕ
undefined_part shape f =
    lowest_part
    (undefined_bit_set (destination_bits shape.destination) f.destination)
    (undefined_bit_set (operand_bits shape.source1) f.source1)
    (undefined_bit_set (operand_bits shape.source2) f.source2)

-- 9, 12, 13 in their order
unfoldable pub token_fault : Shape → Fields → Refusal
token_fault shape f =
    cond (not shape.listed) (refusal 9 0 0)
    (cond (not (eqb (unused_part shape f) 0)) (refusal 12 0 (unused_part shape f))
    (cond (not (eqb (undefined_part shape f) 0)) (refusal 13 0 (undefined_part shape f)) no_refusal))

-- 24 comes first
unfoldable pub decode_fault : List ℕ → Refusal
decode_fault s = cond (eqb (length s) 24) (token_fault (shape_of (fields_of s).opcode) (fields_of s)) (refusal 24 0 0)

-- what decode answers
unfoldable pub decode_of : List ℕ → Result Token Refusal
decode_of s =
    cond (eqb (decode_fault s).number 0)
    (Ok (token_of (shape_of (fields_of s).opcode) (fields_of s)))
    (Err (decode_fault s))

-- the promise of decode: its answer, and the numbers of its answer by the rules above
pub record Decodes (s : List ℕ) (r : Result Token Refusal) : Type 0 where
  pub answer : r ≡ decode_of s
  pub numbers : decoded_numbers r ≡ found_numbers (decode_fault s) 0 0
