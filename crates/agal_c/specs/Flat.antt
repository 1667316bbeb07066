-- The flat form of a record, 29 bytes: opcode 4, destination 5, source 1 10, source 2 10, numbers little-endian.
use Rattle.std.specs.Prelude.{ℕ, ◌+◌, ◌*◌, ◌/◌, ◌%◌, Bool, false, cond, ◌&&◌, List, [], ◌∷◌, ◌++◌, ltb, leb, length, get_or}
use Rattle.layout.specs.Layout.{word_at, word_bytes}
use Rattle.layout.specs.declared.record.Token.{Token}
use Rattle.agal_c.specs.Values.{values, destination_values, operand_values, destination_from, operand_from}
use Rattle.agal_c.specs.declared.values.Values.{Values}

-- ---- written

-- form, number, mask and register type
abbrev pub destination_bytes : Values → List ℕ
destination_bytes v = v.form ∷ v.number % 256 ∷ v.number / 256 ∷ v.first ∷ v.second ∷ []

-- form, number and seven values
abbrev pub operand_bytes : Values → List ℕ
operand_bytes v =
    v.form ∷ v.number % 256 ∷ v.number / 256
    ∷ v.first ∷ v.second ∷ v.third ∷ v.fourth ∷ v.fifth ∷ v.sixth ∷ v.seventh ∷ []

abbrev pub flat_bytes : ℕ → Values → Values → Values → List ℕ
flat_bytes opcode d a b = word_bytes opcode ++ destination_bytes d ++ operand_bytes a ++ operand_bytes b

unfoldable pub flat_of : Token → List ℕ
flat_of t =
    flat_bytes t.opcode (destination_values t.destination) (operand_values t.source1) (operand_values t.source2)

-- ---- read

-- 29 bytes or more, and forms that there are
abbrev pub is_flat : List ℕ → Bool
is_flat s = cond (ltb (length s) 29) false (leb (get_or s 4 0) 1 && leb (get_or s 9 0) 3 && leb (get_or s 19 0) 3)

-- the values that begin at a place; of a destination's, those after its register type aren't looked at
abbrev pub values_at : List ℕ → ℕ → Values
values_at s at =
    values (get_or s at 0) (get_or s (at + 1) 0 + 256 * get_or s (at + 2) 0)
    (get_or s (at + 3) 0) (get_or s (at + 4) 0) (get_or s (at + 5) 0) (get_or s (at + 6) 0)
    (get_or s (at + 7) 0) (get_or s (at + 8) 0) (get_or s (at + 9) 0)

abbrev pub token_of_flat : List ℕ → Token
token_of_flat s =
    record {
      opcode = word_at s 0;
      destination = destination_from (values_at s 4);
      source1 = operand_from (values_at s 9);
      source2 = operand_from (values_at s 19);
    }
