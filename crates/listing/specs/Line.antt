-- Document 01: one listing line, and the refusals of line, 25 and then 23.
use Rattle.std.specs.Prelude.{ℕ, ◌≤◌, Bool, true, cond, ◌&&◌, not, List, ◌++◌, ◌≡◌, leb, length, Err, None, Option, Result, Some}
use Rattle.listing.specs.Text.{ascii}
use Rattle.listing.specs.Names.{opcode_name}
use Rattle.listing.specs.Items.{indentation, destination_text, operand_text}
use Rattle.bytecode.specs.Encode.{is_encodable}
use Rattle.bytecode.specs.Decode.{refusal}
use Rattle.layout.specs.Samplers.{settings_wrong}
use Rattle.bytecode.specs.Numbers.{found_numbers}
use Rattle.layout.specs.declared.record.MaskedRegister.{MaskedRegister}
use Rattle.layout.specs.declared.record.Operand.{Operand}
use Rattle.layout.specs.declared.record.Operand.TheVariants.{Unused as NoOperand, Direct, Indexed, Sampler as Sampled}
use Rattle.layout.specs.declared.record.Token.{Token}
use Rattle.bytecode.specs.declared.answers.Refusal.{Refusal}
use Rattle.listing.specs.Printing.{printed_numbers, print_fault, print_answer, after_print}

-- "Opcode, then used operands, one space before each, LF"
unfoldable pub line_of : Token → ℕ → ℕ → List ℕ
line_of t stage depth =
    indentation depth
    ++ opcode_name t.opcode
    ++ destination_text stage t.destination
    ++ operand_text stage t.source1
    ++ operand_text stage t.source2
    ++ ascii "\n"

-- ---- which records have a line

-- "a register type .. above 6"
abbrev pub has_name : ℕ → Bool
has_name kind = leb kind 6

abbrev pub destination_has_names : Option MaskedRegister → Bool
destination_has_names None = true
destination_has_names (Some r) = has_name r.kind

-- "a register type or an indexed source's index type above 6, or sampler settings that 19 refuses (its number aside)"
abbrev pub operand_has_names : Operand → Bool
operand_has_names NoOperand = true
operand_has_names (Direct s) = has_name s.kind
operand_has_names (Indexed s) = has_name s.kind && has_name s.index_kind
operand_has_names (Sampled s) = not (settings_wrong s)

-- what 25 refuses: a record not encodable, "a stage above 1, a depth above 16", or one not nameable
unfoldable pub is_nameable : Token → ℕ → ℕ → Bool
is_nameable t stage depth =
    is_encodable t && leb stage 1 && leb depth 16
    && destination_has_names t.destination && operand_has_names t.source1 && operand_has_names t.source2

-- ---- line

-- 25 where the record has no line, then 23 where the lent buffer is shorter than the line
unfoldable pub line_fault : Token → ℕ → ℕ → List ℕ → Refusal
line_fault t stage depth buffer = cond (is_nameable t stage depth) (print_fault (line_of t stage depth) buffer) (refusal 25 0 0)

unfoldable pub line_answer : Token → ℕ → ℕ → List ℕ → Result ℕ Refusal
line_answer t stage depth buffer =
    cond (is_nameable t stage depth) (print_answer (line_of t stage depth) buffer) (Err (refusal 25 0 0))

-- what the lent buffer holds afterwards: the line and then what was there, or all that was there
unfoldable pub after_line : Token → ℕ → ℕ → List ℕ → List ℕ
after_line t stage depth buffer = cond (is_nameable t stage depth) (after_print (line_of t stage depth) buffer) buffer

-- the promise of line: its answer, the answer's numbers by the rules above, the line's length where nothing is refused, and the buffer
-- afterwards; and 128 bytes are room enough for every line
pub record Lists (t : Token) (stage depth : ℕ) (before after : List ℕ) (r : Result ℕ Refusal) : Type 0 where
  pub answer : r ≡ line_answer t stage depth before
  pub numbers : printed_numbers r ≡ found_numbers (line_fault t stage depth before) 0 (length (line_of t stage depth))
  pub buffer : after ≡ after_line t stage depth before
  pub short : is_nameable t stage depth ≡ true → length (line_of t stage depth) ≤ 128
