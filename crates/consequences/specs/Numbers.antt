-- What whoever sees the numbers of an answer alone concludes, of which nothing is known but the promises: all five of them, and what a lent
-- buffer holds beside them.
use Rattle.std.specs.Prelude.{ℕ, ◌+◌, ◌<◌, ◌≤◌, true, false, List, ◌++◌, ◌≡◌, length, drop, Result, ⊤}
use Rattle.std.specs.Borrow.{Bor}
use Rattle.layout.specs.Opcodes.{shape_of}
use Rattle.layout.specs.Programs.{token_at, token_start}
use Rattle.layout.specs.declared.opcodes.Shape.{Shape}
use Rattle.layout.specs.declared.record.Token.{Token}
use Rattle.bytecode.specs.Fields.{fields_of}
use Rattle.bytecode.specs.Numbers.{Numbers, decoded_numbers, encoded_numbers}
use Rattle.bytecode.specs.Decode.{unused_part, undefined_part, Decodes}
use Rattle.bytecode.specs.Encode.{is_encodable, encoded_bytes, Encodes}
use Rattle.bytecode.specs.declared.answers.Refusal.{Refusal}
use Rattle.listing.specs.Line.{line_of, is_nameable, Lists}
use Rattle.listing.specs.Printing.{printed_numbers, Prints}
use Rattle.reader.specs.Reading.{opening_numbers, ReadsAt, Opens}
use Rattle.reader.specs.declared.answers.Opened.{Opened}

-- the five numbers: refusal, token, part, stage and value
abbrev pub five : ℕ → ℕ → ℕ → ℕ → ℕ → Numbers
five number token part stage value = record { number = number; token = token; part = part; stage = stage; value = value }

-- nothing is refused, and nothing else is told
abbrev pub fine : Numbers
fine = five 0 0 0 0 0

-- ---- decode

-- what the opcode in a token's bytes holds
abbrev pub shape_in : List ℕ → Shape
shape_in s = shape_of (fields_of s).opcode

-- 24 where there are not 24 bytes; else 9 where the opcode is not listed; else 12 or 13 with the part at fault; else 0.
pub record DecodeTold (s : List ℕ) (told : Numbers) : Type 0 where
  pub unsized : ¬ (length s ≡ 24) → told ≡ five 24 0 0 0 0
  pub unlisted : length s ≡ 24 → (shape_in s).listed ≡ false → told ≡ five 9 0 0 0 0
  pub unused : length s ≡ 24 → (shape_in s).listed ≡ true → 1 ≤ unused_part (shape_in s) (fields_of s)
      → told ≡ five 12 0 (unused_part (shape_in s) (fields_of s)) 0 0
  pub undefined : length s ≡ 24 → (shape_in s).listed ≡ true → unused_part (shape_in s) (fields_of s) ≡ 0
      → 1 ≤ undefined_part (shape_in s) (fields_of s) → told ≡ five 13 0 (undefined_part (shape_in s) (fields_of s)) 0 0
  pub faultless : length s ≡ 24 → (shape_in s).listed ≡ true → unused_part (shape_in s) (fields_of s) ≡ 0
      → undefined_part (shape_in s) (fields_of s) ≡ 0 → told ≡ fine

abbrev pub DecodeNumbers : Type 0
DecodeNumbers = (s : List ℕ) (r : Result Token Refusal) → Decodes s r → DecodeTold s (decoded_numbers r)

-- ---- encode

-- 25 where the record is not encodable, else 23 where there is no room, and every byte is as it was; else 0, and the token stands first.
pub record EncodeTold (t : Token) (before after : List ℕ) (told : Numbers) : Type 0 where
  pub unencodable : is_encodable t ≡ false → (told ≡ five 25 0 0 0 0) × (after ≡ before)
  pub roomless : is_encodable t ≡ true → length before < 24 → (told ≡ five 23 0 0 0 0) × (after ≡ before)
  pub written : is_encodable t ≡ true → 24 ≤ length before → (told ≡ fine) × (after ≡ encoded_bytes t ++ drop 24 before)

abbrev pub EncodeNumbers : Type 0
EncodeNumbers = (t : Token) (before after : List ℕ) (r : Result ⊤ Refusal) → Encodes t before after r → EncodeTold t before after (encoded_numbers r)

-- ---- texts

-- 23 where there is no room, and every byte is as it was; else 0 and the text's length, and the text stands first.
pub record PrintTold (text before after : List ℕ) (told : Numbers) : Type 0 where
  pub roomless : length before < length text → (told ≡ five 23 0 0 0 0) × (after ≡ before)
  pub written : length text ≤ length before → (told ≡ five 0 0 0 0 (length text)) × (after ≡ text ++ drop (length text) before)

abbrev pub PrintNumbers : Type 0
PrintNumbers = (text before after : List ℕ) (r : Result ℕ Refusal) → Prints text before after r → PrintTold text before after (printed_numbers r)

-- The same of a line, but 25 comes first where the record has none. And whoever lends 128 bytes for a record that has one is given it, with
-- number 0 and a length of at most 128.
pub record LineTold (t : Token) (stage depth : ℕ) (before after : List ℕ) (told : Numbers) : Type 0 where
  pub nameless : is_nameable t stage depth ≡ false → (told ≡ five 25 0 0 0 0) × (after ≡ before)
  pub printed : is_nameable t stage depth ≡ true → PrintTold (line_of t stage depth) before after told
  pub short : is_nameable t stage depth ≡ true → 128 ≤ length before
      → (n : ℕ) × (n ≤ 128) × (told ≡ five 0 0 0 0 n) × (after ≡ line_of t stage depth ++ drop n before)

abbrev pub LineNumbers : Type 0
LineNumbers =
    (t : Token) (stage depth : ℕ) (before after : List ℕ) (r : Result ℕ Refusal) → Lists t stage depth before after r
    → LineTold t stage depth before after (printed_numbers r)

-- ---- the reader

-- 24 at the token where the reader stands, where the program has no such token; else what decode tells of the token's bytes, but a refusal
-- names this token.
pub record ReadTold (s : List ℕ) (n : ℕ) (told : Numbers) : Type 0 where
  pub ended : length s < token_start n + 24 → told ≡ five 24 n 0 0 0
  pub refused : token_start n + 24 ≤ length s → (d : Result Token Refusal) → Decodes (token_at s n) d
      → (number part : ℕ) → 1 ≤ number → decoded_numbers d ≡ five number 0 part 0 0 → told ≡ five number n part 0 0
  pub taken : token_start n + 24 ≤ length s → (d : Result Token Refusal) → Decodes (token_at s n) d → decoded_numbers d ≡ fine → told ≡ fine

abbrev pub ReadNumbers : Type 0
ReadNumbers = (s : List ℕ) (n : ℕ) (r : Result Token Refusal) → ReadsAt s n r → ReadTold s n (decoded_numbers r)

-- 2 where there are fewer than 7 bytes, else 0.
pub record OpenTold (s : List ℕ) (told : Numbers) : Type 0 where
  pub refused : length s < 7 → told ≡ five 2 0 0 0 0
  pub opened : 7 ≤ length s → told ≡ fine

abbrev pub OpenNumbers : Type 0
OpenNumbers = (lent : Bor (List ℕ)) (r : Opened) → Opens lent r → OpenTold lent.now (opening_numbers r.answer)
