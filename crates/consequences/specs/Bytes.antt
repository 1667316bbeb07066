-- What a caller concludes of bytes, records, registers and numbers in text.
use Rattle.std.specs.Prelude.{ℕ, ◌<◌, ◌≤◌, ◌^◌, List, ◌++◌, ◌≡◌, T, length, take, Ok}
use Rattle.std.proofs.Math.Pow.{are_bytes}
use Rattle.layout.specs.declared.record.Token.{Token}
use Rattle.bytecode.specs.Decode.{decode_of}
use Rattle.bytecode.specs.Encode.{encode_of, after_encode}
use Rattle.registers.specs.Counts.{count_of}
use Rattle.listing.specs.Decimal.{IsDecimal, decimal}
use Rattle.agal_c.specs.Flat.{flat_of}
use Rattle.agal_c.specs.ReadBack.{BiasHeld}
use Rattle.agal_c.specs.Calls.{encoded_answer, encode_answer, after_flat_encode}

-- ---- tokens and records

-- A record says all of a token: two tokens that decode to the same record are the same bytes.
abbrev pub SameBytes : Type 0
SameBytes =
    (s other : List ℕ) (t : Token) → T (are_bytes s) → T (are_bytes other) → decode_of s ≡ Ok t → decode_of other ≡ Ok t → s ≡ other

-- A token says all of a record: two records that encode to the same 24 bytes, whatever buffers they go to, are the same record.
abbrev pub SameRecord : Type 0
SameRecord =
    (t other : Token) (buffer room : List ℕ) → encode_of t buffer ≡ Ok tt → encode_of other room ≡ Ok tt
    → take 24 (after_encode t buffer) ≡ take 24 (after_encode other room) → t ≡ other

-- Whoever decodes a token can encode its record into any buffer with room, and what is written there decodes to it again.
abbrev pub CopiesDecode : Type 0
CopiesDecode =
    (s : List ℕ) (t : Token) → T (are_bytes s) → decode_of s ≡ Ok t → (buffer : List ℕ) → 24 ≤ length buffer
    → (encode_of t buffer ≡ Ok tt) × (decode_of (take 24 (after_encode t buffer)) ≡ Ok t)

-- ---- flat forms

-- the values that the types of a record leave to it: an opcode of 32 bits, biases of a signed byte
abbrev pub Held : Token → Type 0
Held t = (t.opcode < 2 ^ 32) × BiasHeld t.source1 × BiasHeld t.source2

-- A flat form says all of a record: two records with the same one are the same record, whatever stands after it.
abbrev pub SameFlat : Type 0
SameFlat = (t other : Token) (rest behind : List ℕ) → Held t → Held other → flat_of t ++ rest ≡ flat_of other ++ behind → t ≡ other

-- Encoding a record by its flat form answers and writes what encoding the record does.
abbrev pub FlatEncodes : Type 0
FlatEncodes =
    (t : Token) (rest buffer : List ℕ) → Held t
    → (encode_answer (flat_of t ++ rest) buffer ≡ encoded_answer (encode_of t buffer)) × (after_flat_encode (flat_of t ++ rest) buffer ≡ after_encode t buffer)

-- ---- registers

-- A register that an edition has, every later edition has: a program loses none when it is moved on.
abbrev pub KeepsRegisters : Type 0
KeepsRegisters =
    (kind stage number edition later : ℕ) → edition ≤ later → later ≤ 3 → number < count_of kind edition stage → number < count_of kind later stage

-- ---- numbers in text

-- A number in a listing says which number it is; and whoever writes it in decimal digits, with no needless 0 before them, writes the same.
pub record ReadsDecimal : Type 0 where
  pub number : (n m : ℕ) → decimal n ≡ decimal m → n ≡ m
  pub digits : (n : ℕ) (text other : List ℕ) → IsDecimal n text → IsDecimal n other → text ≡ other
