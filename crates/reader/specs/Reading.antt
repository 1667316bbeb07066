-- Document 01, "Token reader": what opening and each read answer, and where they leave the reader.
use Rattle.std.specs.Prelude.{ℕ, ◌+◌, cond, List, ◌≡◌, ltb, length, Err, Ok, Result, ⊤}
use Rattle.std.specs.Borrow.{Bor}
use Rattle.bytecode.specs.Decode.{refusal, no_refusal, outcome, decode_fault, decode_of}
use Rattle.bytecode.specs.Numbers.{Numbers, accepted_numbers, refusal_numbers, found_numbers, decoded_numbers}
use Rattle.bytecode.specs.declared.answers.Refusal.{Refusal}
use Rattle.layout.specs.declared.record.Token.{Token}
use Rattle.layout.specs.Programs.{token_at, no_token_left}
use Rattle.reader.specs.declared.answers.TokenReader.{TokenReader}
use Rattle.reader.specs.declared.answers.Opened.{Opened}
use Rattle.reader.specs.declared.answers.Read.{Read}

-- "Opening needs 7 bytes (else 2, and its reads answer 24)": the fault; what its reads answer is RefusedOpening in Sequence
unfoldable pub opening_fault : List ℕ → Refusal
opening_fault s = cond (ltb (length s) 7) (refusal 2 0 0) no_refusal

-- the paper's numbers of what opening answers
abbrev pub opening_numbers : Result ⊤ Refusal → Numbers
opening_numbers (Ok tt) = accepted_numbers 0 0
opening_numbers (Err r) = refusal_numbers r

-- what opening answers
unfoldable pub opening_of : List ℕ → Result ⊤ Refusal
opening_of s = outcome (opening_fault s)

-- "Outside the check a refusal's token is 0, for the reader the token it stands at"
abbrev pub fault_at : ℕ → Refusal → Refusal
fault_at n r = refusal r.number n r.part

abbrev pub stands_at : ℕ → Result Token Refusal → Result Token Refusal
stands_at n (Ok t) = Ok t
stands_at n (Err r) = Err (fault_at n r)

-- "Each read decodes the next 24 bytes", "Fewer than 24 left answers 24": what a read answers after n tokens read; token_at has the bytes of
-- token n
unfoldable pub read_of : List ℕ → ℕ → Result Token Refusal
read_of s n = cond (no_token_left s n) (Err (refusal 24 n 0)) (stands_at n (decode_of (token_at s n)))

-- the fault that it names; its number is 0 where nothing is refused
unfoldable pub read_fault : List ℕ → ℕ → Refusal
read_fault s n = cond (no_token_left s n) (refusal 24 n 0) (fault_at n (decode_fault (token_at s n)))

-- "and moves on"; "any refusal leaves the place unmoved"
abbrev pub place_from : ℕ → Result Token Refusal → ℕ
place_from n (Ok t) = n + 1
place_from n (Err r) = n

-- the number of tokens read, after a read that began with n of them read
unfoldable pub place_after : List ℕ → ℕ → ℕ
place_after s n = place_from n (read_of s n)

-- the promise of read_at: the answer after n tokens read, and its numbers
pub record ReadsAt (s : List ℕ) (n : ℕ) (r : Result Token Refusal) : Type 0 where
  pub answer : r ≡ read_of s n
  pub numbers : decoded_numbers r ≡ found_numbers (read_fault s n) 0 0

-- the promise of open: its answer and the answer's numbers; the reader holds the very slice lent and stands at token 0, on a refusal too
pub record Opens (lent : Bor (List ℕ)) (r : Opened) : Type 0 where
  pub answer : r.answer ≡ opening_of lent.now
  pub numbers : opening_numbers r.answer ≡ found_numbers (opening_fault lent.now) 0 0
  pub program : r.reader.program ≡ lent
  pub place : r.reader.place ≡ 0

-- the promise of read: its answer and the answer's numbers; the next reader holds the very same slice, and its place is given
pub record Reads (reader : TokenReader) (r : Read) : Type 0 where
  pub reads : ReadsAt reader.program.now reader.place r.answer
  pub program : r.reader.program ≡ reader.program
  pub place : r.reader.place ≡ place_after reader.program.now reader.place
