-- Document 01, "Token reader": "service scripts read token after token".
use Rattle.std.specs.Prelude.{ℕ, zero, suc, ◌+◌, ◌<◌, ◌≤◌, List, ◌≡◌, length, Err, Ok}
use Rattle.std.specs.Borrow.{Bor}
use Rattle.bytecode.specs.Decode.{refusal, decode_of}
use Rattle.layout.specs.declared.record.Token.{Token}
use Rattle.bytecode.specs.declared.answers.Refusal.{Refusal}
use Rattle.bytecode.specs.Fields.{record_of}
use Rattle.layout.specs.Programs.{token_at, token_start}
use Rattle.verifier.specs.Verdict.{program, verdict}
use Rattle.reader.specs.Reading.{opening_of, read_of, place_after, Opens, Reads}
use Rattle.reader.specs.declared.answers.Opened.{Opened}
use Rattle.reader.specs.declared.answers.Read.{Read}

-- ---- any program

-- the place after some reads, from a place
abbrev pub place_after_reads : List ℕ → ℕ → ℕ → ℕ
place_after_reads s n zero = n
place_after_reads s n (suc reads) = place_after s (place_after_reads s n reads)

-- the place after some reads of a program that was opened: `open` stands at token 0
abbrev pub place_opened : List ℕ → ℕ → ℕ
place_opened s reads = place_after_reads s 0 reads

-- the first k tokens of a program all decode, to these records, and no whole token comes after them
pub record HoldsTokens (s : List ℕ) (k : ℕ) (token : ℕ → Token) : Type 0 where
  pub decode : (i : ℕ) → i < k → decode_of (token_at s i) ≡ Ok (token i)
  pub end : length s < token_start k + 24

-- Reading gives a program's tokens, each once and in order; and then 24 for ever, with the number of tokens read.
pub record ReadsInOrder (s : List ℕ) (k : ℕ) (token : ℕ → Token) : Type 0 where
  pub place : (i : ℕ) → i ≤ k → place_opened s i ≡ i
  pub answer : (i : ℕ) → i < k → read_of s (place_opened s i) ≡ Ok (token i)
  pub last_place : (j : ℕ) → place_opened s (k + j) ≡ k
  pub last_answer : (j : ℕ) → read_of s (place_opened s (k + j)) ≡ Err (refusal 24 k 0)

-- "any refusal leaves the place unmoved": what is refused once keeps the reader where it is, and is refused alike for ever.
pub record StaysRefused (s : List ℕ) (n : ℕ) (r : Refusal) : Type 0 where
  pub place : (reads : ℕ) → place_after_reads s n reads ≡ n
  pub answer : (reads : ℕ) → read_of s (place_after_reads s n reads) ≡ Err r

-- "Opening needs 7 bytes (else 2, and its reads answer 24)": with fewer, opening answers 2, and every read 24 at token 0
abbrev pub RefusedOpening : List ℕ → Type 0
RefusedOpening s = length s < 7 → (opening_of s ≡ Err (refusal 2 0 0)) × StaysRefused s 0 (refusal 24 0 0)

-- ---- an accepted program

-- What a caller is answered who opens a program and hands the reader of each answer to the next read. That open and read promise this is
-- all that is known of the answers.
pub record Run (lent : Bor (List ℕ)) (opened : Opened) (reads : ℕ → Read) : Type 0 where
  pub opens : Opens lent opened
  pub first : Reads opened.reader (reads 0)
  pub next : (i : ℕ) → Reads (reads i).reader (reads (suc i))

-- the opening is not refused; read i gives the record of token i, which is what its bytes decode to; and after so many tokens every read
-- answers 24, at that number
pub record GivesTokens (bytes : List ℕ) (count : ℕ) (opened : Opened) (reads : ℕ → Read) : Type 0 where
  pub ready : opened.answer ≡ Ok tt
  pub decodes : (i : ℕ) → i < count → decode_of (token_at bytes i) ≡ Ok (record_of (token_at bytes i))
  pub token : (i : ℕ) → i < count → (reads i).answer ≡ Ok (record_of (token_at bytes i))
  pub ended : (j : ℕ) → (reads (count + j)).answer ≡ Err (refusal 24 count 0)

-- Reading an accepted program from its opening gives exactly its tokens, in order, and then 24 for ever.
abbrev pub ReadsAccepted : Type 0
ReadsAccepted =
    (edition : ℕ) (lent : Bor (List ℕ)) (opened : Opened) (reads : ℕ → Read) → Run lent opened reads
    → (stage count : ℕ) → verdict edition lent.now ≡ Ok (program stage count) → GivesTokens lent.now count opened reads
