-- What whoever opens a program and reads on concludes, of whose answers nothing is known but the promises of open and read.
use Rattle.std.specs.Prelude.{ℕ, suc, ◌+◌, ◌<◌, ◌≤◌, List, ◌++◌, ◌↔◌, ◌≡◌, T, length, drop, Err, Ok, Result}
use Rattle.std.proofs.Math.Pow.{are_bytes}
use Rattle.std.specs.Borrow.{Bor}
use Rattle.layout.specs.Programs.{token_at}
use Rattle.layout.specs.declared.record.Token.{Token}
use Rattle.bytecode.specs.Decode.{refusal}
use Rattle.bytecode.specs.Encode.{after_encode}
use Rattle.bytecode.specs.declared.answers.Refusal.{Refusal}
use Rattle.verifier.specs.declared.answers.Program.{Program}
use Rattle.verifier.specs.Verdict.{program}
use Rattle.verifier.specs.Exact.{Checks}
use Rattle.reader.specs.Sequence.{Run}
use Rattle.reader.specs.declared.answers.Opened.{Opened}
use Rattle.reader.specs.declared.answers.Read.{Read}

-- Of a program that check accepts, with this token count:
-- The opening is not refused. Whoever counts the reads that give a token gets check's token count. Encoding what read i gives yields the
-- bytes of token i, and the reader then stands at the next token. Whatever is refused is refused by 24, at the token count, and the reader
-- stands there.
pub record ReadWhole (bytes : List ℕ) (count : ℕ) (opened : Opened) (reads : ℕ → Read) : Type 0 where
  pub ready : opened.answer ≡ Ok tt
  pub counted : (i : ℕ) → (i < count) ↔ ((t : Token) × ((reads i).answer ≡ Ok t))
  pub encoded : (i : ℕ) (t : Token) → (reads i).answer ≡ Ok t → T (are_bytes (token_at bytes i)) → (buffer : List ℕ) → 24 ≤ length buffer
      → after_encode t buffer ≡ token_at bytes i ++ drop 24 buffer
  pub next : (i : ℕ) → i < count → (reads i).reader.place ≡ suc i
  pub refused : (i : ℕ) (f : Refusal) → (reads i).answer ≡ Err f → (f ≡ refusal 24 count 0) × ((reads i).reader.place ≡ count)

abbrev pub AcceptedReadWhole : Type 0
AcceptedReadWhole =
    (edition : ℕ) (lent : Bor (List ℕ)) (r : Result Program Refusal) (stage count : ℕ) (opened : Opened) (reads : ℕ → Read)
    → Checks edition lent.now r → r ≡ Ok (program stage count) → Run lent opened reads → ReadWhole lent.now count opened reads

-- Of any bytes: a read that is refused is refused alike for ever, and the reader stays at the token that the refusal names.
abbrev pub RefusedForEver : Type 0
RefusedForEver =
    (lent : Bor (List ℕ)) (opened : Opened) (reads : ℕ → Read) → Run lent opened reads
    → (i : ℕ) (f : Refusal) → (reads i).answer ≡ Err f → (j : ℕ)
    → ((reads (i + j)).answer ≡ Err f) × ((reads (i + j)).reader.place ≡ f.token)

-- Of fewer than 7 bytes: the opening is refused by 2, and every read by 24 at token 0, where the reader stays.
abbrev pub ShortRefused : Type 0
ShortRefused =
    (lent : Bor (List ℕ)) (opened : Opened) (reads : ℕ → Read) → Run lent opened reads → length lent.now < 7
    → (opened.answer ≡ Err (refusal 2 0 0)) × ((i : ℕ) → ((reads i).answer ≡ Err (refusal 24 0 0)) × ((reads i).reader.place ≡ 0))
