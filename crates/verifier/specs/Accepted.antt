-- What an accepted program holds: a header, and whole tokens that decode takes.
use Rattle.std.specs.Prelude.{ℕ, ◌+◌, ◌*◌, ◌<◌, List, ◌≡◌, length, Ok}
use Rattle.bytecode.specs.Decode.{decode_of}
use Rattle.bytecode.specs.Fields.{record_of}
use Rattle.layout.specs.Programs.{token_at}
use Rattle.verifier.specs.Verdict.{verdict}
use Rattle.verifier.specs.declared.answers.Program.{Program}

-- "Layout": a header of 7 bytes, "then tokens of 24 bytes", so many, and nothing after them; decode takes each
pub record WholeTokens (bytes : List ℕ) (count : ℕ) : Type 0 where
  pub size : length bytes ≡ 7 + count * 24
  pub decode : (n : ℕ) → n < count → decode_of (token_at bytes n) ≡ Ok (record_of (token_at bytes n))

-- every accepted program is of this form, with the token count of the answer
abbrev pub AcceptedDecodes : Type 0
AcceptedDecodes = (edition : ℕ) (bytes : List ℕ) (p : Program) → verdict edition bytes ≡ Ok p → WholeTokens bytes p.tokens
