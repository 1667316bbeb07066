-- Document 01, "Listing": the whole text that `agallist` prints, from the bytes that it reads.
use Rattle.std.specs.Prelude.{ℕ, ◌-◌, Bool, cond, ◌&&◌, List, ◌++◌, ltb, leb, eqb, length, get_or, drop, Err, Ok, Result}
use Prim.Native.Char.{code}
use Rattle.bytecode.specs.Decode.{refusal}
use Rattle.listing.specs.First.{heading_line, refusal_line, first_line}
use Rattle.listing.specs.declared.first.FirstLine.TheVariants.{NoEdition, InputTooLong}
use Rattle.verifier.specs.Verdict.{verdict}
use Rattle.verifier.specs.declared.answers.Program.{Program}
use Rattle.bytecode.specs.declared.answers.Refusal.{Refusal}
use Rattle.report.specs.Lines.{lines_from}

-- "It prints a first line .. and the token lines; or one line: .. a refusal"
abbrev pub answer_text : ℕ → List ℕ → Result Program Refusal → List ℕ
answer_text edition bytes (Ok p) =
    heading_line (record { edition = edition; stage = p.stage; tokens = p.tokens }) ++ lines_from p.stage bytes 0 p.tokens 0
answer_text edition bytes (Err r) = refusal_line r

-- "the digits 1, 2, 3"
abbrev pub is_edition : ℕ → Bool
is_edition byte = leb (code "1") byte && leb byte (code "3")

-- the edition that a digit names
abbrev pub edition_of : ℕ → ℕ
edition_of byte = byte - code "0"

-- "reads an edition digit and then the program's bytes, at most 49,160 bytes in all": "`input too long`, tested first; `no edition` on empty
-- input; else a refusal". "A first byte other than the digits 1, 2, 3 is refusal 1. Each line ends in LF."
unfoldable pub text_of : List ℕ → List ℕ
text_of input =
    cond (ltb 49160 (length input)) (first_line InputTooLong)
    (cond (eqb (length input) 0) (first_line NoEdition)
    (cond (is_edition (get_or input 0 0))
    (answer_text (edition_of (get_or input 0 0)) (drop 1 input) (verdict (edition_of (get_or input 0 0)) (drop 1 input)))
    (refusal_line (refusal 1 0 0))))
