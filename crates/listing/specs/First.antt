-- Document 01, "Listing": the first line that `agallist` prints, or the only one. "Each line ends in LF."
use Rattle.std.specs.Prelude.{ℕ, cond, List, ◌++◌, eqb}
use Prim.Native.String.{String}
use Rattle.bytecode.specs.declared.answers.Refusal.{Refusal}
use Rattle.listing.specs.Text.{ascii}
use Rattle.listing.specs.Decimal.{decimal}
use Rattle.listing.specs.declared.first.Heading.{Heading}
use Rattle.listing.specs.declared.first.FirstLine.{FirstLine}
use Rattle.listing.specs.declared.first.FirstLine.TheVariants.{Accepted, Refused, NoEdition, InputTooLong}

-- a word and a number after it
abbrev pub numbered : String → ℕ → List ℕ
numbered word n = ascii word ++ decimal n

-- "stage as `vertex` or `fragment`"
abbrev pub stage_name : ℕ → List ℕ
stage_name stage = cond (eqb stage 0) (ascii "vertex") (ascii "fragment")

-- "a first line (edition, stage .., token count)": `agal 1 vertex 2`
unfoldable pub heading_line : Heading → List ℕ
heading_line h = numbered "agal " h.edition ++ ascii " " ++ stage_name h.stage ++ numbered " " h.tokens ++ ascii "\n"

-- "a refusal, as `refused 14 at 0 part 1`"
unfoldable pub refusal_line : Refusal → List ℕ
refusal_line r = numbered "refused " r.number ++ numbered " at " r.token ++ numbered " part " r.part ++ ascii "\n"

-- "or one line: `input too long` ..; `no edition` ..; else a refusal"
abbrev pub first_line : FirstLine → List ℕ
first_line (Accepted h) = heading_line h
first_line (Refused r) = refusal_line r
first_line NoEdition = ascii "no edition\n"
first_line InputTooLong = ascii "input too long\n"
