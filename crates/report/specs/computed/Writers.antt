-- What the functions of this crate promise each other. No public promise says anything by these names.
use Rattle.std.specs.Prelude.{ℕ, ◌+◌, ◌≤◌, ◌<◌, Bool, true, false, List, [], ◌++◌, ◌≡◌, length}
use Rattle.listing.specs.First.{first_line}
use Rattle.listing.specs.computed.Writers.{Appends}
use Rattle.listing.specs.declared.first.FirstLine.{FirstLine}
use Rattle.listing.specs.declared.first.FirstLine.TheVariants.{Accepted, Refused, NoEdition, InputTooLong}
use Rattle.layout.specs.Programs.{token_count}
use Rattle.report.specs.Lines.{lines_from, Listable}

-- a line for each token
abbrev pub all_lines : ℕ → List ℕ → List ℕ
all_lines stage bytes = lines_from stage bytes 0 (token_count bytes) 0

-- what is known of a program's bytes where every token has a line; 49,159 bytes hold no more of them
pub record Listed (stage : ℕ) (bytes : List ℕ) : Type 0 where
  pub header : 7 ≤ length bytes
  pub few : token_count bytes ≤ 2048
  pub lines : Listable stage bytes 0 (token_count bytes) 0

-- the lines after the first one
abbrev pub lines_after : FirstLine → List ℕ → List ℕ
lines_after (Accepted h) bytes = all_lines h.stage bytes
lines_after (Refused f) bytes = []
lines_after NoEdition bytes = []
lines_after InputTooLong bytes = []

-- what is known of the bytes for them
abbrev pub HasLines : FirstLine → List ℕ → Type 0
HasLines (Accepted h) bytes = Listed h.stage bytes
HasLines (Refused f) bytes = Unit {0}
HasLines NoEdition bytes = Unit {0}
HasLines InputTooLong bytes = Unit {0}

-- a first line, and the token lines of a program's bytes where that is accepted
abbrev pub text_in : FirstLine → List ℕ → List ℕ
text_in first bytes = first_line first ++ lines_after first bytes

-- In a buffer of so many bytes there is room from a place on: for as much as such a text can have, or for just this one.
pub data HasRoom (text : List ℕ) (most at size : ℕ) : Type 0 where
  for_any : at + most ≤ size → HasRoom text most at size
  for_this : at + length text ≤ size → HasRoom text most at size

-- A text was put there, and r is the place after its last byte.
pub record Puts (text : List ℕ) (most at : ℕ) (before after : List ℕ) (r : ℕ) : Type 0 where
  pub appends : Appends text most at before after r
  pub ends : r ≡ at + length text

-- r is a text's length, as much as such a text can have or less
pub record Measured (text : List ℕ) (most r : ℕ) : Type 0 where
  pub is : r ≡ length text
  pub short : r ≤ most

-- whether so many bytes are room for a whole text
abbrev pub Fits : List ℕ → ℕ → Bool → Type 0
Fits text size true = HasRoom text 262178 0 size
Fits text size false = (size < length text) × (length text ≤ 262178)
