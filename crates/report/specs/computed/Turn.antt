-- The lines of a listing in turn, as the code goes over them.
use Rattle.std.specs.Prelude.{◌+◌, List, ◌++◌, ◌≡◌, ℕ, Option, None, Some}
use Rattle.listing.specs.Line.{line_of}
use Rattle.report.specs.Lines.{lines_from}
use Rattle.report.specs.declared.tokens.Lines.{Lines}
use Rattle.report.specs.declared.tokens.Line.{Line}

-- what is still to be written
abbrev pub text_left : Lines → List ℕ
text_left w = lines_from w.stage w.bytes.now w.token w.left w.opened

-- the next line stands first in it, or there is nothing
abbrev pub GivesLine : Lines → Option Line → Lines → Type 0
GivesLine old None new = old.left ≡ 0
GivesLine old (Some line) new = (text_left old ≡ line_of line.token line.stage line.depth ++ text_left new) × (old.left ≡ new.left + 1)
