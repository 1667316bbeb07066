-- What whoever asks for the listing of a program concludes, of whose text nothing is known but the promise of report.
use Rattle.std.specs.Prelude.{ℕ, zero, suc, ◌<◌, ◌≤◌, List, ◌++◌, ◌≡◌, length, drop, get_or, Ok, Result}
use Rattle.layout.specs.Programs.{token_at}
use Rattle.bytecode.specs.Fields.{record_of}
use Rattle.bytecode.specs.Decode.{decode_of}
use Rattle.bytecode.specs.declared.answers.Refusal.{Refusal}
use Rattle.verifier.specs.declared.answers.Program.{Program}
use Rattle.listing.specs.Line.{line_of, Lists}
use Rattle.listing.specs.Printing.{printed_numbers}
use Rattle.verifier.specs.Exact.{Checks}
use Rattle.verifier.specs.Verdict.{program}
use Rattle.report.specs.Depth.{shown_depth, opened_after}
use Rattle.report.specs.Lines.{flow_in}
use Rattle.report.specs.Text.{edition_of, text_of}
use Rattle.report.specs.Report.{Reports}
use Rattle.consequences.specs.Numbers.{five}

-- a text is given: number 0 and the text's length, and the text stands first
abbrev pub IsGiven : List ℕ → List ℕ → List ℕ → Result ℕ Refusal → Type 0
IsGiven text before after r = (printed_numbers r ≡ five 0 0 0 0 (length text)) × (after ≡ text ++ drop (length text) before)

-- Whoever lends 262,178 bytes is given the text, whatever the input: never 23.
abbrev pub TextFits : Type 0
TextFits =
    (input before after : List ℕ) (r : Result ℕ Refusal) → Reports input before after r → 262178 ≤ length before → IsGiven (text_of input) before after r

-- how many branches are open before token n, and the depth at which it stands
abbrev pub open_before : List ℕ → ℕ → ℕ
open_before bytes zero = 0
open_before bytes (suc n) = opened_after (flow_in (record_of (token_at bytes n))) (open_before bytes n)

abbrev pub depth_of : List ℕ → ℕ → ℕ
depth_of bytes n = shown_depth (flow_in (record_of (token_at bytes n))) (open_before bytes n)

-- Decode takes token n; it stands at most sixteen deep; and whoever asks for its line there, and lends 128 bytes, is given it.
pub record HasLine (bytes : List ℕ) (stage n : ℕ) : Type 0 where
  pub decodes : decode_of (token_at bytes n) ≡ Ok (record_of (token_at bytes n))
  pub shallow : depth_of bytes n ≤ 16
  pub line : (before after : List ℕ) (r : Result ℕ Refusal) → Lists (record_of (token_at bytes n)) stage (depth_of bytes n) before after r
      → 128 ≤ length before → IsGiven (line_of (record_of (token_at bytes n)) stage (depth_of bytes n)) before after r

-- So it is with every token of a program that check accepts.
abbrev pub AcceptedListed : Type 0
AcceptedListed =
    (input before after : List ℕ) (r : Result ℕ Refusal) → Reports input before after r
    → (c : Result Program Refusal) (stage count : ℕ) → Checks (edition_of (get_or input 0 0)) (drop 1 input) c → c ≡ Ok (program stage count)
    → (n : ℕ) → n < count → HasLine (drop 1 input) stage n
