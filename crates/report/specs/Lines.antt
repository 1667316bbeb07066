-- Document 01, "Listing": the token lines that `agallist` prints.
use Rattle.std.specs.Prelude.{ℕ, zero, suc, ◌+◌, true, List, [], ◌++◌, ◌≡◌, Ok}
use Rattle.bytecode.specs.Decode.{decode_of}
use Rattle.layout.specs.Opcodes.{flow_of}
use Rattle.layout.specs.declared.opcodes.Flow.{Flow}
use Rattle.layout.specs.declared.record.Token.{Token}
use Rattle.listing.specs.Line.{line_of, is_nameable}
use Rattle.bytecode.specs.Fields.{record_of}
use Rattle.layout.specs.Programs.{token_at}
use Rattle.report.specs.Depth.{shown_depth, opened_after}

-- what a token does to branches
abbrev pub flow_in : Token → Flow
flow_in t = flow_of t.opcode

-- "the token lines": so many, from token n on, where so many branches are open before it
abbrev pub lines_from : ℕ → List ℕ → ℕ → ℕ → ℕ → List ℕ
lines_from stage bytes n zero opened = []
lines_from stage bytes n (suc left) opened =
    line_of (record_of (token_at bytes n)) stage (shown_depth (flow_in (record_of (token_at bytes n))) opened)
    ++ lines_from stage bytes (n + 1) left (opened_after (flow_in (record_of (token_at bytes n))) opened)

-- No line is refused: decode takes each of so many tokens from token n on, and its record has a line in this stage at its depth, which is
-- at most 16 (is_nameable).
abbrev pub Listable : ℕ → List ℕ → ℕ → ℕ → ℕ → Type 0
Listable stage bytes n zero opened = Unit {0}
Listable stage bytes n (suc left) opened =
    (decode_of (token_at bytes n) ≡ Ok (record_of (token_at bytes n)))
    × (is_nameable (record_of (token_at bytes n)) stage (shown_depth (flow_in (record_of (token_at bytes n))) opened) ≡ true)
    × Listable stage bytes (n + 1) left (opened_after (flow_in (record_of (token_at bytes n))) opened)
