-- Document 01, "Listing": "Two spaces per depth; opener, els and eif stand at the opener's depth".
use Rattle.std.specs.Prelude.{ℕ, ◌+◌, ◌-◌}
use Rattle.layout.specs.declared.opcodes.Flow.{Flow}
use Rattle.layout.specs.declared.opcodes.Flow.TheVariants.{Plain, Opener, Els, Eif}

-- the depth at which a token stands where so many branches are open before it: els and eif belong to the innermost of them
abbrev pub shown_depth : Flow → ℕ → ℕ
shown_depth Plain opened = opened
shown_depth Opener opened = opened
shown_depth Els opened = opened - 1
shown_depth Eif opened = opened - 1

-- how many branches are open after it
abbrev pub opened_after : Flow → ℕ → ℕ
opened_after Plain opened = opened
opened_after Opener opened = opened + 1
opened_after Els opened = opened
opened_after Eif opened = opened - 1
