-- The whole check on the state that the code keeps: a look at the first opcode, a step for each token, and what the last state answers.
use Rattle.std.specs.Prelude.{ℕ, zero, suc, ◌+◌, Bool, not, cond, ◌&&◌, List, eqb, leb, length, Option, Some, None, Result, Ok, Err}
use Rattle.bytecode.specs.Decode.{refusal}
use Rattle.bytecode.specs.declared.answers.Refusal.{Refusal}
use Rattle.bytecode.specs.Fields.{fields_of}
use Rattle.layout.specs.Opcodes.{shape_of}
use Rattle.layout.specs.Programs.{token_at, stage_of, token_count}
use Rattle.faults.specs.computed.Profile.{profile_of}
use Rattle.faults.specs.declared.profile.Profile.{Profile}
use Rattle.verifier.specs.computed.State.{start_state}
use Rattle.verifier.specs.computed.Step.{step_of}
use Rattle.verifier.specs.Verdict.{program}
use Rattle.verifier.specs.declared.answers.Program.{Program}
use Rattle.verifier.specs.declared.state.State.{State}

-- there is a first token, and its opcode is not listed
unfoldable pub opens_unlisted : List ℕ → Bool
opens_unlisted bytes = leb 31 (length bytes) && not (shape_of (fields_of (token_at bytes 0)).opcode).listed

-- "its state takes a token and hands the next state back": the state after so many tokens, from token n on
unfoldable pub steps_over : Profile → List ℕ → State → ℕ → ℕ → State
steps_over profile bytes st n zero = st
steps_over profile bytes st n (suc left) = steps_over profile bytes (step_of st profile n (fields_of (token_at bytes n))) (n + 1) left

-- a fault, if one was met, or else the answer at the end
abbrev pub unless_met : Option Refusal → Result Program Refusal → Result Program Refusal
unless_met (Some fault) end = Err fault
unless_met None end = end

-- a fault that was met; or 22, at the opener of the innermost branch; or none
unfoldable pub finish_of : State → ℕ → ℕ → Result Program Refusal
finish_of st stage tokens =
    unless_met st.fault
    (cond (eqb st.depth 0) (Ok (program stage tokens)) (Err (refusal 22 st.innermost.opener 0)))

-- the answer of all tokens of a program that has a header
unfoldable pub judged_by : ℕ → List ℕ → Result Program Refusal
judged_by edition bytes =
    finish_of (steps_over (profile_of edition (stage_of bytes)) bytes start_state 0 (token_count bytes)) (stage_of bytes) (token_count bytes)
