-- One token of the check, on the state that the code keeps.
use Rattle.std.specs.Prelude.{ℕ, cond, ⊤, Option, Some, None, Result, Ok, Err}
use Rattle.bytecode.specs.Decode.{refusal, outcome, token_fault}
use Rattle.bytecode.specs.computed.CleanFields.{is_clean}
use Rattle.bytecode.specs.declared.answers.Refusal.{Refusal}
use Rattle.layout.specs.Opcodes.{shape_of, flow_of}
use Rattle.layout.specs.Records.{token_of}
use Rattle.layout.specs.declared.fields.Fields.{Fields}
use Rattle.layout.specs.declared.fields.RawToken.{RawToken}
use Rattle.layout.specs.declared.opcodes.Flow.{Flow}
use Rattle.layout.specs.declared.record.Token.{Token}
use Rattle.components.specs.computed.Access.{lacks_access, access1_of, access2_of}
use Rattle.components.specs.declared.written.Written.{Written}
use Rattle.faults.specs.computed.Faults.{own_fault, undecoded_fault}
use Rattle.faults.specs.declared.profile.Profile.{Profile}
use Rattle.verifier.specs.computed.State.{is_out_of_place, set_met, met_state, wrote_state, parted_state, with_fault}
use Rattle.verifier.specs.declared.state.Branch.{Branch}
use Rattle.verifier.specs.declared.state.State.{State}

-- the state after a token without a fault
abbrev pub next_of : State → ℕ → Token → State
next_of st token t = parted_state (wrote_state (met_state st (flow_of t.opcode)) t.destination) (flow_of t.opcode) token

-- 20, 21 through source 1, 21 through source 2, by what they ask of a state
unfoldable pub fault_of_paths : Flow → ℕ → Branch → Written → ℕ → Token → Result ⊤ Refusal
fault_of_paths flow depth innermost current token t =
    cond (is_out_of_place flow depth innermost.els_met) (Err (refusal 20 token 0))
    (cond (lacks_access (set_met flow current innermost.kept) (access1_of t)) (Err (refusal 21 token 2))
    (cond (lacks_access (set_met flow current innermost.kept) (access2_of t)) (Err (refusal 21 token 3))
    (Ok tt)))

abbrev pub paths_fault : State → ℕ → Token → Result ⊤ Refusal
paths_fault st token t = fault_of_paths (flow_of t.opcode) st.depth st.innermost st.current token t

-- the first fault of two tests
abbrev pub first_of : Result ⊤ Refusal → Result ⊤ Refusal → Result ⊤ Refusal
first_of (Err fault) later = Err fault
first_of (Ok _) later = later

-- the state with the fault that was found, if one was, or else what follows
abbrev pub unless_found : Result ⊤ Refusal → State → State → State
unless_found (Err fault) st next = with_fault st fault
unless_found (Ok _) st next = next

-- such a fault, else the next state
unfoldable pub follow_of : State → ℕ → Token → State
follow_of st token t = unless_found (paths_fault st token t) st (next_of st token t)

-- the fields of a token, with the shape of its opcode
abbrev pub raw_of : Fields → RawToken
raw_of f = record { shape = shape_of f.opcode; fields = f }

-- the record that they make
abbrev pub made_of : RawToken → Token
made_of raw = token_of raw.shape raw.fields

-- 9 to 19: those of a record that decode takes, or the fault of fields that it refuses
unfoldable pub fault_of_fields : Profile → ℕ → RawToken → Result ⊤ Refusal
fault_of_fields profile token raw =
    cond (is_clean raw.shape raw.fields)
    (outcome (own_fault profile token (made_of raw)))
    (Err (undecoded_fault profile token (token_fault raw.shape raw.fields) raw.fields.opcode))

-- a state that has a fault keeps it
abbrev pub unless_refused : Option Refusal → State → State → State
unless_refused (Some fault) st next = st
unless_refused None st next = next

-- and a fault of the fields comes before what follows
unfoldable pub step_of : State → Profile → ℕ → Fields → State
step_of st profile token f =
    unless_refused st.fault st
    (unless_found (fault_of_fields profile token (raw_of f)) st
    (follow_of st token (made_of (raw_of f))))
