-- The state that the code keeps, and what a token makes of it. Nobody has to believe these: what the check answers is stated over rules and
-- paths (Exact).
use Rattle.std.specs.Prelude.{ℕ, ◌+◌, ◌%◌, Bool, true, false, cond, ◌||◌, eqb, ltb, leb, get_or, set, replicate, Option, Some, None}
use Rattle.bytecode.specs.declared.answers.Refusal.{Refusal}
use Rattle.components.specs.computed.Written.{join_of, mark_of}
use Rattle.components.specs.declared.written.Written.{Written}
use Rattle.layout.specs.declared.opcodes.Flow.{Flow}
use Rattle.layout.specs.declared.opcodes.Flow.TheVariants.{Plain, Opener, Els, Eif}
use Rattle.layout.specs.declared.record.MaskedRegister.{MaskedRegister}
use Rattle.verifier.specs.declared.state.Branch.{Branch}
use Rattle.verifier.specs.declared.state.State.{State}

abbrev pub none_written : Written
none_written = record { low = 0; high = 0 }

abbrev pub branch : Written → ℕ → Bool → Branch
branch kept opener els_met = record { kept = kept; opener = opener; els_met = els_met }

abbrev pub no_branch : Branch
no_branch = branch none_written 0 false

abbrev pub start_state : State
start_state =
    record {
      current = none_written;
      innermost = no_branch;
      depth = 0;
      around = replicate 16 no_branch;
      fault = None;
    }

-- where the innermost of so many open branches is put when another is opened in it
abbrev pub slot_of : ℕ → ℕ
slot_of depth = (depth % 16 + 15) % 16

-- where the branch around it stands
abbrev pub slot_around : ℕ → ℕ
slot_around depth = (depth % 16 + 14) % 16

-- the branch at a place of the array
abbrev pub branch_at : State → ℕ → Branch
branch_at st i = get_or st.around i no_branch

-- 20
abbrev pub is_out_of_place : Flow → ℕ → Bool → Bool
is_out_of_place Plain depth els_met = false
is_out_of_place Opener depth els_met = leb 16 depth
is_out_of_place Els depth els_met = ltb depth 1 || els_met
is_out_of_place Eif depth els_met = ltb depth 1

abbrev pub is_misplaced : State → Flow → Bool
is_misplaced st flow = is_out_of_place flow st.depth st.innermost.els_met

-- the set at hand as a token is met, where this one was kept for the innermost branch
abbrev pub set_met : Flow → Written → Written → Written
set_met Plain current kept = current
set_met Opener current kept = current
set_met Els current kept = kept
set_met Eif current kept = join_of current kept

-- a state by what a token changes in it: the set at hand, the innermost branch and how many are open
abbrev pub changed : State → Written → Branch → ℕ → State
changed st current innermost depth = record st { current = current; innermost = innermost; depth = depth }

-- another set at hand
abbrev pub with_current : State → Written → State
with_current st w = record st { current = w }

abbrev pub with_fault : State → Refusal → State
with_fault st fault = record st { fault = Some fault }

-- els exchanges the set at hand with the kept one
abbrev pub exchanged_state : State → State
exchanged_state st = changed st st.innermost.kept (branch st.current st.innermost.opener true) st.depth

-- eif joins the two and closes the branch: the one around it is the innermost again
abbrev pub closed_state : State → Branch → State
closed_state st around = changed st (join_of st.current st.innermost.kept) around (slot_of st.depth)

abbrev pub joined_state : State → State
joined_state st = closed_state st (branch_at st (slot_around st.depth))

abbrev pub met_state : State → Flow → State
met_state st Plain = st
met_state st Opener = st
met_state st Els = exchanged_state st
met_state st Eif = joined_state st

-- an opener puts away the branch that was innermost
abbrev pub put_away_state : State → State
put_away_state st = record st { around = set st.around (slot_of st.depth) st.innermost }

-- and keeps the set at hand for the other side
abbrev pub entered_state : State → ℕ → State
entered_state st n = changed st st.current (branch st.current n false) (st.depth % 16 + 1)

abbrev pub opened_state : State → ℕ → State
opened_state st n = entered_state (put_away_state st) n

abbrev pub parted_state : State → Flow → ℕ → State
parted_state st Plain n = st
parted_state st Opener n = opened_state st n
parted_state st Els n = st
parted_state st Eif n = st

-- a set with what is written to a register, where that is a temporary one
abbrev pub written_by : Written → MaskedRegister → Written
written_by w r = mark_of w r.number (cond (eqb r.kind 2) r.mask 0)

abbrev pub wrote_state : State → Option MaskedRegister → State
wrote_state st None = st
wrote_state st (Some r) = with_current st (written_by st.current r)
