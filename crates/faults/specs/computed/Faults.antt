-- The first fault of a token as a refusal, with number 0 where there is none: what the code answers is its outcome.
use Rattle.std.specs.Prelude.{ℕ, cond, ltb, Result, Ok, Err, ⊤}
use Rattle.std.proofs.Math.Option.{Option, none, some}
use Rattle.bytecode.specs.Decode.{refusal, no_refusal}
use Rattle.bytecode.specs.declared.answers.Refusal.{Refusal}
use Rattle.layout.specs.declared.record.Token.{Token}
use Rattle.paths.specs.Paths.{TokenFault}
use Rattle.faults.specs.Rules.{opcode_too_new, opcode_not_for_stage}
use Rattle.faults.specs.computed.Profile.{count_in}
use Rattle.faults.specs.Order.{first_fault, record_rules}
use Rattle.faults.specs.declared.profile.Profile.{Profile}

-- the number of a fault, if there is one
abbrev pub number_of : Option TokenFault → Result ⊤ ℕ
number_of none = Ok tt
number_of (some f) = Err f.number

abbrev pub refusal_at : ℕ → Option TokenFault → Refusal
refusal_at token none = no_refusal
refusal_at token (some f) = refusal f.number token f.part

-- 10 and 11
abbrev pub opcode_fault : Profile → ℕ → ℕ → Refusal
opcode_fault profile token opcode =
    cond (opcode_too_new profile.edition opcode) (refusal 10 token 0)
    (cond (opcode_not_for_stage profile.stage opcode) (refusal 11 token 0) no_refusal)

-- 14 to 19
unfoldable pub record_fault : Profile → ℕ → Token → Refusal
record_fault profile token t = refusal_at token (first_fault (record_rules (count_in profile) profile.stage t))

-- 10, 11, 14 to 19
unfoldable pub own_fault : Profile → ℕ → Token → Refusal
own_fault profile token t =
    cond (opcode_too_new profile.edition t.opcode) (refusal 10 token 0)
    (cond (opcode_not_for_stage profile.stage t.opcode) (refusal 11 token 0) (record_fault profile token t))

-- the same of a token that decode refuses
unfoldable pub undecoded_fault : Profile → ℕ → Refusal → ℕ → Refusal
undecoded_fault profile token r opcode =
    cond (ltb r.number 12) (refusal r.number token r.part)
    (cond (opcode_too_new profile.edition opcode) (refusal 10 token 0)
    (cond (opcode_not_for_stage profile.stage opcode) (refusal 11 token 0) (refusal r.number token r.part)))
