-- How the code delivers a token: its answer as one number, and the values that it takes from a source's field.
use Rattle.std.specs.Prelude.{ℕ, ◌+◌, ◌*◌, ◌/◌, ◌%◌, cond, List, eqb, ltb, length, Err, Ok, Result}
use Rattle.layout.specs.Records.{direct_of}
use Rattle.bytecode.specs.Decode.{refusal}
use Rattle.bytecode.specs.declared.answers.Refusal.{Refusal}
use Rattle.layout.specs.declared.record.Token.{Token}
use Rattle.agal_c.specs.Answers.{answered, refused}
use Rattle.agal_c.specs.Values.{values}
use Rattle.agal_c.specs.declared.answers.Answer.{Answer}
use Rattle.agal_c.specs.declared.values.Values.{Values}

-- an answer to a delivery as one number: 0, or the fault's number plus 256 times its part
abbrev pub delivery_code : Result Token Refusal → List ℕ → ℕ
delivery_code (Ok t) buffer = cond (ltb (length buffer) 29) 23 0
delivery_code (Err r) buffer = r.number + 256 * r.part

-- the answer that such a number stands for, at a place and with the next one
abbrev pub code_answer : ℕ → ℕ → ℕ → Answer
code_answer code place next =
    cond (eqb code 0) (answered 0 next) (refused (refusal (code % 256) place (code / 256 % 256)) place)

-- a form, and the values of a source's field: a direct and an indexed source have the same rows
abbrev pub source_values : ℕ → ℕ → Values
source_values form field =
    let s = direct_of field in
    values form s.number s.offset s.swizzle s.kind s.index_kind s.component 0 0
