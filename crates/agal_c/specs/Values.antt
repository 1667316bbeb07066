-- The values of a destination or a source in the flat form, and the destination or source that such values make.
use Rattle.std.specs.Prelude.{ℕ, cond, eqb, None, Option, Some}
use Rattle.layout.specs.Records.{signed}
use Rattle.bytecode.specs.Encode.{unsigned}
use Rattle.layout.specs.declared.record.MaskedRegister.{MaskedRegister}
use Rattle.layout.specs.declared.record.DirectSource.{DirectSource}
use Rattle.layout.specs.declared.record.IndexedSource.{IndexedSource}
use Rattle.layout.specs.declared.record.Sampler.{Sampler}
use Rattle.layout.specs.declared.record.Operand.{Operand}
use Rattle.layout.specs.declared.record.Operand.TheVariants.{Unused as NoOperand, Direct, Indexed, Sampler as Sampled}
use Rattle.agal_c.specs.declared.values.Values.{Values}

-- form, number and the values after it
abbrev pub values : ℕ → ℕ → ℕ → ℕ → ℕ → ℕ → ℕ → ℕ → ℕ → Values
values form number a b c d e f g =
    record { form = form; number = number; first = a; second = b; third = c; fourth = d; fifth = e; sixth = f; seventh = g }

-- ---- from a record: 0 unused, 1 a register or a direct source, 2 an indexed source, 3 a sampler

abbrev pub destination_values : Option MaskedRegister → Values
destination_values None = values 0 0 0 0 0 0 0 0 0
destination_values (Some r) = values 1 r.number r.mask r.kind 0 0 0 0 0

-- the bias is the byte that says it
abbrev pub sampler_values : Sampler → Values
sampler_values s =
    values 3 s.number (unsigned s.bias) s.kind s.dimension s.special s.wrap s.mipmap s.filter

abbrev pub operand_values : Operand → Values
operand_values NoOperand = values 0 0 0 0 0 0 0 0 0
operand_values (Direct s) =
    values 1 s.number s.offset s.swizzle s.kind s.index_kind s.component 0 0
operand_values (Indexed s) =
    values 2 s.number s.offset s.swizzle s.kind s.index_kind s.component 0 0
operand_values (Sampled s) = sampler_values s

-- ---- to a record; a value that it does not have is not looked at

abbrev pub destination_from : Values → Option MaskedRegister
destination_from v =
    cond (eqb v.form 0) None
    (Some (record { number = v.number; mask = v.first; kind = v.second }))

abbrev pub direct_from : Values → DirectSource
direct_from v =
    record {
      number = v.number;
      offset = v.first;
      swizzle = v.second;
      kind = v.third;
      index_kind = v.fourth;
      component = v.fifth;
    }

abbrev pub indexed_from : Values → IndexedSource
indexed_from v =
    record {
      number = v.number;
      offset = v.first;
      swizzle = v.second;
      kind = v.third;
      index_kind = v.fourth;
      component = v.fifth;
    }

abbrev pub sampler_from : Values → Sampler
sampler_from v =
    record {
      number = v.number;
      bias = signed v.first;
      kind = v.second;
      dimension = v.third;
      special = v.fourth;
      wrap = v.fifth;
      mipmap = v.sixth;
      filter = v.seventh;
    }

abbrev pub operand_from : Values → Operand
operand_from v =
    cond (eqb v.form 0) NoOperand
    (cond (eqb v.form 1) (Direct (direct_from v))
    (cond (eqb v.form 2) (Indexed (indexed_from v)) (Sampled (sampler_from v))))
