-- What the code asks of a record before it places the values at their bits: those whose places are narrower than their types fit them. Of
-- an encodable record they do.
use Rattle.std.specs.Prelude.{ℕ, ◌<◌}
use Rattle.layout.specs.declared.record.MaskedRegister.{MaskedRegister}
use Rattle.layout.specs.declared.record.Sampler.{Sampler}
use Rattle.layout.specs.declared.record.Operand.{Operand}
use Rattle.layout.specs.declared.record.Operand.TheVariants.{Unused as NoOperand, Direct, Indexed, Sampler as Sampled}

-- the values of a destination
pub record RegisterPlaced (r : MaskedRegister) : Type 0 where
  pub mask : r.mask < 16
  pub kind : r.kind < 16

-- the values of a source
pub record SourcePlaced (t i q : ℕ) : Type 0 where
  pub kind : t < 16
  pub index_kind : i < 16
  pub component : q < 4

-- the values of a sampler
pub record SamplerPlaced (s : Sampler) : Type 0 where
  pub kind : s.kind < 16
  pub dimension : s.dimension < 16
  pub special : s.special < 16
  pub wrap : s.wrap < 16
  pub mipmap : s.mipmap < 16
  pub filter : s.filter < 16

-- the values of an operand
abbrev pub OperandPlaced : Operand → Type 0
OperandPlaced NoOperand = Unit {0}
OperandPlaced (Direct s) = SourcePlaced s.kind s.index_kind s.component
OperandPlaced (Indexed s) = SourcePlaced s.kind s.index_kind s.component
OperandPlaced (Sampled s) = SamplerPlaced s
