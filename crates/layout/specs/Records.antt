-- Document 01, "Layout": the record that a token's fields make.
use Rattle.std.specs.Prelude.{ℕ, ◌-◌, Bool, true, false, not, cond, eqb, ltb, ℤ, pos, negsuc, None, Option, Some}
use Rattle.layout.specs.Layout as layout
use Rattle.layout.specs.Layout.{value_of}
use Rattle.layout.specs.declared.opcodes.OperandShape.{OperandShape}
use Rattle.layout.specs.declared.opcodes.OperandShape.TheVariants.{Unused as NoField, Source as SourceField, Sampler as SamplerField}
use Rattle.layout.specs.declared.opcodes.Shape.{Shape}
use Rattle.layout.specs.declared.fields.Fields.{Fields}
use Rattle.layout.specs.declared.record.MaskedRegister.{MaskedRegister}
use Rattle.layout.specs.declared.record.DirectSource.{DirectSource}
use Rattle.layout.specs.declared.record.IndexedSource.{IndexedSource}
use Rattle.layout.specs.declared.record.Sampler.{Sampler}
use Rattle.layout.specs.declared.record.Operand.{Operand}
use Rattle.layout.specs.declared.record.Operand.TheVariants.{Unused as NoOperand, Direct, Indexed, Sampler as Sampled}
use Rattle.layout.specs.declared.record.Token.{Token}

-- a byte as a signed number, -128 to 127: from 128 on it is 256 less
unfoldable pub signed : ℕ → ℤ
signed b = cond (ltb b 128) (pos b) (negsuc (255 - b))

abbrev pub register_of : ℕ → MaskedRegister
register_of f =
    record {
      number = value_of layout.number f;
      mask = value_of layout.mask f;
      kind = value_of layout.masked_kind f;
    }

abbrev pub direct_of : ℕ → DirectSource
direct_of f =
    record {
      number = value_of layout.number f;
      offset = value_of layout.offset f;
      swizzle = value_of layout.swizzle f;
      kind = value_of layout.kind f;
      index_kind = value_of layout.index_kind f;
      component = value_of layout.component f;
    }

abbrev pub indexed_of : ℕ → IndexedSource
indexed_of f =
    record {
      number = value_of layout.number f;
      offset = value_of layout.offset f;
      swizzle = value_of layout.swizzle f;
      kind = value_of layout.kind f;
      index_kind = value_of layout.index_kind f;
      component = value_of layout.component f;
    }

-- an indirect source's values, which are those that a direct one has
abbrev pub as_direct : IndexedSource → DirectSource
as_direct s =
    record {
      number = s.number;
      offset = s.offset;
      swizzle = s.swizzle;
      kind = s.kind;
      index_kind = s.index_kind;
      component = s.component;
    }

-- D = 0 is direct, D = 1 indirect
abbrev pub is_indexed : ℕ → Bool
is_indexed f = not (eqb (value_of layout.indirect f) 0)

abbrev pub source_of : ℕ → Operand
source_of f = cond (eqb (value_of layout.indirect f) 0) (Direct (direct_of f)) (Indexed (indexed_of f))

abbrev pub sampler_of : ℕ → Sampler
sampler_of f =
    record {
      number = value_of layout.number f;
      bias = signed (value_of layout.bias f);
      kind = value_of layout.kind f;
      dimension = value_of layout.dimension f;
      special = value_of layout.special f;
      wrap = value_of layout.wrap f;
      mipmap = value_of layout.mipmap f;
      filter = value_of layout.filter f;
    }

abbrev pub destination_of : Bool → ℕ → Option MaskedRegister
destination_of true f = Some (register_of f)
destination_of false f = None

abbrev pub operand_of : OperandShape → ℕ → Operand
operand_of NoField f = NoOperand
operand_of SourceField f = source_of f
operand_of SamplerField f = Sampled (sampler_of f)

-- the record that fields of some shape make
unfoldable pub token_of : Shape → Fields → Token
token_of shape f =
    record {
      opcode = f.opcode;
      destination = destination_of shape.destination f.destination;
      source1 = operand_of shape.source1 f.source1;
      source2 = operand_of shape.source2 f.source2;
    }
