-- What an encodable record is packed to.
-- Assumes nothing.
use Rattle.std.specs.Prelude.{IfSome, None, Option, Some}
use Prim.Native.Nat.{◌^◌, ◌<◌}
use mathlib.Core.Bool.{Bool, true, false, ◌&&◌, false≢true}
use mathlib.Core.Path.{◌≡◌, refl, ap}
use lib.Dec.{lit<}
use Rattle.layout.specs.Opcodes.{shape_of}
use Rattle.layout.specs.Layout.{destination_bits, operand_bits, is_stray}
use Rattle.layout.specs.Records.{destination_of, operand_of}
use Rattle.bytecode.specs.Encode.{destination_fits, destination_field, operand_fits, operand_field, is_encodable}
use Rattle.bytecode.specs.computed.Placed.{RegisterPlaced, OperandPlaced}
use Rattle.layout.specs.declared.opcodes.OperandShape.{OperandShape}
use Rattle.layout.specs.declared.opcodes.OperandShape.TheVariants.{Unused as NoField, Source as SourceField, Sampler as SamplerField}
use Rattle.layout.specs.declared.record.MaskedRegister.{MaskedRegister}
use Rattle.layout.specs.declared.record.Operand.{Operand}
use Rattle.layout.specs.declared.record.Operand.TheVariants.{Unused as NoOperand, Direct, Indexed, Sampler as Sampled}
use Rattle.layout.specs.declared.record.Token.{Token}
use Rattle.laws.proofs.Every.{left, right}
use Rattle.bytecode.proofs.RegisterAgain.{register_of_lem, register_clean, register_placed, register_small}
use Rattle.bytecode.proofs.SourceAgain.{direct_of_lem, indexed_of_lem, source_clean, source_placed, source_small}
use Rattle.bytecode.proofs.SamplerAgain.{sampler_of_lem, sampler_clean, sampler_placed, sampler_small}

-- a packed operand has no stray bit, makes the operand again and has no more bits than its field; its values fit their places
pub record DestinationPacked (used : Bool) (r : Option MaskedRegister) : Type 0 where
  pub clean : is_stray (destination_bits used) (destination_field r) ≡ false
  pub again : destination_of used (destination_field r) ≡ r
  pub small : destination_field r < 2 ^ 32
  pub placed : IfSome r RegisterPlaced

pub record OperandPacked (shape : OperandShape) (o : Operand) : Type 0 where
  pub clean : is_stray (operand_bits shape) (operand_field o) ≡ false
  pub again : operand_of shape (operand_field o) ≡ o
  pub small : operand_field o < 2 ^ 64
  pub placed : OperandPlaced o

destination_of_lem : (used : Bool) (r : Option MaskedRegister) → destination_fits used r ≡ true → DestinationPacked used r
destination_of_lem true None e = absurd (false≢true e)
destination_of_lem true (Some r) e =
    record { clean = register_clean r e; again = ap Some (register_of_lem r e); small = register_small r e; placed = register_placed r e }
destination_of_lem false None e = record { clean = refl; again = refl; small = lit< tt; placed = tt }
destination_of_lem false (Some r) e = absurd (false≢true e)

operand_of_lem : (shape : OperandShape) (o : Operand) → operand_fits shape o ≡ true → OperandPacked shape o
operand_of_lem NoField NoOperand e = record { clean = refl; again = refl; small = lit< tt; placed = tt }
operand_of_lem NoField (Direct s) e = absurd (false≢true e)
operand_of_lem NoField (Indexed s) e = absurd (false≢true e)
operand_of_lem NoField (Sampled s) e = absurd (false≢true e)
operand_of_lem SourceField NoOperand e = absurd (false≢true e)
operand_of_lem SourceField (Direct s) e =
    record {
      clean = source_clean s.number s.offset s.swizzle s.kind s.index_kind s.component 0 e (lit< tt);
      again = direct_of_lem s e;
      small = source_small s.number s.offset s.swizzle s.kind s.index_kind s.component 0 e (lit< tt);
      placed = source_placed s.number s.offset s.swizzle s.kind s.index_kind s.component 0 e (lit< tt);
    }
operand_of_lem SourceField (Indexed s) e =
    record {
      clean = source_clean s.number s.offset s.swizzle s.kind s.index_kind s.component 1 e (lit< tt);
      again = indexed_of_lem s e;
      small = source_small s.number s.offset s.swizzle s.kind s.index_kind s.component 1 e (lit< tt);
      placed = source_placed s.number s.offset s.swizzle s.kind s.index_kind s.component 1 e (lit< tt);
    }
operand_of_lem SourceField (Sampled s) e = absurd (false≢true e)
operand_of_lem SamplerField NoOperand e = absurd (false≢true e)
operand_of_lem SamplerField (Direct s) e = absurd (false≢true e)
operand_of_lem SamplerField (Indexed s) e = absurd (false≢true e)
operand_of_lem SamplerField (Sampled s) e =
    record { clean = sampler_clean s e; again = ap Sampled (sampler_of_lem s e); small = sampler_small s e; placed = sampler_placed s e }

-- what is_encodable tests before the sources, and before source 2
abbrev before_sources : Token → Bool
before_sources t = (shape_of t.opcode).listed && destination_fits (shape_of t.opcode).destination t.destination

abbrev before_source2 : Token → Bool
before_source2 t = before_sources t && operand_fits (shape_of t.opcode).source1 t.source1

module _ (t : Token) (e : is_encodable t ≡ true) where
  before2 : before_source2 t ≡ true
  unfolding is_encodable
  before2 = left (before_source2 t) _ e

  before : before_sources t ≡ true
  before = left (before_sources t) _ before2

  pub listed : (shape_of t.opcode).listed ≡ true
  listed = left (shape_of t.opcode).listed _ before

  pub destination_packed : DestinationPacked (shape_of t.opcode).destination t.destination
  destination_packed = destination_of_lem _ _ (right (shape_of t.opcode).listed _ before)

  pub source1_packed : OperandPacked (shape_of t.opcode).source1 t.source1
  source1_packed = operand_of_lem _ _ (right (before_sources t) _ before2)

  pub source2_packed : OperandPacked (shape_of t.opcode).source2 t.source2
  unfolding is_encodable
  source2_packed = operand_of_lem _ _ (right (before_source2 t) _ e)
