-- Document 01: the fields that a record makes, and the refusals of encode, 25 and then 23.
use Rattle.std.specs.Prelude.{ℕ, ◌+◌, ◌-◌, Bool, true, false, not, cond, ◌&&◌, List, ◌++◌, ◌≡◌, ltb, eqb, ℤ, pos, negsuc, length, drop, None, Option, Result, Some, ⊤}
use Rattle.layout.specs.Layout as layout
use Rattle.layout.specs.Layout.{placed, fits}
use Rattle.layout.specs.Opcodes.{shape_of}
use Rattle.bytecode.specs.Fields.{bytes_of}
use Rattle.bytecode.specs.Decode.{refusal, no_refusal, outcome}
use Rattle.bytecode.specs.Numbers.{found_numbers, encoded_numbers}
use Rattle.layout.specs.declared.opcodes.OperandShape.{OperandShape}
use Rattle.layout.specs.declared.opcodes.OperandShape.TheVariants.{Unused as NoField, Source as SourceField, Sampler as SamplerField}
use Rattle.layout.specs.declared.fields.Fields.{Fields}
use Rattle.layout.specs.declared.record.MaskedRegister.{MaskedRegister}
use Rattle.layout.specs.declared.record.Sampler.{Sampler}
use Rattle.layout.specs.declared.record.Operand.{Operand}
use Rattle.layout.specs.declared.record.Operand.TheVariants.{Unused as NoOperand, Direct, Indexed, Sampler as Sampled}
use Rattle.layout.specs.declared.record.Token.{Token}
use Rattle.bytecode.specs.declared.answers.Refusal.{Refusal}

-- ---- a destination

unfoldable pub register_fits : MaskedRegister → Bool
register_fits r = fits layout.mask r.mask && fits layout.masked_kind r.kind && fits layout.number r.number

unfoldable pub register_field : MaskedRegister → ℕ
register_field r = placed layout.number r.number + placed layout.mask r.mask + placed layout.masked_kind r.kind

-- an operand's kind is the opcode's, and no value exceeds its width
abbrev pub destination_fits : Bool → Option MaskedRegister → Bool
destination_fits used None = not used
destination_fits used (Some r) = used && register_fits r

abbrev pub destination_field : Option MaskedRegister → ℕ
destination_field None = 0
destination_field (Some r) = register_field r

-- ---- a source

unfoldable pub source_fits : ℕ → ℕ → ℕ → ℕ → ℕ → ℕ → Bool
source_fits n o s t i q =
    fits layout.kind t && fits layout.index_kind i && fits layout.component q
    && fits layout.number n && fits layout.offset o && fits layout.swizzle s

-- the values up to bit 31, and those from bit 32 on; d is D
abbrev pub source_low : ℕ → ℕ → ℕ → ℕ
source_low n o s = placed layout.number n + placed layout.offset o + placed layout.swizzle s

abbrev pub source_high : ℕ → ℕ → ℕ → ℕ → ℕ
source_high t i q d =
    placed layout.kind t + placed layout.index_kind i + placed layout.component q + placed layout.indirect d

unfoldable pub source_field : ℕ → ℕ → ℕ → ℕ → ℕ → ℕ → ℕ → ℕ
source_field n o s t i q d = source_low n o s + source_high t i q d

-- ---- a sampler

-- the byte that says a signed number of -128 to 127
abbrev pub unsigned : ℤ → ℕ
unsigned (pos n) = n
unsigned (negsuc n) = 255 - n

abbrev pub is_signed_byte : ℤ → Bool
is_signed_byte (pos n) = ltb n 128
is_signed_byte (negsuc n) = ltb n 128

unfoldable pub sampler_fits : Sampler → Bool
sampler_fits s =
    fits layout.kind s.kind && fits layout.dimension s.dimension && fits layout.special s.special
    && fits layout.wrap s.wrap && fits layout.mipmap s.mipmap && fits layout.filter s.filter
    && fits layout.number s.number && is_signed_byte s.bias

-- the values up to bit 35, and those from bit 44 on
abbrev pub sampler_low : ℕ → ℕ → ℕ → ℕ
sampler_low n b t = placed layout.number n + placed layout.bias b + placed layout.kind t

abbrev pub sampler_high : ℕ → ℕ → ℕ → ℕ → ℕ → ℕ
sampler_high d s w m f =
    placed layout.dimension d + placed layout.special s + placed layout.wrap w + placed layout.mipmap m
    + placed layout.filter f

unfoldable pub sampler_field : Sampler → ℕ
sampler_field s =
    sampler_low s.number (unsigned s.bias) s.kind
    + sampler_high s.dimension s.special s.wrap s.mipmap s.filter

-- ---- an operand

abbrev pub operand_fits : OperandShape → Operand → Bool
operand_fits NoField NoOperand = true
operand_fits NoField (Direct s) = false
operand_fits NoField (Indexed s) = false
operand_fits NoField (Sampled s) = false
operand_fits SourceField NoOperand = false
operand_fits SourceField (Direct s) =
    source_fits s.number s.offset s.swizzle s.kind s.index_kind s.component
operand_fits SourceField (Indexed s) =
    source_fits s.number s.offset s.swizzle s.kind s.index_kind s.component
operand_fits SourceField (Sampled s) = false
operand_fits SamplerField NoOperand = false
operand_fits SamplerField (Direct s) = false
operand_fits SamplerField (Indexed s) = false
operand_fits SamplerField (Sampled s) = sampler_fits s

abbrev pub operand_field : Operand → ℕ
operand_field NoOperand = 0
operand_field (Direct s) =
    source_field s.number s.offset s.swizzle s.kind s.index_kind s.component 0
operand_field (Indexed s) =
    source_field s.number s.offset s.swizzle s.kind s.index_kind s.component 1
operand_field (Sampled s) = sampler_field s

-- ---- a token

-- the opcode is listed, each operand's kind is the opcode's, and no value exceeds its width
unfoldable pub is_encodable : Token → Bool
is_encodable t =
    (shape_of t.opcode).listed
    && destination_fits (shape_of t.opcode).destination t.destination
    && operand_fits (shape_of t.opcode).source1 t.source1
    && operand_fits (shape_of t.opcode).source2 t.source2

abbrev pub token_fields : Token → Fields
token_fields t =
    record {
      opcode = t.opcode;
      destination = destination_field t.destination;
      source1 = operand_field t.source1;
      source2 = operand_field t.source2;
    }

-- the 24 bytes of a record
abbrev pub encoded_bytes : Token → List ℕ
encoded_bytes t = bytes_of (token_fields t)

-- ---- encode

-- 25 where the record is not encodable, then 23 where the lent buffer is shorter than 24 bytes
unfoldable pub encode_fault : Token → List ℕ → Refusal
encode_fault t buffer =
    cond (is_encodable t) (cond (ltb (length buffer) 24) (refusal 23 0 0) no_refusal) (refusal 25 0 0)

unfoldable pub encode_of : Token → List ℕ → Result ⊤ Refusal
encode_of t buffer = outcome (encode_fault t buffer)

-- what the lent buffer holds afterwards: the token and then what was there, or all that was there
unfoldable pub after_encode : Token → List ℕ → List ℕ
after_encode t buffer = cond (eqb (encode_fault t buffer).number 0) (encoded_bytes t ++ drop 24 buffer) buffer

-- the promise of encode: its answer, the numbers of its answer by the rules above, and the buffer afterwards
pub record Encodes (t : Token) (before after : List ℕ) (r : Result ⊤ Refusal) : Type 0 where
  pub answer : r ≡ encode_of t before
  pub numbers : encoded_numbers r ≡ found_numbers (encode_fault t before) 0 0
  pub buffer : after ≡ after_encode t before
