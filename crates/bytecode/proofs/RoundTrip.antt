-- The round trip, both ways: bytes that decode does not refuse encode to themselves, and records that encode does not refuse decode to
-- themselves.
-- Assumes nothing.
use Rattle.std.specs.Prelude.{Ok}
use Prim.Native.Nat.{ℕ}
use mathlib.Core.Bool.{Bool, true, false}
use mathlib.Core.List.{List, ◌++◌}
use mathlib.Core.Path.{◌≡◌, refl, ◌∙◌, sym, ap}
use native.Mathlib.Omega.{arith}
use lib.Bits.{and_zero_r}
use lib.Dec.{T}
use lib.ListN.{take, drop}
use lib.Seq.{take_at}
use lib.Pow.{are_bytes}
use Rattle.layout.specs.Opcodes.{shape_of}
use Rattle.layout.specs.Layout.{destination_bits, operand_bits, is_stray}
use Rattle.bytecode.specs.Fields.{fields_of, bytes_of}
use Rattle.layout.specs.Records.{destination_of, operand_of, token_of}
use Rattle.bytecode.specs.Decode.{no_refusal, token_fault, decode_of}
use Rattle.bytecode.specs.Encode.{destination_fits, destination_field, operand_fits, operand_field, is_encodable, token_fields, encoded_bytes}
use Rattle.bytecode.specs.RoundTrip.{RoundTrip}
use Rattle.layout.specs.declared.opcodes.OperandShape.{OperandShape}
use Rattle.layout.specs.declared.opcodes.OperandShape.TheVariants.{Unused as NoField, Source as SourceField, Sampler as SamplerField}
use Rattle.layout.specs.declared.fields.Fields.{Fields}
use Rattle.layout.specs.declared.record.Token.{Token}
use Rattle.bytecode.proofs.DecodeLaws.{Clean, clean, clean_none, accepted, no_faults}
use Rattle.bytecode.proofs.PackLaws.{listed, destination_packed, source1_packed, source2_packed}
use Rattle.bytecode.proofs.EncodeLaws.{written, was_written}
use Rattle.bytecode.proofs.RegisterAgain.{register_fits_lem, register_again}
use Rattle.bytecode.proofs.SourceAgain.{source_fits_lem, source_again}
use Rattle.bytecode.proofs.SamplerAgain.{sampler_fits_lem, sampler_again}
use Rattle.layout.proofs.Stray.{not_stray}
use Rattle.bytecode.proofs.Words.{bytes_again, fields_again}
use Rattle.layout.proofs.Listed.{listed_below}

-- ---- from bytes

-- an unused field without a stray bit is 0
unused_zero : (w : ℕ) → is_stray 0 w ≡ false → 0 ≡ w
unused_zero w e = sym (and_zero_r w) ∙ not_stray 0 w e

destination_again : (used : Bool) (w : ℕ) → is_stray (destination_bits used) w ≡ false
    → (destination_fits used (destination_of used w) ≡ true) × (destination_field (destination_of used w) ≡ w)
destination_again true w e = (register_fits_lem w, register_again w e)
destination_again false w e = (refl, unused_zero w e)

operand_again : (shape : OperandShape) (w : ℕ) → is_stray (operand_bits shape) w ≡ false
    → (operand_fits shape (operand_of shape w) ≡ true) × (operand_field (operand_of shape w) ≡ w)
operand_again NoField w e = (refl, unused_zero w e)
operand_again SourceField w e = (source_fits_lem w, source_again w e)
operand_again SamplerField w e = (sampler_fits_lem w, sampler_again w e)

-- the record of clean fields is encodable, and makes the fields again
module _ (f : Fields) (c : Clean (shape_of f.opcode) f) where
  d : (destination_fits (shape_of f.opcode).destination (destination_of (shape_of f.opcode).destination f.destination) ≡ true) × (destination_field (destination_of (shape_of f.opcode).destination f.destination) ≡ f.destination)
  d = destination_again (shape_of f.opcode).destination f.destination c.destination

  a : (operand_fits (shape_of f.opcode).source1 (operand_of (shape_of f.opcode).source1 f.source1) ≡ true) × (operand_field (operand_of (shape_of f.opcode).source1 f.source1) ≡ f.source1)
  a = operand_again (shape_of f.opcode).source1 f.source1 c.source1

  b : (operand_fits (shape_of f.opcode).source2 (operand_of (shape_of f.opcode).source2 f.source2) ≡ true) × (operand_field (operand_of (shape_of f.opcode).source2 f.source2) ≡ f.source2)
  b = operand_again (shape_of f.opcode).source2 f.source2 c.source2

  token_encodable : is_encodable (token_of (shape_of f.opcode) f) ≡ true
  unfolding is_encodable token_of
  token_encodable = rw (c.listed, d.0, a.0, b.0)

  token_fields_again : token_fields (token_of (shape_of f.opcode) f) ≡ f
  unfolding token_of
  token_fields_again = rw (d.1, a.1, b.1)

from_bytes : (s : List ℕ) (t : Token) → T (are_bytes s) → decode_of s ≡ Ok t → (is_encodable t ≡ true) × (encoded_bytes t ≡ s)
from_bytes s t h e =
    let (l, n, m) = accepted s t e in
    let c = clean (shape_of (fields_of s).opcode) (fields_of s) n in
    (ap is_encodable m ∙ token_encodable (fields_of s) c, ap encoded_bytes m ∙ ap bytes_of (token_fields_again (fields_of s) c) ∙ bytes_again s l h)

-- ---- from a record

-- the three operands again make the record again
same : (t : Token)
    → destination_of (shape_of t.opcode).destination (destination_field t.destination) ≡ t.destination
    → operand_of (shape_of t.opcode).source1 (operand_field t.source1) ≡ t.source1
    → operand_of (shape_of t.opcode).source2 (operand_field t.source2) ≡ t.source2
    → token_of (shape_of t.opcode) (token_fields t) ≡ t
unfolding token_of
same t d a b = rw (d, a, b)

from_record : (t : Token) → is_encodable t ≡ true → decode_of (encoded_bytes t) ≡ Ok t
from_record t e =
    let h = shape_of t.opcode in
    let listed = listed t e in
    let d = destination_packed t e in
    let a = source1_packed t e in
    let b = source2_packed t e in
    let f = fields_again (token_fields t) (omega (arith, listed_below t.opcode listed)) d.small a.small b.small in
    let c : Clean h (token_fields t) = record { listed = listed; destination = d.clean; source1 = a.clean; source2 = b.clean } in
    let n : token_fault (shape_of (fields_of (encoded_bytes t)).opcode) (fields_of (encoded_bytes t)) ≡ no_refusal = ap (λ g. token_fault (shape_of g.opcode) g) f ∙ clean_none h (token_fields t) c in
    sym (no_faults (encoded_bytes t) refl (ap (λ r. r.number) n)).answer ∙ ap (λ g. Ok (token_of (shape_of g.opcode) g)) f ∙ ap Ok (same t d.again a.again b.again)

pub round_trip : RoundTrip
round_trip =
    record {
      bytes = λ s t h e buffer l.
          let (i, q) = from_bytes s t h e in
          let w = written t buffer i l in
          (sym w.answer, sym w.buffer ∙ ap (λ x. x ++ drop 24 buffer) q);
      records = λ t buffer e.
          let (i, l) = was_written t buffer e in
          ap decode_of (ap (take 24) (sym (written t buffer i l).buffer) ∙ take_at (encoded_bytes t) (drop 24 buffer) 24 refl) ∙ from_record t i;
    }
