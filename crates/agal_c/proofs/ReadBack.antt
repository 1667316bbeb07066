-- A flat form read back gives the record that it was written from.
-- Assumes nothing.
use Rattle.std.specs.Prelude.{None, Option, Some}
use Prim.Native.Nat.{ℕ, ◌+◌, ◌*◌, ◌/◌, ◌%◌, ◌<◌, ◌^◌}
use mathlib.Core.Bool.{true}
use mathlib.Core.List.{List, ◌++◌}
use mathlib.Core.Path.{◌≡◌, refl, ap}
use native.Mathlib.Omega.{arith}
use lib.Dec.{T, leb, ltb→lt, lit<}
use lib.IntN.{ℤ, pos, negsuc}
use lib.ListN.{length}
use borrow.Author.Tests.{le-ltb}
use Rattle.laws.specs.computed.Tests.{eq_z}
use Rattle.laws.proofs.Every.{below, eq_z→eq}
use Rattle.layout.specs.Layout.{word_at, word_bytes}
use Rattle.layout.specs.Records.{signed}
use Rattle.bytecode.specs.Encode.{unsigned, is_signed_byte}
use Rattle.bytecode.proofs.Words.{fields_again}
use Rattle.layout.specs.declared.fields.Fields.{Fields}
use Rattle.layout.specs.declared.record.MaskedRegister.{MaskedRegister}
use Rattle.layout.specs.declared.record.Operand.{Operand}
use Rattle.layout.specs.declared.record.Operand.TheVariants.{Unused as NoOperand, Direct, Indexed, Sampler as Sampled}
use Rattle.layout.specs.declared.record.Token.{Token}
use Rattle.agal_c.specs.Values.{values, destination_values, operand_values, destination_from, operand_from}
use Rattle.agal_c.specs.Flat.{flat_of, is_flat, token_of_flat}
use Rattle.agal_c.specs.ReadBack.{BiasHeld, ReadBack}

-- ---- numbers

number_again : (n : ℕ) → n % 256 + 256 * (n / 256) ≡ n
number_again n = omega arith

opcode_again : (w : ℕ) → w < 2 ^ 32 → word_at (word_bytes w) 0 ≡ w
opcode_again w h =
    ap (λ (f : Fields). f.opcode)
    (fields_again (record { opcode = w; destination = 0; source1 = 0; source2 = 0 }) h (lit< tt) (lit< tt) (lit< tt))

bias_again : (z : ℤ) → T (is_signed_byte z) → signed (unsigned z) ≡ z
unfolding signed
bias_again (pos n) h = eq_z→eq _ _ (below (λ n. eq_z (signed (unsigned (pos n))) (pos n)) 128 tt n (ltb→lt n 128 h))
bias_again (negsuc n) h = eq_z→eq _ _ (below (λ n. eq_z (signed (unsigned (negsuc n))) (negsuc n)) 128 tt n (ltb→lt n 128 h))

-- ---- destination and sources, from their bytes

-- whatever stands where a source has more values than a destination
destination_again : (d : Option MaskedRegister) (a b c e f : ℕ)
    → (let v = destination_values d in destination_from (values v.form (v.number % 256 + 256 * (v.number / 256)) v.first v.second a b c e f)) ≡ d
destination_again None a b c e f = refl
destination_again (Some r) a b c e f = rw (number_again r.number) refl

operand_again : (o : Operand) → BiasHeld o
    → (let v = operand_values o in operand_from (values v.form (v.number % 256 + 256 * (v.number / 256)) v.first v.second v.third v.fourth v.fifth v.sixth v.seventh)) ≡ o
operand_again NoOperand h = refl
operand_again (Direct s) h = rw (number_again s.number) refl
operand_again (Indexed s) h = rw (number_again s.number) refl
operand_again (Sampled s) h = rw (number_again s.number, bias_again s.bias h) refl

destination_form : (d : Option MaskedRegister) → leb (destination_values d).form 1 ≡ true
destination_form None = refl
destination_form (Some r) = refl

operand_form : (o : Operand) → leb (operand_values o).form 3 ≡ true
operand_form NoOperand = refl
operand_form (Direct s) = refl
operand_form (Indexed s) = refl
operand_form (Sampled s) = refl

-- ---- a token

made : (w : ℕ) (d : Option MaskedRegister) (a b : Operand) (t : Token) → w ≡ t.opcode → d ≡ t.destination → a ≡ t.source1 → b ≡ t.source2
    → ◌≡◌ {A = Token} (record { opcode = w; destination = d; source1 = a; source2 = b }) t
made w d a b t p q r s = rw (p, q, r, s) refl

flat_again : (t : Token) (rest : List ℕ) → is_flat (flat_of t ++ rest) ≡ true
unfolding flat_of
flat_again t rest =
    simp (
      le-ltb (length (flat_of t ++ rest)) 29 (omega arith),
      destination_form t.destination,
      operand_form t.source1,
      operand_form t.source2,
    )

token_again : (t : Token) (rest : List ℕ) → t.opcode < 2 ^ 32 → BiasHeld t.source1 → BiasHeld t.source2 → token_of_flat (flat_of t ++ rest) ≡ t
unfolding flat_of
token_again t rest w h k =
    made _ _ _ _ t (opcode_again t.opcode w) (destination_again t.destination 0 0 0 0 0) (operand_again t.source1 h) (operand_again t.source2 k)

pub read_back : ReadBack
read_back = record { flat = flat_again; token = token_again }
