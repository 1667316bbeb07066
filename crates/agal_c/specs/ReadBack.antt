-- A flat form read back gives the record that it was written from.
use Rattle.std.specs.Prelude.{ℕ, ◌<◌, ◌^◌, true, List, ◌++◌, ◌≡◌, T}
use Rattle.bytecode.specs.Encode.{is_signed_byte}
use Rattle.layout.specs.declared.record.Operand.{Operand}
use Rattle.layout.specs.declared.record.Operand.TheVariants.{Unused as NoOperand, Direct, Indexed, Sampler as Sampled}
use Rattle.layout.specs.declared.record.Token.{Token}
use Rattle.agal_c.specs.Flat.{flat_of, is_flat, token_of_flat}

-- the bias is a signed byte, as in every record of the code
abbrev pub BiasHeld : Operand → Type 0
BiasHeld NoOperand = Unit
BiasHeld (Direct s) = Unit
BiasHeld (Indexed s) = Unit
BiasHeld (Sampled s) = T (is_signed_byte s.bias)

-- what stands after a flat form does not matter; the opcode has 32 bits, as in every record of the code
pub record ReadBack : Type 0 where
  pub flat : (t : Token) (rest : List ℕ) → is_flat (flat_of t ++ rest) ≡ true
  pub token : (t : Token) (rest : List ℕ) → t.opcode < 2 ^ 32 → BiasHeld t.source1 → BiasHeld t.source2
      → token_of_flat (flat_of t ++ rest) ≡ t
