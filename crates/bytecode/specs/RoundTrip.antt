-- Demand 2: "Decoding a token that isn't refused and encoding the record gives the same 24 bytes; encoding a record that isn't refused
-- and decoding the bytes gives the same record."
use Rattle.std.specs.Prelude.{ℕ, ◌≤◌, List, ◌++◌, ◌≡◌, T, length, take, drop, Ok}
use Rattle.std.proofs.Math.Pow.{are_bytes}
use Rattle.bytecode.specs.Decode.{decode_of}
use Rattle.bytecode.specs.Encode.{encode_of, after_encode}
use Rattle.layout.specs.declared.record.Token.{Token}

pub record RoundTrip : Type 0 where
  -- what decode does not refuse encodes, into every buffer with room, to the same 24 bytes
  pub bytes : (s : List ℕ) (t : Token) → T (are_bytes s) → decode_of s ≡ Ok t
      → (buffer : List ℕ) → 24 ≤ length buffer → (encode_of t buffer ≡ Ok tt) × (after_encode t buffer ≡ s ++ drop 24 buffer)
  -- what encode does not refuse decodes to the same record
  pub records : (t : Token) (buffer : List ℕ) → encode_of t buffer ≡ Ok tt → decode_of (take 24 (after_encode t buffer)) ≡ Ok t
