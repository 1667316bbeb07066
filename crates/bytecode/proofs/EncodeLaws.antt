-- What encode's answer is, from its fault.
-- Assumes nothing.
use Rattle.std.specs.Prelude.{Err, Ok}
use Prim.Native.Nat.{ℕ, ◌<◌, ◌≤◌}
use mathlib.Core.Bool.{Bool, true, false, cond}
use mathlib.Core.List.{List, ◌++◌}
use mathlib.Core.Path.{◌≡◌, refl}
use native.Mathlib.Omega.{arith}
use lib.Dec.{ltb}
use lib.ListN.{length, drop}
use borrow.Author.Tests.{lt-ltb, le-ltb, ltb-false}
use Rattle.bytecode.specs.Decode.{refusal, no_refusal, outcome}
use Rattle.bytecode.specs.Encode.{is_encodable, encoded_bytes, encode_fault, encode_of, after_encode, Encodes}
use Rattle.layout.specs.declared.record.Token.{Token}

module _ (t : Token) (buffer : List ℕ) where
  pub not_encodable : is_encodable t ≡ false → Encodes t buffer buffer (Err (refusal 25 0 0))
  unfolding encode_fault encode_of after_encode
  not_encodable e = record { answer = simp e; numbers = simp e; buffer = simp e }

  pub too_short : is_encodable t ≡ true → length buffer < 24 → Encodes t buffer buffer (Err (refusal 23 0 0))
  unfolding encode_fault encode_of after_encode
  too_short e h =
      let l = lt-ltb (length buffer) 24 h in
      record { answer = simp (e, l); numbers = simp (e, l); buffer = simp (e, l) }

  pub written : is_encodable t ≡ true → 24 ≤ length buffer → Encodes t buffer (encoded_bytes t ++ drop 24 buffer) (Ok tt)
  unfolding encode_fault encode_of after_encode
  written e h =
      let l = le-ltb (length buffer) 24 h in
      record { answer = simp (e, l); numbers = simp (e, l); buffer = simp (e, l) }

  -- what was written was encodable and had room
  pub was_written : encode_of t buffer ≡ Ok tt → (is_encodable t ≡ true) × (24 ≤ length buffer)
  unfolding encode_fault encode_of
  was_written e = go (is_encodable t) refl e
    where
      go : (b : Bool) → is_encodable t ≡ b
          → outcome (cond b (cond (ltb (length buffer) 24) (refusal 23 0 0) no_refusal) (refusal 25 0 0)) ≡ Ok tt
          → (is_encodable t ≡ true) × (24 ≤ length buffer)
      go false i h = let z : ◌≡◌ {A = ℕ} 0 1 = cc in absurd (omega arith)
      go true i h = within (ltb (length buffer) 24) refl h
        where
          within : (b : Bool) → ltb (length buffer) 24 ≡ b
              → outcome (cond b (refusal 23 0 0) no_refusal) ≡ Ok tt
              → (is_encodable t ≡ true) × (24 ≤ length buffer)
          within true l k = let z : ◌≡◌ {A = ℕ} 0 1 = cc in absurd (omega arith)
          within false l k = (i, ltb-false (length buffer) 24 l)
