-- The goals of `write_fields` that the check leaves.
use Prim.Native.Nat.{ℕ, ◌/◌, ◌^◌, ◌≤◌}
use mathlib.Core.List.{List, ◌++◌}
use mathlib.Core.Path.{◌≡◌}
use native.Mathlib.Omega.{arith}
use lib.ListN.{length, drop}
use lib.Seq.{sets-eq}
use Rattle.bytecode.specs.Fields.{bytes_of}
use Rattle.bytecode.specs.computed.Stored.{after_word}
use Rattle.layout.specs.declared.fields.Fields.{Fields}
use Rattle.bytecode.proofs.Stored.{stored_within}
use Rattle.bytecode.proofs.fields.write_fields.Goals as goal

-- `write_fields` meets its contract.
-- Assumes nothing.
-- the words, stored one after the other, are the bytes of the fields
together : (f : Fields) (buffer b₁ b₂ b₃ b₄ b₅ b₆ : List ℕ) → 24 ≤ length buffer
    → b₁ ≡ after_word buffer 0 f.opcode
    → b₂ ≡ after_word b₁ 4 f.destination
    → b₃ ≡ after_word b₂ 8 f.source1
    → b₄ ≡ after_word b₃ 12 (f.source1 / 2 ^ 32)
    → b₅ ≡ after_word b₄ 16 f.source2
    → b₆ ≡ after_word b₅ 20 (f.source2 / 2 ^ 32)
    → b₆ ≡ bytes_of f ++ drop 24 buffer
together f buffer b₁ b₂ b₃ b₄ b₅ b₆ h p₁ p₂ p₃ p₄ p₅ p₆ =
    let s₁ = stored_within 24 buffer b₁ 0 _ (omega arith) h p₁ in
    let s₂ = stored_within 24 b₁ b₂ 4 _ (omega arith) s₁.1 p₂ in
    let s₃ = stored_within 24 b₂ b₃ 8 _ (omega arith) s₂.1 p₃ in
    let s₄ = stored_within 24 b₃ b₄ 12 _ (omega arith) s₃.1 p₄ in
    let s₅ = stored_within 24 b₄ b₅ 16 _ (omega arith) s₄.1 p₅ in
    let s₆ = stored_within 24 b₅ b₆ 20 _ (omega arith) s₅.1 p₆ in
    simp (s₆.0, s₅.0, s₄.0, s₃.0, s₂.0, s₁.0) (sets-eq (bytes_of f) buffer 0 h)

pub returns : goal.returns
returns c =
    together c.args.f c.args.out.now _ _ _ _ _ _ c.requires
    (rw c.from.ensures at c.put_word.ensures)
    c.put_word-2.ensures
    c.put_word-3.ensures
    c.put_word-4.ensures
    c.put_word-5.ensures
    c.put_word-6.ensures
