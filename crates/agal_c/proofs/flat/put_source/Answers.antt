-- The goals of `put_source` that the check leaves.
use Prim.Native.Nat.{ℕ, ◌+◌, ◌/◌, ◌%◌, ◌^◌, ◌≤◌}
use mathlib.Core.Bool.{false}
use mathlib.Core.List.{List}
use mathlib.Core.Path.{◌≡◌, ap}
use native.Mathlib.Nat.{add_assoc}
use native.Mathlib.Omega.{arith}
use lib.ListN.{length, set, length-set}
use Rattle.layout.specs.Layout.{source_rows, defined_bits, is_stray}
use Rattle.agal_c.specs.computed.Delivery.{source_values}
use Rattle.bytecode.specs.computed.Stored.{with_bytes, after_word}
use Rattle.bytecode.proofs.Stored.{stored_within}
use Rattle.agal_c.specs.Flat.{operand_bytes}
use Rattle.agal_c.proofs.FieldBytes.{source_bytes}
use Rattle.agal_c.proofs.flat.put_source.Goals as goal

-- `put_source` meets its contract.
-- Assumes nothing.
-- the parts, stored one after the other, are the bytes of a source
together : (buffer b₁ b₂ : List ℕ) (at form field : ℕ) → at + 10 ≤ length buffer → is_stray (defined_bits source_rows) field ≡ false
    → b₁ ≡ after_word (set buffer at form) (at + 1) field
    → b₂ ≡ after_word b₁ (at + 5) (field % 2 ^ 63 / 2 ^ 32)
    → set b₂ (at + 9) 0 ≡ with_bytes buffer at (operand_bytes (source_values form field))
together buffer b₁ b₂ at form field h e p q =
    let l = length-set buffer at form in
    let s₁ = stored_within (at + 10) (set buffer at form) b₁ (at + 1) field (omega arith) (omega (arith, h, l)) p in
    let s₂ = stored_within (at + 10) b₁ b₂ (at + 5) _ (omega arith) s₁.1 q in
    simp (s₂.0, s₁.0, add_assoc) (ap (with_bytes buffer at) (source_bytes form field e))

pub returns : goal.returns
returns c =
    together c.args.out.now _ _ c.args.at c.args.form c.args.field c.requires.at_in_bounds c.requires.field_value
    c.put_word.ensures
    c.put_word-2.ensures
