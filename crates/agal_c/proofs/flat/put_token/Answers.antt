-- The goals of `put_token` that the check leaves.
use Prim.Native.Nat.{ℕ, ◌≤◌}
use mathlib.Core.List.{List, ◌++◌}
use mathlib.Core.Path.{◌≡◌, ◌∙◌, ap}
use native.Mathlib.Omega.{arith}
use lib.ListN.{length, drop}
use lib.Seq.{sets-eq}
use Rattle.layout.specs.Layout.{word_bytes}
use Rattle.layout.specs.Records.{token_of}
use Rattle.bytecode.proofs.DecodeLaws.{clean_by}
use Rattle.bytecode.proofs.Stored.{word_stored}
use Rattle.agal_c.specs.Values.{destination_values, operand_values}
use Rattle.bytecode.specs.computed.Stored.{with_bytes}
use Rattle.agal_c.specs.Flat.{destination_bytes, operand_bytes, flat_bytes, flat_of}
use Rattle.agal_c.specs.declared.values.Values.{Values}
use Rattle.agal_c.proofs.flat.put_token.Goals as goal

-- the parts, stored one after the other, are the flat form
together : (opcode : ℕ) (d v w : Values) (buffer b₁ b₂ b₃ b₄ : List ℕ) → 29 ≤ length buffer
    → b₁ ≡ with_bytes buffer 0 (word_bytes opcode)
    → b₂ ≡ with_bytes b₁ 4 (destination_bytes d)
    → b₃ ≡ with_bytes b₂ 9 (operand_bytes v)
    → b₄ ≡ with_bytes b₃ 19 (operand_bytes w)
    → b₄ ≡ flat_bytes opcode d v w ++ drop 29 buffer
together opcode d v w buffer b₁ b₂ b₃ b₄ h p q r s =
    s
    ∙ ap (λ b. with_bytes b 19 (operand_bytes w))
    (r ∙ ap (λ b. with_bytes b 9 (operand_bytes v)) (q ∙ ap (λ b. with_bytes b 4 (destination_bytes d)) p))
    ∙ sets-eq (flat_bytes opcode d v w) buffer 0 h

pub put_destination-requires-clause-field_value : goal.put_destination-requires-clause-field_value
put_destination-requires-clause-field_value c = (clean_by _ _ c.requires.clean).destination

pub put_operand-requires-clause-field_value : goal.put_operand-requires-clause-field_value
put_operand-requires-clause-field_value c = (clean_by _ _ c.requires.clean).source1

pub put_operand-requires-2-clause-field_value : goal.put_operand-requires-2-clause-field_value
put_operand-requires-2-clause-field_value c = (clean_by _ _ c.requires.clean).source2

pub returns : goal.returns
unfolding flat_of token_of
returns c =
    let t = token_of c.args.raw.shape c.args.raw.fields in
    together _ (destination_values t.destination) (operand_values t.source1) (operand_values t.source2) c.args.out.now _ _ _ _ c.requires.in_bounds
    (c.put_word.ensures ∙ word_stored _ 0 _ (omega (arith, c.requires.in_bounds)))
    c.put_destination.ensures
    c.put_operand.ensures
    c.put_operand-2.ensures
