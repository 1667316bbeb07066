-- The goals of `put_word` that the check leaves.
use mathlib.Core.Path.{refl}
use native.Mathlib.Omega.{arith}
use Rattle.bytecode.proofs.Stored.{word_put}
use Rattle.bytecode.proofs.stores.put_word.Goals as goal

-- `put_word` meets its contract.
-- Assumes nothing.
pub returns-in-Some : goal.returns-in-Some
returns-in-Some c =
    word_put _ _ _ _ _ _ (omega (arith, c.split_at_mut-rest.ensures.back_len, c.in-Some.ensures.variant.0 refl))
    c.split_at_mut-rest.ensures.front c.split_at_mut-rest.ensures.back c.to_le_bytes.ensures
