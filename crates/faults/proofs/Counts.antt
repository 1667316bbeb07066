-- The counts that a profile keeps in one number are those of the table.
-- Assumes nothing.
use Prim.Native.Nat.{ℕ}
use mathlib.Core.Path.{◌≡◌, sym, fun_ext}
use native.Mathlib.Decide.{dec_lt}
use native.Mathlib.Omega.{arith}
use borrow.Author.Tests.{le-leb, lt-leb}
use Rattle.registers.specs.Counts.{count_of}
use Rattle.registers.proofs.Outside.{outside_kind}
use Rattle.registers.proofs.Packed.{count_at_lem}
use Rattle.faults.specs.computed.Profile.{profile_of, count_in}

pub counts_are : (edition stage : ℕ) → count_in (profile_of edition stage) ≡ (λ k. count_of k edition stage)
unfolding count_in
counts_are edition stage =
    fun_ext
    (λ k. elim (dec_lt k 8) [
      | yes h ↦ rw (lt-leb 8 k h) (count_at_lem edition stage k h)
      | no g ↦ rw (le-leb 8 k (omega (arith, g))) (sym (outside_kind k edition stage (omega (arith, g))))
    ])
