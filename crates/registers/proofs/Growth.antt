-- The counts grow with the edition: one test over the whole table.
-- Assumes nothing.
use Prim.Native.Nat.{ℕ, ◌≤◌, zero-le}
use mathlib.Core.Bool.{Bool, ◌&&◌}
use native.Mathlib.Decide.{dec_lt}
use native.Mathlib.Omega.{arith}
use lib.Dec.{T, leb, leb→le}
use Rattle.laws.specs.computed.Tests.{every}
use Rattle.laws.proofs.Every.{below, both_left, both_right}
use Rattle.registers.specs.Counts.{count_of}
use Rattle.registers.specs.Growth.{Growth}
use Rattle.registers.proofs.Outside.{outside_kind, outside_stage}

grows : ℕ → ℕ → Bool
grows kind stage = leb (count_of kind 1 stage) (count_of kind 2 stage) && leb (count_of kind 2 stage) (count_of kind 3 stage)

inside : (kind stage : ℕ) → T (every (λ k. every (grows k) 2) 7) → (count_of kind 1 stage ≤ count_of kind 2 stage) × (count_of kind 2 stage ≤ count_of kind 3 stage)
unfolding grows
inside kind stage t =
    elim (dec_lt kind 7) [
      | yes h ↦ elim (dec_lt stage 2) [
        | yes l ↦
            let g = below (grows kind) 2 (below (λ k. every (grows k) 2) 7 t kind h) stage l in
            (leb→le (count_of kind 1 stage) (count_of kind 2 stage) (both_left (leb (count_of kind 1 stage) (count_of kind 2 stage)) _ g), leb→le (count_of kind 2 stage) (count_of kind 3 stage) (both_right (leb (count_of kind 1 stage) (count_of kind 2 stage)) _ g))
        | no n ↦ let z = outside_stage kind in (rw (z 1 stage (omega (arith, n))) zero-le, rw (z 2 stage (omega (arith, n))) zero-le)
      ]
      | no n ↦ let z = outside_kind kind in (rw (z 1 stage (omega (arith, n))) zero-le, rw (z 2 stage (omega (arith, n))) zero-le)
    ]

pub growth : Growth
unfolding grows count_of
growth = record { first = λ k s. (inside k s tt).0; second = λ k s. (inside k s tt).1 }
