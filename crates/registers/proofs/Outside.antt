-- The count of what is in the table, by the place of its edition; and of what is not: 0.
-- Assumes nothing.
use Prim.Native.Nat.{ℕ, zero, suc, ◌-◌, ◌≤◌, ◌<◌}
use mathlib.Core.List.{List, []}
use mathlib.Core.Path.{◌≡◌, refl}
use native.Mathlib.Decide.{dec_lt}
use native.Mathlib.Omega.{arith}
use lib.Dec.{leb, leb→le, lit≤}
use lib.ListN.{length, get_or, get_or-eq_default}
use Rattle.laws.specs.computed.Tests.{every}
use Rattle.laws.proofs.Every.{below}
use Rattle.registers.specs.Counts.{table, count_of}

-- a kind's row, an edition's pair
abbrev kind_row : ℕ → List (List ℕ)
kind_row kind = get_or table kind []

abbrev pair : ℕ → ℕ → List ℕ
pair kind edition = get_or (kind_row kind) edition []

row_length : (kind : ℕ) → length (kind_row kind) ≤ 3
row_length kind =
    elim (dec_lt kind 7) [
      | yes h ↦ leb→le (length (kind_row kind)) 3 (below (λ k. leb (length (kind_row k)) 3) 7 tt kind h)
      | no g ↦ rw (get_or-eq_default table [] {n = kind} (omega (arith, g))) (lit≤ tt)
    ]

no_pair : (kind edition : ℕ) → 3 ≤ edition → pair kind edition ≡ []
no_pair kind edition h = get_or-eq_default (kind_row kind) [] (omega (arith, row_length kind))

pair_length : (kind edition : ℕ) → length (pair kind edition) ≤ 2
pair_length kind edition =
    elim (dec_lt edition 3) [
      | yes l ↦ elim (dec_lt kind 7) [
        | yes h ↦
            leb→le (length (pair kind edition)) 2
            (below (λ e. leb (length (pair kind e)) 2) 3 (below (λ k. every (λ e. leb (length (pair k e)) 2) 3) 7 tt kind h) edition l)
        | no g ↦ rw (get_or-eq_default table [] {n = kind} (omega (arith, g))) (lit≤ tt)
      ]
      | no g ↦ rw (no_pair kind edition (omega (arith, g))) (lit≤ tt)
    ]

pub outside_kind : (kind edition stage : ℕ) → 7 ≤ kind → count_of kind edition stage ≡ 0
unfolding count_of
outside_kind kind zero stage h = refl
outside_kind kind (suc edition) stage h = rw (get_or-eq_default table [] {n = kind} h)

pub outside_edition : (kind edition stage : ℕ) → 4 ≤ edition → count_of kind edition stage ≡ 0
unfolding count_of
outside_edition kind zero stage h = refl
outside_edition kind (suc edition) stage h = rw (no_pair kind edition (omega arith))

pub outside_stage : (kind edition stage : ℕ) → 2 ≤ stage → count_of kind edition stage ≡ 0
unfolding count_of
outside_stage kind zero stage h = refl
outside_stage kind (suc edition) stage h = get_or-eq_default (pair kind edition) 0 (omega (arith, pair_length kind edition))

pub no_edition : (kind edition stage : ℕ) → edition < 1 → count_of kind edition stage ≡ 0
unfolding count_of
no_edition kind zero stage h = refl
no_edition kind (suc edition) stage h = absurd (omega arith)

pub entry : (kind edition stage : ℕ) → 1 ≤ edition → get_or (get_or (get_or table kind []) (edition - 1) []) stage 0 ≡ count_of kind edition stage
unfolding count_of
entry kind zero stage h = absurd (omega arith)
entry kind (suc edition) stage h = let e : suc edition - 1 ≡ edition = omega arith in rw e
