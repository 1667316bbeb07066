-- Seven counts as one number, and each of them in it.
-- Assumes nothing.
use Prim.Native.Nat.{ℕ, zero, suc, ◌*◌, ◌/◌, ◌%◌, ◌^◌, ◌<◌, ◌≤◌}
use mathlib.Core.Path.{◌≡◌, ◌∙◌, sym}
use native.Mathlib.Decide.{dec_lt}
use native.Mathlib.Omega.{arith}
use lib.Dec.{ltb, ltb→lt}
use Rattle.laws.specs.computed.Tests.{every}
use Rattle.laws.proofs.Every.{below}
use Rattle.registers.specs.Counts.{count_of}
use Rattle.registers.specs.computed.Packed.{packed}
use Rattle.registers.proofs.Outside.{outside_kind, outside_edition, outside_stage, no_edition}

pub none_packed : (c : ℕ → ℕ) → ((k : ℕ) → c k ≡ 0) → 0 ≡ packed c
none_packed c h = rw (h 0, h 1, h 2, h 3, h 4, h 5, h 6)

-- what is in no table counts 0
pub absent : (edition stage : ℕ) → (1 ≤ edition → edition ≤ 3 → stage ≤ 1 → ⊥) → 0 ≡ packed (λ k. count_of k edition stage)
absent e s out =
    elim (dec_lt e 1) [
      | yes none ↦ none_packed (λ k. count_of k e s) (λ k. no_edition k e s none)
      | no first ↦ elim (dec_lt 3 e) [
        | yes past ↦ none_packed (λ k. count_of k e s) (λ k. outside_edition k e s (omega (arith, past)))
        | no last ↦ elim (dec_lt 1 s) [
          | yes third ↦ none_packed (λ k. count_of k e s) (λ k. outside_stage k e s (omega (arith, third)))
          | no stage ↦ absurd (out (omega (arith, first)) (omega (arith, last)) (omega (arith, stage)))
        ]
      ]
    ]

-- no count needs more than eight bits
count_small : (kind edition stage : ℕ) → count_of kind edition stage < 256
unfolding count_of
count_small kind edition stage =
    elim (dec_lt kind 7) [
      | yes k ↦ elim (dec_lt edition 4) [
        | yes e ↦ elim (dec_lt stage 2) [
          | yes s ↦ ltb→lt (count_of kind edition stage) 256 (below (λ s. ltb (count_of kind edition s) 256) 2 (below (λ e. every (λ s. ltb (count_of kind e s) 256) 2) 4 (below (λ k. every (λ e. every (λ s. ltb (count_of k e s) 256) 2) 4) 7 tt kind k) edition e) stage s)
          | no s ↦ rw (outside_stage kind edition stage (omega (arith, s))) (omega arith)
        ]
        | no e ↦ rw (outside_edition kind edition stage (omega (arith, e))) (omega arith)
      ]
      | no k ↦ rw (outside_kind kind edition stage (omega (arith, k))) (omega arith)
    ]

-- ---- a number of eight bits each, taken apart

module _ (c : ℕ → ℕ) (h : (k : ℕ) → c k < 256) where
  at_0 : packed c / 1 % 256 ≡ c 0
  at_0 = omega (arith, h 0)

  at_1 : packed c / 0x100 % 256 ≡ c 1
  at_1 = omega (arith, h 0, h 1)

  at_2 : packed c / 0x10000 % 256 ≡ c 2
  at_2 = omega (arith, h 0, h 1, h 2)

  at_3 : packed c / 0x1000000 % 256 ≡ c 3
  at_3 = omega (arith, h 0, h 1, h 2, h 3)

  at_4 : packed c / 0x100000000 % 256 ≡ c 4
  at_4 = omega (arith, h 0, h 1, h 2, h 3, h 4)

  at_5 : packed c / 0x10000000000 % 256 ≡ c 5
  at_5 = omega (arith, h 0, h 1, h 2, h 3, h 4, h 5)

  at_6 : packed c / 0x1000000000000 % 256 ≡ c 6
  at_6 = omega (arith, h 0, h 1, h 2, h 3, h 4, h 5, h 6)

  at_7 : packed c / 0x100000000000000 % 256 ≡ 0
  at_7 = omega (arith, h 0, h 1, h 2, h 3, h 4, h 5, h 6)

-- the count of each kind below 8
module _ (edition stage : ℕ) where
  abbrev counts : ℕ → ℕ
  counts k = count_of k edition stage

  small : (k : ℕ) → counts k < 256
  small k = count_small k edition stage

  pub count_at_lem : (k : ℕ) → k < 8 → packed counts / 2 ^ (8 * k) % 256 ≡ counts k
  count_at_lem zero h = at_0 counts small
  count_at_lem (suc zero) h = at_1 counts small
  count_at_lem (suc (suc zero)) h = at_2 counts small
  count_at_lem (suc (suc (suc zero))) h = at_3 counts small
  count_at_lem (suc (suc (suc (suc zero)))) h = at_4 counts small
  count_at_lem (suc (suc (suc (suc (suc zero))))) h = at_5 counts small
  count_at_lem (suc (suc (suc (suc (suc (suc zero)))))) h = at_6 counts small
  count_at_lem (suc (suc (suc (suc (suc (suc (suc zero))))))) h = at_7 counts small ∙ sym (outside_kind 7 edition stage (omega arith))
  count_at_lem (suc (suc (suc (suc (suc (suc (suc (suc k)))))))) h = absurd (omega arith)
