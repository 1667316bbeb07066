-- The counts of what a stage reads, writes and takes for indices are those of the table, with 0 for the other kinds.
-- Assumes nothing.
use Prim.Native.Nat.{ℕ, ◌*◌, ◌%◌, ◌^◌, ◌<◌}
use mathlib.Core.Bool.{Bool, true, false, cond, ◌&&◌}
use mathlib.Core.Path.{◌≡◌, refl, ◌∙◌, ap, sym}
use native.Mathlib.Decide.{dec_lt}
use native.Mathlib.Nat.{zero-div}
use native.Mathlib.Omega.{arith}
use lib.Dec.{T, eqb, ltb, eqb→eq}
use Rattle.laws.specs.computed.Tests.{every}
use Rattle.laws.proofs.Every.{below}
use Rattle.registers.specs.Counts.{count_of}
use Rattle.registers.specs.Uses.{is_readable, is_writable}
use Rattle.registers.proofs.Outside.{outside_edition, outside_stage}
use Rattle.registers.proofs.Packed.{none_packed}
use Rattle.faults.specs.computed.Profile.{profile_of, count_at}
use Rattle.faults.specs.computed.LawfulTests.{usable_of}
use Rattle.faults.specs.declared.lawful.Usable.{Usable}
use Rattle.faults.specs.declared.profile.Profile.{Profile}

abbrev pub usable_in : ℕ → ℕ → Usable
usable_in edition stage = usable_of (profile_of edition stage)

-- a kind that a stage does not use counts 0
abbrev pub if_used : (ℕ → ℕ → Bool) → ℕ → ℕ → ℕ → ℕ
if_used used edition stage kind = cond (used kind stage) (count_of kind edition stage) 0

-- attributes, constants and temporaries of a vertex program may be indices
abbrev pub is_index : ℕ → ℕ → Bool
is_index kind stage = eqb stage 0 && ltb kind 3

-- some counts are those of the table
abbrev pub Agree : (Usable → ℕ) → (ℕ → ℕ → Bool) → ℕ → ℕ → ℕ → Type 0
Agree counts used edition stage kind = count_at (counts (usable_in edition stage)) kind ≡ if_used used edition stage kind

-- where there are no registers
abbrev bare : ℕ → ℕ → Profile
bare edition stage = record { edition = edition; stage = stage; counts = 0 }

-- by one test of every edition, stage and kind
module _ (counts : Usable → ℕ) (used : ℕ → ℕ → Bool) where
  agrees : ℕ → ℕ → ℕ → Bool
  agrees edition stage kind = eqb (count_at (counts (usable_in edition stage)) kind) (if_used used edition stage kind)

  none_agree : ((edition stage : ℕ) → counts (usable_of (bare edition stage)) ≡ 0) → (edition stage kind : ℕ) → ((k : ℕ) → count_of k edition stage ≡ 0)
      → Agree counts used edition stage kind
  none_agree empty edition stage kind h =
      ap (λ n. count_at (counts (usable_of (record { edition = edition; stage = stage; counts = n }))) kind) (sym (none_packed (λ k. count_of k edition stage) h))
      ∙ ap (λ n. count_at n kind) (empty edition stage)
      ∙ ap (λ n. n % 256) (zero-div (2 ^ (8 * (kind % 8))))
      ∙ unused (used kind stage) (h kind)
    where
      unused : (b : Bool) {n : ℕ} → n ≡ 0 → 0 ≡ cond b n 0
      unused true e = sym e
      unused false e = refl

  agree : ((edition stage : ℕ) → counts (usable_of (bare edition stage)) ≡ 0) → T (every (λ e. every (λ s. every (agrees e s) 8) 2) 4)
      → (edition stage kind : ℕ) → kind < 8 → Agree counts used edition stage kind
  unfolding agrees
  agree empty t edition stage kind h =
      elim (dec_lt edition 4) [
        | yes e ↦ elim (dec_lt stage 2) [
          | yes s ↦ eqb→eq _ _ (below (agrees edition stage) 8 (below (λ s. every (agrees edition s) 8) 2 (below (λ e. every (λ s. every (agrees e s) 8) 2) 4 t edition e) stage s) kind h)
          | no s ↦ none_agree empty edition stage kind (λ k. outside_stage k edition stage (omega (arith, s)))
        ]
        | no e ↦ none_agree empty edition stage kind (λ k. outside_edition k edition stage (omega (arith, e)))
      ]

-- where there are none, none are usable
no_counts : (b : Bool) {none : ℕ} → cond b none none ≡ none
no_counts true = refl
no_counts false = refl

pub readable_counts : (edition stage kind : ℕ) → kind < 8 → Agree (λ u. u.readable) is_readable edition stage kind
unfolding agrees usable_of count_of
readable_counts = agree (λ u. u.readable) is_readable (λ edition stage. no_counts (eqb stage 0)) tt

pub writable_counts : (edition stage kind : ℕ) → kind < 8 → Agree (λ u. u.writable) is_writable edition stage kind
unfolding agrees usable_of count_of
writable_counts = agree (λ u. u.writable) is_writable (λ edition stage. no_counts (eqb stage 0)) tt

pub indexing_counts : (edition stage kind : ℕ) → kind < 8 → Agree (λ u. u.indexing) is_index edition stage kind
unfolding agrees usable_of count_of
indexing_counts = agree (λ u. u.indexing) is_index (λ edition stage. no_counts (eqb stage 0)) tt
