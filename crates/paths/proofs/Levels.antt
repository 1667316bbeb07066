-- The check's sets, level by level, against the paths: a set lacks a component exactly when some path at that level has not written it.
-- Assumes nothing.
use mathlib.Core.Path.{◌≡◌, refl, ap, ◌∙◌}
use mathlib.Core.Bool.{Bool, true, false, cond, ◌||◌}
use mathlib.Core.List.{List, [], ◌∷◌}
use mathlib.Core.Logic.{◌⊎◌, inl, inr}
use Prim.Native.Nat.{ℕ, zero, suc, ◌≤◌, ◌<◌}
use native.Mathlib.Omega.{arith}
use lib.Dec.{eqb, eqb→eq, eqb_refl}
use lib.ListN.{length}
use Rattle.std.proofs.lemmas.Bool.{and_left, and_right, and_cases, or_parts, or_from}
use Rattle.laws.proofs.Every.{is_true}
use Rattle.paths.specs.Paths.{Flow, plain, opener, els, eif, Path, arrive, leave}
use Rattle.paths.specs.computed.Sets.{ComponentSet, nothing, has, adds}
use Rattle.paths.specs.computed.Check.{current_at, kept_at, kept_after}

-- ---- a path with one choice changed

pub change : Path → ℕ → Bool → Path
change p i b m = cond (eqb i m) b (p m)

change_same : (p : Path) (i : ℕ) (b : Bool) → change p i b i ≡ b
unfolding change
change_same p i b = rw (is_true (eqb i i) (eqb_refl i))

change_other : (p : Path) (i : ℕ) (b : Bool) (m : ℕ) → m < i → change p i b m ≡ p m
unfolding change
change_other p i b m h = go (eqb i m) refl
  where
    go : (x : Bool) → eqb i m ≡ x → cond x b (p m) ≡ p m
    go false e = refl
    go true e = let q : i ≡ m = eqb→eq i m (rw e tt) in absurd (omega arith)

-- ---- the sets by level: 0 is the set at hand, d + 1 that of the d-th open branch, the innermost first

abbrev kept_level : List ComponentSet → ℕ → ComponentSet
kept_level [] d = nothing
kept_level (k ∷ ks) zero = k
kept_level (k ∷ ks) (suc d) = kept_level ks d

abbrev level : ComponentSet → List ComponentSet → ℕ → ComponentSet
level s ks zero = s
level s ks (suc d) = kept_level ks d

-- what a path that stands at d has written after a token
abbrev pub written_at : ℕ → ComponentSet → List ℕ → ComponentSet
written_at zero s xs = adds s xs
written_at (suc d) s xs = s

-- The paths before token n: where each stands and what it has written. What a path has not written is missing from the set at its level;
-- what is missing from a set some path at its level has not written; and choices at openers not met yet change nothing.
pub record Levels (s : ComponentSet) (ks : List ComponentSet) (n : ℕ) (position : Path → ℕ) (written : Path → ComponentSet) : Type 0 where
  pub sound : (p : Path) (c : ℕ) → written p c ≡ false → level s ks (position p) c ≡ false
  pub complete : (d : ℕ) → d ≤ length ks → (c : ℕ) → level s ks d c ≡ false → (p : Path) × (position p ≡ d) × (written p c ≡ false)
  pub local_position : (p : Path) (i : ℕ) (b : Bool) → n ≤ i → position (change p i b) ≡ position p
  pub local_written : (p : Path) (i : ℕ) (b : Bool) → n ≤ i → (c : ℕ) → written (change p i b) c ≡ written p c

-- before the first token
pub levels_start : Levels nothing [] 0 (λ p. 0) (λ p. nothing)
levels_start = record {
  sound = λ p c h. refl;
  complete = λ d b c h. (λ i. true, omega arith, refl);
  local_position = λ p i b h. refl;
  local_written = λ p i b h c. refl;
}

-- ---- at a token

-- els and eif find a kept set
abbrev pub Ready : Flow → List ComponentSet → Type 0
Ready plain ks = Unit {0}
Ready opener ks = Unit {0}
Ready els [] = ⊥
Ready els (k ∷ ks) = Unit {0}
Ready eif [] = ⊥
Ready eif (k ∷ ks) = Unit {0}

at_sound : (f : Flow) (s : ComponentSet) (ks : List ComponentSet) → Ready f ks → (d c : ℕ) → level s ks d c ≡ false
    → level (current_at f s ks) (kept_at f s ks) (arrive f d) c ≡ false
at_sound plain s ks r d c h = h
at_sound opener s ks r d c h = h
at_sound els s [] r d c h = absurd r
at_sound els s (k ∷ ks) r zero c h = h
at_sound els s (k ∷ ks) r (suc zero) c h = h
at_sound els s (k ∷ ks) r (suc (suc d)) c h = h
at_sound eif s [] r d c h = absurd r
at_sound eif s (k ∷ ks) r zero c h = and_left (s c) (k c) h
at_sound eif s (k ∷ ks) r (suc zero) c h = and_right (s c) (k c) h
at_sound eif s (k ∷ ks) r (suc (suc d)) c h = h

-- a level before the token whose paths come to d, and from whose set the component is missing
abbrev From : Flow → ComponentSet → List ComponentSet → ℕ → ℕ → Type 0
From f s ks d c = (e : ℕ) × (e ≤ length ks) × (arrive f e ≡ d) × (level s ks e c ≡ false)

at_complete : (f : Flow) (s : ComponentSet) (ks : List ComponentSet) → Ready f ks → (d : ℕ) → d ≤ length (kept_at f s ks) → (c : ℕ)
    → level (current_at f s ks) (kept_at f s ks) d c ≡ false → From f s ks d c
at_complete plain s ks r d b c h = (d, b, refl, h)
at_complete opener s ks r d b c h = (d, b, refl, h)
at_complete els s [] r d b c h = absurd r
at_complete els s (k ∷ ks) r zero b c h = (1, omega arith, refl, h)
at_complete els s (k ∷ ks) r (suc zero) b c h = (0, omega arith, refl, h)
at_complete els s (k ∷ ks) r (suc (suc d)) b c h = (suc (suc d), b, refl, h)
at_complete eif s [] r d b c h = absurd r
at_complete eif s (k ∷ ks) r zero b c h = go (and_cases (s c) (k c) h)
  where
    go : (s c ≡ false) ⊎ (k c ≡ false) → From eif s (k ∷ ks) 0 c
    go (inl p) = (0, omega arith, refl, p)
    go (inr p) = (1, omega arith, refl, p)
at_complete eif s (k ∷ ks) r (suc d) b c h = (suc (suc d), omega arith, refl, h)

-- ---- a token writes

write_sound : (s : ComponentSet) (ks : List ComponentSet) (xs : List ℕ) (d : ℕ) (w : ComponentSet) (c : ℕ)
    → (w c ≡ false → level s ks d c ≡ false) → written_at d w xs c ≡ false → level (adds s xs) ks d c ≡ false
write_sound s ks xs zero w c f h = or_from (s c) (has xs c) (f (or_parts (w c) (has xs c) h).0) (or_parts (w c) (has xs c) h).1
write_sound s ks xs (suc d) w c f h = f h

write_local : (d : ℕ) (w v : ComponentSet) (xs : List ℕ) (c : ℕ) → w c ≡ v c → written_at d w xs c ≡ written_at d v xs c
write_local zero w v xs c h = ap (λ x. x || has xs c) h
write_local (suc d) w v xs c h = h

-- ---- after a token

after_sound : (f : Flow) (s : ComponentSet) (ks : List ComponentSet) (b : Bool) (d c : ℕ) → level s ks d c ≡ false
    → level s (kept_after f s ks) (leave f b d) c ≡ false
after_sound plain s ks b d c h = h
after_sound opener s ks true zero c h = h
after_sound opener s ks false zero c h = h
after_sound opener s ks b (suc d) c h = h
after_sound els s ks b d c h = h
after_sound eif s ks b d c h = h

module _ {s : ComponentSet} {ks : List ComponentSet} {n : ℕ} {position : Path → ℕ} {written : Path → ComponentSet}
    (l : Levels s ks n position written) where
  -- the paths at a token
  pub levels_at : (f : Flow) → Ready f ks → Levels (current_at f s ks) (kept_at f s ks) n (λ p. arrive f (position p)) written
  levels_at f r = record {
    sound = λ p c h. at_sound f s ks r (position p) c (l.sound p c h);
    complete = λ d b c h. go d c (at_complete f s ks r d b c h);
    local_position = λ p i b h. ap (arrive f) (l.local_position p i b h);
    local_written = l.local_written;
  }
    where
      go : (d c : ℕ) → From f s ks d c → (p : Path) × (arrive f (position p) ≡ d) × (written p c ≡ false)
      go d c (e, b, q, h) = let m = l.complete e b c h in (m.0, ap (arrive f) m.1 ∙ q, m.2)

  -- those that visit it write
  levels_write : (xs : List ℕ) → Levels (adds s xs) ks n position (λ p. written_at (position p) (written p) xs)
  levels_write xs = record {
    sound = λ p c h. write_sound s ks xs (position p) (written p) c (l.sound p c) h;
    complete = back;
    local_position = l.local_position;
    local_written = λ p i b h c. ap (λ d. written_at d (written (change p i b)) xs c) (l.local_position p i b h)
        ∙ write_local (position p) (written (change p i b)) (written p) xs c (l.local_written p i b h c);
  }
    where
      back : (d : ℕ) → d ≤ length ks → (c : ℕ) → level (adds s xs) ks d c ≡ false
          → (p : Path) × (position p ≡ d) × (written_at (position p) (written p) xs c ≡ false)
      back zero b c h =
          let q = l.complete zero b c (or_parts (s c) (has xs c) h).0 in
          (q.0, q.1, rw q.1 (or_from (written q.0 c) (has xs c) q.2 (or_parts (s c) (has xs c) h).1))
      back (suc d) b c h = let q = l.complete (suc d) b c h in (q.0, q.1, rw q.1 q.2)

  -- a path that visits the opener n, with the choice b there
  turned : (b : Bool) (c : ℕ) → s c ≡ false → (p : Path) × (p n ≡ b) × (position p ≡ 0) × (written p c ≡ false)
  turned b c h =
      let q = l.complete 0 (omega arith) c h in (
        change q.0 n b,
        change_same q.0 n b,
        l.local_position q.0 n b (omega arith) ∙ q.1,
        l.local_written q.0 n b (omega arith) c ∙ q.2,
      )

  Left : Flow → ℕ → ℕ → Type 0
  Left f d c = (p : Path) × (leave f (p n) (position p) ≡ d) × (written p c ≡ false)

  after_complete : (f : Flow) (d : ℕ) → d ≤ length (kept_after f s ks) → (c : ℕ) → level s (kept_after f s ks) d c ≡ false → Left f d c
  unfolding Left
  after_complete plain d b c h = l.complete d b c h
  after_complete els d b c h = l.complete d b c h
  after_complete eif d b c h = l.complete d b c h
  after_complete opener zero b c h = let q = turned true c h in (q.0, rw (q.1, q.2), q.3)
  after_complete opener (suc zero) b c h = let q = turned false c h in (q.0, rw (q.1, q.2), q.3)
  after_complete opener (suc (suc d)) b c h = let q = l.complete (suc d) (omega arith) c h in (q.0, rw q.1, q.2)

  -- an opener parts the paths
  levels_after : (f : Flow) → Levels s (kept_after f s ks) (suc n) (λ p. leave f (p n) (position p)) written
  unfolding Left
  levels_after f = record {
    sound = λ p c h. after_sound f s ks (p n) (position p) c (l.sound p c h);
    complete = after_complete f;
    local_position = λ p i b h. rw (change_other p i b n, l.local_position p i b (omega arith));
    local_written = λ p i b h c. l.local_written p i b (omega arith) c;
  }

-- one token
pub levels_step : {s : ComponentSet} {ks : List ComponentSet} {n : ℕ} {position : Path → ℕ} {written : Path → ComponentSet}
    → Levels s ks n position written → (f : Flow) (xs : List ℕ) → Ready f ks
    → Levels (adds (current_at f s ks) xs) (kept_after f (adds (current_at f s ks) xs) (kept_at f s ks)) (suc n)
    (λ p. leave f (p n) (arrive f (position p))) (λ p. written_at (arrive f (position p)) (written p) xs)
levels_step l f xs r = levels_after (levels_write (levels_at l f r) xs) f
