-- What follows of a path that reads nothing unwritten: each component that it reads was written at a token that it visited earlier.
-- Assumes nothing.
use mathlib.Core.Path.{◌≡◌, refl}
use mathlib.Core.Bool.{Bool, true, false}
use mathlib.Core.List.Memᴰ
use mathlib.Core.List.{List, [], ◌∷◌, ◌++◌, Memᴰ}
use mathlib.Core.Logic.{◌⊎◌, inl, inr}
use Prim.Native.Nat.{ℕ}
use Rattle.paths.specs.Paths.{Source, Visit}
use Rattle.paths.specs.Unwritten.{Unwritten, ReadsUnwritten}
use Rattle.paths.specs.computed.Sets.{has}
use Rattle.paths.proofs.Threaded.{member_has, still_unwritten}

-- one of these visits wrote the component
abbrev pub Wrote : ℕ → List Visit → Type 0
Wrote c earlier = (u : Visit) × Memᴰ u earlier × Memᴰ c u.token.writes

wrote_or_not : (c : ℕ) (earlier : List Visit) → Wrote c earlier ⊎ Unwritten c earlier
wrote_or_not c [] = inr (λ u m. absurd (Memᴰ.not-nil m))
wrote_or_not c (v ∷ vs) = go (has v.token.writes c) refl (wrote_or_not c vs)
  where
    go : (b : Bool) → has v.token.writes c ≡ b → Wrote c vs ⊎ Unwritten c vs → Wrote c (v ∷ vs) ⊎ Unwritten c (v ∷ vs)
    go true e r = inl (v, Memᴰ.head refl, member_has v.token.writes c e)
    go false e (inl (u, m, w)) = inl (u, Memᴰ.tail m, w)
    go false e (inr h) = inr (still_unwritten v e h)

-- A path that reads nothing unwritten, as every path of an accepted program does, has written before each visit what that visit reads.
pub written_earlier : (visits : List Visit) → ((s : Source) (n : ℕ) → ¬ ReadsUnwritten s n visits)
    → (earlier : List Visit) (v : Visit) (later : List Visit) → visits ≡ earlier ++ (v ∷ later)
    → (s : Source) (c : ℕ) → Memᴰ c (v.token.reads s) → Wrote c earlier
written_earlier visits safe earlier v later e s c m = go (wrote_or_not c earlier)
  where
    go : Wrote c earlier ⊎ Unwritten c earlier → Wrote c earlier
    go (inl w) = w
    go (inr h) =
        absurd (safe s v.number (record {
          earlier = earlier;
          visit = v;
          later = later;
          on_the_way = e;
          at_token = refl;
          component = c;
          reads_it = m;
          unwritten = h;
        }))
