-- What a path has written as a set that goes from visit to visit: it says the same as document 01's sentence on unwritten components.
-- Assumes nothing.
use mathlib.Core.Path.{◌≡◌, refl, sym, ap, ◌∙◌, subst⁻¹}
use mathlib.Core.Bool.{Bool, true, false, ◌||◌, or-true, true≢false}
use mathlib.Core.List.Memᴰ
use mathlib.Core.List.{List, [], ◌∷◌, ◌++◌, Memᴰ}
use mathlib.Core.Logic.{◌⊎◌, inl, inr, ◌↔◌}
use Prim.Native.Nat.{ℕ}
use lib.Dec.{eqb, eqb→eq, eqb_refl}
use Rattle.std.proofs.lemmas.Bool.{or_parts}
use Rattle.laws.proofs.Every.{is_true}
use Rattle.paths.specs.Paths.{Source, Visit}
use Rattle.paths.specs.Unwritten.{Unwritten, ReadsUnwritten}
use Rattle.paths.specs.computed.Sets.{ComponentSet, nothing, has, adds}

-- some component of the list is not in the set
abbrev pub Lacks : ComponentSet → List ℕ → Type 0
Lacks s xs = (c : ℕ) × Memᴰ c xs × (s c ≡ false)

-- among these visits one to token n reads, through the source, a component that is not in the set so far
abbrev pub ReadsFrom : ComponentSet → Source → ℕ → List Visit → Type 0
ReadsFrom written s n [] = ⊥
ReadsFrom written s n (v ∷ later) =
    ((v.number ≡ n) × Lacks written (v.token.reads s)) ⊎ ReadsFrom (adds written v.token.writes) s n later

-- ---- a list and its set

pub has_member : {c : ℕ} {xs : List ℕ} → Memᴰ c xs → has xs c ≡ true
has_member {c = c} (Memᴰ.head {xs = xs} p) = ap (λ k. eqb k c || has xs c) (sym p) ∙ rw (is_true (eqb c c) (eqb_refl c))
has_member {c = c} (Memᴰ.tail {x = x} m) = rw (has_member m) (or-true (eqb x c))

pub member_has : (xs : List ℕ) (c : ℕ) → has xs c ≡ true → Memᴰ c xs
member_has [] c h = absurd (true≢false (sym h))
member_has (x ∷ xs) c h = go (eqb x c) refl h (member_has xs c)
  where
    go : (b : Bool) → eqb x c ≡ b → (b || has xs c) ≡ true → (has xs c ≡ true → Memᴰ c xs) → Memᴰ c (x ∷ xs)
    go true e k ih = Memᴰ.head (sym (eqb→eq x c (rw e tt)))
    go false e k ih = Memᴰ.tail (ih k)

lacks_member : (xs : List ℕ) (c : ℕ) → ¬ Memᴰ c xs → has xs c ≡ false
lacks_member xs c h = go (has xs c) refl
  where
    go : (b : Bool) → has xs c ≡ b → b ≡ false
    go true e = absurd (h (member_has xs c e))
    go false e = refl

-- one visit more, which does not write the component
pub still_unwritten : (v : Visit) {c : ℕ} {earlier : List Visit} → has v.token.writes c ≡ false → Unwritten c earlier
    → Unwritten c (v ∷ earlier)
still_unwritten v {c} lacked h u (Memᴰ.head p) m =
    true≢false (sym (ap (λ x. has x.token.writes c) (sym p) ∙ has_member m) ∙ lacked)
still_unwritten v lacked h u (Memᴰ.tail e) m = h u e m

-- ---- both ways

module _ (s : Source) (n : ℕ) where
  -- one visit more before all of these, which does not write the component
  one_earlier : {visits : List Visit} (v : Visit) (r : ReadsUnwritten s n visits) → has v.token.writes r.component ≡ false
      → ReadsUnwritten s n (v ∷ visits)
  one_earlier v r lacked = record {
    earlier = v ∷ r.earlier;
    visit = r.visit;
    later = r.later;
    on_the_way = ap (λ l. v ∷ l) r.on_the_way;
    at_token = r.at_token;
    component = r.component;
    reads_it = r.reads_it;
    unwritten = still_unwritten v lacked r.unwritten;
  }

  sentence : (visits : List Visit) (w : ComponentSet) → ReadsFrom w s n visits
      → (r : ReadsUnwritten s n visits) × (w r.component ≡ false)
  unfolding one_earlier
  sentence [] w r = absurd r
  sentence (v ∷ later) w (inl (e, (c, m, l))) = (
    record {
      earlier = [];
      visit = v;
      later = later;
      on_the_way = refl;
      at_token = e;
      component = c;
      reads_it = m;
      unwritten = λ u e. absurd (Memᴰ.not-nil e);
    },
    l,
  )
  sentence (v ∷ later) w (inr r) =
      let (q, l) = sentence later (adds w v.token.writes) r in
      let (kept, lacked) = or_parts (w q.component) (has v.token.writes q.component) l in
      (one_earlier v q lacked, kept)

  threaded : (earlier : List Visit) (v : Visit) (later : List Visit) (w : ComponentSet) → v.number ≡ n
      → (c : ℕ) → Memᴰ c (v.token.reads s) → Unwritten c earlier → w c ≡ false → ReadsFrom w s n (earlier ++ (v ∷ later))
  threaded [] v later w e c m unwritten l = inl (e, (c, m, l))
  threaded (x ∷ earlier) v later w e c m unwritten l =
      inr (threaded earlier v later (adds w x.token.writes) e c m (λ u k. unwritten u (Memᴰ.tail k))
      (rw (l, lacks_member x.token.writes c (unwritten x (Memᴰ.head refl)))))

  pub threaded_is_sentence : (visits : List Visit) → ReadsFrom nothing s n visits ↔ ReadsUnwritten s n visits
  threaded_is_sentence visits = (
    λ r. (sentence visits nothing r).0,
    λ r. subst⁻¹ (λ l. ReadsFrom nothing s n l) r.on_the_way
        (threaded r.earlier r.visit r.later nothing r.at_token r.component r.reads_it r.unwritten refl),
  )
