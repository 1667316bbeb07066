-- What the check answers: the first fault of the tokens that are left, or what is open at their end.
-- Assumes nothing.
use mathlib.Core.Path.{◌≡◌, refl, sym, ap, ◌∙◌}
use mathlib.Core.Bool.{Bool, true, false, not, ◌||◌, true≢false, false≢true, or-true}
use mathlib.Core.List.{List, [], ◌∷◌, Memᴰ}
use mathlib.Core.Logic.{◌⊎◌, inl, inr, ◌↔◌}
use mathlib.Core.Option.{Option, none, some}
use Prim.Native.Nat.{ℕ, zero, suc, ◌<◌}
use native.Mathlib.Omega.{arith}
use lib.ListN.{length}
use Rattle.paths.specs.Paths.{Flow, plain, opener, els, eif, Source, source1, source2, TokenFault, PathToken}
use Rattle.paths.specs.Paths.{Path, arrive, visit_of, visit_at}
use Rattle.paths.specs.computed.Sets.{ComponentSet}
use Rattle.paths.specs.Nesting.{Branch, branches_after, open_branches_from, misplaced}
use Rattle.paths.specs.Faults.{Answer, refused, NoFault, FaultIs}
use Rattle.paths.specs.computed.Check.{kept_at, kept_after, set_before, lacks, judge, ending, check_from}
use Rattle.paths.proofs.Threaded.{Lacks, ReadsFrom}
use Rattle.paths.proofs.Levels.{Levels, Ready, levels_start, levels_at, levels_step}
use Rattle.paths.proofs.Middle.{Middle, begin, past, number_from, SomeReads, CleanFrom, FaultFrom}
use Rattle.paths.proofs.Middle.{fault_map, no_fault_map, clean_later, fault_later}

-- ---- the state of the check against the paths

pub record Good (m : Middle) : Type 0 where
  pub levels : Levels m.state.current m.state.kept m.number m.position m.written
  pub size : length m.state.kept ≡ length m.state.open_branches

pub good_begin : Good begin
good_begin = record { levels = levels_start; size = refl }

ready : (f : Flow) (bs : List Branch) (ks : List ComponentSet) → length ks ≡ length bs → misplaced f bs ≡ false → Ready f ks
ready plain bs ks e h = tt
ready opener bs ks e h = tt
ready els [] ks e h = absurd (true≢false h)
ready els (b ∷ bs) [] e h = absurd (omega arith)
ready els (b ∷ bs) (k ∷ ks) e h = tt
ready eif [] ks e h = absurd (true≢false h)
ready eif (b ∷ bs) [] e h = absurd (omega arith)
ready eif (b ∷ bs) (k ∷ ks) e h = tt

sized : (f : Flow) (n : ℕ) (bs : List Branch) (ks : List ComponentSet) (s w : ComponentSet)
    → length ks ≡ length bs → misplaced f bs ≡ false
    → length (kept_after f w (kept_at f s ks)) ≡ length (branches_after f n bs)
sized plain n bs ks s w e h = e
sized opener n bs ks s w e h = ap suc e
sized els n [] ks s w e h = absurd (true≢false h)
sized els n (b ∷ bs) [] s w e h = e
sized els n (b ∷ bs) (k ∷ ks) s w e h = e
sized eif n [] ks s w e h = absurd (true≢false h)
sized eif n (b ∷ bs) [] s w e h = absurd (omega arith)
sized eif n (b ∷ bs) (k ∷ ks) s w e h = omega arith

-- ---- lacking

lacks_on : (s : ComponentSet) {c : ℕ} {xs : List ℕ} → Memᴰ c xs → s c ≡ false → lacks s xs ≡ true
lacks_on s (Memᴰ.head p) e = rw (ap s (sym p) ∙ e)
lacks_on s (Memᴰ.tail {x = x} m) e = rw (lacks_on s m e) (or-true (not (s x)))

lacks_off : (s : ComponentSet) (xs : List ℕ) → lacks s xs ≡ true → Lacks s xs
lacks_off s [] h = absurd (false≢true h)
lacks_off s (x ∷ xs) h = go (λ k. lacks_off s xs k) (s x) refl h
  where
    go : (lacks s xs ≡ true → Lacks s xs) → (b : Bool) → s x ≡ b → (not b || lacks s xs) ≡ true → Lacks s (x ∷ xs)
    go ih true e k = let r = ih k in (r.0, Memᴰ.tail r.1, r.2)
    go ih false e k = (x, Memᴰ.head refl, e)

-- ---- one token

module _ (t : PathToken) (m : Middle) (g : Good m) (placed : misplaced t.flow m.state.open_branches ≡ false) where
  found : Ready t.flow m.state.kept
  found = ready t.flow m.state.open_branches m.state.kept g.size placed

  good_past : Good (past t m)
  good_past = record {
    levels = levels_step g.levels t.flow t.writes found;
    size = sized t.flow m.number m.state.open_branches m.state.kept m.state.current _ g.size placed;
  }

  -- the set at the token lacks what it reads exactly when some path reads there what it has not written
  reads_here : (s : Source) (ts : List PathToken) → (lacks (set_before t m.state) (t.reads s) ≡ true) ↔ SomeReads m s (t ∷ ts) 0
  reads_here s ts = (off, λ r. on (arrive t.flow (m.position r.0)) r.0 refl r.1)
    where
      off : lacks (set_before t m.state) (t.reads s) ≡ true → SomeReads m s (t ∷ ts) 0
      off k =
          let l = lacks_off _ (t.reads s) k in
          let q = (levels_at g.levels t.flow found).complete 0 (omega arith) l.0 l.2 in
          (q.0, rw q.1 (inl (refl, (l.0, l.1, q.2))))

      on : (d : ℕ) (p : Path) → arrive t.flow (m.position p) ≡ d
          → ReadsFrom (m.written p) s m.number (visit_at d (visit_of m.number t) [])
          → lacks (set_before t m.state) (t.reads s) ≡ true
      on zero p e (inl (q, (c, mem, l))) = lacks_on _ mem (rw e at ((levels_at g.levels t.flow found).sound p c l))
      on zero p e (inr r) = absurd r
      on (suc d) p e r = absurd r

-- ---- the order of a token's faults

-- the token has a fault, and is judged by the first; or it has none, and is passed over
abbrev Judged : Option TokenFault → Bool → (Source → Bool) → Bool → Bool → Type 0
Judged f b l b₁ b₂ =
    ((number : ℕ) × (part : ℕ) × FaultIs f b (λ s. l s ≡ true) number part
    × ((n : ℕ) (later : Answer) → judge f b b₁ b₂ n later ≡ refused number n part))
    ⊎ (NoFault f b (λ s. l s ≡ true) × ((n : ℕ) (later : Answer) → judge f b b₁ b₂ n later ≡ later))

judged : (f : Option TokenFault) (b : Bool) (l : Source → Bool) (b₁ b₂ : Bool) → l source1 ≡ b₁ → l source2 ≡ b₂
    → Judged f b l b₁ b₂
judged (some f) b l b₁ b₂ e₁ e₂ = inl (f.number, f.part, inl refl, λ n later. refl)
judged none true l b₁ b₂ e₁ e₂ = inl (20, 0, inr (inl (refl, refl, refl, refl)), λ n later. refl)
judged none false l true b₂ e₁ e₂ = inl (21, 2, inr (inr (refl, refl, refl, inl (refl, e₁))), λ n later. refl)
judged none false l false true e₁ e₂ =
    inl (21, 3, inr (inr (refl, refl, refl, inr (refl, λ h. true≢false (sym h ∙ e₁), e₂))), λ n later. refl)
judged none false l false false e₁ e₂ =
    inr ((refl, refl, elim [ source1 ↦ λ h. true≢false (sym h ∙ e₁) | source2 ↦ λ h. true≢false (sym h ∙ e₂) ]), λ n later. refl)

-- ---- all tokens

abbrev pub CleanBeforeFrom : Middle → List PathToken → ℕ → Type 0
CleanBeforeFrom m ts i = (j : ℕ) → j < i → CleanFrom m ts j

-- the answer is the first fault, at the i-th token
abbrev pub Refuses : Middle → List PathToken → Answer → Type 0
Refuses m ts answer =
    (i : ℕ) × (number : ℕ) × (part : ℕ) × (i < length ts) × CleanBeforeFrom m ts i × FaultFrom m ts i number part
    × (answer ≡ refused number (number_from m.number i) part)

-- the tokens have no fault, and the answer is that of the open branches
abbrev pub Ends : Middle → List PathToken → Answer → Type 0
Ends m ts answer =
    CleanBeforeFrom m ts (length ts) × (answer ≡ ending (open_branches_from m.state.open_branches m.number ts))

abbrev Outcome : Middle → List PathToken → Answer → Type 0
Outcome m ts answer = Refuses m ts answer ⊎ Ends m ts answer

module _ (t : PathToken) (ts : List PathToken) (m : Middle) where
  clean_more : CleanFrom m (t ∷ ts) 0 → (i : ℕ) → CleanBeforeFrom (past t m) ts i → CleanBeforeFrom m (t ∷ ts) (suc i)
  clean_more clean i before zero k = clean
  clean_more clean i before (suc j) k = clean_later t m ts j (before j (omega arith))

  outcome_later : CleanFrom m (t ∷ ts) 0 → {answer later : Answer} → answer ≡ later
      → Outcome (past t m) ts later → Outcome m (t ∷ ts) answer
  outcome_later clean e (inl (i, number, part, l, before, f, q)) =
      inl (suc i, number, part, omega arith, clean_more clean i before, fault_later t m ts i f, e ∙ q)
  outcome_later clean e (inr (before, q)) = inr (clean_more clean (length ts) before, e ∙ q)

  abbrev misplaced_here : Bool
  misplaced_here = misplaced t.flow m.state.open_branches

  abbrev lacks_here : Source → Bool
  lacks_here s = lacks (set_before t m.state) (t.reads s)

  outcome_here : Good m → (later : Answer) → (misplaced_here ≡ false → Outcome (past t m) ts later)
      → Judged t.fault misplaced_here lacks_here (lacks_here source1) (lacks_here source2)
      → Outcome m (t ∷ ts) (judge t.fault misplaced_here (lacks_here source1) (lacks_here source2) m.number later)
  outcome_here g later ih (inl (number, part, f, e)) =
      inl (0, number, part, omega arith, λ j k. absurd (omega arith), fault_map (λ h s. reads_here t m g h s ts) f, e m.number later)
  outcome_here g later ih (inr (f, e)) =
      outcome_later (no_fault_map (λ s. reads_here t m g f.1 s ts) f) (e m.number later) (ih f.1)

pub classified : (ts : List PathToken) (m : Middle) → Good m → Outcome m ts (check_from m.state m.number ts)
unfolding check_from
classified [] m g = inr (λ j k. absurd (omega arith), refl)
classified (t ∷ ts) m g =
    outcome_here t ts m g _ (λ h. classified ts (past t m) (good_past t m g h)) (judged t.fault _ (lacks_here t ts m) _ _ refl refl)
