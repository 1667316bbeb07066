-- The check is exact: what it answers is the first fault in document 01's order, or that there is none.
-- Assumes nothing.
use mathlib.Core.Path.{◌≡◌, refl, sym, ap, ◌∙◌, subst}
use mathlib.Core.Bool.{Bool, true, true≢false}
use mathlib.Core.List.{List, [], ◌∷◌}
use mathlib.Core.Logic.{◌⊎◌, inl, inr}
use mathlib.Core.Option.{Option, some, none-ne-some}
use Prim.Native.Nat.{ℕ, zero, suc, ◌<◌}
use native.Mathlib.Omega.{arith}
use native.Mathlib.Decide.{dec_lt}
use lib.ListN.{length, take, length-take}
use Rattle.paths.specs.Paths.{Source, source1, source2, TokenFault, PathToken}
use Rattle.paths.specs.Unwritten.{SomePathReads}
use Rattle.paths.specs.Nesting.{Branch, open_branches, innermost, misplaced_from, misplaced_at}
use Rattle.paths.specs.Faults.{accepted, refused, NoFault, FaultIs, token_fault_at, CleanBefore, FaultAt, FirstFault, Faultless}
use Rattle.paths.specs.computed.Check.{ending, verdict_of}
use Rattle.paths.specs.Demand.{ExactOverTokens}
use Rattle.paths.proofs.Middle.{begin, number_begin, clean_begin, fault_begin}
use Rattle.paths.proofs.Classified.{Refuses, Ends, classified, good_begin}
use Rattle.paths.proofs.Cuts.{unwritten_cut}

-- ---- a token's first fault is one

held : {f g : TokenFault} → some f ≡ some g → f ≡ g
held e = cc

module _ (f : Option TokenFault) (b : Bool) (R : Source → Type 0) where
  clean_not_faulty : {number part : ℕ} → NoFault f b R → FaultIs f b R number part → ⊥
  clean_not_faulty (x, y, z) (inl e) = none-ne-some _ (sym x ∙ e)
  clean_not_faulty (x, y, z) (inr (inl (n, p, e, h))) = true≢false (sym h ∙ y)
  clean_not_faulty (x, y, z) (inr (inr (n, e, h, inl (p, r)))) = z source1 r
  clean_not_faulty (x, y, z) (inr (inr (n, e, h, inr (p, q, r)))) = z source2 r

  one_fault : {k l p q : ℕ} → FaultIs f b R k p → FaultIs f b R l q → (k ≡ l) × (p ≡ q)
  one_fault (inl x) (inl y) = let e = held (sym x ∙ y) in (ap (λ o. o.number) e, ap (λ o. o.part) e)
  one_fault (inl x) (inr (inl (n, p, e, h))) = absurd (none-ne-some _ (sym e ∙ x))
  one_fault (inl x) (inr (inr (n, e, h, r))) = absurd (none-ne-some _ (sym e ∙ x))
  one_fault (inr (inl (n, p, e, h))) (inl y) = absurd (none-ne-some _ (sym e ∙ y))
  one_fault (inr (inl (n, p, e, h))) (inr (inl (m, q, d, g))) = (cc, cc)
  one_fault (inr (inl (n, p, e, h))) (inr (inr (m, d, g, r))) = absurd (true≢false (sym h ∙ g))
  one_fault (inr (inr (n, e, h, r))) (inl y) = absurd (none-ne-some _ (sym e ∙ y))
  one_fault (inr (inr (n, e, h, r))) (inr (inl (m, q, d, g))) = absurd (true≢false (sym g ∙ h))
  one_fault (inr (inr (n, e, h, inl (p, r)))) (inr (inr (m, d, g, inl (q, s)))) = (cc, cc)
  one_fault (inr (inr (n, e, h, inl (p, r)))) (inr (inr (m, d, g, inr (q, x, s)))) = absurd (x r)
  one_fault (inr (inr (n, e, h, inr (p, y, r)))) (inr (inr (m, d, g, inl (q, s)))) = absurd (y s)
  one_fault (inr (inr (n, e, h, inr (p, y, r)))) (inr (inr (m, d, g, inr (q, x, s)))) = (cc, cc)

-- ---- a fault is at a token of the program

token_fault_inside : (ts : List PathToken) (n : ℕ) {f : TokenFault} → token_fault_at ts n ≡ some f → n < length ts
token_fault_inside [] n e = absurd (none-ne-some _ e)
token_fault_inside (t ∷ ts) zero e = omega arith
token_fault_inside (t ∷ ts) (suc n) e = let h = token_fault_inside ts n e in omega arith

misplaced_inside : (ts : List PathToken) (bs : List Branch) (k n : ℕ) → misplaced_from bs k ts n ≡ true → n < length ts
misplaced_inside [] bs k n e = absurd (true≢false (sym e))
misplaced_inside (t ∷ ts) bs k zero e = omega arith
misplaced_inside (t ∷ ts) bs k (suc n) e = let h = misplaced_inside ts _ (suc k) n e in omega arith

reads_inside : (prog : List PathToken) (s : Source) (n : ℕ) → SomePathReads s prog n → n < length prog
reads_inside prog s n (p, r) =
    let h = (unwritten_cut (take (suc n) prog) p s n r).0 in
    omega (arith, rw length-take at h)

fault_inside : (prog : List PathToken) (n : ℕ) {number part : ℕ} → FaultAt prog n number part → n < length prog
fault_inside prog n (inl e) = token_fault_inside prog n e
fault_inside prog n (inr (inl (x, y, e, h))) = misplaced_inside prog [] 0 n h
fault_inside prog n (inr (inr (x, e, h, inl (y, r)))) = reads_inside prog source1 n r
fault_inside prog n (inr (inr (x, e, h, inr (y, z, r)))) = reads_inside prog source2 n r

-- ---- the answer at the end

ending_accepted : (bs : List Branch) → ending bs ≡ accepted → bs ≡ []
ending_accepted [] e = refl
ending_accepted (b ∷ bs) e = let z : ◌≡◌ {A = ℕ} 0 1 = cc in absurd (omega arith)

ending_refused : (bs : List Branch) {number n part : ℕ} → ending bs ≡ refused number n part
    → (number ≡ 22) × (part ≡ 0) × (innermost bs ≡ some n)
ending_refused [] e = let z : ◌≡◌ {A = ℕ} 0 1 = cc in absurd (omega arith)
ending_refused (b ∷ bs) e = (cc, cc, cc)

ending_of : (bs : List Branch) {n : ℕ} → innermost bs ≡ some n → ending bs ≡ refused 22 n 0
ending_of [] e = absurd (none-ne-some _ e)
ending_of (b ∷ bs) e = cc

-- ---- the whole

module _ (prog : List PathToken) where
  -- the check refuses the first fault of a token, or answers as the branches are at the end
  abbrev Refused : Type 0
  Refused =
      (n : ℕ) × (number : ℕ) × (part : ℕ) × CleanBefore prog n × FaultAt prog n number part × (verdict_of prog ≡ refused number n part)

  abbrev Ended : Type 0
  Ended = CleanBefore prog (length prog) × (verdict_of prog ≡ ending (open_branches prog))

  outcome : Refuses begin prog (verdict_of prog) ⊎ Ends begin prog (verdict_of prog) → Refused ⊎ Ended
  outcome (inl (i, number, part, h, before, f, e)) =
      inl (i, number, part, λ j k. clean_begin prog j (before j k), fault_begin prog i f, rw number_begin at e)
  outcome (inr (before, e)) = inr (λ j k. clean_begin prog j (before j k), e)

  not_before : (n m : ℕ) {number part : ℕ} → CleanBefore prog m → FaultAt prog n number part → n < m → ⊥
  not_before n m before f h = clean_not_faulty _ _ _ (before n h) f

  same : (m n : ℕ) {k p l q : ℕ} → CleanBefore prog m → CleanBefore prog n → FaultAt prog m k p → FaultAt prog n l q → m ≡ n
  same m n before clean f g =
      elim (dec_lt m n) [
        | yes h ↦ absurd (not_before m n clean f h)
        | no h ↦ elim (dec_lt n m) [
          | yes i ↦ absurd (not_before n m before g i)
          | no i ↦ omega (arith, h, i)
        ]
      ]

  accepts_on : Refused ⊎ Ended → verdict_of prog ≡ accepted → Faultless prog
  accepts_on (inl (n, number, part, before, f, e)) v = let z : ◌≡◌ {A = ℕ} 0 1 = cc in absurd (omega arith)
  accepts_on (inr (before, e)) v = (before, ending_accepted (open_branches prog) (sym e ∙ v))

  accepts_off : Refused ⊎ Ended → Faultless prog → verdict_of prog ≡ accepted
  accepts_off (inl (n, number, part, before, f, e)) (clean, b) = absurd (not_before n (length prog) clean f (fault_inside prog n f))
  accepts_off (inr (before, e)) (clean, b) = e ∙ ap ending b

  module _ {number n part : ℕ} where
    refuses_on : Refused ⊎ Ended → verdict_of prog ≡ refused number n part → FirstFault prog number n part
    refuses_on (inl (m, k, p, before, f, e)) v =
        let x : m ≡ n = cc in
        let y : k ≡ number = cc in
        let z : p ≡ part = cc in
        inl (subst (CleanBefore prog) x before, rw (x, y, z) at f)
    refuses_on (inr (before, e)) v =
        let (x, y, z) = ending_refused (open_branches prog) (sym e ∙ v) in
        inr (x, y, before, z)

    refuses_off : Refused ⊎ Ended → FirstFault prog number n part → verdict_of prog ≡ refused number n part
    refuses_off (inl (m, k, p, before, f, e)) (inl (clean, g)) = go (same m n before clean f g)
      where
        go : m ≡ n → verdict_of prog ≡ refused number n part
        go q =
            let (x, y) = one_fault (token_fault_at prog n) (misplaced_at prog n) (λ s. SomePathReads s prog n) (rw q at f) g in
            e ∙ cc
    refuses_off (inl (m, k, p, before, f, e)) (inr (x, y, clean, z)) = absurd (not_before m (length prog) clean f (fault_inside prog m f))
    refuses_off (inr (before, e)) (inl (clean, g)) = absurd (not_before n (length prog) before g (fault_inside prog n g))
    refuses_off (inr (before, e)) (inr (x, y, clean, z)) = e ∙ ending_of (open_branches prog) z ∙ cc

pub exact : (prog : List PathToken) → ExactOverTokens prog (verdict_of prog)
exact prog =
    let o = outcome prog (classified prog begin good_begin) in
    record {
      accepts = (accepts_on prog o, accepts_off prog o);
      refuses = λ number n part. (refuses_on prog o, refuses_off prog o);
    }
