-- The verdict meets demands 2 and 3: its answer is the first fault in document 01's order, or that there is none.
-- Assumes nothing.
use Rattle.std.specs.Prelude.{Err, Result}
use Prim.Native.Nat.{ℕ, zero, suc, ◌+◌}
use mathlib.Core.List.{List}
use mathlib.Core.Logic.{◌↔◌, ◌⊎◌, inl, inr}
use mathlib.Core.Option.{Option, none, some, none-ne-some}
use mathlib.Core.Path.{◌≡◌, refl, ◌∙◌, sym, ap, subst, subst⁻¹}
use native.Mathlib.Omega.{arith}
use lib.Dec.{lit≤}
use Rattle.bytecode.specs.Decode.{refusal}
use Rattle.bytecode.specs.Numbers.{Numbers, refused_numbers, accepted_numbers, IsFault, NotRefused}
use Rattle.bytecode.specs.declared.answers.Refusal.{Refusal}
use Rattle.registers.specs.Counts.{count_of}
use Rattle.paths.specs.Paths.{TokenFault, PathToken}
use Rattle.paths.specs.Faults.{Answer, accepted, refused, FirstFault, Faultless, TokenFaultsNumbered}
use Rattle.paths.specs.computed.Check.{verdict_of}
use Rattle.paths.proofs.ExactVerdict.{exact}
use Rattle.paths.proofs.PathDemand.{demand3}
use Rattle.layout.specs.Programs.{stage_of, token_count, token_at}
use Rattle.faults.specs.Order.{first_fault, header_rules, tokens_from, tokens_of}
use Rattle.verifier.specs.Verdict.{answer_of, after_header, verdict}
use Rattle.verifier.specs.Numbers.{checked_numbers}
use Rattle.verifier.specs.Exact.{HeaderRight, Exact, Demand3, Checks}
use Rattle.verifier.specs.declared.answers.Program.{Program}
use Rattle.verifier.proofs.HeaderLaw.{header_numbered}
use Rattle.faults.proofs.OwnFault.{token_numbered}

-- ---- the numbers of faults

-- those of the tokens by themselves are 9 to 19
pub tokens_numbered : (edition : ℕ) (bytes : List ℕ) (at left : ℕ) → TokenFaultsNumbered (tokens_from edition bytes at left)
tokens_numbered edition bytes at zero n f e = absurd (none-ne-some f e)
tokens_numbered edition bytes at (suc left) zero f e =
    token_numbered (λ k. count_of k edition (stage_of bytes)) edition (stage_of bytes) (token_at bytes at) f e
tokens_numbered edition bytes at (suc left) (suc n) f e = tokens_numbered edition bytes (at + 1) left n f e

-- the first fault of the tokens has a fault's number
first_numbered : (prog : List PathToken) (number n part : ℕ) → TokenFaultsNumbered prog → FirstFault prog number n part → IsFault number
first_numbered prog number n part numbered (inl (before, inl e)) = let (low, high) = numbered n _ e in (omega (arith, low), omega (arith, high))
first_numbered prog number n part numbered (inl (before, inr (inl f))) = (omega (arith, f.0), omega (arith, f.0))
first_numbered prog number n part numbered (inl (before, inr (inr f))) = (omega (arith, f.0), omega (arith, f.0))
first_numbered prog number n part numbered (inr f) = (omega (arith, f.0), omega (arith, f.0))

-- ---- what an answer's numbers tell of the header's fault and of the tokens' answer

-- a fault, where there is one, has a fault's number
abbrev HeaderNumbered : Option TokenFault → Type 0
HeaderNumbered none = Unit {0}
HeaderNumbered (some f) = IsFault f.number

abbrev LaterNumbered : Answer → Type 0
LaterNumbered accepted = Unit {0}
LaterNumbered (refused number n part) = IsFault number

module _ (bytes : List ℕ) where
  abbrev numbers_of : Option TokenFault → Answer → Numbers
  numbers_of o a = checked_numbers (after_header o (answer_of bytes a))

  accepts_on : (o : Option TokenFault) (a : Answer) → HeaderNumbered o → LaterNumbered a → NotRefused (numbers_of o a) → (o ≡ none) × (a ≡ accepted)
  accepts_on none accepted h l e = (refl, refl)
  accepts_on none (refused number n part) h l e = absurd (omega (arith, l.0, e))
  accepts_on (some f) a h l e = absurd (omega (arith, h.0, e))

  accepts_off : (o : Option TokenFault) (a : Answer) → o ≡ none → a ≡ accepted → numbers_of o a ≡ accepted_numbers (stage_of bytes) (token_count bytes)
  accepts_off o a x y = rw (x, y)

  refuses_on : (o : Option TokenFault) (a : Answer) (number n part : ℕ) → IsFault number → numbers_of o a ≡ refused_numbers number n part
      → ((o ≡ some (record { number = number; part = part })) × (n ≡ 0)) ⊎ ((o ≡ none) × (a ≡ refused number n part))
  refuses_on none accepted number n part k e = absurd (omega (arith, k.0, ap (λ x. x.number) e))
  refuses_on none (refused _ _ _) number n part k e = inr (refl, ap (λ x. refused x.number x.token x.part) e)
  refuses_on (some f) a number n part k e =
      inl (ap (λ x. some (record { number = x.number; part = x.part })) e, sym (ap (λ x. x.token) e))

  header_off : (o : Option TokenFault) (a : Answer) (number n part : ℕ) → o ≡ some (record { number = number; part = part }) → n ≡ 0
      → numbers_of o a ≡ refused_numbers number n part
  header_off o a number n part x y = rw (x, y)

  tokens_off : (o : Option TokenFault) (a : Answer) (number n part : ℕ) → o ≡ none → a ≡ refused number n part
      → numbers_of o a ≡ refused_numbers number n part
  tokens_off o a number n part x y = rw (x, y)

  refusal_numbered : (o : Option TokenFault) (a : Answer) → HeaderNumbered o → LaterNumbered a → (f : Refusal)
      → after_header o (answer_of bytes a) ≡ Err f → IsFault f.number
  refusal_numbered none accepted h l f e = cc
  refusal_numbered none (refused number n part) h l f e =
      let q : refusal number n part ≡ f = cc in
      subst (λ x. IsFault x.number) q l
  refusal_numbered (some g) a h l f e =
      let q : refusal g.number 0 g.part ≡ f = cc in
      subst (λ x. IsFault x.number) q h

-- ---- the whole

module _ (edition : ℕ) (bytes : List ℕ) where
  abbrev header : Option TokenFault
  header = first_fault (header_rules edition bytes)

  abbrev later : Answer
  later = verdict_of (tokens_of edition bytes)

  header_fault_lem : (f : TokenFault) → header ≡ some f → IsFault f.number
  header_fault_lem f e = let (low, high) = header_numbered edition bytes f e in (omega (arith, low), omega (arith, high))

  later_fault : (number n part : ℕ) → FirstFault (tokens_of edition bytes) number n part → IsFault number
  later_fault number n part = first_numbered (tokens_of edition bytes) number n part (tokens_numbered edition bytes 0 (token_count bytes))

  in_header : HeaderNumbered header
  in_header = go header refl
    where
      go : (o : Option TokenFault) → header ≡ o → HeaderNumbered o
      go none e = tt
      go (some f) e = header_fault_lem f e

  in_later : LaterNumbered later
  in_later = go later refl
    where
      go : (a : Answer) → later ≡ a → LaterNumbered a
      go accepted e = tt
      go (refused number n part) e = later_fault number n part (((exact (tokens_of edition bytes)).refuses number n part).0 e)

  -- the numbers of an acceptance are those of a program without a fault
  no_fault : NotRefused (numbers_of bytes header later) ↔ (HeaderRight edition bytes × Faultless (tokens_of edition bytes))
  no_fault =
      let x = exact (tokens_of edition bytes) in (
        λ e. let (h, a) = accepts_on bytes header later in_header in_later e in (h, x.accepts.0 a),
        λ g. ap (λ a. a.number) (accepts_off bytes header later g.0 (x.accepts.1 g.1)),
      )

  pub exact_check : Exact edition bytes (verdict edition bytes)
  unfolding verdict
  exact_check =
      let x = exact (tokens_of edition bytes) in
      record {
        accepts = λ s t. (
          λ e.
              let (h, f) = no_fault.0 (ap (λ a. a.number) e) in
              let q = sym e ∙ accepts_off bytes header later h (x.accepts.1 f) in
              (h, f, ap (λ a. a.stage) q, ap (λ a. a.value) q),
          λ g. accepts_off bytes header later g.0 (x.accepts.1 g.1) ∙ rw (g.2, g.3),
        );
        refuses = λ number n part. (
          λ e.
              elim (refuses_on bytes header later number n part e.0 e.1) [
                | inl f ↦ inl f
                | inr f ↦ inr (f.0, (x.refuses number n part).0 f.1)
              ],
          λ g.
              elim g [
                | inl f ↦ (header_fault_lem _ f.0, header_off bytes header later number n part f.0 f.1)
                | inr f ↦ (later_fault number n part f.1, tokens_off bytes header later number n part f.0 ((x.refuses number n part).1 f.1))
              ],
        );
        numbered = refusal_numbered bytes header later in_header in_later;
      }

  pub demand3_check : Demand3 edition bytes (verdict edition bytes)
  unfolding verdict
  demand3_check =
      let d = demand3 (tokens_of edition bytes) (tokens_numbered edition bytes 0 (token_count bytes)) in
      record {
        accepts = no_fault;
        safe = λ e p. d.safe (accepts_on bytes header later in_header in_later e).1 p;
        unwritten = λ n part. (
          λ e.
              elim (refuses_on bytes header later 21 n part (lit≤ tt, lit≤ tt) e) [
                | inl f ↦ let (low, high) = header_numbered edition bytes _ f.0 in absurd (omega (arith, high))
                | inr f ↦ (f.0, (d.unwritten n part).0 f.1)
              ],
          λ g. tokens_off bytes header later 21 n part g.0 ((d.unwritten n part).1 g.1),
        );
      }

  -- the promise of check, of what equals the verdict
  pub checks : (r : Result Program Refusal) → r ≡ verdict edition bytes → Checks edition bytes r
  checks r e = record {
    answer = e;
    exact = subst⁻¹ (λ r. Exact edition bytes r) e exact_check;
    demand3 = subst⁻¹ (λ r. Demand3 edition bytes r) e demand3_check;
  }
