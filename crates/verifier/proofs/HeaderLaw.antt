-- The faults of the header: their numbers, and what follows where there is one and where there is none.
-- Assumes nothing.
use Rattle.std.specs.Prelude.{Ok, Err, Result, ⊤}
use Prim.Native.Nat.{ℕ, ◌≤◌, ◌<◌}
use mathlib.Core.Bool.{Bool, true, false, cond}
use mathlib.Core.List.{List, [], ◌∷◌}
use mathlib.Core.Option.{Option, none, some, none-ne-some}
use mathlib.Core.Path.{◌≡◌, refl, sym, ap}
use native.Mathlib.Omega.{arith}
use native.Mathlib.Decide.{dec_lt}
use lib.Dec.{eqb, lit≤}
use lib.ListN.{length}
use borrow.Author.Tests.{lt-ltb, ltb-false}
use Rattle.bytecode.specs.Decode.{outcome}
use Rattle.bytecode.proofs.DecodeLaws.{told, not_told}
use Rattle.layout.specs.Programs.{token_count}
use Rattle.paths.specs.Paths.{TokenFault}
use Rattle.paths.specs.computed.Check.{verdict_of}
use Rattle.registers.specs.Limits.{limit_of}
use Rattle.faults.specs.Rules.{edition_unknown}
use Rattle.faults.specs.Order.{Rule, first_fault, header_rules, tokens_of}
use Rattle.faults.specs.computed.Faults.{refusal_at}
use Rattle.faults.specs.computed.Header.{header_fault}
use Rattle.faults.proofs.FaultLaws.{none_broken}
use Rattle.verifier.specs.Verdict.{answer_of, after_header, verdict}
use Rattle.verifier.specs.declared.answers.Program.{Program}
use Rattle.bytecode.specs.declared.answers.Refusal.{Refusal}

-- ---- the numbers are 1 to 8

abbrev From1To8 : ℕ → Type 0
From1To8 n = (0 < n) × (n ≤ 8)

Numbered : List Rule → Type 0
Numbered [] = Unit {0}
Numbered (r ∷ rs) = From1To8 r.number × Numbered rs

numbered : (rs : List Rule) → Numbered rs → (f : TokenFault) → first_fault rs ≡ some f → From1To8 f.number
unfolding Numbered
numbered [] h f e = absurd (none-ne-some f e)
numbered (r ∷ rs) h f e = go (λ k. numbered rs h.1 f k) r.broken e
  where
    go : (first_fault rs ≡ some f → From1To8 f.number) → (b : Bool)
        → cond b (some (record { number = r.number; part = r.part })) (first_fault rs) ≡ some f → From1To8 f.number
    go ih true k = let q : r.number ≡ f.number = cc in (omega (arith, h.0.0), omega (arith, h.0.1))
    go ih false k = ih k

module _ (edition : ℕ) (bytes : List ℕ) where
  abbrev first : Option TokenFault
  first = first_fault (header_rules edition bytes)

  pub header_numbered : (f : TokenFault) → first ≡ some f → From1To8 f.number
  unfolding Numbered
  header_numbered =
      numbered (header_rules edition bytes)
      ((lit≤ tt, lit≤ tt), ((lit≤ tt, lit≤ tt), ((lit≤ tt, lit≤ tt), ((lit≤ tt, lit≤ tt), ((lit≤ tt, lit≤ tt), ((lit≤ tt, lit≤ tt), ((lit≤ tt, lit≤ tt), ((lit≤ tt, lit≤ tt), tt))))))))

  -- ---- where the code found one, it is the answer

  pub header_refuses : (r : Refusal) → outcome (header_fault edition bytes) ≡ Err r → Err r ≡ verdict edition bytes
  unfolding header_fault verdict
  header_refuses r e = go first _ (told (header_fault edition bytes) r e)
    where
      go : (o : Option TokenFault) (later : Result Program Refusal) → (refusal_at 0 o ≡ r) × (r.number ≡ 0 → ⊥) → Err r ≡ after_header o later
      go none later (e, z) = absurd (z (ap (λ r. r.number) (sym e)))
      go (some f) later (e, z) = ap Err (sym e)

  -- ---- where it found none, the tokens give the answer

  pub header_right : (u : ⊤) → outcome (header_fault edition bytes) ≡ Ok u → first ≡ none
  unfolding header_fault
  header_right u e = go first refl (not_told (header_fault edition bytes) u e)
    where
      go : (o : Option TokenFault) → first ≡ o → (refusal_at 0 o).number ≡ 0 → first ≡ none
      go none e z = e
      go (some f) e z = let (low, high) = header_numbered f e in absurd (omega (arith, z, low))

  pub tokens_answer : first ≡ none → verdict edition bytes ≡ answer_of bytes (verdict_of (tokens_of edition bytes))
  unfolding verdict
  tokens_answer e = rw e

  -- fault 2 is absent, so the bytes hold a header
  pub has_header : first ≡ none → 7 ≤ length bytes
  has_header e = elim (dec_lt (length bytes) 7) [
    | yes l ↦ absurd (go (edition_unknown edition) _ _ (rw (lt-ltb (length bytes) 7 l) at e))
    | no l ↦ omega (arith, l)
  ]
    where
      go : (b : Bool) (f g : TokenFault) → cond b (some f) (some g) ≡ none → ⊥
      go true f g e = none-ne-some f (sym e)
      go false f g e = none-ne-some g (sym e)

  -- fault 8 is absent, so the tokens can be counted in 16 bits
  pub few_tokens : first ≡ none → token_count bytes < 65536
  unfolding limit_of
  few_tokens e =
      let most = ltb-false (limit_of edition) (token_count bytes) (none_broken (header_rules edition bytes) e).1.1.1.1.1.1.1.0 in
      let few = at_most (eqb edition 1) (eqb edition 2) (eqb edition 3) in
      omega (arith, most, few)
    where
      at_most : (a b c : Bool) → cond a 200 (cond b 1024 (cond c 2048 0)) ≤ 2048
      at_most true b c = omega arith
      at_most false true c = omega arith
      at_most false false true = omega arith
      at_most false false false = omega arith
