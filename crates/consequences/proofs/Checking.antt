-- An answer of check is the only one, and an accepted program's paths are safe at every visit.
-- Assumes nothing.
use Rattle.std.specs.Prelude.{Err, Ok, Result}
use Prim.Native.Nat.{ℕ}
use mathlib.Core.List.{List, [], ◌∷◌, ◌++◌}
use mathlib.Core.Path.{◌≡◌, refl, sym, ap, ◌∙◌, subst}
use native.Mathlib.Omega.{arith}
use Rattle.bytecode.specs.Decode.{refusal}
use Rattle.bytecode.specs.Numbers.{IsFault, NotRefused, accepted_numbers, refused_numbers}
use Rattle.bytecode.specs.declared.answers.Refusal.{Refusal}
use Rattle.paths.specs.Paths.{PathToken, Visit, visited}
use Rattle.paths.specs.Nesting.{Closes}
use Rattle.paths.proofs.WrittenEarlier.{written_earlier}
use Rattle.faults.specs.Order.{tokens_of}
use Rattle.verifier.specs.Verdict.{program}
use Rattle.verifier.specs.Numbers.{checked_numbers}
use Rattle.verifier.specs.Exact.{Exact}
use Rattle.verifier.specs.declared.answers.Program.{Program}
use Rattle.verifier.proofs.BenchCases.{bench_checks}
use Rattle.consequences.specs.Checking.{OneAnswer, OnlyAnswer, Demand3Agrees, AcceptedSafe, PassesBench}

-- ---- the only answer

module _ (edition : ℕ) (bytes : List ℕ) where
  -- an exact answer with the numbers of an acceptance is that acceptance, and one with a fault's is that refusal
  pub is_accepted : (r : Result Program Refusal) (a : Program) → Exact edition bytes r → checked_numbers r ≡ accepted_numbers a.stage a.tokens → Ok a ≡ r
  is_accepted (Ok b) a x e = sym (ap (λ n. Ok (program n.stage n.value)) e)
  is_accepted (Err f) a x e = absurd (omega (arith, (x.numbered f refl).0, ap (λ n. n.number) e))

  is_refused : (r : Result Program Refusal) (f : Refusal) → IsFault f.number → checked_numbers r ≡ refused_numbers f.number f.token f.part → Err f ≡ r
  is_refused (Ok b) f h e = absurd (omega (arith, h.0, ap (λ n. n.number) e))
  is_refused (Err g) f h e = sym (ap (λ n. Err (refusal n.number n.token n.part)) e)

  same : (r other : Result Program Refusal) → Exact edition bytes r → Exact edition bytes other → r ≡ other
  same (Ok a) other x y =
      is_accepted other a y ((y.accepts a.stage a.tokens).1 ((x.accepts a.stage a.tokens).0 refl))
  same (Err f) other x y =
      let (h, e) = (y.refuses f.number f.token f.part).1 ((x.refuses f.number f.token f.part).0 (x.numbered f refl, refl)) in
      is_refused other f h e

pub one_answer : OneAnswer
one_answer = same

pub only_answer : OnlyAnswer
only_answer edition bytes r other c x = same edition bytes other r x c.exact

pub demand3_agrees : Demand3Agrees
demand3_agrees edition bytes r other d c = record {
  accepts = λ e. c.accepts.1 (d.accepts.0 e);
  unwritten = λ token part e. (c.unwritten token part).1 ((d.unwritten token part).0 e);
}

-- ---- paths

pub not_refused : (r : Result Program Refusal) (a : Program) → r ≡ Ok a → NotRefused (checked_numbers r)
not_refused r a e = ap (λ x. (checked_numbers x).number) e

-- every part of a list of visits that closes does
closes_later : (prog : List PathToken) (earlier : List Visit) (v : Visit) (later : List Visit) → Closes prog (earlier ++ (v ∷ later))
    → Closes prog (v ∷ later)
closes_later prog [] v later c = c
closes_later prog (u ∷ earlier) v later c = closes_later prog earlier v later c.1

pub accepted_safe : AcceptedSafe
accepted_safe edition bytes r a c e p earlier v later q =
    let prog = tokens_of edition bytes in
    let (safe, closes) = c.demand3.safe (not_refused r a e) p in
    record {
      written = written_earlier (visited p prog) safe earlier v later q;
      closed = (closes_later prog earlier v later (subst (Closes prog) q closes)).0;
    }

pub passes_bench : PassesBench
passes_bench k m r c = c.answer ∙ bench_checks k m
