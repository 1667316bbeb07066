-- Demand 3 follows from exactness, whatever gave the answer.
-- Assumes nothing.
use mathlib.Core.Path.{refl}
use mathlib.Core.List.{List}
use mathlib.Core.Logic.{inl, inr}
use Prim.Native.Nat.{ℕ}
use native.Mathlib.Omega.{arith}
use lib.ListN.{length}
use Rattle.paths.specs.Paths.{Source, PathToken, Path, visited}
use Rattle.paths.specs.Unwritten.{ReadsUnwritten}
use Rattle.paths.specs.Faults.{Answer, CleanBefore, FirstFault, FirstUnwritten, TokenFaultsNumbered}
use Rattle.paths.specs.computed.Check.{verdict_of}
use Rattle.paths.specs.Demand.{ExactOverTokens, Demand3OverTokens}
use Rattle.paths.proofs.Cuts.{unwritten_cut}
use Rattle.paths.proofs.Closing.{closes}
use Rattle.paths.proofs.ExactVerdict.{exact}

-- a path that reads what it has not written does so on the program cut short there
safe : (prog : List PathToken) → CleanBefore prog (length prog) → (p : Path) (s : Source) (n : ℕ) → ¬ ReadsUnwritten s n (visited p prog)
safe prog clean p s n r = let (h, z) = unwritten_cut prog p s n r in (clean n h).2 s (p, z)

-- a first fault with the number 21 is that of an unwritten component
only_unwritten : (prog : List PathToken) (n part : ℕ) → TokenFaultsNumbered prog → FirstFault prog 21 n part → FirstUnwritten prog n part
only_unwritten prog n part numbered (inl (before, inl e)) = let h = numbered n _ e in absurd (omega arith)
only_unwritten prog n part numbered (inl (before, inr (inl (e, x, y, z)))) = absurd (omega arith)
only_unwritten prog n part numbered (inl (before, inr (inr (e, x, y, z)))) = (before, x, y, z)
only_unwritten prog n part numbered (inr (e, x, y, z)) = absurd (omega arith)

pub demand3_of : (prog : List PathToken) (answer : Answer) → TokenFaultsNumbered prog → ExactOverTokens prog answer
    → Demand3OverTokens prog answer
demand3_of prog answer numbered e = record {
  safe = λ a p.
      let (clean, none) = e.accepts.0 a in
      (safe prog clean p, closes prog (record { placed = λ j h. (clean j h).1; closed = none }) p);
  unwritten = λ n part. (
    λ a. only_unwritten prog n part numbered ((e.refuses 21 n part).0 a),
    λ f. (e.refuses 21 n part).1 (inl (f.0, inr (inr (refl, f.1, f.2, f.3)))),
  );
}

-- the check's own answer meets it
pub demand3 : (prog : List PathToken) → TokenFaultsNumbered prog → Demand3OverTokens prog (verdict_of prog)
demand3 prog numbered = demand3_of prog (verdict_of prog) numbered (exact prog)
