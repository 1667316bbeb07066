-- A test that antt computes: two texts are equal.
-- Assumes nothing.
use Prim.Native.Nat.{ℕ}
use mathlib.Core.Bool.{Bool, true, false, ◌&&◌}
use mathlib.Core.List.{List, [], ◌∷◌}
use mathlib.Core.Path.{◌≡◌, refl}
use lib.Dec.{T, eqb, eqb→eq}
use Rattle.laws.proofs.Every.{both_left, both_right}

abbrev pub equal : List ℕ → List ℕ → Bool
equal [] [] = true
equal [] (b ∷ bs) = false
equal (a ∷ xs) [] = false
equal (a ∷ xs) (b ∷ bs) = eqb a b && equal xs bs

pub equal→eq : (xs bs : List ℕ) → T (equal xs bs) → xs ≡ bs
equal→eq [] [] t = refl
equal→eq [] (b ∷ bs) t = absurd t
equal→eq (a ∷ xs) [] t = absurd t
equal→eq (a ∷ xs) (b ∷ bs) t =
    let head = eqb→eq a b (both_left (eqb a b) (equal xs bs) t) in
    let tail = equal→eq xs bs (both_right (eqb a b) (equal xs bs) t) in
    cc
