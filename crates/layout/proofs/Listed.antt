-- Numbers past all of a list are not in it; past the last listed opcode none is listed.
-- Assumes nothing.
use Prim.Native.Nat.{ℕ, ◌≤◌, ◌<◌}
use mathlib.Core.Bool.{Bool, true, false, ◌&&◌, false≢true}
use mathlib.Core.List.{List, [], ◌∷◌, ◌++◌}
use mathlib.Core.Path.{◌≡◌, ◌∙◌, refl, sym, ap}
use native.Mathlib.Decide.{dec_lt}
use native.Mathlib.Omega.{arith}
use lib.Dec.{T, ltb, ltb→lt}
use borrow.Author.Tests.{ne_eqb}
use Rattle.layout.specs.Opcodes.{is_in, first_opcodes, added_opcodes, row_of, shape_of_row, shape_of}
use Rattle.laws.proofs.Every.{both_left, both_right}

abbrev pub all_below : ℕ → List ℕ → Bool
all_below n [] = true
all_below n (k ∷ ks) = ltb k n && all_below n ks

-- a number past all of a list is not in it
pub not_in : (o n : ℕ) (ks : List ℕ) → n ≤ o → T (all_below n ks) → is_in o ks ≡ false
not_in o n [] h t = refl
not_in o n (k ∷ ks) h t =
    let l = ltb→lt k n (both_left (ltb k n) (all_below n ks) t) in
    rw (ne_eqb o k (λ e. omega (arith, e)))
    (not_in o n ks h (both_right (ltb k n) (all_below n ks) t))

pub past : (o : ℕ) → 46 ≤ o → row_of o ≡ 0
unfolding row_of
past o h = rw (not_in o 46 (first_opcodes ++ added_opcodes) h tt)

-- a listed opcode is one of the first 46 numbers
pub listed_below : (o : ℕ) → (shape_of o).listed ≡ true → o < 46
unfolding shape_of_row
listed_below o e =
    elim (dec_lt o 46) [
      | yes h ↦ h
      | no g ↦ absurd (false≢true (sym (ap (λ r. (shape_of_row r).listed) (past o (omega (arith, g)))) ∙ e))
    ]
