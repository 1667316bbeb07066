-- Components as numbers, register * 4 + component: lists of them, and what a set has or lacks of such a list.
-- Assumes nothing.
use Prim.Native.Nat.{ℕ, zero, suc, ◌+◌, ◌*◌, ◌/◌, ◌%◌, ◌^◌, ◌<◌}
use mathlib.Core.Bool.{Bool, true, false, not, ◌&&◌, ◌||◌, or_assoc}
use mathlib.Core.List.{List, [], ◌∷◌, ◌++◌, map}
use mathlib.Core.Path.{◌≡◌, refl, sym, ap, ◌∙◌}
use native.Mathlib.Omega.{arith}
use lib.Dec.{eqb}
use lib.Pow.{shr-shr}
use borrow.Author.Tests.{eqb-true, eqb-false, ne_eqb}
use Rattle.paths.specs.computed.Sets.{ComponentSet, has}
use Rattle.paths.specs.computed.Check.{lacks}
use Rattle.layout.specs.Swizzles.{bit_of, keep}
use Rattle.components.specs.Reads.{Component, register_components, rows_of, temporaries}
use Rattle.components.specs.computed.Written.{half_of, component_set}
use Rattle.components.specs.declared.written.Written.{Written}
use Rattle.components.proofs.Bits.{eqb_iff}

-- the numbers of some components of a temporary register
abbrev pub numbers : ℕ → List ℕ → List ℕ
numbers r cs = map (λ c. r * 4 + c) cs

temporaries_append : (r : ℕ) (cs : List ℕ) (rest : List Component)
    → temporaries (register_components 2 r cs ++ rest) ≡ numbers r cs ++ temporaries rest
temporaries_append r [] rest = refl
temporaries_append r (c ∷ cs) rest = ap (λ l. (r * 4 + c) ∷ l) (temporaries_append r cs rest)

pub temporaries_numbers : (r : ℕ) (cs : List ℕ) → temporaries (register_components 2 r cs) ≡ numbers r cs
temporaries_numbers r [] = refl
temporaries_numbers r (c ∷ cs) = ap (λ l. (r * 4 + c) ∷ l) (temporaries_numbers r cs)

-- components of a register that is no temporary are left out
pub temporaries_other : (k r : ℕ) → eqb k 2 ≡ false → (cs : List ℕ) → temporaries (register_components k r cs) ≡ []
temporaries_other k r e [] = refl
temporaries_other k r e (c ∷ cs) = rw e (temporaries_other k r e cs)

skip_other : (k r : ℕ) → eqb k 2 ≡ false → (cs : List ℕ) (rest : List Component)
    → temporaries (register_components k r cs ++ rest) ≡ temporaries rest
skip_other k r e [] rest = refl
skip_other k r e (c ∷ cs) rest = rw e (skip_other k r e cs rest)

pub temporaries_other_rows : (k r n : ℕ) (cs : List ℕ) → eqb k 2 ≡ false → temporaries (rows_of k r n cs) ≡ []
temporaries_other_rows k r zero cs e = refl
temporaries_other_rows k r (suc n) cs e = skip_other k r e cs (rows_of k (suc r) n cs) ∙ temporaries_other_rows k (suc r) n cs e

lacks_append : (s : ComponentSet) (xs ys : List ℕ) → lacks s (xs ++ ys) ≡ (lacks s xs || lacks s ys)
lacks_append s [] ys = refl
lacks_append s (x ∷ xs) ys = rw (lacks_append s xs ys) (sym (or_assoc (not (s x)) (lacks s xs) (lacks s ys)))

-- row by row
pub lacks_rows : (s : ComponentSet) (r n : ℕ) (cs : List ℕ)
    → lacks s (temporaries (rows_of 2 r (suc n) cs)) ≡ (lacks s (numbers r cs) || lacks s (temporaries (rows_of 2 (suc r) n cs)))
lacks_rows s r n cs =
    ap (lacks s) (temporaries_append r cs (rows_of 2 (suc r) n cs)) ∙ lacks_append s (numbers r cs) (temporaries (rows_of 2 (suc r) n cs))

-- component by component
pub lacks_keep : (s : ComponentSet) (r : ℕ) (b : Bool) (c : ℕ) (cs : List ℕ)
    → lacks s (numbers r (keep b c cs)) ≡ ((b && not (s (r * 4 + c))) || lacks s (numbers r cs))
lacks_keep s r true c cs = refl
lacks_keep s r false c cs = refl

pub has_keep : (n r : ℕ) (b : Bool) (c : ℕ) (cs : List ℕ)
    → has (numbers r (keep b c cs)) n ≡ ((b && eqb (r * 4 + c) n) || has (numbers r cs) n)
has_keep n r true c cs = refl
has_keep n r false c cs = refl

-- a number is a register and a component
pub number_eqb : (n r c : ℕ) → c < 4 → eqb (r * 4 + c) n ≡ (eqb r (n / 4) && eqb c (n % 4))
number_eqb n r c h = go (eqb r (n / 4)) refl
  where
    go : (t : Bool) → eqb r (n / 4) ≡ t → eqb (r * 4 + c) n ≡ (t && eqb c (n % 4))
    go true e = let q = eqb-true r (n / 4) e in eqb_iff (r * 4 + c) n c (n % 4) (λ z. omega arith) (λ z. omega arith)
    go false e = ne_eqb (r * 4 + c) n (λ z. eqb-false r (n / 4) e (omega arith))

-- a register's components, from the lowest bit of its place on
pub in_set : (s : Written) (r c : ℕ) → c < 4 → component_set s (r * 4 + c) ≡ bit_of (half_of s r / 2 ^ (r % 16 * 4)) c
in_set s r c h =
    let e : (r * 4 + c) / 4 ≡ r = omega arith in
    let m : (r * 4 + c) % 64 ≡ r % 16 * 4 + c = omega arith in
    rw (e, m, shr-shr (half_of s r) (r % 16 * 4) c)
