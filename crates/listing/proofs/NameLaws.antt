-- The code's tables of names are the specification's, by tests that antt computes over all their rows.
-- Assumes nothing.
use Prim.Native.Nat.{ℕ, min, zero, suc, ◌+◌, ◌-◌, ◌*◌, ◌≤◌}
use mathlib.Core.Bool.{Bool, true, false, cond, ◌&&◌, ◌||◌}
use mathlib.Core.List.{List, [], ◌∷◌, ◌++◌}
use mathlib.Core.Path.{◌≡◌, refl, subst, sym}
use native.Mathlib.Decide.{dec_lt}
use native.Mathlib.Omega.{arith}
use Rattle.std.proofs.lemmas.Bool.{ne_eqb}
use lib.Dec.{T, eqb, eqb→eq}
use lib.ListN.{length, take, drop, get_or-eq_default}
use Rattle.layout.specs.Opcodes.{is_in, is_listed, first_opcodes, added_opcodes}
use Rattle.laws.proofs.Every.{both_left, both_right}
use Rattle.listing.specs.Text.{ascii}
use Rattle.listing.specs.Names.{opcode_name, register_names, register_name}
use Rattle.listing.specs.First.{stage_name}
use Rattle.listing.proofs.Bytes.{equal, equal→eq}

pub short : (n : ℕ) (l : List ℕ) → length (take n l) ≤ n
short zero l = omega arith
short (suc n) [] = omega arith
short (suc n) (b ∷ bs) = omega (arith, short n bs)

-- ---- opcodes

all : (ℕ → Bool) → List ℕ → Bool
all f [] = true
all f (k ∷ ks) = f k && all f ks

-- a test that passes at each number of a list passes at every number in it
member : (f : ℕ → Bool) (ks : List ℕ) → T (all f ks) → (o : ℕ) → T (is_in o ks) → T (f o)
unfolding all
member f [] t o i = absurd i
member f (k ∷ ks) t o i = go (eqb o k) refl i (member f ks (both_right (f k) (all f ks) t) o)
  where
    go : (b : Bool) → eqb o k ≡ b → T (b || is_in o ks) → (T (is_in o ks) → T (f o)) → T (f o)
    go true e i later = subst (λ (n : ℕ). T (f n)) (sym (eqb→eq o k (subst T (sym e) tt))) (both_left (f k) (all f ks) t)
    go false e i later = later i

-- the bytes of the code's table
abbrev pub opcodes : List ℕ
opcodes = ascii "movaddsubmuldivrcpminmaxfrcsqtrsqpowlogexpnrmsincoscrsdp3dp4absnegsatm33m44m34ddxddyifeineifgiflelseif...............kiltexsgeslt...seqsne"

module _ (o : ℕ) (listed : is_listed o ≡ true) where
  listed_rule : (f : ℕ → Bool) → T (all f (first_opcodes ++ added_opcodes)) → T (f o)
  listed_rule f t = member f (first_opcodes ++ added_opcodes) t o (subst T (sym listed) tt)

  pub opcode_name_lem : take (3 * o + 3 - 3 * o) (drop (3 * o) opcodes) ≡ opcode_name o
  unfolding all opcode_name
  opcode_name_lem = equal→eq _ _ (listed_rule (λ k. equal (take (3 * k + 3 - 3 * k) (drop (3 * k) opcodes)) (opcode_name k)) tt)

-- ---- registers and stages

-- a name that both stages have
pub both_name : (stage : ℕ) {name : List ℕ} → cond (eqb stage 0) name name ≡ name
both_name stage {name} = go (eqb stage 0)
  where
    go : (b : Bool) → cond b name name ≡ name
    go true = refl
    go false = refl

pub no_name : (stage kind : ℕ) → 7 ≤ kind → register_name stage kind ≡ []
unfolding register_name
no_name stage kind h = rw (get_or-eq_default register_names ("", "") h) (both_name stage)

pub stage_name_lem : (stage : ℕ) {n : ℕ} → n ≡ min stage 1 → stage_name n ≡ stage_name stage
stage_name_lem stage {n} e =
    elim (dec_lt stage 1) [
      | yes l ↦ let f : n ≡ stage = omega (arith, e, l) in rw f refl
      | no l ↦ simp (ne_eqb n 0 (λ z. omega (arith, e, l, z)), ne_eqb stage 0 (λ z. omega (arith, l, z)))
    ]
