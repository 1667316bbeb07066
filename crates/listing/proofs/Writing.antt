-- How a text grows at the end of what a buffer holds.
-- Assumes nothing.
use Prim.Native.Nat.{ℕ, zero, suc, ◌+◌, ◌-◌, ◌≤◌, ◌<◌}
use mathlib.Core.List.{List, [], ◌∷◌, ◌++◌, append-nil, append_assoc}
use mathlib.Core.Path.{◌≡◌, refl, ◌∙◌, sym, ap}
use native.Mathlib.Numerals.{add-one}
use native.Mathlib.Omega.{arith}
use lib.ListN.{length, take, drop, set, replicate, take-append-drop}
use lib.Seq.{take-suc-set, length-take-le, drop-drop, drop-set-lt, take-append-add, take-append-le, drop-append-add, drop-append-le}
use Rattle.listing.specs.computed.Writers.{Appends, Writes}
use Rattle.listing.specs.declared.text.Writer.{Writer}

-- one byte more
pub one : (l : List ℕ) (at b : ℕ) → at + 1 ≤ length l → Appends (b ∷ []) 1 at l (set l at b) (at + 1)
one l at b h =
    let inside : at < length l = omega arith in
    record {
      text = rw add-one (take-suc-set l at b inside);
      onward = omega arith;
      room = omega arith;
      rest = drop-set-lt (at + 1) l at b (omega arith);
    }

-- nothing more
pub none : (l : List ℕ) (at most : ℕ) → Appends [] most at l l at
none l at most = record { text = sym (append-nil (take at l)); onward = omega arith; room = omega arith; rest = refl }

-- what stays from a place on stays from a later one on
pub onwards : (p r : ℕ) (m l : List ℕ) → p ≤ r → drop p m ≡ drop p l → drop r m ≡ drop r l
onwards p r m l h e =
    let further : p + (r - p) ≡ r = omega arith in
    rw (← further) (sym (drop-drop (r - p) p m) ∙ ap (drop (r - p)) e ∙ drop-drop (r - p) p l)

-- one item after another
infixl 65 ◌then◌
pub ◌then◌ : {a b : List ℕ} {j k at p r : ℕ} {l m n : List ℕ} → Appends a j at l m p → Appends b k p m n r → Appends (a ++ b) (j + k) at l n r
◌then◌ {a} {b} {at = at} {p = p} {r = r} {l = l} {m = m} e f =
    record {
      text = f.text ∙ ap (λ (t : List ℕ). t ++ b) e.text ∙ append_assoc (take at l) a b;
      onward = omega (arith, e.onward, f.onward);
      room = omega (arith, e.room, f.room);
      rest = f.rest ∙ onwards p r m l f.onward e.rest;
    }

-- one item of a writer after another
infixl 65 ◌and◌
pub ◌and◌ : {a b : List ℕ} {j k : ℕ} {u v w : Writer} → Writes a j u v → Writes b k v w → Writes (a ++ b) (j + k) u w
◌and◌ e f = record { same = f.same ∙ e.same; size = f.size ∙ e.size; appends = e.appends then f.appends }

-- more room than an item needs
pub within : {a : List ℕ} {j at r : ℕ} {l m : List ℕ} (k : ℕ) → j ≤ k → Appends a j at l m r → Appends a k at l m r
within k h e = record { text = e.text; onward = e.onward; room = omega (arith, h, e.room); rest = e.rest }

pub at_most : {a : List ℕ} {j : ℕ} {u v : Writer} (k : ℕ) → j ≤ k → Writes a j u v → Writes a k u v
at_most k h e = record { same = e.same; size = e.size; appends = within k h e.appends }

-- an item at the start of a part that was lent, seen in the whole
pub in_part : {item after : List ℕ} {most n : ℕ} (l : List ℕ) (at k : ℕ) → at ≤ length l → n ≤ length after
    → length after ≡ length (take k (drop at l)) → Appends item most 0 (take k (drop at l)) after n
    → Appends item most at l (take at l ++ (after ++ drop k (drop at l))) (at + n)
in_part {item} {after} {n = n} l at k h inside same a =
    let front = take at l in
    let part = take k (drop at l) in
    let behind = drop k (drop at l) in
    let seam : at + n ≡ length front + n = rw (length-take-le at l h) in
    record {
      text =
          rw seam
          (take-append-add front (after ++ behind) n
          ∙ ap (λ (t : List ℕ). front ++ t) (take-append-le n after behind inside ∙ a.text));
      onward = omega arith;
      room = omega (arith, a.room);
      rest =
          ap (λ (i : ℕ). drop i (front ++ (after ++ behind))) seam
          ∙ drop-append-add front (after ++ behind) n
          ∙ drop-append-le n after behind inside
          ∙ ap (λ (t : List ℕ). t ++ behind) a.rest
          ∙ sym (drop-append-le n part behind (omega (arith, inside, same)))
          ∙ ap (drop n) (take-append-drop k (drop at l))
          ∙ drop-drop n at l;
    }

-- a writer's item at the start of a buffer that was lent to it
pub from_start : {item before after : List ℕ} {most n : ℕ} {u v : Writer} → Writes item most u v → u.out.now ≡ before → u.at ≡ 0 → v.out.now ≡ after → n ≡ v.at →
    Appends item most 0 before after n
from_start e b z a l = rw (← b, ← a, l, ← z) e.appends

-- a part of equal bytes
pub take-replicate : (n m b : ℕ) → n ≤ m → take n (replicate m b) ≡ replicate n b
take-replicate zero m b h = refl
take-replicate (suc n) zero b h = absurd (omega arith)
take-replicate (suc n) (suc m) b h = ap (λ (t : List ℕ). b ∷ t) (take-replicate n m b (omega arith))
