-- A word that fits is stored, and the buffer keeps its length.
-- Assumes nothing.
use Prim.Native.Nat.{ℕ, ◌+◌, ◌≤◌}
use mathlib.Core.Bool.{Bool, true, false, cond}
use mathlib.Core.List.{List, ◌∷◌, ◌++◌}
use mathlib.Core.Path.{◌≡◌, refl, ◌∙◌, sym, ap}
use native.Mathlib.Omega.{arith}
use lib.Dec.{leb}
use lib.ListN.{length, length-set, take, drop, get_or}
use lib.Seq.{sets, sets-eq}
use borrow.Author.Tests.{le-leb}
use Rattle.std.proofs.Math.Numerals.{add-one, add-two, add-three}
use Rattle.std.proofs.lemmas.List.{drop-drop, append_assoc}
use Rattle.std.specs.Int.{to_le_bytes, w64}
use Rattle.layout.specs.Layout.{word_bytes}
use Rattle.bytecode.specs.computed.Stored.{with_bytes, after_word}

pub word_stored : (buffer : List ℕ) (at word : ℕ) → at + 4 ≤ length buffer → after_word buffer at word ≡ with_bytes buffer at (word_bytes word)
unfolding after_word
word_stored buffer at word h = simp (le-leb _ _ h)

pub length_after_word : (buffer : List ℕ) (at word : ℕ) → length (after_word buffer at word) ≡ length buffer
unfolding after_word
length_after_word buffer at word = go (leb (at + 4) (length buffer))
  where
    go : (room : Bool) → length (cond room (with_bytes buffer at (word_bytes word)) buffer) ≡ length buffer
    go true = simp length-set
    go false = refl

-- a store in a buffer that is long enough: what it holds, and that it is long enough after
pub stored_within : (n : ℕ) (buffer after : List ℕ) (at word : ℕ) → at + 4 ≤ n → n ≤ length buffer → after ≡ after_word buffer at word
    → (after ≡ with_bytes buffer at (word_bytes word)) × (n ≤ length after)
stored_within n buffer after at word h l e =
    (e ∙ word_stored buffer at word (omega (arith, h, l)), omega (arith, l, ap length e ∙ length_after_word buffer at word))

-- the low four bytes of a word put in the place of the first four that a buffer holds from a place on
pub word_put : (buffer front rest bytes : List ℕ) (at word : ℕ) → at + 4 ≤ length buffer → front ≡ take at buffer → rest ≡ drop at buffer
    → bytes ≡ to_le_bytes w64 word
    → front ++ (get_or bytes 0 0 ∷ get_or bytes 1 0 ∷ get_or bytes 2 0 ∷ get_or bytes 3 0 ∷ drop 4 rest) ≡ after_word buffer at word
word_put buffer front rest bytes at word h f r b =
    rw (f, r, b, drop-drop 4 at buffer)
    (sym (word_stored buffer at word h ∙ same ∙ sets-eq (word_bytes word) buffer at h ∙ append_assoc (take at buffer) (word_bytes word) (drop (at + 4) buffer)))
  where
    same : with_bytes buffer at (word_bytes word) ≡ sets buffer at (word_bytes word)
    same = rw (add-one at, add-two at, add-three at) refl
