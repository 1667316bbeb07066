-- What a buffer holds after the code has stored bytes in it, one after another.
use Rattle.std.specs.Prelude.{ℕ, suc, ◌+◌, cond, List, [], ◌∷◌, leb, length, set}
use Rattle.layout.specs.Layout.{word_bytes}

-- a buffer with bytes stored from a place on: the first of them, and then those k further on
abbrev stored_after : List ℕ → ℕ → ℕ → List ℕ → List ℕ
stored_after buffer at k [] = buffer
stored_after buffer at k (b ∷ bytes) = stored_after (set buffer (at + k) b) at (suc k) bytes

abbrev pub with_bytes : List ℕ → ℕ → List ℕ → List ℕ
with_bytes buffer at [] = buffer
with_bytes buffer at (b ∷ bytes) = stored_after (set buffer at b) at 1 bytes

-- a buffer after a word's four bytes went to a place: where they don't all fit, it is as it was
unfoldable pub after_word : List ℕ → ℕ → ℕ → List ℕ
after_word buffer at word = cond (leb (at + 4) (length buffer)) (with_bytes buffer at (word_bytes word)) buffer
