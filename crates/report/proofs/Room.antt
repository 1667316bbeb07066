-- Room for a text, and the place after it.
-- Assumes nothing.
use Rattle.std.specs.Prelude.{Ok}
use Prim.Native.Nat.{ℕ, ◌+◌, ◌≤◌}
use mathlib.Core.Bool.{Bool, true, false}
use mathlib.Core.List.{List, ◌++◌}
use mathlib.Core.Path.{◌≡◌, refl, ◌∙◌, ap}
use native.Mathlib.Omega.{arith}
use lib.Dec.{leb}
use lib.ListN.{length, take, length-append}
use lib.Seq.{length-take-le}
use borrow.Author.Tests.{leb-true, leb-false}
use Rattle.listing.specs.Printing.{Prints}
use Rattle.listing.specs.computed.Writers.{Appends}
use Rattle.listing.proofs.PrintLaws.{printed}
use Rattle.listing.proofs.Writing.{◌then◌, within}
use Rattle.report.specs.computed.Writers.{HasRoom, for_any, for_this, Puts, Measured, Fits}

-- ---- room

-- for the text itself in both cases, since it is no longer than such a text can be
pub room_for : (text : List ℕ) {most at size : ℕ} → length text ≤ most → HasRoom text most at size → at + length text ≤ size
room_for text h (for_any l) = omega (arith, h, l)
room_for text h (for_this l) = l

-- the place is in the buffer
pub place_in : (text : List ℕ) {most at size : ℕ} → HasRoom text most at size → at ≤ size
place_in text (for_any l) = omega (arith, l)
place_in text (for_this l) = omega (arith, l)

-- for a text's first part
pub front : (a b : List ℕ) (j : ℕ) {most at size : ℕ} → j ≤ most → HasRoom (a ++ b) most at size → HasRoom a j at size
front a b j h (for_any l) = for_any (omega (arith, h, l))
front a b j h (for_this l) = for_this (omega (arith, l, length-append a b))

-- for its second part, after the first
pub behind : (a b : List ℕ) {j k most at p size : ℕ} {l m : List ℕ} → j + k ≤ most → Puts a j at l m p → HasRoom (a ++ b) most at size → HasRoom b k p size
behind a b h e (for_any l) = for_any (omega (arith, h, l, e.appends.room))
behind a b h e (for_this l) = for_this (omega (arith, l, length-append a b, e.ends))

-- ---- what was put

-- a text that fits ends where its length says
pub exactly : {text : List ℕ} {at most r : ℕ} {l m : List ℕ} → Appends text (length text) at l m r → length text ≤ most → at + length text ≤ length l
    → length m ≡ length l → Puts text most at l m r
exactly {text} {at} {most} {r} {l} {m} a s h k =
    let written : length (take r m) ≡ r = length-take-le r m (omega (arith, a.room, h, k)) in
    let before : length (take at l) ≡ at = length-take-le at l (omega (arith, h)) in
    let both : length (take r m) ≡ length (take at l) + length text = ap length a.text ∙ length-append (take at l) text in
    record { appends = within most s a; ends = omega (arith, written, before, both) }

-- the place after a text that had room
pub ends_in : {text : List ℕ} {most at size r : ℕ} {l m : List ℕ} → HasRoom text most at size → Puts text most at l m r → r ≤ size
ends_in (for_any h) e = omega (arith, h, e.appends.room)
ends_in (for_this h) e = omega (arith, h, e.ends)

-- one text after another
pub in_turn : {a b : List ℕ} {j k most at p r : ℕ} {l m n : List ℕ} → j + k ≤ most → Puts a j at l m p → Puts b k p m n r → Puts (a ++ b) most at l n r
in_turn {a} {b} {most = most} h e f =
    record { appends = within most h (e.appends then f.appends); ends = omega (arith, e.ends, f.ends, length-append a b) }

-- a text of a kind that can have more
pub wider : {text : List ℕ} {j most at r : ℕ} {l m : List ℕ} → j ≤ most → Puts text j at l m r → Puts text most at l m r
wider {most = most} h e = record { appends = within most h e.appends; ends = e.ends }

-- the length of a text that was put at a buffer's start
pub put_length : {text : List ℕ} {most r : ℕ} {l m : List ℕ} → Puts text most 0 l m r → Measured text most r
put_length e = record { is = omega (arith, e.ends); short = omega (arith, e.appends.room) }

-- a whole text in a buffer that has room for it
pub put_printed : {text before after : List ℕ} {most n : ℕ} → Puts text most 0 before after n → HasRoom text most 0 (length before)
    → length after ≡ length before → Prints text before after (Ok n) × (length text ≤ most)
put_printed {text} {n = n} e h k =
    let a = e.appends in
    let itself : Appends text n 0 _ _ n = record { text = a.text; onward = a.onward; room = omega arith; rest = a.rest } in
    ((printed itself (ends_in h e) k).0, omega (arith, e.ends, a.room))

-- ---- lengths

-- of two texts one after the other
pub add_lengths : {a b : List ℕ} {j k most n m : ℕ} → j + k ≤ most → Measured a j n → Measured b k m → Measured (a ++ b) most (n + m)
add_lengths {a} {b} h e f =
    record { is = omega (arith, e.is, f.is, length-append a b); short = omega (arith, h, e.short, f.short) }

-- of a kind of text that can have more
pub longer : {text : List ℕ} {j most n : ℕ} → j ≤ most → Measured text j n → Measured text most n
longer h e = record { is = e.is; short = omega (arith, h, e.short) }

-- whether a text of this length fits
pub by_length : {text : List ℕ} {n : ℕ} (size : ℕ) → Measured text 262178 n → Fits text size (leb n size)
by_length {text} {n} size e = go (leb n size) refl
  where
    go : (b : Bool) → leb n size ≡ b → Fits text size b
    go true k = for_this (omega (arith, e.is, leb-true n size k))
    go false k = (omega (arith, e.is, leb-false n size k), omega (arith, e.is, e.short))
