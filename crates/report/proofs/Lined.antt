-- What line wrote of a record that has a line: it was lent the part of a buffer from a place on, with room for the line.
-- Assumes nothing.
use Rattle.std.specs.Prelude.{Err, IsOk, Ok, Result}
use Prim.Native.Nat.{ℕ, ◌+◌, ◌-◌, ◌≤◌}
use mathlib.Core.Bool.{true}
use mathlib.Core.List.{List, ◌++◌}
use mathlib.Core.Path.{◌≡◌, refl}
use native.Mathlib.Nat.{le_refl}
use native.Mathlib.Omega.{arith}
use lib.ListN.{length, take, drop, length-drop}
use lib.Seq.{length-take-le}
use Rattle.bytecode.specs.declared.answers.Refusal.{Refusal}
use Rattle.layout.specs.declared.record.Token.{Token}
use Rattle.listing.specs.Line.{line_of, is_nameable, Lists}
use Rattle.listing.proofs.LineLaws.{as_text}
use Rattle.listing.proofs.PrintLaws.{appended, not_refused}
use Rattle.listing.proofs.Writing.{in_part}
use Rattle.report.specs.computed.Writers.{HasRoom, Puts}
use Rattle.report.proofs.Room.{room_for, exactly}

module _ (t : Token) (stage depth : ℕ) (named : is_nameable t stage depth ≡ true) (l : List ℕ) (at : ℕ)
    (room : HasRoom (line_of t stage depth) 128 at (length l)) where
  abbrev part : List ℕ
  part = take (length l - at) (drop at l)

  module _ {after : List ℕ} {r : Result ℕ Refusal} (done : Lists t stage depth part after r) where
    enough : at + length (line_of t stage depth) ≤ length l
    enough = room_for (line_of t stage depth) (done.short named) room

    part_length : length part ≡ length l - at
    part_length = length-take-le (length l - at) (drop at l) (rw (length-drop at l) (le_refl (length l - at)))

    fits : length (line_of t stage depth) ≤ length part
    fits = omega (arith, enough, part_length)

    pub lined : length after ≡ length part → (n : ℕ) → r ≡ Ok n
        → length (take at l ++ (after ++ drop (length l - at) (drop at l))) ≡ length l
        → Puts (line_of t stage depth) 128 at l (take at l ++ (after ++ drop (length l - at) (drop at l))) (at + n)
    lined same n e kept =
        let a = appended (as_text t stage depth named done) fits n e in
        exactly (in_part l at (length l - at) (omega (arith, enough)) (omega (arith, a.room, fits, same)) same a) (done.short named) enough kept

    pub has_line : (f : Refusal) → r ≡ Err f → ⊥
    has_line f e = not_refused (as_text t stage depth named done) fits f e

-- an answer that is no refusal can be unwrapped
pub is_ok_unless : {A : Type 0} (r : Result A Refusal) → ((e : Refusal) → r ≡ Err e → ⊥) → IsOk r
is_ok_unless (Ok x) never = refl
is_ok_unless (Err e) never = absurd (never e refl)
