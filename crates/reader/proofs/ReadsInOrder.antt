-- Reading from the opening gives the program's tokens in order, and then 24 for ever; a refused token is refused for ever.
-- Assumes nothing.
use Rattle.std.specs.Prelude.{Err, Ok}
use Prim.Native.Nat.{ℕ, zero, suc, ◌+◌, ◌<◌, ◌≤◌}
use mathlib.Core.List.{List}
use mathlib.Core.Path.{◌≡◌, refl, ◌∙◌, sym, ap}
use native.Mathlib.Nat.{add-zero, add-suc}
use native.Mathlib.Numerals.{add-one}
use native.Mathlib.Omega.{arith}
use lib.ListN.{length, length-take, length-drop}
use Rattle.bytecode.specs.Decode.{refusal, decode_of}
use Rattle.layout.specs.declared.record.Token.{Token}
use Rattle.bytecode.specs.declared.answers.Refusal.{Refusal}
use Rattle.bytecode.proofs.DecodeLaws.{accepted}
use Rattle.layout.specs.Programs.{token_at, token_start}
use Rattle.reader.specs.Reading.{stands_at, read_of, place_after}
use Rattle.reader.specs.Sequence.{place_after_reads, place_opened, HoldsTokens, ReadsInOrder, StaysRefused, RefusedOpening}
use Rattle.reader.proofs.ReadingLaws.{too_short, none_left, one_left, moves_on, stays}

-- a list of which 24 elements can be taken from a place has them all
whole : (s : List ℕ) (n : ℕ) → length (token_at s n) ≡ 24 → token_start n + 24 ≤ length s
whole s n e = omega (arith, simp (length-take, length-drop) at e)

module _ (s : List ℕ) where
  -- a token that decodes is what a read answers
  pub reads_token : (n : ℕ) (t : Token) → decode_of (token_at s n) ≡ Ok t → read_of s n ≡ Ok t
  reads_token n t e = sym (one_left s n (whole s n (accepted (token_at s n) t e).0)).answer ∙ ap (stands_at n) e

  pub stays_refused : (n : ℕ) (r : Refusal) → read_of s n ≡ Err r → StaysRefused s n r
  stays_refused n r e = record { place = place; answer = λ reads. rw (place reads) e }
    where
      place : (reads : ℕ) → place_after_reads s n reads ≡ n
      place zero = refl
      place (suc reads) = rw (place reads) (stays s n r e)

  pub refused_opening : RefusedOpening s
  refused_opening short = (
    sym (too_short s short),
    stays_refused 0 (refusal 24 0 0) (sym (none_left s 0 (omega (arith, short))).answer),
  )

  module _ (k : ℕ) (token : ℕ → Token) (holds : HoldsTokens s k token) where
    place : (i : ℕ) → i ≤ k → place_opened s i ≡ i
    place zero h = refl
    place (suc i) h =
        let h' : i < k = omega arith in
        rw (place i (omega arith)) (moves_on s i (token i) (reads_token i (token i) (holds.decode i h')) ∙ add-one i)

    -- reads after the last token
    past : (j : ℕ) → place_opened s (k + j) ≡ place_after_reads s k j
    past zero = rw add-zero (place k (omega arith))
    past (suc j) = rw add-suc (ap (place_after s) (past j))

    ends : StaysRefused s k (refusal 24 k 0)
    ends = stays_refused k (refusal 24 k 0) (sym (none_left s k holds.end).answer)

    pub reads_in_order : ReadsInOrder s k token
    reads_in_order = record {
      place = place;
      answer = λ i h. rw (place i (omega arith)) (reads_token i (token i) (holds.decode i h));
      last_place = λ j. past j ∙ ends.place j;
      last_answer = λ j. rw (past j) (ends.answer j);
    }
