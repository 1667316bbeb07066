-- Whoever reads an accepted program on gets check's count and the program's bytes; a refusal stays.
-- Assumes nothing.
use Rattle.std.specs.Prelude.{Err, Ok, Result}
use Prim.Native.Nat.{ℕ, zero, suc, ◌+◌, ◌-◌, ◌<◌}
use mathlib.Core.Bool.{Bool, true, false, cond}
use mathlib.Core.List.{List}
use mathlib.Core.Path.{◌≡◌, refl, sym, ap, ◌∙◌}
use native.Mathlib.Decide.{dec_lt}
use native.Mathlib.Nat.{add-zero, add-suc}
use native.Mathlib.Omega.{arith}
use Rattle.layout.specs.declared.record.Token.{Token}
use Rattle.bytecode.specs.Decode.{refusal, decode_of}
use Rattle.bytecode.specs.declared.answers.Refusal.{Refusal}
use Rattle.bytecode.proofs.RoundTrip.{round_trip}
use Rattle.layout.specs.Programs.{token_at, no_token_left}
use Rattle.reader.specs.Reading.{fault_at, stands_at, read_of, place_after}
use Rattle.reader.specs.Sequence.{place_after_reads, place_opened, GivesTokens}
use Rattle.reader.specs.declared.answers.Opened.{Opened}
use Rattle.reader.specs.declared.answers.Read.{Read}
use Rattle.reader.proofs.AcceptedRun.{place_run, answer_run, holds_tokens, reads_accepted}
use Rattle.reader.proofs.ReadsInOrder.{stays_refused, refused_opening, reads_in_order}
use Rattle.consequences.specs.Reading.{AcceptedReadWhole, RefusedForEver, ShortRefused}

-- ---- an accepted program

same_refusal : (f g : Refusal) → ◌≡◌ {A = Result Token Refusal} (Err f) (Err g) → f ≡ g
same_refusal f g e = cc

not_both : {t : Token} {f : Refusal} → ◌≡◌ {A = Result Token Refusal} (Ok t) (Err f) → ⊥
not_both e = let z : ◌≡◌ {A = ℕ} 0 1 = cc in absurd (omega arith)

module _ (bytes : List ℕ) (count : ℕ) (opened : Opened) (reads : ℕ → Read) (gives : GivesTokens bytes count opened reads) where
  inside : (i : ℕ) (t : Token) → (reads i).answer ≡ Ok t → i < count
  inside i t e =
      elim (dec_lt i count) [
        | yes h ↦ h
        | no h ↦
            let k : count + (i - count) ≡ i = omega (arith, h) in
            absurd (not_both (sym e ∙ ap (λ j. (reads j).answer) (sym k) ∙ gives.ended (i - count)))
      ]

  -- a read that is refused is one after the last token
  past : (i : ℕ) (f : Refusal) → (reads i).answer ≡ Err f → (j : ℕ) × (count + j ≡ i)
  past i f e =
      elim (dec_lt i count) [
        | yes h ↦ absurd (not_both (sym (gives.token i h) ∙ e))
        | no h ↦ (i - count, omega (arith, h))
      ]

  again : (i : ℕ) (t : Token) → (reads i).answer ≡ Ok t → decode_of (token_at bytes i) ≡ Ok t
  again i t e =
      let h = inside i t e in
      gives.decodes i h ∙ sym (gives.token i h) ∙ e

pub accepted_read_whole : AcceptedReadWhole
accepted_read_whole edition lent r stage count opened reads c e run =
    let bytes = lent.now in
    let v = sym c.answer ∙ e in
    let gives = reads_accepted edition lent opened reads run stage count v in
    let order = reads_in_order bytes count _ (holds_tokens edition bytes stage count v) in
    let place = place_run lent opened reads run in
    record {
      ready = gives.ready;
      counted = λ i. (λ h. (_, gives.token i h), λ g. inside bytes count opened reads gives i g.0 g.1);
      encoded = λ i t e a buffer l. (round_trip.bytes (token_at bytes i) t a (again bytes count opened reads gives i t e) buffer l).1;
      next = λ i h. place i ∙ order.place (suc i) (omega arith);
      refused = λ i f e.
          let (j, k) = past bytes count opened reads gives i f e in
          let n : count + suc j ≡ suc i = omega (arith, k) in (
            same_refusal f (refusal 24 count 0) (sym e ∙ ap (λ x. (reads x).answer) (sym k) ∙ gives.ended j),
            place i ∙ ap (place_opened bytes) (sym n) ∙ order.last_place (suc j),
          );
    }

-- ---- refusals

-- reads after reads
on : (s : List ℕ) (n i j : ℕ) → place_after_reads s (place_after_reads s n i) j ≡ place_after_reads s n (i + j)
on s n i zero = rw (add-zero i) refl
on s n i (suc j) = rw (add-suc i j) (ap (place_after s) (on s n i j))

-- a read that is refused names the token where the reader stands
stands : (s : List ℕ) (n : ℕ) (f : Refusal) → read_of s n ≡ Err f → n ≡ f.token
unfolding read_of
stands s n f e = go (no_token_left s n) (decode_of (token_at s n)) e
  where
    go : (none : Bool) (d : Result Token Refusal) → cond none (Err (refusal 24 n 0)) (stands_at n d) ≡ Err f → n ≡ f.token
    go true d k = ap (λ g. g.token) (same_refusal (refusal 24 n 0) f k)
    go false (Ok t) k = absurd (not_both k)
    go false (Err g) k = ap (λ x. x.token) (same_refusal (fault_at n g) f k)

pub refused_for_ever : RefusedForEver
refused_for_ever lent opened reads run i f e j =
    let s = lent.now in
    let n = place_opened s i in
    let refused = sym (answer_run lent opened reads run i) ∙ e in
    let stays = stays_refused s n f refused in (
      answer_run lent opened reads run (i + j) ∙ ap (read_of s) (sym (on s 0 i j)) ∙ stays.answer j,
      place_run lent opened reads run (i + j) ∙ ap (place_after s) (sym (on s 0 i j)) ∙ stays.place (suc j) ∙ stands s n f refused,
    )

pub short_refused : ShortRefused
short_refused lent opened reads run h =
    let (o, stays) = refused_opening lent.now h in (
      run.opens.answer ∙ o,
      λ i. (answer_run lent opened reads run i ∙ stays.answer i, place_run lent opened reads run i ∙ stays.place (suc i)),
    )
