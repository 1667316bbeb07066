-- Whoever opens an accepted program and reads on is given its tokens in order, and then 24 for ever.
-- Assumes nothing.
use Rattle.std.specs.Prelude.{Ok}
use Prim.Native.Nat.{ℕ, zero, suc, ◌+◌}
use mathlib.Core.List.{List}
use mathlib.Core.Path.{◌≡◌, ◌∙◌, sym, ap}
use native.Mathlib.Omega.{arith}
use denote.Ref.{Bor}
use Rattle.layout.specs.declared.record.Token.{Token}
use Rattle.bytecode.specs.Fields.{record_of}
use Rattle.layout.specs.Programs.{token_at}
use Rattle.verifier.specs.Verdict.{program, verdict}
use Rattle.verifier.proofs.AcceptedTokens.{accepted_decodes}
use Rattle.reader.specs.Reading.{read_of, place_after}
use Rattle.reader.specs.Sequence.{place_opened, HoldsTokens, Run, ReadsAccepted}
use Rattle.reader.specs.declared.answers.Opened.{Opened}
use Rattle.reader.specs.declared.answers.Read.{Read}
use Rattle.reader.proofs.ReadingLaws.{long_enough}
use Rattle.reader.proofs.ReadsInOrder.{reads_in_order}

-- each answer of a run is what the reader answers at the place that the reads before it give
module _ (lent : Bor (List ℕ)) (opened : Opened) (reads : ℕ → Read) (run : Run lent opened reads) where
  program_kept : (i : ℕ) → (reads i).reader.program ≡ lent
  program_kept zero = run.first.program ∙ run.opens.program
  program_kept (suc i) = (run.next i).program ∙ program_kept i

  pub place_run : (i : ℕ) → (reads i).reader.place ≡ place_opened lent.now (suc i)
  place_run zero =
      run.first.place
      ∙ ap (λ l. place_after l.now opened.reader.place) run.opens.program
      ∙ ap (place_after lent.now) run.opens.place
  place_run (suc i) =
      (run.next i).place
      ∙ ap (λ l. place_after l.now (reads i).reader.place) (program_kept i)
      ∙ ap (place_after lent.now) (place_run i)

  pub answer_run : (i : ℕ) → (reads i).answer ≡ read_of lent.now (place_opened lent.now i)
  answer_run zero =
      run.first.reads.answer
      ∙ ap (λ l. read_of l.now opened.reader.place) run.opens.program
      ∙ ap (read_of lent.now) run.opens.place
  answer_run (suc i) =
      (run.next i).reads.answer
      ∙ ap (λ l. read_of l.now (reads i).reader.place) (program_kept i)
      ∙ ap (read_of lent.now) (place_run i)

-- what the check tells of an accepted program's bytes
module _ (edition : ℕ) (bytes : List ℕ) (stage count : ℕ) (e : verdict edition bytes ≡ Ok (program stage count)) where
  abbrev record_at : ℕ → Token
  record_at i = record_of (token_at bytes i)

  pub holds_tokens : HoldsTokens bytes count record_at
  holds_tokens =
      let whole = accepted_decodes edition bytes (program stage count) e in
      record { decode = whole.decode; end = omega (arith, whole.size) }

pub reads_accepted : ReadsAccepted
reads_accepted edition lent opened reads run stage count e =
    let whole = accepted_decodes edition lent.now (program stage count) e in
    let holds = holds_tokens edition lent.now stage count e in
    let order = reads_in_order lent.now count (λ i. record_of (token_at lent.now i)) holds in
    record {
      ready = run.opens.answer ∙ sym (long_enough lent.now (omega (arith, whole.size)));
      decodes = holds.decode;
      token = λ i h. answer_run lent opened reads run i ∙ order.answer i h;
      ended = λ j. answer_run lent opened reads run (count + j) ∙ order.last_answer j;
    }
