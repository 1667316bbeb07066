-- What opens the text, and what report's answer is from the text.
-- Assumes nothing.
use Rattle.std.specs.Prelude.{Err, Ok, Result}
use Prim.Native.Nat.{ℕ, ◌≤◌, ◌<◌}
use mathlib.Core.Bool.{true, false}
use mathlib.Core.List.{List, [], ◌∷◌, ◌++◌, append-nil}
use mathlib.Core.Path.{◌≡◌, refl, ◌∙◌, sym, ap, subst}
use native.Mathlib.Omega.{arith}
use lib.Dec.{leb}
use lib.ListN.{length, drop, get_or}
use borrow.Author.Tests.{lt-ltb, le-ltb, eq-eqb, ne_eqb, leb-true}
use Rattle.bytecode.specs.Decode.{refusal}
use Rattle.bytecode.specs.declared.answers.Refusal.{Refusal}
use Rattle.laws.proofs.Every.{left, right}
use Rattle.listing.specs.First.{heading_line, first_line}
use Rattle.listing.specs.Printing.{Prints}
use Rattle.listing.specs.declared.first.FirstLine.{FirstLine}
use Rattle.listing.specs.declared.first.FirstLine.TheVariants.{Accepted as AcceptedLine, Refused as RefusedLine, NoEdition, InputTooLong}
use Rattle.layout.specs.Programs.{token_count}
use Rattle.verifier.specs.Verdict.{verdict}
use Rattle.verifier.specs.declared.answers.Program.{Program}
use Rattle.report.specs.Lines.{lines_from, Listable}
use Rattle.report.specs.Text.{answer_text, is_edition, edition_of, text_of}
use Rattle.report.specs.Report.{Reports}
use Rattle.report.specs.computed.Writers.{Listed, lines_after, text_in}
use Rattle.report.proofs.Accepted.{lists}

-- no lines after the first one
alone : {text : List ℕ} (f : FirstLine) (bytes : List ℕ) → text ≡ first_line f → lines_after f bytes ≡ [] → text ≡ text_in f bytes
alone f bytes e none = e ∙ sym (append-nil (first_line f)) ∙ ap (λ l. first_line f ++ l) (sym none)

-- ---- what the check answers

-- no line is refused on an accepted program
program_listable : (edition : ℕ) (bytes : List ℕ) (p : Program) → verdict edition bytes ≡ Ok p → Listable p.stage bytes 0 p.tokens 0
program_listable edition bytes p e =
    subst (λ q. Listable q.stage bytes 0 q.tokens 0) (sym (lists edition bytes p e).is) (lists edition bytes p e).lines

module _ (edition : ℕ) (bytes : List ℕ) (few : length bytes ≤ 49159) where
  module _ (p : Program) (e : verdict edition bytes ≡ Ok p) where
    tokens_are : p.tokens ≡ token_count bytes
    tokens_are = ap (λ x. x.tokens) (lists edition bytes p e).is

    pub tokens_few : p.tokens < 65536
    tokens_few = omega (arith, tokens_are)

    pub accepted_lines : Listed p.stage bytes
    accepted_lines =
        record {
          header = (lists edition bytes p e).header;
          few = omega (arith, few);
          lines = subst (λ k. Listable p.stage bytes 0 k 0) tokens_are (program_listable edition bytes p e);
        }

    pub accepted_text : answer_text edition bytes (verdict edition bytes) ≡ text_in (AcceptedLine (record { edition = edition; stage = p.stage; tokens = p.tokens })) bytes
    accepted_text =
        ap (answer_text edition bytes) e
        ∙ ap (λ k. heading_line (record { edition = edition; stage = p.stage; tokens = p.tokens }) ++ lines_from p.stage bytes 0 k 0) tokens_are

  pub refused_text : (f : Refusal) → verdict edition bytes ≡ Err f → answer_text edition bytes (verdict edition bytes) ≡ text_in (RefusedLine f) bytes
  refused_text f e = alone (RefusedLine f) bytes (ap (answer_text edition bytes) e) refl

-- ---- the tests in their order

pub edition_range : (b : ℕ) → is_edition b ≡ true → (49 ≤ b) × (b ≤ 51)
edition_range b e = (leb-true 49 b (left (leb 49 b) (leb b 51) e), leb-true b 51 (right (leb 49 b) (leb b 51) e))

pub too_long : (input bytes : List ℕ) → 49160 < length input → text_of input ≡ text_in InputTooLong bytes
unfolding text_of
too_long input bytes h = alone InputTooLong bytes (simp (lt-ltb 49160 (length input) h)) refl

pub no_edition : (input bytes : List ℕ) → length input ≤ 49160 → length input ≡ 0 → text_of input ≡ text_in NoEdition bytes
unfolding text_of
no_edition input bytes h e = alone NoEdition bytes (simp (le-ltb 49160 (length input) h, eq-eqb (length input) 0 e)) refl

module _ (input : List ℕ) {digit : ℕ} {bytes : List ℕ} (split : input ≡ digit ∷ bytes) (h : length input ≤ 49160) where
  some_bytes : length input ≡ 0 → ⊥
  some_bytes e = omega (arith, ap length split, e)

  pub other_byte : is_edition digit ≡ false → text_of input ≡ text_in (RefusedLine (refusal 1 0 0)) bytes
  unfolding text_of
  other_byte e =
      let first_is : get_or input 0 0 ≡ digit = ap (λ l. get_or l 0 0) split in
      alone (RefusedLine (refusal 1 0 0)) bytes (rw (le-ltb 49160 (length input) h, ne_eqb (length input) 0 some_bytes, first_is, e)) refl

  pub with_edition : {edition : ℕ} {text : List ℕ} → edition ≡ edition_of digit → is_edition digit ≡ true
      → answer_text edition bytes (verdict edition bytes) ≡ text → text_of input ≡ text
  unfolding text_of
  with_edition d e o =
      let first_is : get_or input 0 0 ≡ digit = ap (λ l. get_or l 0 0) split in
      let rest_is : drop 1 input ≡ bytes = ap (drop 1) split in
      rw (le-ltb 49160 (length input) h, ne_eqb (length input) 0 some_bytes, first_is, rest_is, e, ← d) o

-- ---- report

pub reported : (input : List ℕ) {text before after : List ℕ} {r : Result ℕ Refusal} → text_of input ≡ text → Prints text before after r × (length text ≤ 262178)
    → Reports input before after r
reported input e (p, s) =
    record {
      prints = rw e p;
      short = rw e s;
      listable = program_listable (edition_of (get_or input 0 0)) (drop 1 input);
    }
