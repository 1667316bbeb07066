-- There is room for every text, and each token of an accepted program has a line.
-- Assumes nothing.
use Rattle.std.specs.Prelude.{Ok}
use Prim.Native.Nat.{ℕ, zero, suc, ◌+◌, ◌<◌, ◌≤◌}
use mathlib.Core.Bool.{true, false, and-false, false≢true}
use mathlib.Core.List.{List}
use mathlib.Core.Path.{◌≡◌, sym, ◌∙◌, subst}
use native.Mathlib.Decide.{dec_le}
use native.Mathlib.Numerals.{add-one}
use native.Mathlib.Omega.{arith}
use lib.ListN.{drop}
use borrow.Author.Tests.{lt-leb}
use Rattle.layout.specs.Programs.{token_at}
use Rattle.layout.specs.declared.record.Token.{Token}
use Rattle.bytecode.specs.Fields.{record_of}
use Rattle.bytecode.specs.Decode.{decode_of}
use Rattle.listing.specs.Line.{is_nameable}
use Rattle.verifier.specs.Verdict.{program}
use Rattle.report.specs.Lines.{Listable}
use Rattle.report.specs.Text.{text_of}
use Rattle.consequences.specs.Listing.{TextFits, open_before, depth_of, HasLine, AcceptedListed}
use Rattle.consequences.proofs.Numbers.{print_numbers, line_numbers}

pub text_fits : TextFits
text_fits input before after r p h =
    (print_numbers (text_of input) before after r p.prints).written (omega (arith, p.short, h))

-- ---- the lines of an accepted program

-- what has a name stands at most sixteen deep
shallow : (t : Token) (stage depth : ℕ) → is_nameable t stage depth ≡ true → depth ≤ 16
unfolding is_nameable
shallow t stage depth e =
    elim (dec_le depth 16) [
      | yes h ↦ h
      | no h ↦
          let deep : is_nameable t stage depth ≡ false = simp (lt-leb depth 16 (omega (arith, h)), and-false) in
          absurd (false≢true (sym deep ∙ e))
    ]

module _ (stage : ℕ) (bytes : List ℕ) where
  abbrev Named : ℕ → Type 0
  Named n =
      (decode_of (token_at bytes n) ≡ Ok (record_of (token_at bytes n)))
      × (is_nameable (record_of (token_at bytes n)) stage (depth_of bytes n) ≡ true)

  -- token k, the i-th of so many from token n on
  named : (left n i k : ℕ) → n + i ≡ k → Listable stage bytes n left (open_before bytes n) → i < left → Named k
  named zero n i k e l h = absurd (omega (arith, h))
  named (suc left) n zero k e l h = let here : n ≡ k = omega (arith, e) in subst Named here (l.0, l.1)
  named (suc left) n (suc i) k e l h =
      let later = subst (λ m. Listable stage bytes m left (open_before bytes (suc n))) (add-one n) l.2 in
      named left (suc n) i k (omega (arith, e)) later (omega (arith, h))

  has_line : (n : ℕ) → Named n → HasLine bytes stage n
  has_line n (d, e) = record {
    decodes = d;
    shallow = shallow (record_of (token_at bytes n)) stage (depth_of bytes n) e;
    line = λ before after r p h.
        let told = line_numbers (record_of (token_at bytes n)) stage (depth_of bytes n) before after r p in
        (told.printed e).written (omega (arith, p.short e, h));
  }

pub accepted_listed : AcceptedListed
accepted_listed input before after r p c stage count k e n h =
    has_line stage (drop 1 input) n
    (named stage (drop 1 input) count 0 n n (omega arith) (p.listable (program stage count) (sym k.answer ∙ e)) h)
