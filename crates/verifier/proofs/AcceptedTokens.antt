-- The tokens of an accepted program have none of faults 9 to 19, so decode takes each of them.
-- Assumes nothing.
use Rattle.std.specs.Prelude.{Ok}
use Prim.Native.Nat.{ℕ, zero, suc, ◌+◌, ◌-◌, ◌*◌, ◌%◌, ◌≤◌, ◌<◌}
use mathlib.Core.Bool.{false}
use mathlib.Core.List.{List}
use mathlib.Core.Path.{◌≡◌, refl, ◌∙◌, sym, ap}
use native.Mathlib.Omega.{arith}
use lib.Dec.{eqb}
use lib.ListN.{length, length-take, length-drop}
use borrow.Author.Tests.{eqb-true, ltb-false, not-false}
use Rattle.bytecode.specs.Decode.{token_fault, decode_of}
use Rattle.bytecode.proofs.DecodeLaws.{no_faults}
use Rattle.registers.specs.Counts.{count_of}
use Rattle.paths.specs.Nesting.{misplaced_at}
use Rattle.paths.specs.Faults.{token_fault_at, Clean, Faultless}
use Rattle.layout.specs.Programs.{stage_of, token_count, token_at}
use Rattle.bytecode.specs.Fields.{record_of}
use Rattle.faults.specs.Order.{first_fault, header_rules, token_rules, tokens_from, tokens_of}
use Rattle.verifier.specs.Verdict.{program, verdict}
use Rattle.verifier.specs.Numbers.{checked_numbers}
use Rattle.verifier.specs.Exact.{HeaderRight}
use Rattle.verifier.specs.Accepted.{WholeTokens, AcceptedDecodes}
use Rattle.verifier.specs.declared.answers.Program.{Program}
use Rattle.verifier.proofs.ExactCheck.{exact_check}
use Rattle.faults.proofs.FaultLaws.{AllKept, none_broken}
use Rattle.verifier.proofs.HeaderLaw.{has_header}

-- a token that keeps the rules 9 to 19
module _ (count : ℕ → ℕ) (edition stage : ℕ) (s : List ℕ) (kept : AllKept (token_rules count edition stage s)) where
  token_decodes : length s ≡ 24 → decode_of s ≡ Ok (record_of s)
  unfolding token_fault
  token_decodes h = sym (no_faults s h (rw (kept.0, kept.1.1.1.0, kept.1.1.1.1.0))).answer

module _ (edition : ℕ) (bytes : List ℕ) where
  abbrev count : ℕ → ℕ
  count k = count_of k edition (stage_of bytes)

  length_tokens : (at left : ℕ) → length (tokens_from edition bytes at left) ≡ left
  length_tokens at zero = refl
  length_tokens at (suc left) = ap suc (length_tokens (at + 1) left)

  -- token n of the bytes is the i-th of the tokens from token `at` on
  fault_at_lem : (at left i n : ℕ) → at + i ≡ n → i < left
      → token_fault_at (tokens_from edition bytes at left) i ≡ first_fault (token_rules count edition (stage_of bytes) (token_at bytes n))
  fault_at_lem at zero i n e h = absurd (omega (arith, h))
  fault_at_lem at (suc left) zero n e h =
      let e' : at ≡ n = omega (arith, e) in
      ap (λ m. first_fault (token_rules count edition (stage_of bytes) (token_at bytes m))) e'
  fault_at_lem at (suc left) (suc i) n e h = fault_at_lem (at + 1) left i n (omega (arith, e)) (omega (arith, h))

  module _ (p : Program) (e : verdict edition bytes ≡ Ok p) where
    told : HeaderRight edition bytes × Faultless (tokens_of edition bytes) × (p.stage ≡ stage_of bytes) × (p.tokens ≡ token_count bytes)
    told = ((exact_check edition bytes).accepts p.stage p.tokens).0 (ap checked_numbers e)

    header_kept : AllKept (header_rules edition bytes)
    header_kept = none_broken (header_rules edition bytes) told.0

    -- what the answer says of the program
    pub is_program : p ≡ program (stage_of bytes) (token_count bytes)
    is_program = rw (told.2, told.3)

    pub header_whole : 7 ≤ length bytes
    header_whole = has_header edition bytes told.0

    pub stage_known : stage_of bytes ≤ 1
    stage_known = ltb-false 1 (stage_of bytes) header_kept.1.1.1.1.1.0

    clean : (n : ℕ) → n < token_count bytes → Clean (tokens_of edition bytes) n
    clean n h = told.1.0 n (rw (length_tokens 0 (token_count bytes)) h)

    pub well_placed : (n : ℕ) → n < token_count bytes → misplaced_at (tokens_of edition bytes) n ≡ false
    well_placed n h = (clean n h).1

    pub rules_kept : (n : ℕ) → n < token_count bytes → AllKept (token_rules count edition (stage_of bytes) (token_at bytes n))
    rules_kept n h =
        none_broken (token_rules count edition (stage_of bytes) (token_at bytes n))
        (sym (fault_at_lem 0 (token_count bytes) n n (omega arith) h) ∙ (clean n h).0)

    size : length bytes ≡ 7 + token_count bytes * 24
    size =
        let h = header_whole in
        let z = eqb-true ((length bytes - 7) % 24) 0 (not-false (eqb ((length bytes - 7) % 24) 0) header_kept.1.1.1.1.1.1.0) in
        omega (arith, h, z)

    token_length : (n : ℕ) → n < token_count bytes → length (token_at bytes n) ≡ 24
    token_length n l = let h = header_whole in simp (length-take, length-drop) (omega arith)

    pub whole_tokens : WholeTokens bytes (token_count bytes)
    whole_tokens = record {
      size = size;
      decode = λ n h. token_decodes count edition (stage_of bytes) (token_at bytes n) (rules_kept n h) (token_length n h);
    }

pub accepted_decodes : AcceptedDecodes
accepted_decodes edition bytes p e = rw (ap (λ q. q.tokens) (is_program edition bytes p e)) (whole_tokens edition bytes p e)
