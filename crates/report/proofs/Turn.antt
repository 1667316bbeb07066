-- One turn over the lines of a listing, which writes or measures a line each time.
-- Assumes nothing.
use Rattle.std.specs.Prelude.{Ok}
use Prim.Native.Nat.{ℕ, suc, ◌+◌, ◌-◌, ◌*◌, ◌≤◌}
use mathlib.Core.Bool.{true, ◌&&◌}
use mathlib.Core.List.{List, ◌++◌, append_assoc}
use mathlib.Core.Path.{◌≡◌, refl, ◌∙◌, sym, ap, ap₂, subst}
use native.Mathlib.Omega.{arith}
use lib.Dec.{leb}
use lib.ListN.{length, take, length-append}
use borrow.Author.Tests.{leb-true}
use Rattle.bytecode.specs.Decode.{decode_of}
use Rattle.bytecode.specs.Encode.{is_encodable}
use Rattle.layout.specs.Opcodes.{flow_of}
use Rattle.layout.specs.declared.opcodes.Flow.{Flow}
use Rattle.layout.specs.declared.opcodes.Flow.TheVariants.{Plain, Opener, Els, Eif}
use Rattle.layout.specs.declared.record.Token.{Token}
use Rattle.laws.proofs.Every.{left, right}
use Rattle.listing.specs.Line.{is_nameable, destination_has_names, operand_has_names}
use Rattle.listing.specs.computed.Writers.{Appends}
use Rattle.layout.specs.Programs.{token_at, token_start}
use Rattle.bytecode.specs.Fields.{record_of}
use Rattle.reader.proofs.ReadingLaws.{token_left}
use Rattle.reader.proofs.ReadsInOrder.{reads_token}
use Rattle.report.specs.Depth.{shown_depth}
use Rattle.report.specs.Lines.{flow_in, Listable}

-- a record that has a line stands no deeper than 16
depth_most : (t : Token) (stage depth : ℕ) → is_nameable t stage depth ≡ true → depth ≤ 16
unfolding is_nameable
depth_most t stage depth e =
    let a = is_encodable t && leb stage 1 in
    let e3 = left (a && leb depth 16 && destination_has_names t.destination && operand_has_names t.source1) _ e in
    let e2 = left (a && leb depth 16 && destination_has_names t.destination) _ e3 in
    let e1 = left (a && leb depth 16) _ e2 in
    leb-true depth 16 (right a _ e1)

-- so at most 17 branches are open before it
opened_most : (f : Flow) (opened : ℕ) → shown_depth f opened ≤ 16 → opened ≤ 17
opened_most Plain opened h = omega arith
opened_most Opener opened h = omega arith
opened_most Els opened h = omega arith
opened_most Eif opened h = omega arith

-- ---- the next token, where there is one

module _ (stage : ℕ) (bytes : List ℕ) (n : ℕ) {some : ℕ} (opened : ℕ) (h : Listable stage bytes n some opened) (l : some ≡ 0 → ⊥) where
  abbrev record_at_lem : Token
  record_at_lem = record_of (token_at bytes n)

  some_is : some ≡ suc (some - 1)
  some_is = omega arith

  first : Listable stage bytes n (suc (some - 1)) opened
  first = subst (λ k. Listable stage bytes n k opened) some_is h

  pub decodes : decode_of (token_at bytes n) ≡ Ok record_at_lem
  decodes = first.0

  pub inside : token_start n + 24 ≤ length bytes
  inside = token_left bytes n record_at_lem (reads_token bytes n record_at_lem decodes)

  -- the record and the depths as the code has them
  module _ {t : Token} (te : t ≡ record_at_lem) where
    abbrev f : Flow
    f = flow_of t.opcode

    same_flow : flow_in record_at_lem ≡ f
    same_flow = sym (ap flow_in te)

    pub nameable : {depth : ℕ} → depth ≡ shown_depth f opened → is_nameable t stage depth ≡ true
    nameable e =
        ap₂ (λ u d. is_nameable u stage d) te (e ∙ ap (λ g. shown_depth g opened) (sym same_flow)) ∙ first.1

    pub low : opened ≤ 17
    low = opened_most f opened (depth_most t stage (shown_depth f opened) (nameable refl))

-- ---- the place that the lines so far lead to, of a whole text

-- so many lines are left of it, and this text
pub record Along (whole : List ℕ) (most at place : ℕ) (rest : List ℕ) (some : ℕ) : Type 0 where
  pub counted : place + length rest ≡ at + length whole
  pub short : place + 128 * some ≤ at + most

module _ {whole text : List ℕ} (line rest : List ℕ) {most at place some : ℕ} (others : ℕ) (w : Along whole most at place text some)
    (next : (text ≡ line ++ rest) × (some ≡ others + 1)) where
  lengths : length text ≡ length line + length rest
  lengths = ap length next.0 ∙ length-append line rest

  pub goes_on : {r : ℕ} → r ≡ place + length line → r ≤ place + 128 → Along whole most at r rest others
  goes_on a b = record { counted = omega (arith, w.counted, lengths, a); short = omega (arith, w.short, b, next.1) }

  -- what is written and what is still to be written make the same text
  pub grows : {r : ℕ} {m m' l : List ℕ} → Appends line 128 place m m' r → take place m ++ text ≡ l → take r m' ++ rest ≡ l
  grows {m = m} a k =
      ap (λ x. x ++ rest) a.text ∙ append_assoc (take place m) line rest ∙ ap (λ x. take place m ++ x) (sym next.0) ∙ k
