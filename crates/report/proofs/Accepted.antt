-- No line is refused on an accepted program: each of its tokens decodes to a record that has a line, at a depth of at most 16.
-- Assumes nothing.
use Rattle.std.specs.Prelude.{None, Ok, Option, Some}
use Prim.Native.Nat.{ℕ, zero, suc, ◌+◌, ◌≤◌, ◌<◌}
use mathlib.Core.Bool.{Bool, true, false, not, ◌&&◌, ◌||◌, true≢false}
use mathlib.Core.List.{List, [], ◌∷◌, ◌++◌}
use mathlib.Core.Path.{◌≡◌, refl, ◌∙◌, sym, ap, subst}
use native.Mathlib.Decide.{dec_lt}
use native.Mathlib.Omega.{arith}
use lib.Dec.{eqb, ltb, leb}
use lib.ListN.{length}
use borrow.Author.Tests.{ne_eqb, le-leb, ltb-false, leb-false, eqb-true, not-false}
use Rattle.layout.specs.Opcodes.{shape_of, row_count2}
use Rattle.laws.proofs.Every.{neither as none_of}
use Rattle.bytecode.specs.Fields.{fields_of, record_of}
use Rattle.layout.specs.Records.{destination_of, operand_of, token_of}
use Rattle.bytecode.specs.Encode.{destination_fits, operand_fits, is_encodable}
use Rattle.layout.specs.Samplers.{settings_wrong}
use Rattle.layout.specs.declared.opcodes.Flow.{Flow}
use Rattle.layout.specs.declared.opcodes.Flow.TheVariants.{Plain, Opener, Els, Eif}
use Rattle.layout.specs.declared.opcodes.OperandShape.{OperandShape}
use Rattle.layout.specs.declared.opcodes.OperandShape.TheVariants.{Unused as NoField, Source as SourceField, Sampler as SamplerField}
use Rattle.layout.specs.declared.record.MaskedRegister.{MaskedRegister}
use Rattle.layout.specs.declared.record.Operand.{Operand}
use Rattle.layout.specs.declared.record.Operand.TheVariants.{Unused as NoOperand, Direct, Indexed, Sampler as Sampled}
use Rattle.layout.specs.declared.record.Sampler.{Sampler}
use Rattle.bytecode.proofs.RegisterAgain.{register_fits_lem}
use Rattle.bytecode.proofs.SourceAgain.{source_fits_lem}
use Rattle.bytecode.proofs.SamplerAgain.{sampler_fits_lem}
use Rattle.registers.specs.Counts.{count_of}
use Rattle.registers.specs.Uses.{is_readable, is_writable}
use Rattle.components.specs.Tokens.{path_flow}
use Rattle.paths.specs.Nesting.{Branch, branches_after, misplaced, misplaced_from}
use Rattle.listing.specs.Line.{destination_has_names, operand_has_names, is_nameable}
use Rattle.layout.specs.Programs.{stage_of, token_count, token_at}
use Rattle.faults.specs.Rules.{destination_wrong, sampler_wrong, selectors_differ, matrix_swizzled}
use Rattle.faults.specs.Order.{Rule, source_rules, token_rules, tokens_from}
use Rattle.verifier.specs.Verdict.{program, verdict}
use Rattle.verifier.specs.declared.answers.Program.{Program}
use Rattle.verifier.proofs.AcceptedTokens.{is_program, header_whole, stage_known, rules_kept, well_placed, whole_tokens}
use Rattle.faults.proofs.FaultLaws.{AllKept}
use Rattle.report.specs.Depth.{shown_depth, opened_after}
use Rattle.report.specs.Lines.{flow_in, Listable}

-- ---- no rule is broken

append_kept : (rs qs : List Rule) → AllKept (rs ++ qs) → AllKept rs × AllKept qs
append_kept [] qs k = (tt, k)
append_kept (r ∷ rs) qs k = let (a, b) = append_kept rs qs k.1 in ((k.0, a), b)

of_three : (a b c : Bool) → (a || b || c) ≡ false → a ≡ false
of_three a b c e = (none_of a b (none_of (a || b) c e).0).0

of_five : (a b c d e : Bool) → (a || b || c || d || e) ≡ false → (b ≡ false) × (c ≡ false)
of_five a b c d e k =
    let k3 = (none_of (a || b || c) d (none_of (a || b || c || d) e k).0).0 in
    ((none_of a b (none_of (a || b) c k3).0).1, (none_of (a || b) c k3).1)

-- ---- every register has a name

neither : (a b : Bool) → ((a && false) || (b && false)) ≡ false
neither true true = refl
neither true false = refl
neither false true = refl
neither false false = refl

readable_named : (kind stage : ℕ) → is_readable kind stage ≡ true → leb kind 6 ≡ true
readable_named kind stage e =
    elim (dec_lt 6 kind) [
      | yes l ↦
          absurd
          (true≢false
          (sym e
          ∙ rw (ne_eqb kind 0 (λ z. omega (arith, l, z)), ne_eqb kind 1 (λ z. omega (arith, l, z)), ne_eqb kind 2 (λ z. omega (arith, l, z)), ne_eqb kind 4 (λ z. omega (arith, l, z)))
          (neither (eqb stage 0) (eqb stage 1))))
      | no l ↦ le-leb kind 6 (omega (arith, l))
    ]

writable_named : (kind stage : ℕ) → is_writable kind stage ≡ true → leb kind 6 ≡ true
writable_named kind stage e =
    elim (dec_lt 6 kind) [
      | yes l ↦
          absurd
          (true≢false
          (sym e
          ∙ rw (ne_eqb kind 2 (λ z. omega (arith, l, z)), ne_eqb kind 3 (λ z. omega (arith, l, z)), ne_eqb kind 4 (λ z. omega (arith, l, z)), ne_eqb kind 6 (λ z. omega (arith, l, z)))
          (neither (eqb stage 0) (eqb stage 1))))
      | no l ↦ le-leb kind 6 (omega (arith, l))
    ]

module _ (count : ℕ → ℕ) (stage : ℕ) where
  destination_named : (d : Option MaskedRegister) → destination_wrong count stage d ≡ false → destination_has_names d ≡ true
  destination_named None e = refl
  destination_named (Some r) e = writable_named r.kind stage (not-false _ (none_of _ _ e).0)

  sampler_named : (s : Sampler) → sampler_wrong count s ≡ false → not (settings_wrong s) ≡ true
  sampler_named s e = ap not (none_of (leb (count 5) s.number) (settings_wrong s) e).1

  source_named : (rows : ℕ) (swizzled : ℕ → Bool) (part : ℕ) (o : Operand) → AllKept (source_rules count stage rows swizzled part o) → operand_has_names o ≡ true
  source_named rows swizzled part NoOperand k = refl
  source_named rows swizzled part (Direct s) k =
      readable_named s.kind stage
      (not-false (is_readable s.kind stage)
      (of_three (not (is_readable s.kind stage)) (ltb (count s.kind) (s.number + rows)) (not (eqb s.offset 0)) k.0))
  source_named rows swizzled part (Indexed s) k =
      let (kind, index) = of_five (not (eqb stage 0)) (not (eqb s.kind 1)) (ltb 2 s.index_kind) (leb (count s.index_kind) s.number) (ltb (count 1) (s.offset + rows)) k.0 in
      let one = eqb-true s.kind 1 (not-false (eqb s.kind 1) kind) in
      let two = ltb-false 2 s.index_kind index in
      rw (le-leb s.kind 6 (omega (arith, one)), le-leb s.index_kind 6 (omega (arith, two)))
  source_named rows swizzled part (Sampled s) k = sampler_named s k.0

-- ---- every record of a listed opcode is encodable

destination_fits_lem : (used : Bool) (w : ℕ) → destination_fits used (destination_of used w) ≡ true
destination_fits_lem true w = register_fits_lem w
destination_fits_lem false w = refl

operand_fits_lem : (shape : OperandShape) (w : ℕ) → operand_fits shape (operand_of shape w) ≡ true
operand_fits_lem NoField w = refl
operand_fits_lem SourceField w = source_fits_lem w
operand_fits_lem SamplerField w = sampler_fits_lem w

encodable : (s : List ℕ) → (shape_of (fields_of s).opcode).listed ≡ true → is_encodable (record_of s) ≡ true
unfolding is_encodable token_of
encodable s e =
    let h = shape_of (fields_of s).opcode in
    rw (e, destination_fits_lem h.destination (fields_of s).destination, operand_fits_lem h.source1 (fields_of s).source1, operand_fits_lem h.source2 (fields_of s).source2)

-- ---- a token without faults 9 to 19

module _ (count : ℕ → ℕ) (edition stage : ℕ) (s : List ℕ) (all : AllKept (token_rules count edition stage s)) where
  token_named : (depth : ℕ) → stage ≤ 1 → depth ≤ 16 → is_nameable (record_of s) stage depth ≡ true
  unfolding is_nameable
  token_named depth a b =
      let t = record_of s in
      let (k1, k2) = append_kept (source_rules count stage 1 (selectors_differ t.opcode) 2 t.source1) _ all.1.1.1.1.1.1.1 in
      rw (
        encodable s (not-false _ all.0),
        le-leb stage 1 a,
        le-leb depth 16 b,
        destination_named count stage t.destination all.1.1.1.1.1.0,
        source_named count stage 1 (selectors_differ t.opcode) 2 t.source1 k1,
        source_named count stage (row_count2 t.opcode) (matrix_swizzled t.opcode) 3 t.source2 k2,
      )

-- ---- the depth never passes 16

depth_law : (f : Flow) (bs : List Branch) (n : ℕ) → misplaced (path_flow f) bs ≡ false → length bs ≤ 16
    → (shown_depth f (length bs) ≤ 16) × (length (branches_after (path_flow f) n bs) ≡ opened_after f (length bs)) × (length (branches_after (path_flow f) n bs) ≤ 16)
depth_law Plain bs n e h = (h, refl, h)
depth_law Opener bs n e h = (h, omega arith, omega (arith, leb-false 16 (length bs) e))
depth_law Els [] n e h = absurd (true≢false e)
depth_law Els (b ∷ bs) n e h = (omega (arith, h), refl, h)
depth_law Eif [] n e h = absurd (true≢false e)
depth_law Eif (b ∷ bs) n e h = (omega (arith, h), omega arith, omega (arith, h))

-- ---- an accepted program

-- what is known of it
pub record Listing (bytes : List ℕ) (p : Program) : Type 0 where
  pub header : 7 ≤ length bytes
  pub is : p ≡ program (stage_of bytes) (token_count bytes)
  pub lines : Listable (stage_of bytes) bytes 0 (token_count bytes) 0

module _ (edition : ℕ) (bytes : List ℕ) (p : Program) (e : verdict edition bytes ≡ Ok p) where
  abbrev count : ℕ → ℕ
  count k = count_of k edition (stage_of bytes)

  -- so many tokens from token n on, where these branches are open before it
  listable : (left n : ℕ) (bs : List Branch) (m : ℕ) → n + left ≤ token_count bytes → length bs ≤ 16
      → ((i : ℕ) → i < left → misplaced_from bs m (tokens_from edition bytes n left) i ≡ false) → Listable (stage_of bytes) bytes n left (length bs)
  listable zero n bs m l h placed = tt
  listable (suc left) n bs m l h placed =
      let s = token_at bytes n in
      let flow = flow_in (record_of s) in
      let l' : n < token_count bytes = omega (arith, l) in
      let (shown, after, most) = depth_law flow bs m (placed 0 (omega arith)) h in (
        (whole_tokens edition bytes p e).decode n l',
        token_named count edition (stage_of bytes) s (rules_kept edition bytes p e n l') (shown_depth flow (length bs)) (stage_known edition bytes p e) shown,
        subst (Listable (stage_of bytes) bytes (n + 1) left) after
            (listable left (n + 1) (branches_after (path_flow flow) m bs) (suc m) (omega (arith, l)) most (λ i k. placed (suc i) (omega (arith, k)))),
      )

  pub lists : Listing bytes p
  lists = record {
    header = header_whole edition bytes p e;
    is = is_program edition bytes p e;
    lines = listable (token_count bytes) 0 [] 0 (omega arith) (omega arith) (well_placed edition bytes p e);
  }
