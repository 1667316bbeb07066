-- Operands that the tests tell as lawful break no rule.
-- Assumes nothing.
use Prim.Native.Nat.{ℕ, ◌≤◌, ◌+◌, ◌-◌, ◌<◌}
use mathlib.Core.Bool.{Bool, true, false, cond, ◌&&◌, true≢false, false≢true}
use mathlib.Core.Option.{none}
use mathlib.Core.Path.{◌≡◌, refl, ◌∙◌, ap, sym, subst}
use native.Mathlib.Omega.{arith}
use lib.Dec.{eqb, ltb}
use borrow.Author.Tests.{eq-eqb, lt-leb, le-ltb, ltb-true, leb-true, not-true}
use Rattle.laws.proofs.Every.{both}
use Rattle.layout.specs.Layout as layout
use Rattle.layout.specs.Layout.{value_of, is_stray, destination_bits, operand_bits}
use Rattle.layout.specs.Records.{is_indexed, direct_of, indexed_of, source_of, operand_of, destination_of}
use Rattle.layout.specs.declared.opcodes.OperandShape.{OperandShape}
use Rattle.layout.specs.declared.opcodes.OperandShape.TheVariants.{Unused, Source, Sampler}
use Rattle.layout.specs.declared.record.Operand.{Operand}
use Rattle.layout.proofs.OpcodeLists.{is_sampler}
use Rattle.layout.proofs.SourceKinds.{direct_source, indexed_source}
use Rattle.layout.proofs.Stray.{wider, value_within}
use Rattle.registers.specs.Counts.{count_of}
use Rattle.registers.specs.Uses.{is_readable, is_writable}
use Rattle.faults.specs.Rules.{destination_wrong, mask_wrong, direct_wrong, indexed_wrong}
use Rattle.faults.specs.computed.Profile.{profile_of, count_in}
use Rattle.faults.specs.Order.{first_fault, source_rules}
use Rattle.faults.specs.computed.LawfulTests.{is_source, lawful_source_bits, is_lawful_destination, is_lawful_source, is_rightly_indexed, is_lawful_either}
use Rattle.faults.specs.declared.profile.Profile.{Profile}
use Rattle.faults.proofs.Counts.{counts_are}
use Rattle.faults.proofs.UsableCounts.{usable_in, if_used, is_index, readable_counts, writable_counts, indexing_counts}

-- no rule of an operand of so many rows, where 18 is not broken
abbrev NoSourceFault : Profile → ℕ → ℕ → Operand → Type 0
NoSourceFault profile rows field o =
    (swizzled : ℕ → Bool) (part : ℕ) → swizzled (direct_of field).swizzle ≡ false
    → first_fault (source_rules (count_in profile) profile.stage rows swizzled part o) ≡ none

module _ (p : Profile) (rows field : ℕ) where
  right_direct : is_indexed field ≡ false → direct_wrong (count_in p) p.stage rows (direct_of field) ≡ false → NoSourceFault p rows field (source_of field)
  right_direct i d swizzled part h = ap (λ o. first_fault (source_rules (count_in p) p.stage rows swizzled part o)) (direct_source field i) ∙ simp (d, h)

  right_indexed : is_indexed field ≡ true → indexed_wrong (count_in p) p.stage rows (indexed_of field) ≡ false → NoSourceFault p rows field (source_of field)
  right_indexed i d swizzled part h = ap (λ o. first_fault (source_rules (count_in p) p.stage rows swizzled part o)) (indexed_source field i) ∙ simp (d, h)

-- a field of bits without D is not indexed
not_indexed : (bits field : ℕ) → value_of layout.indirect bits ≡ 0 → is_stray bits field ≡ false → is_indexed field ≡ false
not_indexed bits field direct stray = rw (eq-eqb (value_of layout.indirect field) 0 (omega (arith, direct, value_within layout.indirect bits field stray)))

-- so a source that is told as direct, or as not used, is not
pub is_direct : (readable : ℕ) (used : Bool) (rows field : ℕ) → is_lawful_source readable used rows field ≡ true → is_indexed field ≡ false
unfolding is_lawful_source
is_direct readable used rows field e = go used (not-true _ (both _ _ e).0)
  where
    go : (used : Bool) → is_stray (lawful_source_bits used) field ≡ false → is_indexed field ≡ false
    go true stray = not_indexed (lawful_source_bits true) field refl stray
    go false stray = not_indexed (lawful_source_bits false) field refl stray

-- a number below a count that is 0 where the kind is not used
below_used : (b : Bool) (n count : ℕ) → n < cond b count 0 → (b ≡ true) × (n < count)
below_used true n count h = (refl, h)
below_used false n count h = absurd (omega arith)

module _ (edition stage : ℕ) where
  abbrev profile : Profile
  profile = profile_of edition stage

  -- the number is below the count of its kind, which is one that the stage uses
  counted : (used : ℕ → ℕ → Bool) (n count kind : ℕ) → count ≡ if_used used edition stage kind → n < count
      → (used kind stage ≡ true) × (n < count_in profile kind)
  counted used n count kind e h =
      let (u, l) = below_used (used kind stage) n (count_of kind edition stage) (subst (λ c. n < c) e h) in
      (u, subst (λ c. n < c kind) (sym (counts_are edition stage)) l)

  -- what is shown of a destination, used or not, and of a source
  pub record LawfulDestination (used : Bool) (opcode field : ℕ) : Type 0 where
    pub defined : is_stray (destination_bits used) field ≡ false
    pub right : destination_wrong (count_in profile) stage (destination_of used field) ≡ false
    pub mask : mask_wrong opcode (destination_of used field) ≡ false

  pub record LawfulSource (shape : OperandShape) (rows field : ℕ) : Type 0 where
    pub defined : is_stray (operand_bits shape) field ≡ false
    pub right : NoSourceFault profile rows field (operand_of shape field)

  pub lawful_destination : (opcode field : ℕ) → is_lawful_destination (usable_in edition stage).writable opcode field ≡ true → LawfulDestination true opcode field
  unfolding is_lawful_destination
  lawful_destination opcode field e =
      let kind = value_of layout.masked_kind field in
      let (two, masked) = both _ _ e in
      let (kept, low) = both _ _ two in
      let stray = not-true _ kept in
      let small = value_within layout.masked_kind 0x070fffff field stray in
      let (u, l) = counted is_writable _ _ kind (writable_counts edition stage kind (omega (arith, small))) (ltb-true _ _ low) in
      record {
        defined = wider 0x070fffff (destination_bits true) field refl stray;
        right = rw (u, lt-leb (count_in profile kind) (value_of layout.number field) l);
        mask = not-true _ masked;
      }

  -- fields that are not used, and are 0
  pub no_destination : (opcode field : ℕ) → field ≡ 0 → LawfulDestination false opcode field
  no_destination opcode field e = record { defined = ap (is_stray 0) e; right = refl; mask = refl }

  pub no_source : (rows field : ℕ) → field ≡ 0 → LawfulSource Unused rows field
  no_source rows field e = record { defined = ap (is_stray 0) e; right = λ swizzled part h. refl }

  -- a source that is used, of one row or more
  pub lawful_direct : (rows field : ℕ) → 1 ≤ rows → is_lawful_source (usable_in edition stage).readable true rows field ≡ true → LawfulSource Source rows field
  unfolding is_lawful_source
  lawful_direct rows field some e =
      let kind = value_of layout.kind field in
      let number = value_of layout.number field in
      let (kept, fits) = both _ _ e in
      let stray = not-true _ kept in
      let small = value_within layout.kind (lawful_source_bits true) field stray in
      let no-offset = value_within layout.offset (lawful_source_bits true) field stray in
      let (u, l) = counted is_readable (number + (rows - 1)) _ kind (readable_counts edition stage kind (omega (arith, small))) (omega (arith, leb-true _ _ fits, some)) in
      let d : direct_wrong (count_in profile) stage rows (direct_of field) ≡ false = rw (u, le-ltb (count_in profile kind) (number + rows) (omega (arith, l, some)), eq-eqb (value_of layout.offset field) 0 (omega (arith, no-offset))) in
      let i = not_indexed (lawful_source_bits true) field refl stray in
      record {
        defined = wider (lawful_source_bits true) (operand_bits Source) field refl stray;
        right = right_direct profile rows field i d;
      }

  -- one that is not
  lawful_unused : (rows field : ℕ) → is_lawful_source (usable_in edition stage).readable false rows field ≡ true → LawfulSource Unused rows field
  unfolding is_lawful_source
  lawful_unused rows field e =
      record {
        defined = not-true _ (both _ _ e).0;
        right = λ swizzled part h. refl;
      }

  pub lawful_second : (shape : OperandShape) (field : ℕ) → is_sampler shape ≡ false → is_lawful_source (usable_in edition stage).readable (is_source shape) 1 field ≡ true → LawfulSource shape 1 field
  lawful_second Unused field n e = lawful_unused 1 field e
  lawful_second Source field n e = lawful_direct 1 field (omega arith) e
  lawful_second Sampler field n e = absurd (true≢false n)

  -- ---- where a source may be indexed

  abbrev indexed_bits : ℕ
  indexed_bits = 0x80030701ffffffff

  module _ (rows field : ℕ) (some : 1 ≤ rows) where
    abbrev kind : ℕ
    kind = value_of layout.index_kind field

    abbrev number : ℕ
    number = value_of layout.number field

    abbrev offset : ℕ
    offset = value_of layout.offset field

    lawful_indexed : is_indexed field ≡ true → is_rightly_indexed (usable_in edition stage) rows field ≡ true → LawfulSource Source rows field
    unfolding is_rightly_indexed
    lawful_indexed i e =
        let (three, within) = both _ _ e in
        let (two, low) = both _ _ three in
        let (kept, constant) = both _ _ two in
        let stray = not-true _ kept in
        let small = value_within layout.index_kind indexed_bits field stray in
        let (index, below) = counted is_index number _ kind (indexing_counts edition stage kind (omega (arith, small))) (ltb-true _ _ low) in
        let (vertex, three-kinds) = both (eqb stage 0) (ltb kind 3) index in
        let (_, room) = counted is_readable (offset + (rows - 1)) _ 1 (readable_counts edition stage 1 (omega arith)) (omega (arith, leb-true _ _ within, some)) in
        let d : indexed_wrong (count_in profile) stage rows (indexed_of field) ≡ false =
        rw (
          vertex,
          constant,
          le-ltb 2 kind (omega (arith, ltb-true kind 3 three-kinds)),
          lt-leb (count_in profile kind) number below,
          le-ltb (count_in profile 1) (offset + rows) (omega (arith, room, some)),
        ) in
        record {
          defined = wider indexed_bits (operand_bits Source) field refl stray;
          right = right_indexed profile rows field i d;
        }

    pub lawful_either : (shape : OperandShape) → is_sampler shape ≡ false → is_lawful_either (usable_in edition stage) (is_source shape) rows field ≡ true → LawfulSource shape rows field
    unfolding is_lawful_either
    lawful_either shape n e = go shape n (is_indexed field) refl e
      where
        go : (shape : OperandShape) → is_sampler shape ≡ false → (b : Bool) → is_indexed field ≡ b
            → cond b (is_source shape && is_rightly_indexed (usable_in edition stage) rows field) (is_lawful_source (usable_in edition stage).readable (is_source shape) rows field) ≡ true
            → LawfulSource shape rows field
        go Unused n true i k = absurd (false≢true k)
        go Unused n false i k = lawful_unused rows field k
        go Source n true i k = lawful_indexed i k
        go Source n false i k = lawful_direct rows field some k
        go Sampler n b i k = absurd (true≢false n)
