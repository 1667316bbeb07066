-- A lawful token, as the tests tell it, has no fault of fields and none of faults 10 to 19, and reads what its fields tell.
-- Assumes nothing.
use Prim.Native.Nat.{ℕ}
use mathlib.Core.Bool.{Bool, true, false, not, ◌&&◌, ◌||◌, or-true}
use mathlib.Core.Option.{none}
use mathlib.Core.Path.{◌≡◌, refl, ◌∙◌, ap, sym, subst}
use native.Mathlib.Omega.{arith}
use lib.Dec.{eqb}
use borrow.Author.Tests.{eqb-true, not-true}
use Rattle.laws.proofs.Every.{both}
use Rattle.bytecode.specs.Decode.{no_refusal}
use Rattle.bytecode.specs.computed.CleanFields.{is_clean}
use Rattle.bytecode.proofs.DecodeLaws.{Clean, is_clean_lem}
use Rattle.layout.specs.Layout as layout
use Rattle.layout.specs.Layout.{value_of, is_stray, operand_bits}
use Rattle.layout.specs.Opcodes.{tex, is_added, is_matrix, row_of, shape_of_row, shape_of, holds, row_count2}
use Rattle.layout.specs.computed.Groups.{is_branch}
use Rattle.layout.specs.Records.{is_indexed, direct_of, operand_of, destination_of, sampler_of, token_of}
use Rattle.layout.specs.declared.fields.Fields.{Fields}
use Rattle.layout.specs.declared.opcodes.OperandShape.{OperandShape}
use Rattle.layout.specs.declared.opcodes.OperandShape.TheVariants.{Source, Sampler}
use Rattle.layout.specs.declared.record.Token.{Token}
use Rattle.layout.specs.computed.Sets.{among_of, ordinary_set}
use Rattle.components.specs.computed.QuickTests.{may_read_unwritten, matrix_may_read_unwritten, tex_may_read_unwritten}
use Rattle.components.specs.computed.ReadsWritten.{ReadsWritten}
use Rattle.components.specs.declared.written.Written.{Written}
use Rattle.components.proofs.QuickLaws.{ordinary_reads, matrix_reads, tex_reads}
use Rattle.layout.proofs.OpcodeLists.{is_ordinary_lem, matrix_shape, many_rows}
use Rattle.layout.proofs.OpcodeSets.{one_row, outside_matrices}
use Rattle.faults.specs.Rules.{opcode_too_new, destination_wrong, mask_wrong, opcode_not_for_stage, selectors_differ, matrix_swizzled, sampler_wrong}
use Rattle.faults.specs.computed.Profile.{profile_of, count_in}
use Rattle.faults.specs.Order.{first_fault, source_rules}
use Rattle.faults.specs.computed.Faults.{record_fault, own_fault}
use Rattle.faults.specs.computed.LawfulTests.{is_source, is_lawful_destination, is_lawful_source, is_lawful, is_lawful_matrix, is_lawful_tex, usable_of}
use Rattle.faults.specs.declared.profile.Profile.{Profile}
use Rattle.faults.proofs.LawfulOpcodes.{if_yes, if_no, LawfulOpcode, no_edition, in_fragment, known_ordinary, ordinary_opcode, matrix_opcode}
use Rattle.faults.proofs.LawfulOperands.{LawfulDestination, LawfulSource, is_direct, lawful_destination, lawful_direct, lawful_second}
use Rattle.faults.proofs.UsableCounts.{usable_in}
use Rattle.faults.proofs.FaultLaws.{first_append}

-- a token has none of faults 10 to 19, wherever it stands
abbrev pub NoOwnFault : Profile → Token → Type 0
NoOwnFault profile t = (token : ℕ) → own_fault profile token t ≡ no_refusal

pub no_own_fault : (p : Profile) (t : Token) → opcode_too_new p.edition t.opcode ≡ false → opcode_not_for_stage p.stage t.opcode ≡ false
    → destination_wrong (count_in p) p.stage t.destination ≡ false → mask_wrong t.opcode t.destination ≡ false
    → first_fault (source_rules (count_in p) p.stage 1 (selectors_differ t.opcode) 2 t.source1) ≡ none
    → first_fault (source_rules (count_in p) p.stage (row_count2 t.opcode) (matrix_swizzled t.opcode) 3 t.source2) ≡ none
    → NoOwnFault p t
unfolding own_fault record_fault
no_own_fault p t new stage d m first second token = simp (new, stage, d, m, first_append, first, second)

module _ (edition stage : ℕ) where
  abbrev profile : Profile
  profile = profile_of edition stage

  -- What is shown of a token that is told as lawful: it has no fault of fields and none of faults 10 to 19; whether it is one of a branch,
  -- and whether it has a destination; and it reads nothing unwritten of a set that is Enough.
  pub record ToldLawful (branch used : Bool) (Enough : Written → Type 0) (f : Fields) : Type 0 where
    pub flow : is_branch f.opcode ≡ branch
    pub clean : is_clean (shape_of f.opcode) f ≡ true
    pub right : NoOwnFault profile (token_of (shape_of f.opcode) f)
    pub destination : (token_of (shape_of f.opcode) f).destination ≡ destination_of used f.destination
    pub reads : (s : Written) → Enough s → ReadsWritten s f

  -- of one with a destination, where the test that goes with it says that it reads nothing unwritten
  abbrev pub LawfulToken : (Written → Fields → Bool) → Fields → Type 0
  LawfulToken unwritten f = ToldLawful false true (λ s. unwritten s f ≡ false) f

  module _ (f : Fields) where
    abbrev o : ℕ
    o = f.opcode

    abbrev destination : Bool
    destination = is_lawful_destination (usable_in edition stage).writable o f.destination

    abbrev first : Bool
    first = is_lawful_source (usable_in edition stage).readable true 1 f.source1

    -- What is shown of a token from what is shown of its destination and of source 1, whatever source 2 is, by what is left to show of the
    -- opcode and of source 2.
    pub together : {branch used : Bool} {shape1 : OperandShape} (shape2 : OperandShape) → shape_of o ≡ holds used shape1 shape2
        → LawfulDestination edition stage used o f.destination → LawfulSource edition stage shape1 1 f.source1
        → is_branch o ≡ branch → opcode_too_new edition o ≡ false → opcode_not_for_stage stage o ≡ false
        → selectors_differ o (direct_of f.source1).swizzle ≡ false
        → is_stray (operand_bits shape2) f.source2 ≡ false
        → first_fault (source_rules (count_in profile) stage (row_count2 o) (matrix_swizzled o) 3 (operand_of shape2 f.source2)) ≡ none
        → (Enough : Written → Type 0) → ((s : Written) → Enough s → ReadsWritten s f) → ToldLawful branch used Enough f
    unfolding token_of
    together {branch} {used} {shape1} shape2 whole into from flow new for_stage swizzle defined second Enough reads =
        let t = token_of (holds used shape1 shape2) f in
        record {
          flow = flow;
          clean = is_clean_lem (shape_of o) f (subst (λ s. Clean s f) (sym whole) (record { listed = refl; destination = into.defined; source1 = from.defined; source2 = defined }));
          right = subst (λ s. NoOwnFault profile (token_of s f)) (sym whole) (no_own_fault profile t new for_stage into.right into.mask (from.right (selectors_differ o) 2 swizzle) second);
          destination = ap (λ s. destination_of s.destination f.destination) whole;
          reads = reads;
        }

    -- ---- with an ordinary opcode or a matrix: of both sources it is known that they are lawful

    pub by_opcode : LawfulOpcode edition stage o → LawfulDestination edition stage true o f.destination → LawfulSource edition stage Source 1 f.source1
        → LawfulSource edition stage (shape_of o).source2 (row_count2 o) f.source2 → (eqb (row_count2 o) 1 || eqb (value_of layout.swizzle f.source2) 0xe4) ≡ true
        → (unwritten : Written → Fields → Bool) → ((s : Written) → unwritten s f ≡ false → ReadsWritten s f) → LawfulToken unwritten f
    by_opcode rules into from through unswizzled unwritten reads =
        together (shape_of o).source2 rules.shape.0 into from rules.flow rules.new rules.for_stage (rules.swizzle1 (direct_of f.source1).swizzle)
        through.defined (through.right (matrix_swizzled o) 3 (rules.swizzle2 (value_of layout.swizzle f.source2) unswizzled)) (λ s. unwritten s f ≡ false) reads

    module _ (e : (destination && first) ≡ true) where
      into : LawfulDestination edition stage true o f.destination
      into = lawful_destination edition stage o f.destination (both _ _ e).0

      from : LawfulSource edition stage Source 1 f.source1
      from = lawful_direct edition stage 1 f.source1 (omega arith) (both _ _ e).1

      direct_first : is_indexed f.source1 ≡ false
      direct_first = is_direct (usable_in edition stage).readable true 1 f.source1 (both _ _ e).1

    -- ---- with an ordinary opcode

    abbrev second : Bool
    second = is_lawful_source (usable_in edition stage).readable (is_source (shape_of o).source2) 1 f.source2

    when_ordinary : among_of (ordinary_set edition) o ≡ true → (destination && first && second) ≡ true → LawfulToken may_read_unwritten f
    when_ordinary h e =
        let rules = ordinary_opcode edition stage o h in
        let is = known_ordinary edition stage o h in
        let row = one_row o (outside_matrices o (is_ordinary_lem o is).matrix) in
        let (two, used) = both _ _ e in
        let through = subst (λ n. LawfulSource edition stage (shape_of o).source2 n f.source2) (sym row) (lawful_second edition stage (shape_of o).source2 f.source2 rules.shape.1 used) in
        by_opcode rules (into two) (from two) through (ap (λ n. eqb n 1 || eqb (value_of layout.swizzle f.source2) 0xe4) row) may_read_unwritten
        (λ s l. ordinary_reads s f l is (direct_first two, is_direct (usable_in edition stage).readable (is_source (shape_of o).source2) 1 f.source2 used))

    pub lawful : is_lawful (usable_in edition stage) f ≡ true → LawfulToken may_read_unwritten f
    unfolding is_lawful usable_of
    lawful e = let (h, k) = if_yes _ _ e in when_ordinary h k

    -- ---- with a matrix

    abbrev matrix : Bool
    matrix = is_lawful_source (usable_in edition stage).readable true (row_count2 o) f.source2

    abbrev unswizzled : Bool
    unswizzled = eqb (value_of layout.swizzle f.source2) 0xe4

    when_matrix : is_matrix o ≡ true → (destination && first && matrix && unswizzled) ≡ true → LawfulToken matrix_may_read_unwritten f
    when_matrix m e =
        let rules = matrix_opcode edition stage o m in
        let (three, plain) = both _ _ e in
        let (two, used) = both _ _ three in
        let through = subst (λ shape. LawfulSource edition stage shape.source2 (row_count2 o) f.source2) (sym (matrix_shape o m)) (lawful_direct edition stage (row_count2 o) f.source2 rules.rows used) in
        by_opcode rules (into two) (from two) through (ap (λ b. eqb (row_count2 o) 1 || b) plain ∙ or-true (eqb (row_count2 o) 1)) matrix_may_read_unwritten
        (λ s l. matrix_reads s f l m (direct_first two, is_direct (usable_in edition stage).readable true (row_count2 o) f.source2 used))

    pub lawful_matrix : is_lawful_matrix (usable_in edition stage) f ≡ true → LawfulToken matrix_may_read_unwritten f
    unfolding is_lawful_matrix
    lawful_matrix e = let (h, k) = if_no _ _ e in when_matrix (many_rows o h) k

    -- ---- with tex

    abbrev stray : Bool
    stray = is_stray (operand_bits Sampler) f.source2

    abbrev wrong : Bool
    wrong = sampler_wrong (count_in profile) (sampler_of f.source2)

    when_tex : o ≡ tex → (destination && first && eqb stage 1 && not stray && not wrong) ≡ true → LawfulToken tex_may_read_unwritten f
    unfolding row_of shape_of_row
    when_tex is e =
        let (four, sampler) = both _ _ e in
        let (three, defined) = both _ _ four in
        let (two, fragment) = both _ _ three in
        let right-sampler = not-true wrong sampler in
        together Sampler (ap shape_of is) (into two) (from two) (ap is_branch is) (no_edition edition stage o (ap is_added is)) (in_fragment edition stage o fragment)
        (ap (λ o. selectors_differ o (direct_of f.source1).swizzle) is)
        (not-true stray defined)
        (rw right-sampler)
        (λ s. tex_may_read_unwritten s f ≡ false) (λ s l. tex_reads s f l is (direct_first two))

    pub lawful_tex : is_lawful_tex (usable_in edition stage) f ≡ true → LawfulToken tex_may_read_unwritten f
    unfolding is_lawful_tex usable_of
    lawful_tex e = let (h, k) = if_yes _ _ e in when_tex (eqb-true o tex h) k
