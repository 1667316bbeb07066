-- A quick test that says no means that nothing unwritten is read.
-- Assumes nothing.
use Prim.Native.Nat.{ℕ}
use mathlib.Core.Bool.{Bool, true, false, cond, true≢false}
use mathlib.Core.Path.{◌≡◌, refl, sym, ap, ap₂, subst, fun_ext, ◌∙◌}
use lib.Dec.{eqb, eqb→eq}
use Rattle.std.proofs.lemmas.Bool.{or_parts}
use Rattle.layout.specs.Opcodes.{tex, openers, is_matrix, is_opener, row_count2, holds, row_of, shape_of_row, shape_of}
use Rattle.layout.specs.Records.{register_of, direct_of, is_indexed, indexed_of, sampler_of, source_of, operand_of, token_of}
use Rattle.layout.specs.computed.Sets.{named_set, selector_set1, selector_set2, read_set2}
use Rattle.layout.specs.declared.fields.Fields.{Fields}
use Rattle.layout.specs.declared.opcodes.OperandShape.{OperandShape}
use Rattle.layout.specs.declared.opcodes.OperandShape.TheVariants.{Unused, Source, Sampler}
use Rattle.layout.specs.declared.opcodes.Shape.{Shape}
use Rattle.layout.proofs.OpcodeLists.{each, none_of, is_sampler, is_ordinary_lem, ordinary_shape, matrix_shape, first_shape, branch_shape, opener_shape}
use Rattle.layout.proofs.OpcodeSets.{outside_matrices, one_row, by_selectors}
use Rattle.layout.proofs.SourceKinds.{indexed_source, direct_source}
use Rattle.paths.specs.computed.Check.{lacks}
use Rattle.components.specs.computed.Access.{lacks_access, lacks_some, index_access, direct_access, selected_access, access_through, access1_of, access2_of}
use Rattle.components.specs.computed.QuickTests.{may_lack, may_read_unwritten, matrix_may_read_unwritten, tex_may_read_unwritten, indexed_may_read_unwritten, opener_lacks, opener_may_read_unwritten, kil_may_read_unwritten}
use Rattle.components.specs.Reads.{dimension_of, reads1, reads2, temporaries}
use Rattle.components.specs.computed.ReadsWritten.{ReadsWritten, OrdinaryReads, MatrixReads, TexReads, IndexedReads, OpenerReads, KilReads}
use Rattle.components.specs.computed.Written.{component_set}
use Rattle.components.specs.declared.written.Written.{Written}
use Rattle.components.proofs.AccessFields.{source_dimension}
use Rattle.components.proofs.AccessLaws.{none_missing, lacks_reads1, lacks_reads2}

-- what the code answers, with what it means
with_meaning : (Means : Bool → Type 0) (r b : Bool) → r ≡ b → Means b → (r ≡ b) × Means r
with_meaning Means r b e m = (e, subst Means (sym e) m)

-- ---- one source

-- What a source does not lack, it does not read unwritten. An indexed one is asked for its index; what is asked of a direct one says no only
-- where that is so.
none_lacking : (s : Written) (rows : ℕ) (components : ℕ → ℕ) (field : ℕ) (asked : Bool)
    → (asked ≡ false → lacks_access s (direct_access rows components (direct_of field)) ≡ false)
    → cond (is_indexed field) (lacks_access s (index_access (indexed_of field))) asked ≡ false
    → lacks_access s (access_through rows components (source_of field)) ≡ false
none_lacking s rows components field asked direct e = go (is_indexed field) refl e
  where
    go : (b : Bool) → is_indexed field ≡ b → cond b (lacks_access s (index_access (indexed_of field))) asked ≡ false
        → lacks_access s (access_through rows components (source_of field)) ≡ false
    go true i l = ap (λ o. lacks_access s (access_through rows components o)) (indexed_source field i) ∙ l
    go false i l = ap (λ o. lacks_access s (access_through rows components o)) (direct_source field i) ∙ direct l

-- all four components are asked for
none_at_all : (s : Written) (rows : ℕ) (components : ℕ → ℕ) (field : ℕ) → may_lack s rows field ≡ false
    → lacks_access s (access_through rows components (source_of field)) ≡ false
unfolding may_lack
none_at_all s rows components field =
    none_lacking s rows components field _ (λ l. sym (none_missing s rows components (direct_of field) l))

-- or those that all four selectors name
none_by_four : (s : Written) (field : ℕ) → opener_lacks s field ≡ false → lacks_access s (access_through 1 (λ z. named_set z 15) (source_of field)) ≡ false
unfolding opener_lacks
none_by_four s field = none_lacking s 1 (λ z. named_set z 15) field _ (λ l. l)

-- through a field that holds a direct source, or none
through_direct : (s : Written) (rows : ℕ) (components : ℕ → ℕ) (shape : OperandShape) (field : ℕ) → is_indexed field ≡ false
    → lacks_access s (direct_access rows components (direct_of field)) ≡ false → lacks_access s (access_through rows components (operand_of shape field)) ≡ false
through_direct s rows components Unused field i l = refl
through_direct s rows components Source field i l = ap (λ o. lacks_access s (access_through rows components o)) (direct_source field i) ∙ l
through_direct s rows components Sampler field i l = refl

-- or an indexed one
through_either : (s : Written) (rows : ℕ) (components : ℕ → ℕ) (shape : OperandShape) (field : ℕ) → may_lack s rows field ≡ false
    → lacks_access s (access_through rows components (operand_of shape field)) ≡ false
through_either s rows components Unused field l = refl
through_either s rows components Source field l = none_at_all s rows components field l
through_either s rows components Sampler field l = refl

no_dimension : (shape : OperandShape) → is_sampler shape ≡ false → (field : ℕ) → dimension_of (operand_of shape field) ≡ 0
no_dimension Unused n field = refl
no_dimension Source n field = source_dimension field
no_dimension Sampler n field = absurd (true≢false n)

-- ---- a token

module _ (s : Written) (f : Fields) where
  abbrev o : ℕ
  o = f.opcode

  abbrev mask : ℕ
  mask = (register_of f.destination).mask

  abbrev ReadsBy : Shape → Type 0
  ReadsBy shape = (lacks (component_set s) (temporaries (reads1 (token_of shape f))) ≡ false) × (lacks (component_set s) (temporaries (reads2 (token_of shape f))) ≡ false)

  reads_by : (shape : Shape) → shape_of o ≡ shape → lacks_access s (access1_of (token_of shape f)) ≡ false → lacks_access s (access2_of (token_of shape f)) ≡ false → ReadsWritten s f
  reads_by shape whole a b = subst ReadsBy (sym whole) (lacks_reads1 s (token_of shape f) ∙ a, lacks_reads2 s (token_of shape f) ∙ b)

  -- through source 1 of a token with a destination
  reads_first : (shape2 : OperandShape) (n : ℕ) → dimension_of (operand_of shape2 f.source2) ≡ n
      → lacks_access s (access_through 1 (λ z. named_set z (selector_set1 o mask n)) (source_of f.source1)) ≡ false
      → lacks_access s (access1_of (token_of (holds true Source shape2) f)) ≡ false
  unfolding token_of
  reads_first shape2 n k l = ap (λ n. lacks_access s (access_through 1 (λ z. named_set z (selector_set1 o mask n)) (source_of f.source1))) k ∙ l

  direct_first : (shape2 : OperandShape) (n : ℕ) → dimension_of (operand_of shape2 f.source2) ≡ n → is_indexed f.source1 ≡ false
      → lacks_access s (selected_access (selector_set1 o mask n) (direct_of f.source1)) ≡ false
      → lacks_access s (access1_of (token_of (holds true Source shape2) f)) ≡ false
  direct_first shape2 n k i l = reads_first shape2 n k (through_direct s 1 (λ z. named_set z (selector_set1 o mask n)) Source f.source1 i l)

  -- through source 2 of one row, by the mask m
  second_selected : is_matrix o ≡ false → (m : ℕ) (shape2 : OperandShape)
      → lacks_access s (access_through 1 (λ z. named_set z (selector_set2 o m)) (operand_of shape2 f.source2)) ≡ false
      → lacks_access s (access_through (row_count2 o) (read_set2 o m) (operand_of shape2 f.source2)) ≡ false
  second_selected not-matrix m shape2 l =
      let single = outside_matrices o not-matrix in
      ap₂ (λ n c. lacks_access s (access_through n c (operand_of shape2 f.source2))) (one_row o single) (fun_ext (λ z. by_selectors o single m z)) ∙ l

  pub ordinary_reads : OrdinaryReads (may_read_unwritten s f) s f
  unfolding may_read_unwritten token_of
  ordinary_reads e is direct =
      let p = is_ordinary_lem o is in
      let (whole, not-sampler) = ordinary_shape o p in
      let shape2 = (shape_of o).source2 in
      let (l, r) = or_parts (lacks_access s (selected_access (selector_set1 o mask 0) (direct_of f.source1))) (lacks_access s (selected_access (selector_set2 o mask) (direct_of f.source2))) e in
      reads_by (holds true Source shape2) whole
      (direct_first shape2 0 (no_dimension shape2 not-sampler f.source2) direct.0 l)
      (second_selected p.matrix mask shape2 (through_direct s 1 (λ z. named_set z (selector_set2 o mask)) shape2 f.source2 direct.1 r))

  pub matrix_reads : MatrixReads (matrix_may_read_unwritten s f) s f
  unfolding matrix_may_read_unwritten token_of
  matrix_reads e is direct =
      let (l, r) = or_parts (lacks_access s (selected_access (selector_set1 o mask 0) (direct_of f.source1))) (lacks_some s (row_count2 o) (direct_of f.source2)) e in
      reads_by (holds true Source Source) (matrix_shape o is)
      (direct_first Source 0 (source_dimension f.source2) direct.0 l)
      (through_direct s (row_count2 o) (read_set2 o mask) Source f.source2 direct.1 (sym (none_missing s (row_count2 o) (read_set2 o mask) (direct_of f.source2) r)))

  coordinates : o ≡ tex → (n : ℕ) → selector_set1 o mask n ≡ selector_set1 tex mask n
  coordinates e n = ap (λ o. selector_set1 o mask n) e

  pub tex_reads : TexReads (tex_may_read_unwritten s f) s f
  unfolding tex_may_read_unwritten token_of row_of shape_of_row selector_set1
  tex_reads e is direct =
      let n = (sampler_of f.source2).dimension in
      reads_by (holds true Source Sampler) (ap shape_of is)
      (direct_first Sampler n refl direct (ap (λ c. lacks_access s (selected_access c (direct_of f.source1))) (coordinates is n) ∙ e))
      refl

  pub indexed_reads : IndexedReads (indexed_may_read_unwritten s f) s f
  unfolding indexed_may_read_unwritten token_of
  indexed_reads e is =
      let (whole, not-sampler) = first_shape o is in
      let shape2 = (shape_of o).source2 in
      let (l, r) = or_parts (may_lack s 1 f.source1) (may_lack s (row_count2 o) f.source2) e in
      reads_by (holds true Source shape2) whole
      (reads_first shape2 0 (no_dimension shape2 not-sampler f.source2) (none_at_all s 1 (λ z. named_set z (selector_set1 o mask 0)) f.source1 l))
      (through_either s (row_count2 o) (read_set2 o mask) shape2 f.source2 r)

  -- an opener has no mask, and reads by all four selectors
  all_four1 : is_opener o ≡ true → (n : ℕ) → selector_set1 o 0 n ≡ 15
  unfolding selector_set1
  all_four1 is n = eqb→eq (selector_set1 o 0 n) 15 (each openers (λ o. eqb (selector_set1 o 0 n) 15) tt o is)

  all_four2 : is_opener o ≡ true → selector_set2 o 0 ≡ 15
  unfolding selector_set2
  all_four2 is = eqb→eq (selector_set2 o 0) 15 (each openers (λ o. eqb (selector_set2 o 0) 15) tt o is)

  pub opener_reads : OpenerReads (opener_may_read_unwritten s f) s f
  unfolding opener_may_read_unwritten token_of
  opener_reads e is =
      let (l, r) = or_parts (opener_lacks s f.source1) (opener_lacks s f.source2) e in
      let by : ℕ → ℕ → Bool = λ field selectors. lacks_access s (access_through 1 (λ z. named_set z selectors) (source_of field)) in
      reads_by (branch_shape true) (opener_shape o is)
      (ap (by f.source1) (all_four1 is (dimension_of (source_of f.source2))) ∙ none_by_four s f.source1 l)
      (second_selected (none_of openers is_matrix tt o is) 0 Source (ap (by f.source2) (all_four2 is) ∙ none_by_four s f.source2 r))

  -- kil reads by the first
  pub kil_reads : KilReads (kil_may_read_unwritten s f) s f
  unfolding kil_may_read_unwritten token_of row_of shape_of_row selector_set1
  kil_reads e is direct =
      reads_by (holds false Source Unused) (ap shape_of is)
      (through_direct s 1 (λ z. named_set z (selector_set1 o 0 0)) Source f.source1 direct (ap (λ o. lacks_access s (selected_access (selector_set1 o 0 0) (direct_of f.source1))) is ∙ e))
      refl

-- ---- what each test answers, with what that means

pub ordinary_means : (s : Written) (f : Fields) (r : Bool) → r ≡ may_read_unwritten s f → (r ≡ may_read_unwritten s f) × OrdinaryReads r s f
ordinary_means s f r e = with_meaning (λ r. OrdinaryReads r s f) r (may_read_unwritten s f) e (ordinary_reads s f)

pub matrix_means : (s : Written) (f : Fields) (r : Bool) → r ≡ matrix_may_read_unwritten s f → (r ≡ matrix_may_read_unwritten s f) × MatrixReads r s f
matrix_means s f r e = with_meaning (λ r. MatrixReads r s f) r (matrix_may_read_unwritten s f) e (matrix_reads s f)

pub tex_means : (s : Written) (f : Fields) (r : Bool) → r ≡ tex_may_read_unwritten s f → (r ≡ tex_may_read_unwritten s f) × TexReads r s f
tex_means s f r e = with_meaning (λ r. TexReads r s f) r (tex_may_read_unwritten s f) e (tex_reads s f)

pub indexed_means : (s : Written) (f : Fields) (r : Bool) → r ≡ indexed_may_read_unwritten s f → (r ≡ indexed_may_read_unwritten s f) × IndexedReads r s f
indexed_means s f r e = with_meaning (λ r. IndexedReads r s f) r (indexed_may_read_unwritten s f) e (indexed_reads s f)

pub opener_means : (s : Written) (f : Fields) (r : Bool) → r ≡ opener_may_read_unwritten s f → (r ≡ opener_may_read_unwritten s f) × OpenerReads r s f
opener_means s f r e = with_meaning (λ r. OpenerReads r s f) r (opener_may_read_unwritten s f) e (opener_reads s f)

pub kil_means : (s : Written) (f : Fields) (r : Bool) → r ≡ kil_may_read_unwritten s f → (r ≡ kil_may_read_unwritten s f) × KilReads r s f
kil_means s f r e = with_meaning (λ r. KilReads r s f) r (kil_may_read_unwritten s f) e (kil_reads s f)

-- where all four components of both sources' registers are written, the first test says no
pub ordinary_none : (s : Written) (f : Fields) → lacks_some s 1 (direct_of f.source1) ≡ false → lacks_some s 1 (direct_of f.source2) ≡ false → false ≡ may_read_unwritten s f
unfolding may_read_unwritten
ordinary_none s f a b =
    let mask = (register_of f.destination).mask in
    simp (
      sym (none_missing s 1 (λ z. named_set z (selector_set1 f.opcode mask 0)) (direct_of f.source1) a),
      sym (none_missing s 1 (λ z. named_set z (selector_set2 f.opcode mask)) (direct_of f.source2) b),
    )
    refl
