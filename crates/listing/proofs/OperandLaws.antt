-- What is known of an operand once its case is, and the room that the operands of an encodable record take.
-- Assumes nothing.
use Rattle.std.specs.Prelude.{Option, Some}
use Rattle.layout.specs.declared.record.MaskedRegister.{MaskedRegister}
use Prim.Native.Nat.{ℕ, ◌≤◌}
use mathlib.Core.Bool.{Bool, true, false, cond}
use mathlib.Core.Path.{◌≡◌, refl, ◌∙◌, sym, ap}
use native.Mathlib.Omega.{arith}
use lib.Dec.{eqb}
use borrow.Author.Tests.{leb-true}
use Rattle.layout.specs.Opcodes.{is_listed, row_of, shape_of, shape_of_row}
use Rattle.bytecode.specs.Encode.{is_encodable, operand_fits}
use Rattle.layout.specs.declared.opcodes.OperandShape.{OperandShape}
use Rattle.layout.specs.declared.opcodes.OperandShape.TheVariants.{Unused as NoField, Source as SourceField, Sampler as SamplerField}
use Rattle.layout.specs.declared.opcodes.Shape.{Shape}
use Rattle.layout.specs.declared.record.Operand.{Operand}
use Rattle.layout.specs.declared.record.Operand.TheVariants.{Unused as NoOperand, Direct, Indexed, Sampler as Sampled}
use Rattle.layout.specs.declared.record.Token.{Token}
use Rattle.laws.proofs.Every.{both}
use Rattle.listing.specs.Line.{is_nameable, destination_has_names, operand_has_names}
use Rattle.listing.specs.computed.Writers.{operand_room, Nameable}

-- ---- names

pub masked_kind_lem : {d : Option MaskedRegister} {r : MaskedRegister} → d ≡ Some r → destination_has_names d ≡ true → r.kind ≤ 6
masked_kind_lem {r = r} e h = leb-true r.kind 6 (sym (ap destination_has_names e) ∙ h)

-- ---- room

shape_room : OperandShape → ℕ
shape_room NoField = 0
shape_room SourceField = 25
shape_room SamplerField = 52

fits_room : (shape : OperandShape) (o : Operand) → operand_fits shape o ≡ true → operand_room o ≤ shape_room shape
unfolding shape_room
fits_room NoField NoOperand e = omega arith
fits_room NoField (Direct s) e = absurd (let z : ◌≡◌ {A = ℕ} 0 1 = cc in omega arith)
fits_room NoField (Indexed s) e = absurd (let z : ◌≡◌ {A = ℕ} 0 1 = cc in omega arith)
fits_room NoField (Sampled s) e = absurd (let z : ◌≡◌ {A = ℕ} 0 1 = cc in omega arith)
fits_room SourceField NoOperand e = omega arith
fits_room SourceField (Direct s) e = omega arith
fits_room SourceField (Indexed s) e = omega arith
fits_room SourceField (Sampled s) e = absurd (let z : ◌≡◌ {A = ℕ} 0 1 = cc in omega arith)
fits_room SamplerField NoOperand e = omega arith
fits_room SamplerField (Direct s) e = omega arith
fits_room SamplerField (Indexed s) e = omega arith
fits_room SamplerField (Sampled s) e = omega arith

-- what holds of both sides holds of the one that is picked
picked : (P : Shape → Type 0) (b : Bool) {x y : Shape} → P x → P y → P (cond b x y)
picked P true p q = p
picked P false p q = q

-- no opcode has a sampler as source 1
Roomy : Shape → Type 0
Roomy s = (shape_room s.source1 ≤ 25) × (shape_room s.source2 ≤ 52)

roomy : (row : ℕ) → Roomy (shape_of_row row)
unfolding shape_of_row Roomy shape_room
roomy row =
    picked Roomy (eqb row 1) (omega arith, omega arith)
    (picked Roomy (eqb row 2) (omega arith, omega arith)
    (picked Roomy (eqb row 3) (omega arith, omega arith)
    (picked Roomy (eqb row 4) (omega arith, omega arith)
    (picked Roomy (eqb row 5) (omega arith, omega arith)
    (picked Roomy (eqb row 6) (omega arith, omega arith) (omega arith, omega arith))))))

-- ---- a nameable record

unlisted_row : (o : ℕ) → is_listed o ≡ false → row_of o ≡ 0
unfolding row_of
unlisted_row o f = rw f

listed : (o : ℕ) → (shape_of o).listed ≡ true → is_listed o ≡ true
unfolding shape_of_row
listed o e = go (is_listed o) refl
  where
    go : (b : Bool) → is_listed o ≡ b → is_listed o ≡ true
    go true f = f
    go false f =
        let g : false ≡ true = sym (ap (λ (r : ℕ). (shape_of_row r).listed) (unlisted_row o f)) ∙ e in
        absurd (let z : ◌≡◌ {A = ℕ} 0 1 = cc in omega arith)

module _ (t : Token) (stage depth : ℕ) (e : is_nameable t stage depth ≡ true) where
  pub stage_bound : stage ≤ 1
  unfolding is_nameable
  stage_bound = leb-true stage 1 (both _ _ (both _ _ (both _ _ (both _ _ (both _ _ e).0).0).0).0).1

  pub nameable : Nameable t depth
  unfolding is_nameable is_encodable Roomy
  nameable =
      let deep = both _ _ (both _ _ (both _ _ (both _ _ e).0).0).0 in
      let fits2 = both _ _ (both _ _ deep.0).0 in
      let fits1 = both _ _ fits2.0 in
      let fits = both _ _ fits1.0 in
      let shape = shape_of t.opcode in
      let roomy = roomy (row_of t.opcode) in
      record {
        opcode = listed t.opcode fits.0;
        depth = leb-true depth 16 deep.1;
        room = omega (arith, fits_room shape.source1 t.source1 fits1.1, fits_room shape.source2 t.source2 fits2.1, roomy.0, roomy.1);
      }

  -- all that it names has a name
  pub named : (destination_has_names t.destination ≡ true) × (operand_has_names t.source1 ≡ true) × (operand_has_names t.source2 ≡ true)
  unfolding is_nameable
  named =
      let second = both _ _ e in
      let first = both _ _ second.0 in
      ((both _ _ first.0).1, first.1, second.1)
