-- An access stands for exactly the components that document 01 says are read through the source.
-- Assumes nothing.
use Prim.Native.Nat.{ℕ, zero, suc, ◌*◌, ◌%◌, ◌^◌, ◌<◌}
use mathlib.Core.Bool.{Bool, true, false, ◌&&◌}
use mathlib.Core.List.{List, [], ◌∷◌}
use mathlib.Core.Path.{◌≡◌, refl, sym, ap, ◌∙◌}
use native.Mathlib.Omega.{arith}
use lib.Dec.{eqb}
use borrow.Author.Tests.{eqb-true, eq-eqb}
use Rattle.std.proofs.lemmas.Bool.{and_parts}
use Rattle.layout.specs.Opcodes.{row_count2}
use Rattle.layout.specs.declared.record.DirectSource.{DirectSource}
use Rattle.layout.specs.declared.record.Operand.{Operand}
use Rattle.layout.specs.declared.record.Operand.TheVariants.{Unused as NoOperand, Direct, Indexed, Sampler as Sampled}
use Rattle.layout.specs.declared.record.Token.{Token}
use Rattle.layout.proofs.SelectionLaws.{named_components, selectors1_components, components2_components}
use Rattle.paths.specs.computed.Check.{lacks}
use Rattle.layout.specs.Swizzles.{mask_components, named}
use Rattle.layout.specs.Selections.{selectors1, components2}
use Rattle.components.specs.Reads.{rows_of, reads_through, mask_of, dimension_of, reads1, reads2, temporaries}
use Rattle.layout.specs.computed.Sets.{selector_set1}
use Rattle.components.specs.computed.Access.{Access, accessed, lacks_access, lacks_some, direct_access}
use Rattle.components.specs.computed.Access.{access_through, components1_of, components2_of, access1_of, access2_of}
use Rattle.components.specs.computed.Written.{component_set, lacks_of}
use Rattle.components.specs.declared.written.Written.{Written}
use Rattle.components.proofs.Lacking.{lacks_nothing}
use Rattle.components.proofs.Numbers.{temporaries_other_rows}

-- ---- an operand

one_component : (q : ℕ) → q < 4 → mask_components (1 * 2 ^ q) ≡ q ∷ []
one_component zero h = refl
one_component (suc zero) h = refl
one_component (suc (suc zero)) h = refl
one_component (suc (suc (suc zero))) h = refl
one_component (suc (suc (suc (suc q)))) h = absurd (omega arith)

accessed_through : (op : Operand) (rows : ℕ) (set : ℕ → ℕ) (f : ℕ → List ℕ) → ((z : ℕ) → mask_components (set z) ≡ f z)
    → accessed (access_through rows set op) ≡ reads_through rows f op
accessed_through NoOperand rows set f h = refl
accessed_through (Direct s) rows set f h = ap (rows_of s.kind s.number rows) (h s.swizzle)
accessed_through (Indexed s) rows set f h = rw (one_component (s.component % 4) (omega arith))
accessed_through (Sampled s) rows set f h = refl

pub accessed1 : (t : Token) → accessed (access1_of t) ≡ reads1 t
accessed1 t =
    let m = mask_of t.destination in
    let d = dimension_of t.source2 in
    accessed_through t.source1 1 (components1_of t) (λ z. named z (selectors1 t.opcode m d))
    (λ z. named_components z (selector_set1 t.opcode m d) ∙ ap (named z) (selectors1_components t.opcode m d))

pub accessed2 : (t : Token) → accessed (access2_of t) ≡ reads2 t
accessed2 t =
    let m = mask_of t.destination in
    accessed_through t.source2 (row_count2 t.opcode) (components2_of t) (components2 t.opcode m) (components2_components t.opcode m)

-- ---- what a set lacks of an access

pub lacks_accessed : (s : Written) (a : Access) → lacks (component_set s) (temporaries (accessed a)) ≡ lacks_access s a
unfolding lacks_of
lacks_accessed s a = go (eqb a.kind 2) refl
  where
    go : (b : Bool) → eqb a.kind 2 ≡ b
        → lacks (component_set s) (temporaries (accessed a)) ≡ (b && lacks_of s a.register a.rows a.components)
    go true e =
        let cs = mask_components a.components in
        ap (λ k. lacks (component_set s) (temporaries (rows_of k a.register a.rows cs))) (eqb-true _ _ e)
    go false e = ap (lacks (component_set s)) (temporaries_other_rows a.kind a.register a.rows (mask_components a.components) e)

-- as the code tests it, first by the kind
pub temporary : (s : Written) (a : Access) → a.kind ≡ 2 → lacks_of s a.register a.rows a.components ≡ lacks_access s a
temporary s a e = rw (eq-eqb a.kind 2 e)

-- where all four components are written, none that is read is missing
pub none_missing : (s : Written) (rows : ℕ) (components : ℕ → ℕ) (d : DirectSource) → lacks_some s rows d ≡ false
    → false ≡ lacks_access s (direct_access rows components d)
unfolding lacks_some
none_missing s rows components d e = go (eqb d.kind 2) e
  where
    go : (b : Bool) → (b && lacks_of s d.number rows 15) ≡ false → false ≡ (b && lacks_of s d.number rows (components d.swizzle))
    go true k = sym (lacks_nothing s d.number rows (components d.swizzle) k)
    go false k = refl

-- what lacks some of them is a temporary register
pub lacking : (s : Written) (rows : ℕ) (d : DirectSource) → lacks_some s rows d ≡ true → d.kind ≡ 2
unfolding lacks_some
lacking s rows d e = eqb-true d.kind 2 (and_parts (eqb d.kind 2) (lacks_of s d.number rows 15) e).0

-- so the code's test of an access is the check's test of what a token reads
pub lacks_reads1 : (s : Written) (t : Token) → lacks (component_set s) (temporaries (reads1 t)) ≡ lacks_access s (access1_of t)
lacks_reads1 s t = ap (λ l. lacks (component_set s) (temporaries l)) (sym (accessed1 t)) ∙ lacks_accessed s (access1_of t)

pub lacks_reads2 : (s : Written) (t : Token) → lacks (component_set s) (temporaries (reads2 t)) ≡ lacks_access s (access2_of t)
lacks_reads2 s t = ap (λ l. lacks (component_set s) (temporaries l)) (sym (accessed2 t)) ∙ lacks_accessed s (access2_of t)
