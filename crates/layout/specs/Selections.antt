-- Document 01, "Ways, reads and writes": by which selectors of each source an opcode reads, and which components of a row of source 2.
use Rattle.std.specs.Prelude.{ℕ, cond, List, [], ◌∷◌, eqb}
use Rattle.layout.specs.Opcodes.{is_in, nrm, crs, dp3, dp4, m33, m44, m34, kil, tex, openers}
use Rattle.layout.specs.Swizzles.{first_few, mask_components, named}

-- "nrm, crs, dp3 and m33 read by the first three selectors of source 1"
abbrev pub by_three1 : List ℕ
by_three1 = nrm ∷ crs ∷ dp3 ∷ m33 ∷ []

-- "crs and dp3 also of source 2"
abbrev pub by_three2 : List ℕ
by_three2 = crs ∷ dp3 ∷ []

-- "dp4, m34, m44 and openers read by all four of source 1"
abbrev pub by_four1 : List ℕ
by_four1 = dp4 ∷ m34 ∷ m44 ∷ openers

-- "dp4 and openers also of source 2"
abbrev pub by_four2 : List ℕ
by_four2 = dp4 ∷ openers

-- By which selectors of source 1 an opcode reads. "kil uses the first selector; tex two for dimension 0, three for 1. Componentwise
-- opcodes (all not named here) read, for each mask bit, the component its selector names."
unfoldable pub selectors1 : ℕ → ℕ → ℕ → List ℕ
selectors1 opcode mask dimension =
    cond (is_in opcode by_three1) (first_few 3)
    (cond (is_in opcode by_four1) (first_few 4)
    (cond (eqb opcode kil) (first_few 1)
    (cond (eqb opcode tex) (cond (eqb dimension 0) (first_few 2) (first_few 3))
    (mask_components mask))))

-- By which of source 2, for an opcode that has a second source.
unfoldable pub selectors2 : ℕ → ℕ → List ℕ
selectors2 opcode mask =
    cond (is_in opcode by_three2) (first_few 3)
    (cond (is_in opcode by_four2) (first_few 4)
    (mask_components mask))

-- "m33 reads x, y, z of each row, m34 and m44 all four": the components that are read of each row of source 2
unfoldable pub components2 : ℕ → ℕ → ℕ → List ℕ
components2 opcode mask swizzle =
    cond (eqb opcode m33) (first_few 3)
    (cond (is_in opcode (m34 ∷ m44 ∷ [])) (first_few 4)
    (named swizzle (selectors2 opcode mask)))
