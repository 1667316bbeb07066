-- Document 01, "Ways, reads and writes": the components that a token reads through each source and those that it writes, over every
-- register type, in rising order of register and component. By which selectors an opcode reads stands in the crate layout (Selections).
use Rattle.std.specs.Prelude.{ℕ, zero, suc, ◌+◌, ◌*◌, ◌%◌, cond, List, [], ◌∷◌, ◌++◌, map, eqb, None, Option, Some}
use Rattle.layout.specs.Opcodes.{row_count2}
use Rattle.layout.specs.Selections.{selectors1, components2}
use Rattle.layout.specs.Swizzles.{mask_components, named}
use Rattle.layout.specs.declared.record.MaskedRegister.{MaskedRegister}
use Rattle.layout.specs.declared.record.Operand.{Operand}
use Rattle.layout.specs.declared.record.Operand.TheVariants.{Unused as NoOperand, Direct, Indexed, Sampler as Sampled}
use Rattle.layout.specs.declared.record.Token.{Token}

-- a component of a register: the register's type (0 to 6) and number, and the component, 0 for x to 3 for w
pub record Component : Type 0 where
  pub kind : ℕ
  pub register : ℕ
  pub component : ℕ

-- ---- registers

-- some components of a register
abbrev pub register_components : ℕ → ℕ → List ℕ → List Component
register_components kind register cs = map (λ c. record { kind = kind; register = register; component = c }) cs

-- the components of each of some rows, from a register on
abbrev pub rows_of : ℕ → ℕ → ℕ → List ℕ → List Component
rows_of kind register zero cs = []
rows_of kind register (suc rows) cs = register_components kind register cs ++ rows_of kind (suc register) rows cs

-- What is read through an operand, by its rows and by the components that its swizzle gives. "An indexed source reads component Q of its
-- index register", Q being two bits, and nothing else. A sampler is no register with components.
abbrev pub reads_through : ℕ → (ℕ → List ℕ) → Operand → List Component
reads_through rows components NoOperand = []
reads_through rows components (Direct s) = rows_of s.kind s.number rows (components s.swizzle)
reads_through rows components (Indexed s) =
    record { kind = s.index_kind; register = s.number; component = s.component % 4 } ∷ []
reads_through rows components (Sampled s) = []

-- ---- a token

-- no destination, no mask bit
abbrev pub mask_of : Option MaskedRegister → ℕ
mask_of None = 0
mask_of (Some r) = r.mask

-- the dimension of tex's sampler
abbrev pub dimension_of : Operand → ℕ
dimension_of NoOperand = 0
dimension_of (Direct s) = 0
dimension_of (Indexed s) = 0
dimension_of (Sampled s) = s.dimension

-- what a token reads through source 1
abbrev pub reads1 : Token → List Component
reads1 t =
    reads_through 1 (λ swizzle. named swizzle (selectors1 t.opcode (mask_of t.destination) (dimension_of t.source2)))
    t.source1

-- what it reads through source 2
abbrev pub reads2 : Token → List Component
reads2 t = reads_through (row_count2 t.opcode) (components2 t.opcode (mask_of t.destination)) t.source2

-- "a token with a destination writes the components of its mask"
abbrev pub writes_into : Option MaskedRegister → List Component
writes_into None = []
writes_into (Some r) = register_components r.kind r.number (mask_components r.mask)

-- what a token writes
abbrev pub writes : Token → List Component
writes t = writes_into t.destination

-- the temporaries (type 2) among some components, each as register * 4 + component
abbrev pub temporaries : List Component → List ℕ
temporaries [] = []
temporaries (c ∷ cs) = cond (eqb c.kind 2) ((c.register * 4 + c.component) ∷ temporaries cs) (temporaries cs)
