-- What Reads states, in the form that the code uses: a register, how many rows from it, and a set
-- of components as a number. That each says what Reads says is proved, in AccessLaws.
use Rattle.std.specs.Prelude.{ℕ, ◌*◌, ◌%◌, ◌^◌, Bool, ◌&&◌, List, eqb}
use Rattle.layout.specs.Opcodes.{row_count2}
use Rattle.layout.specs.Records.{direct_of, token_of}
use Rattle.layout.specs.computed.Sets.{named_set, selector_set1, read_set2}
use Rattle.layout.specs.declared.fields.Fields.{Fields}
use Rattle.layout.specs.declared.opcodes.OperandShape.{OperandShape}
use Rattle.layout.specs.declared.opcodes.Shape.{Shape}
use Rattle.layout.specs.declared.record.DirectSource.{DirectSource}
use Rattle.layout.specs.declared.record.IndexedSource.{IndexedSource}
use Rattle.layout.specs.declared.record.Operand.{Operand}
use Rattle.layout.specs.declared.record.Operand.TheVariants.{Unused as NoOperand, Direct, Indexed, Sampler as Sampled}
use Rattle.layout.specs.declared.record.Token.{Token}
use Rattle.layout.specs.Swizzles.{mask_components}
use Rattle.components.specs.Reads.{Component, rows_of, mask_of, dimension_of}
use Rattle.components.specs.computed.Written.{lacks_of}
use Rattle.components.specs.declared.access.Source.{Source}
use Rattle.components.specs.declared.access.Source.TheVariants.{First, Second}
use Rattle.components.specs.declared.written.Written.{Written}

-- a register of some kind, how many rows from it, and the components that are read of each: bit 0 is x, bit 3 is w
pub record Access : Type 0 where
  pub kind : ℕ
  pub register : ℕ
  pub rows : ℕ
  pub components : ℕ

-- the components that an access stands for, rising
abbrev pub accessed : Access → List Component
accessed a = rows_of a.kind a.register a.rows (mask_components a.components)

-- an access reads a temporary component that is not written
abbrev pub lacks_access : Written → Access → Bool
lacks_access s a = eqb a.kind 2 && lacks_of s a.register a.rows a.components

-- nothing is read
abbrev pub no_access : Access
no_access = record { kind = 0; register = 0; rows = 0; components = 0 }

-- of an indexed source its index register
abbrev pub index_access : IndexedSource → Access
index_access s = record { kind = s.index_kind; register = s.number; rows = 1; components = 1 * 2 ^ (s.component % 4) }

-- of a direct source some rows, and the components that its swizzle gives
abbrev pub direct_access : ℕ → (ℕ → ℕ) → DirectSource → Access
direct_access rows components s = record { kind = s.kind; register = s.number; rows = rows; components = components s.swizzle }

-- what is read through an operand; rows and components are those of a direct source
abbrev pub access_through : ℕ → (ℕ → ℕ) → Operand → Access
access_through rows components NoOperand = no_access
access_through rows components (Direct s) = direct_access rows components s
access_through rows components (Indexed s) = index_access s
access_through rows components (Sampled s) = no_access

-- the components that a token reads through source 1 by a swizzle
abbrev pub components1_of : Token → ℕ → ℕ
components1_of t swizzle = named_set swizzle (selector_set1 t.opcode (mask_of t.destination) (dimension_of t.source2))

-- and through source 2
abbrev pub components2_of : Token → ℕ → ℕ
components2_of t swizzle = read_set2 t.opcode (mask_of t.destination) swizzle

-- what a token reads through source 1
abbrev pub access1_of : Token → Access
access1_of t = access_through 1 (components1_of t) t.source1

-- what it reads through source 2
abbrev pub access2_of : Token → Access
access2_of t = access_through (row_count2 t.opcode) (components2_of t) t.source2

-- what it reads through one of the two
abbrev pub access_of : Source → Token → Access
access_of First t = access1_of t
access_of Second t = access2_of t

-- what an opcode has for a source
abbrev pub shape_at : Source → Shape → OperandShape
shape_at First shape = shape.source1
shape_at Second shape = shape.source2

-- the field of a source
abbrev pub field_at : Source → Fields → ℕ
field_at First f = f.source1
field_at Second f = f.source2

-- how many registers are read through it
abbrev pub rows_at : Source → ℕ → ℕ
rows_at First opcode = 1
rows_at Second opcode = row_count2 opcode

-- and which components of each, by a swizzle
abbrev pub components_at : Source → Token → ℕ → ℕ
components_at First t = components1_of t
components_at Second t = components2_of t

-- what is read through a field that holds a direct source
abbrev pub direct_access_of : Source → Shape → Fields → Access
direct_access_of source shape f = direct_access (rows_at source f.opcode) (components_at source (token_of shape f)) (direct_of (field_at source f))

-- some of the four components of a direct source's rows is not written, whether it is read or not
unfoldable pub lacks_some : Written → ℕ → DirectSource → Bool
lacks_some s rows d = eqb d.kind 2 && lacks_of s d.number rows 15

-- of a direct source of one row the components that some selectors name
abbrev pub selected_access : ℕ → DirectSource → Access
selected_access selectors d = direct_access 1 (λ swizzle. named_set swizzle selectors) d
