-- Sets as the code keeps them, bit by bit: of opcodes, of selectors and of components. Nobody has to believe these: that each says what
-- Selections says is proved, in SelectionLaws.
use Rattle.std.specs.Prelude.{ℕ, zero, suc, ◌+◌, ◌*◌, ◌/◌, ◌%◌, ◌^◌, Bool, cond, ◌&&◌, [], ◌∷◌, ltb, eqb}
use Rattle.std.specs.Int.Bits.{bit_or}
use Rattle.layout.specs.Opcodes.{is_in, m33, m44, m34, kil, tex}
use Rattle.layout.specs.computed.Groups.{is_ordinary_in}
use Rattle.layout.specs.Swizzles.{bit_of}
use Rattle.layout.specs.Selections.{by_three1, by_three2, by_four1, by_four2}

-- a set of opcodes has an opcode
unfoldable pub among_of : ℕ → ℕ → Bool
among_of set opcode = ltb opcode 64 && bit_of set opcode

-- the set of the opcodes below some number that pass a test
abbrev pub set_below : (ℕ → Bool) → ℕ → ℕ
set_below test zero = 0
set_below test (suc n) = cond (test n) (2 ^ n) 0 + set_below test n

-- the set of the ordinary opcodes of an edition
unfoldable pub ordinary_set : ℕ → ℕ
ordinary_set edition = set_below (is_ordinary_in edition) 64

-- the set of one component, or no component where the lowest bit of a set of selectors is not set
abbrev pub chosen_set : ℕ → ℕ → ℕ
chosen_set selectors component = selectors % 2 * 2 ^ (component % 4)

-- the set of components that a swizzle names by a set of selectors; bit i of either is component or selector i
unfoldable pub named_set : ℕ → ℕ → ℕ
named_set swizzle selectors =
    bit_or
    (bit_or (chosen_set selectors swizzle) (chosen_set (selectors / 2) (swizzle / 4)))
    (bit_or (chosen_set (selectors / 4) (swizzle / 16)) (chosen_set (selectors / 8) (swizzle / 64)))

-- "tex two for dimension 0, three for 1"
abbrev pub coordinate_set : ℕ → ℕ
coordinate_set dimension = cond (eqb dimension 0) 3 7

-- `selectors1` as a set
unfoldable pub selector_set1 : ℕ → ℕ → ℕ → ℕ
selector_set1 opcode mask dimension =
    cond (is_in opcode by_three1) 7
    (cond (is_in opcode by_four1) 15
    (cond (eqb opcode kil) 1
    (cond (eqb opcode tex) (coordinate_set dimension) mask)))

-- `selectors2` as a set
unfoldable pub selector_set2 : ℕ → ℕ → ℕ
selector_set2 opcode mask = cond (is_in opcode by_three2) 7 (cond (is_in opcode by_four2) 15 mask)

-- `components2` as a set
unfoldable pub read_set2 : ℕ → ℕ → ℕ → ℕ
read_set2 opcode mask swizzle =
    cond (eqb opcode m33) 7 (cond (is_in opcode (m34 ∷ m44 ∷ [])) 15 (named_set swizzle (selector_set2 opcode mask)))
