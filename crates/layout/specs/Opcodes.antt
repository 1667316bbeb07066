-- Document 01, "Opcodes": the listed opcodes, what a token of each holds, and what else a rule says of some of them by name.
use Rattle.std.specs.Prelude.{ℕ, Bool, true, false, not, cond, ◌||◌, List, [], ◌∷◌, ◌++◌, eqb}
use Rattle.layout.specs.declared.opcodes.Flow.{Flow}
use Rattle.layout.specs.declared.opcodes.Flow.TheVariants.{Plain, Opener, Els, Eif}
use Rattle.layout.specs.declared.opcodes.OperandShape.{OperandShape}
use Rattle.layout.specs.declared.opcodes.OperandShape.TheVariants.{Unused, Source, Sampler}
use Rattle.layout.specs.declared.opcodes.Shape.{Shape}

-- n is one of the numbers
abbrev pub is_in : ℕ → List ℕ → Bool
is_in n [] = false
is_in n (k ∷ ks) = eqb n k || is_in n ks

-- ---- the opcodes that rules name: "nrm 0e", "crs 11, dp3 12, dp4 13"

abbrev pub nrm : ℕ
nrm = 0x0e

abbrev pub crs : ℕ
crs = 0x11

abbrev pub dp3 : ℕ
dp3 = 0x12

abbrev pub dp4 : ℕ
dp4 = 0x13

-- "m33 17, m44 18, m34 19"
abbrev pub m33 : ℕ
m33 = 0x17

abbrev pub m44 : ℕ
m44 = 0x18

abbrev pub m34 : ℕ
m34 = 0x19

-- "ddx 1a, ddy 1b, ife 1c, ine 1d, ifg 1e, ifl 1f, els 20, eif 21"
abbrev pub ddx : ℕ
ddx = 0x1a

abbrev pub ddy : ℕ
ddy = 0x1b

abbrev pub ife : ℕ
ife = 0x1c

abbrev pub ine : ℕ
ine = 0x1d

abbrev pub ifg : ℕ
ifg = 0x1e

abbrev pub ifl : ℕ
ifl = 0x1f

abbrev pub els : ℕ
els = 0x20

abbrev pub eif : ℕ
eif = 0x21

-- "kil 27, tex 28"
abbrev pub kil : ℕ
kil = 0x27

abbrev pub tex : ℕ
tex = 0x28

-- ---- the lists

-- mov add sub mul div rcp min max frc sqt rsq pow log exp nrm sin cos crs dp3 dp4 abs neg sat m33 m44 m34 kil tex sge slt seq sne
abbrev pub first_opcodes : List ℕ
first_opcodes =
    0x00 ∷ 0x01 ∷ 0x02 ∷ 0x03 ∷ 0x04 ∷ 0x05 ∷ 0x06 ∷ 0x07 ∷ 0x08 ∷ 0x09 ∷ 0x0a ∷ 0x0b ∷ 0x0c ∷ 0x0d ∷ nrm ∷ 0x0f ∷
    0x10 ∷ crs ∷ dp3 ∷ dp4 ∷ 0x14 ∷ 0x15 ∷ 0x16 ∷ m33 ∷ m44 ∷ m34 ∷ kil ∷ tex ∷ 0x29 ∷ 0x2a ∷ 0x2c ∷ 0x2d ∷ []

-- AGAL2 and AGAL3 add ddx ddy ife ine ifg ifl els eif
abbrev pub added_opcodes : List ℕ
added_opcodes = ddx ∷ ddy ∷ ife ∷ ine ∷ ifg ∷ ifl ∷ els ∷ eif ∷ []

abbrev pub is_added : ℕ → Bool
is_added o = is_in o added_opcodes

abbrev pub is_listed : ℕ → Bool
is_listed o = is_in o (first_opcodes ++ added_opcodes)

-- One source: mov rcp frc sqt rsq log exp nrm sin cos abs neg sat ddx ddy
abbrev pub one_source_opcodes : List ℕ
one_source_opcodes =
    0x00 ∷ 0x05 ∷ 0x08 ∷ 0x09 ∷ 0x0a ∷ 0x0c ∷ 0x0d ∷ nrm ∷ 0x0f ∷ 0x10 ∷ 0x14 ∷ 0x15 ∷ 0x16 ∷ ddx ∷ ddy ∷ []

-- Openers: ife ine ifg ifl
abbrev pub openers : List ℕ
openers = ife ∷ ine ∷ ifg ∷ ifl ∷ []

abbrev pub is_opener : ℕ → Bool
is_opener o = is_in o openers

-- els eif
abbrev pub bare_opcodes : List ℕ
bare_opcodes = els ∷ eif ∷ []

-- "kil or tex in a vertex program": the opcodes that only fragment programs have
abbrev pub fragment_opcodes : List ℕ
fragment_opcodes = kil ∷ tex ∷ []

abbrev pub is_fragment_only : ℕ → Bool
is_fragment_only o = is_in o fragment_opcodes

-- "w in the mask of nrm, crs, m33, m34": the opcodes whose result has three components
abbrev pub three_wide_opcodes : List ℕ
three_wide_opcodes = nrm ∷ crs ∷ m33 ∷ m34 ∷ []

abbrev pub is_three_wide : ℕ → Bool
is_three_wide o = is_in o three_wide_opcodes

-- the matrix opcodes
abbrev pub matrix_opcodes : List ℕ
matrix_opcodes = m33 ∷ m44 ∷ m34 ∷ []

abbrev pub is_matrix : ℕ → Bool
is_matrix o = is_in o matrix_opcodes

-- "Rows: source 2 of m33 and m34 is 3 registers from its number, of m44 4; every other source 1."
unfoldable pub row_count2 : ℕ → ℕ
row_count2 o = cond (is_in o (m33 ∷ m34 ∷ [])) 3 (cond (eqb o m44) 4 1)

-- ---- what an opcode does to branches: "A branch is an opener, a block, perhaps els and a second block, then eif."

unfoldable pub flow_of : ℕ → Flow
flow_of o = cond (is_opener o) Opener (cond (eqb o els) Els (cond (eqb o eif) Eif Plain))

-- ---- what a token holds

abbrev pub unlisted : Shape
unlisted = record { listed = false; destination = false; source1 = Unused; source2 = Unused }

-- the shape of a listed opcode: whether it has a destination, and its two sources
abbrev pub holds : Bool → OperandShape → OperandShape → Shape
holds d a b = record { listed = true; destination = d; source1 = a; source2 = b }

-- The paper's sentences on what an opcode holds, numbered: 0 not listed, 1 nothing, 2 one source, 3 the rest, 4 openers, 5 kil, 6 tex.
unfoldable pub row_of : ℕ → ℕ
row_of o =
    cond (not (is_listed o)) 0
    (cond (is_in o one_source_opcodes) 2
    (cond (eqb o kil) 5
    (cond (is_in o openers) 4
    (cond (is_in o bare_opcodes) 1
    (cond (eqb o tex) 6 3)))))

-- What each sentence says.
unfoldable pub shape_of_row : ℕ → Shape
shape_of_row r =
    cond (eqb r 1) (holds false Unused Unused)
    (cond (eqb r 2) (holds true Source Unused)
    (cond (eqb r 3) (holds true Source Source)
    (cond (eqb r 4) (holds false Source Source)
    (cond (eqb r 5) (holds false Source Unused)
    (cond (eqb r 6) (holds true Source Sampler) unlisted)))))

-- the shape of every opcode number
abbrev pub shape_of : ℕ → Shape
shape_of o = shape_of_row (row_of o)
