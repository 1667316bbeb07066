-- What tokens of each kind read and write, computed.
-- Assumes nothing.
use Rattle.std.specs.Prelude.{None, Option, Some}
use Prim.Native.Nat.{ℕ}
use mathlib.Core.Path.{◌≡◌, refl}
use mathlib.Core.List.{List, [], ◌∷◌, map}
use lib.IntN.{pos}
use Rattle.layout.specs.declared.record.MaskedRegister.{MaskedRegister}
use Rattle.layout.specs.declared.record.Operand.{Operand}
use Rattle.layout.specs.declared.record.Operand.TheVariants.{Unused as NoOperand, Direct, Indexed, Sampler as Sampled}
use Rattle.layout.specs.declared.record.Token.{Token}
use Rattle.paths.specs.Paths.{plain, opener, els, eif}
use Rattle.layout.specs.Opcodes.{row_count2, flow_of}
use Rattle.layout.specs.Selections.{selectors1, selectors2, components2}
use Rattle.components.specs.Reads.{Component, reads1, reads2, writes, temporaries}
use Rattle.components.specs.Tokens.{path_flow}

-- a temporary register that is written, through a mask
abbrev to : ℕ → ℕ → Option MaskedRegister
to n mask = Some (record { number = n; mask = mask; kind = 2 })

-- a register of some type that is read, through a swizzle
abbrev from : ℕ → ℕ → ℕ → Operand
from kind n swizzle = Direct (record { number = n; offset = 0; swizzle = swizzle; kind = kind; index_kind = 0; component = 0 })

-- vc[..] whose index is a component of a register
abbrev indexed : ℕ → ℕ → ℕ → Operand
indexed kind n component =
    Indexed (record { number = n; offset = 3; swizzle = 0xe4; kind = 1; index_kind = kind; component = component })

abbrev sampler : ℕ → Operand
sampler dimension =
    Sampled (record { number = 0; bias = pos 0; kind = 5; dimension = dimension; special = 0; wrap = 0; mipmap = 0; filter = 0 })

abbrev token : ℕ → Option MaskedRegister → Operand → Operand → Token
token opcode d a b = record { opcode = opcode; destination = d; source1 = a; source2 = b }

abbrev component : ℕ → ℕ → ℕ → Component
component kind register c = record { kind = kind; register = register; component = c }

-- the temporary components that are read through source 1, those through source 2, and those that are written
abbrev Reading : Type 0
Reading = List ℕ × List ℕ × List ℕ

abbrev reading : Token → Reading
reading t = (temporaries (reads1 t), temporaries (reads2 t), temporaries (writes t))

-- x of vt1 is 4
abbrev cases : List (Token × Reading)
cases =
    -- add vt1.xz vt2.xyzw vt3.wwyx
    (token 0x01 (to 1 0x5) (from 2 2 0xe4) (from 2 3 0x1f), (8 ∷ 10 ∷ [], 13 ∷ 15 ∷ [], 4 ∷ 6 ∷ []))
    -- mov vt0.xyzw vt1.wzyx, and through a mask of w alone
    ∷ (token 0x00 (to 0 0xf) (from 2 1 0x1b) NoOperand, (4 ∷ 5 ∷ 6 ∷ 7 ∷ [], [], 0 ∷ 1 ∷ 2 ∷ 3 ∷ []))
    ∷ (token 0x00 (to 0 0x8) (from 2 1 0x1b) NoOperand, (4 ∷ [], [], 3 ∷ []))
    -- nrm vt0.x vt1.xyzw: three selectors, whatever the mask
    ∷ (token 0x0e (to 0 0x1) (from 2 1 0xe4) NoOperand, (4 ∷ 5 ∷ 6 ∷ [], [], 0 ∷ []))
    -- crs vt0.x vt1.xyzw vt2.xyzw: the same of both sources
    ∷ (token 0x11 (to 0 0x1) (from 2 1 0xe4) (from 2 2 0xe4), (4 ∷ 5 ∷ 6 ∷ [], 8 ∷ 9 ∷ 10 ∷ [], 0 ∷ []))
    -- dp3 vt0.x vt1.xyzw vt2.wxyz
    ∷ (token 0x12 (to 0 0x1) (from 2 1 0xe4) (from 2 2 0x93), (4 ∷ 5 ∷ 6 ∷ [], 8 ∷ 9 ∷ 11 ∷ [], 0 ∷ []))
    -- dp4 vt0.x vt1.xyzw vt2.xyzw
    ∷ (token 0x13 (to 0 0x1) (from 2 1 0xe4) (from 2 2 0xe4), (4 ∷ 5 ∷ 6 ∷ 7 ∷ [], 8 ∷ 9 ∷ 10 ∷ 11 ∷ [], 0 ∷ []))
    -- m33 vt0.xyz vt1.xyzw vt2.xyzw: x, y, z of vt2, vt3, vt4
    ∷ (
      token 0x17 (to 0 0x7) (from 2 1 0xe4) (from 2 2 0xe4),
      (4 ∷ 5 ∷ 6 ∷ [], 8 ∷ 9 ∷ 10 ∷ 12 ∷ 13 ∷ 14 ∷ 16 ∷ 17 ∷ 18 ∷ [], 0 ∷ 1 ∷ 2 ∷ []),
    )
    -- m34 vt0.x vt1.xyzw vt2.xyzw: all of three rows
    ∷ (
      token 0x19 (to 0 0x1) (from 2 1 0xe4) (from 2 2 0xe4),
      (4 ∷ 5 ∷ 6 ∷ 7 ∷ [], 8 ∷ 9 ∷ 10 ∷ 11 ∷ 12 ∷ 13 ∷ 14 ∷ 15 ∷ 16 ∷ 17 ∷ 18 ∷ 19 ∷ [], 0 ∷ []),
    )
    -- m44: all of four rows
    ∷ (
      token 0x18 (to 0 0xf) (from 2 1 0xe4) (from 2 2 0xe4),
      (
        4 ∷ 5 ∷ 6 ∷ 7 ∷ [],
        8 ∷ 9 ∷ 10 ∷ 11 ∷ 12 ∷ 13 ∷ 14 ∷ 15 ∷ 16 ∷ 17 ∷ 18 ∷ 19 ∷ 20 ∷ 21 ∷ 22 ∷ 23 ∷ [],
        0 ∷ 1 ∷ 2 ∷ 3 ∷ [],
      ),
    )
    -- kil vt1.zzzz
    ∷ (token 0x27 None (from 2 1 0xaa) NoOperand, (6 ∷ [], [], []))
    -- tex vt0.w vt1.xyzw, 2d and cube
    ∷ (token 0x28 (to 0 0x8) (from 2 1 0xe4) (sampler 0), (4 ∷ 5 ∷ [], [], 3 ∷ []))
    ∷ (token 0x28 (to 0 0x8) (from 2 1 0xe4) (sampler 1), (4 ∷ 5 ∷ 6 ∷ [], [], 3 ∷ []))
    -- mov vt0.xyzw vc[vt1.z+3].xyzw, and m44 with such a source 2: one component alone
    ∷ (token 0x00 (to 0 0xf) (indexed 2 1 2) NoOperand, (6 ∷ [], [], 0 ∷ 1 ∷ 2 ∷ 3 ∷ []))
    ∷ (token 0x18 (to 0 0xf) (from 1 1 0xe4) (indexed 2 5 3), ([], 23 ∷ [], 0 ∷ 1 ∷ 2 ∷ 3 ∷ []))
    -- mov vt0.xyzw vc[va1.x+3].xyzw: an index in an attribute
    ∷ (token 0x00 (to 0 0xf) (indexed 0 1 0) NoOperand, ([], [], 0 ∷ 1 ∷ 2 ∷ 3 ∷ []))
    -- ife vt1.xxxx vt2.xyzw: all four selectors of both
    ∷ (token 0x1c None (from 2 1 0x00) (from 2 2 0xe4), (4 ∷ [], 8 ∷ 9 ∷ 10 ∷ 11 ∷ [], []))
    -- ifg vc[vt1.w+3].xyzw vt2.yyyy: of an indexed one the index
    ∷ (token 0x1e None (indexed 2 1 3) (from 2 2 0x55), (7 ∷ [], 9 ∷ [], []))
    -- els
    ∷ (token 0x20 None NoOperand NoOperand, ([], [], []))
    ∷ []

read : map (λ c. reading c.0) cases ≡ map (λ c. c.1) cases
unfolding selectors1 selectors2 components2 row_count2
read = refl

-- over every register type: m33 v4.xy va1.xyzw vc2.xyzw
abbrev attribute : Token
attribute = token 0x17 (Some (record { number = 4; mask = 0x3; kind = 4 })) (from 0 1 0xe4) (from 1 2 0xe4)

read_attribute : reads1 attribute ≡ component 0 1 0 ∷ component 0 1 1 ∷ component 0 1 2 ∷ []
unfolding selectors1
read_attribute = refl

write_varying : writes attribute ≡ component 4 4 0 ∷ component 4 4 1 ∷ []
write_varying = refl

-- ddy, the four openers, els, eif, and a number that is no opcode
flows : map (λ o. path_flow (flow_of o)) (0x1b ∷ 0x1c ∷ 0x1d ∷ 0x1e ∷ 0x1f ∷ 0x20 ∷ 0x21 ∷ 0x22 ∷ [])
    ≡ plain ∷ opener ∷ opener ∷ opener ∷ opener ∷ els ∷ eif ∷ plain ∷ []
unfolding flow_of
flows = refl
