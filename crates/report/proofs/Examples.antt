-- Document 01's own example and its one-line answers, computed from the definition of the text.
-- Assumes nothing.
use Prim.Native.Nat.{ℕ}
use mathlib.Core.List.{List, [], ◌∷◌, ◌++◌}
use mathlib.Core.Path.{◌≡◌, refl}
use lib.ListN.{length, replicate}
use Rattle.layout.specs.Opcodes.{flow_of, row_of, shape_of_row, row_count2}
use Rattle.layout.specs.Records.{signed, token_of}
use Rattle.bytecode.specs.Decode.{unused_part, undefined_part}
use Rattle.registers.specs.Counts.{count_of}
use Rattle.registers.specs.Limits.{limit_of}
use Rattle.layout.specs.Selections.{selectors1, selectors2, components2}
use Rattle.paths.specs.computed.Check.{check_from}
use Rattle.listing.specs.Text.{ascii}
use Rattle.listing.specs.Decimal.{decimal}
use Rattle.listing.specs.Names.{opcode_name, register_name}
use Rattle.listing.specs.Items.{register_text, mask_text, swizzle_text, masked_text, direct_text}
use Rattle.listing.specs.First.{heading_line, refusal_line}
use Rattle.listing.specs.Line.{line_of}
use Rattle.verifier.specs.Verdict.{verdict}
use Rattle.report.specs.Text.{text_of}

-- "Input `1` and the 55 bytes"
abbrev example : List ℕ
example =
    ascii "1"
    ++ (0xA0 ∷ 0x01 ∷ 0 ∷ 0 ∷ 0 ∷ 0xA1 ∷ 0 ∷ [])
    ++ (0x18 ∷ 0 ∷ 0 ∷ 0 ∷ 0 ∷ 0 ∷ 0x0F ∷ 0x03 ∷ 0 ∷ 0 ∷ 0 ∷ 0xE4 ∷ 0 ∷ 0 ∷ 0 ∷ 0 ∷ 0 ∷ 0 ∷ 0 ∷ 0xE4 ∷ 0x01 ∷ 0 ∷ 0 ∷ 0 ∷ [])
    ++ (0 ∷ 0 ∷ 0 ∷ 0 ∷ 0 ∷ 0 ∷ 0x0F ∷ 0x04 ∷ 0x01 ∷ 0 ∷ 0 ∷ 0xE4 ∷ 0 ∷ 0 ∷ 0 ∷ 0 ∷ 0 ∷ 0 ∷ 0 ∷ 0 ∷ 0 ∷ 0 ∷ 0 ∷ 0 ∷ [])

-- "print these 68 bytes"
abbrev printed : List ℕ
printed = ascii "agal 1 vertex 2\nm44 op0.xyzw va0.xyzw vc0.xyzw\nmov v0.xyzw va1.xyzw\n"

pub as_printed : text_of example ≡ printed
unfolding text_of verdict refusal_line heading_line line_of opcode_name register_name decimal register_text mask_text swizzle_text masked_text direct_text check_from flow_of token_of signed row_of shape_of_row unused_part undefined_part count_of limit_of selectors1 selectors2 components2 row_count2
as_printed = refl

pub as_long : length printed ≡ 68
as_long = refl

-- a refusal
pub refused_line : refusal_line (record { number = 14; token = 0; part = 1 }) ≡ ascii "refused 14 at 0 part 1\n"
unfolding refusal_line decimal
refused_line = refl

-- no program after the digit, no input, and a byte of 1 for the digit 1
pub digit_alone : text_of (ascii "1") ≡ ascii "refused 2 at 0 part 0\n"
unfolding text_of verdict refusal_line decimal check_from
digit_alone = refl

pub empty : text_of [] ≡ ascii "no edition\n"
unfolding text_of
empty = refl

pub no_digit : text_of (1 ∷ []) ≡ ascii "refused 1 at 0 part 0\n"
unfolding text_of refusal_line decimal
no_digit = refl

-- mov vt0.xyzw va0.xyzw
abbrev block : List ℕ
block = (0 ∷ 0 ∷ 0 ∷ 0 ∷ 0 ∷ 0 ∷ 0x0F ∷ 0x02 ∷ 0 ∷ 0 ∷ 0 ∷ 0xE4 ∷ replicate 12 0)

-- opener, els and eif at one depth, the blocks one deeper
abbrev branch : List ℕ
branch =
    ascii "2"
    ++ (0xA0 ∷ 0x01 ∷ 0 ∷ 0 ∷ 0 ∷ 0xA1 ∷ 0 ∷ [])
    ++ (0x1C ∷ replicate 7 0) ++ (0 ∷ 0 ∷ 0 ∷ 0xE4 ∷ 0x01 ∷ replicate 3 0) ++ (0 ∷ 0 ∷ 0 ∷ 0xE4 ∷ 0x01 ∷ replicate 3 0)
    ++ block
    ++ (0x20 ∷ replicate 23 0)
    ++ block
    ++ (0x21 ∷ replicate 23 0)

pub branched : text_of branch ≡ ascii "agal 2 vertex 5\nife vc0.xyzw vc0.xyzw\n  mov vt0.xyzw va0.xyzw\nels\n  mov vt0.xyzw va0.xyzw\neif\n"
unfolding text_of verdict refusal_line heading_line line_of opcode_name register_name decimal register_text mask_text swizzle_text masked_text direct_text check_from flow_of token_of signed row_of shape_of_row unused_part undefined_part count_of limit_of selectors1 selectors2 components2 row_count2
branched = refl
