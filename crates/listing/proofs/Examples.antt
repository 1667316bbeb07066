-- Document 01's own lines, computed from the definitions: its two token lines, and a line with each of its two operands in code.
-- Assumes nothing.
use Rattle.std.specs.Prelude.{Option, Some}
use Prim.Native.Nat.{ℕ}
use mathlib.Core.Path.{◌≡◌, refl}
use lib.IntN.{ℤ, negsuc}
use Rattle.layout.specs.declared.record.MaskedRegister.{MaskedRegister}
use Rattle.layout.specs.declared.record.Operand.{Operand}
use Rattle.layout.specs.declared.record.Operand.TheVariants.{Unused, Direct, Indexed, Sampler as Sampled}
use Rattle.layout.specs.declared.record.Token.{Token}
use Rattle.listing.specs.Text.{ascii}
use Rattle.listing.specs.Decimal.{decimal, signed_decimal}
use Rattle.listing.specs.Names.{opcode_name, register_name}
use Rattle.listing.specs.Items.{register_text, mask_text, swizzle_text, masked_text, direct_text, index_text, indexed_text, texture_text, sampling_text, bias_text, settings_text, sampler_text}
use Rattle.listing.specs.Line.{line_of}

abbrev token : ℕ → Option MaskedRegister → Operand → Operand → Token
token o d a b = record { opcode = o; destination = d; source1 = a; source2 = b }

-- all four components of a register, by type and number
abbrev written : ℕ → ℕ → Option MaskedRegister
written k n = Some (record { number = n; mask = 0xF; kind = k })

abbrev read : ℕ → ℕ → Operand
read k n = Direct (record { number = n; offset = 0; swizzle = 0xE4; kind = k; index_kind = 0; component = 0 })

-- the register of type k that is 3 past va1.x
abbrev third : ℕ → Operand
third k = Indexed (record { number = 1; offset = 3; swizzle = 0xE4; kind = k; index_kind = 0; component = 0 })

-- fs0 with every setting 0 but for the bias
abbrev plain : ℤ → Operand
plain b = Sampled (record { number = 0; bias = b; kind = 5; dimension = 0; special = 0; wrap = 0; mipmap = 0; filter = 0 })

pub first_line_lem : line_of (token 0x18 (written 3 0) (read 0 0) (read 1 0)) 0 0 ≡ ascii "m44 op0.xyzw va0.xyzw vc0.xyzw\n"
unfolding line_of opcode_name register_name decimal register_text mask_text swizzle_text masked_text direct_text
first_line_lem = refl

pub second_line : line_of (token 0x00 (written 4 0) (read 0 1) Unused) 0 0 ≡ ascii "mov v0.xyzw va1.xyzw\n"
unfolding line_of opcode_name register_name decimal register_text mask_text swizzle_text masked_text direct_text
second_line = refl

pub indexed : line_of (token 0x00 (written 2 7) (third 1) Unused) 0 1 ≡ ascii "  mov vt7.xyzw vc[va1.x+3].xyzw\n"
unfolding line_of opcode_name register_name decimal register_text mask_text swizzle_text masked_text index_text indexed_text
indexed = refl

pub sampled : line_of (token 0x28 (written 2 0) (read 4 65535) (plain (negsuc 3))) 1 0 ≡ ascii "tex ft0.xyzw v65535.xyzw fs0<2d,mipnone,clamp,nearest,bias=-4>\n"
unfolding line_of opcode_name register_name decimal signed_decimal register_text mask_text swizzle_text masked_text direct_text texture_text sampling_text bias_text settings_text sampler_text
sampled = refl
