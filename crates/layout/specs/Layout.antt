-- Document 01, "Layout (000), little-endian": the fields of a token as numbers, and the bits that each field defines.
use Rattle.std.specs.Prelude.{ℕ, ◌+◌, ◌-◌, ◌*◌, ◌/◌, ◌%◌, ◌^◌, Bool, true, false, not, List, [], ◌∷◌, eqb, ltb, get_or}
use Rattle.std.specs.Int.Bits.{bit_and}
use Rattle.layout.specs.declared.opcodes.OperandShape.{OperandShape}
use Rattle.layout.specs.declared.opcodes.OperandShape.TheVariants.{Unused, Source, Sampler}

-- ---- fields as numbers

-- four bytes from the i-th, the lowest first
abbrev pub word_at : List ℕ → ℕ → ℕ
word_at s i = get_or s i 0 + 256 * get_or s (i + 1) 0 + 65536 * get_or s (i + 2) 0 + 16777216 * get_or s (i + 3) 0

-- eight bytes from the i-th
abbrev pub long_at : List ℕ → ℕ → ℕ
long_at s i = word_at s i + 2 ^ 32 * word_at s (i + 4)

-- the four bytes of a number
abbrev pub word_bytes : ℕ → List ℕ
word_bytes w = w % 256 ∷ w / 256 % 256 ∷ w / 65536 % 256 ∷ w / 16777216 % 256 ∷ []

-- ---- bits of a field

-- Where a value stands in its field: its first bit and how many bits it has.
pub record Bits : Type 0 where
  pub first : ℕ
  pub width : ℕ

abbrev pub bits : ℕ → ℕ → Bits
bits f w = record { first = f; width = w }

-- the value that a field has there
abbrev pub value_at : ℕ → ℕ → ℕ → ℕ
value_at first width field = field / 2 ^ first % 2 ^ width

abbrev pub value_of : Bits → ℕ → ℕ
value_of b field = value_at b.first b.width field

-- the field that has a value there and is 0 elsewhere
abbrev pub placed_at : ℕ → ℕ → ℕ
placed_at first value = value * 2 ^ first

abbrev pub placed : Bits → ℕ → ℕ
placed b value = placed_at b.first value

-- a value is no wider than its place
abbrev pub fits : Bits → ℕ → Bool
fits b value = ltb value (2 ^ b.width)

-- ---- the layout table; each row is bytes of document 01 and letters of 000

-- a number, in every field: bytes 0-1, N
abbrev pub number : Bits
number = bits 0 16

-- destination, ----TTTT----MMMMNNNNNNNNNNNNNNNN: byte 2, low 4 bits, M
abbrev pub mask : Bits
mask = bits 16 4

-- byte 3, low 4 bits, T
abbrev pub masked_kind : Bits
masked_kind = bits 24 4

-- source, D-------------QQ----IIII----TTTTSSSSSSSSOOOOOOOONNNNNNNNNNNNNNNN: byte 2, O
abbrev pub offset : Bits
offset = bits 16 8

-- byte 3, S
abbrev pub swizzle : Bits
swizzle = bits 24 8

-- source and sampler: byte 4, low 4 bits, T
abbrev pub kind : Bits
kind = bits 32 4

-- byte 5, low 4 bits, I
abbrev pub index_kind : Bits
index_kind = bits 40 4

-- byte 6, low 2 bits, Q
abbrev pub component : Bits
component = bits 48 2

-- byte 7, bit 7, D
abbrev pub indirect : Bits
indirect = bits 63 1

-- sampler, FFFFMMMMWWWWSSSSDDDD--------TTTT--------BBBBBBBBNNNNNNNNNNNNNNNN: byte 2, B
abbrev pub bias : Bits
bias = bits 16 8

-- byte 5, high 4 bits, D
abbrev pub dimension : Bits
dimension = bits 44 4

-- byte 6, low 4 bits, S
abbrev pub special : Bits
special = bits 48 4

-- byte 6, high 4 bits, W
abbrev pub wrap : Bits
wrap = bits 52 4

-- byte 7, low 4 bits, M
abbrev pub mipmap : Bits
mipmap = bits 56 4

-- byte 7, high 4 bits, F
abbrev pub filter : Bits
filter = bits 60 4

-- ---- defined bits

abbrev pub destination_rows : List Bits
destination_rows = number ∷ mask ∷ masked_kind ∷ []

abbrev pub source_rows : List Bits
source_rows = number ∷ offset ∷ swizzle ∷ kind ∷ index_kind ∷ component ∷ indirect ∷ []

abbrev pub sampler_rows : List Bits
sampler_rows = number ∷ bias ∷ kind ∷ dimension ∷ special ∷ wrap ∷ mipmap ∷ filter ∷ []

-- the bits of all the rows, set
abbrev pub defined_bits : List Bits → ℕ
defined_bits [] = 0
defined_bits (b ∷ bs) = placed b (2 ^ b.width - 1) + defined_bits bs

-- an unused field defines no bit
abbrev pub destination_bits : Bool → ℕ
destination_bits true = defined_bits destination_rows
destination_bits false = 0

abbrev pub operand_bits : OperandShape → ℕ
operand_bits Unused = 0
operand_bits Source = defined_bits source_rows
operand_bits Sampler = defined_bits sampler_rows

-- a bit is set that is not among the defined ones
abbrev pub is_stray : ℕ → ℕ → Bool
is_stray defined field = not (eqb (bit_and field defined) field)
