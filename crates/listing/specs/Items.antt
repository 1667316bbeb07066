-- Document 01, "Listing": the items that a line is made of.
use Rattle.std.specs.Prelude.{ℕ, ◌*◌, cond, List, [], ◌∷◌, ◌++◌, eqb, replicate, None, Option, Some}
use Prim.Native.Char.{code}
use Rattle.listing.specs.Text.{ascii, when}
use Rattle.listing.specs.Decimal.{decimal, signed_decimal}
use Rattle.listing.specs.Names.{register_name, dimension_name, mipmap_name, wrap_name, filter_name}
use Rattle.layout.specs.Swizzles.{bit_of, selector}
use Rattle.layout.specs.declared.record.MaskedRegister.{MaskedRegister}
use Rattle.layout.specs.declared.record.DirectSource.{DirectSource}
use Rattle.layout.specs.declared.record.IndexedSource.{IndexedSource}
use Rattle.layout.specs.declared.record.Sampler.{Sampler}
use Rattle.layout.specs.declared.record.Operand.{Operand}
use Rattle.layout.specs.declared.record.Operand.TheVariants.{Unused as NoOperand, Direct, Indexed, Sampler as Sampled}

-- "Two spaces per depth"
abbrev pub indentation : ℕ → List ℕ
indentation depth = replicate (2 * depth) (code " ")

-- "Names: .. then the decimal number"
unfoldable pub register_text : ℕ → ℕ → ℕ → List ℕ
register_text stage kind number = register_name stage kind ++ decimal number

-- the letter of a component, 0 to 3
abbrev pub component_letter : ℕ → ℕ
component_letter c = cond (eqb c 0) (code "x") (cond (eqb c 1) (code "y") (cond (eqb c 2) (code "z") (code "w")))

-- "A destination ends in a dot and its mask letters"
unfoldable pub mask_text : ℕ → List ℕ
mask_text mask =
    ascii "."
    ++ when (bit_of mask 0) (ascii "x")
    ++ when (bit_of mask 1) (ascii "y")
    ++ when (bit_of mask 2) (ascii "z")
    ++ when (bit_of mask 3) (ascii "w")

-- "a source in a dot and four letters", one for each selector
unfoldable pub swizzle_text : ℕ → List ℕ
swizzle_text swizzle =
    ascii "."
    ++ (component_letter (selector swizzle 0) ∷ [])
    ++ (component_letter (selector swizzle 1) ∷ [])
    ++ (component_letter (selector swizzle 2) ∷ [])
    ++ (component_letter (selector swizzle 3) ∷ [])

-- ---- operands, each with "one space before"

unfoldable pub masked_text : ℕ → MaskedRegister → List ℕ
masked_text stage r = ascii " " ++ register_text stage r.kind r.number ++ mask_text r.mask

unfoldable pub direct_text : ℕ → DirectSource → List ℕ
direct_text stage s = ascii " " ++ register_text stage s.kind s.number ++ swizzle_text s.swizzle

-- the index register, its component Q and the offset O: `[va1.x+3]`; "an offset .. of 0 is printed too"
unfoldable pub index_text : ℕ → IndexedSource → List ℕ
index_text stage s =
    ascii "[" ++ register_text stage s.index_kind s.number
    ++ ascii "." ++ (component_letter s.component ∷ [])
    ++ ascii "+" ++ decimal s.offset
    ++ ascii "]"

-- "Indexed: `vc[va1.x+3].xyzw`, the type's name before the bracket"
unfoldable pub indexed_text : ℕ → IndexedSource → List ℕ
indexed_text stage s = ascii " " ++ register_name stage s.kind ++ index_text stage s ++ swizzle_text s.swizzle

-- what the texture is: `2d,mipnone`
unfoldable pub texture_text : Sampler → List ℕ
texture_text s = dimension_name s.dimension ++ ascii "," ++ mipmap_name s.mipmap

-- how it is sampled: `,clamp,nearest`
unfoldable pub sampling_text : Sampler → List ℕ
sampling_text s = ascii "," ++ wrap_name s.wrap ++ ascii "," ++ filter_name s.filter

-- "bias in eighths; an offset or bias of 0 is printed too": `,bias=-4`
unfoldable pub bias_text : Sampler → List ℕ
bias_text s = ascii ",bias=" ++ signed_decimal s.bias

-- `<2d,mipnone,clamp,nearest,bias=-4>`
unfoldable pub settings_text : Sampler → List ℕ
settings_text s = ascii "<" ++ texture_text s ++ sampling_text s ++ bias_text s ++ ascii ">"

unfoldable pub sampler_text : ℕ → Sampler → List ℕ
sampler_text stage s = ascii " " ++ register_text stage s.kind s.number ++ settings_text s

-- "used operands": an unused one prints nothing, not even its space
abbrev pub destination_text : ℕ → Option MaskedRegister → List ℕ
destination_text stage None = []
destination_text stage (Some r) = masked_text stage r

abbrev pub operand_text : ℕ → Operand → List ℕ
operand_text stage NoOperand = []
operand_text stage (Direct s) = direct_text stage s
operand_text stage (Indexed s) = indexed_text stage s
operand_text stage (Sampled s) = sampler_text stage s
