-- What the tests compute that tell lawful tokens by a few looks at their fields, and what the answer "yes" means: the token is Lawful. Nobody
-- has to believe these.
use Rattle.std.specs.Prelude.{ℕ, ◌+◌, ◌*◌, ◌%◌, Bool, true, false, not, cond, ◌&&◌, ◌||◌, ◌≡◌, eqb, ltb, leb}
use Rattle.std.specs.Int.Bits.{bit_and}
use Rattle.layout.specs.Layout as layout
use Rattle.layout.specs.Layout.{value_of, operand_bits, is_stray}
use Rattle.layout.specs.Opcodes.{shape_of, kil, tex, is_opener, row_count2}
use Rattle.layout.specs.computed.Groups.{is_branch}
use Rattle.layout.specs.Records.{is_indexed, destination_of, sampler_of}
use Rattle.layout.specs.computed.Sets.{among_of, ordinary_set}
use Rattle.layout.specs.declared.fields.Fields.{Fields}
use Rattle.layout.specs.declared.opcodes.OperandShape.{OperandShape}
use Rattle.layout.specs.declared.opcodes.OperandShape.TheVariants.{Unused, Source, Sampler}
use Rattle.faults.specs.Rules.{mask_wrong, sampler_wrong}
use Rattle.faults.specs.Lawful.{Lawful}
use Rattle.faults.specs.computed.Profile.{profile_of, count_at, count_in}
use Rattle.faults.specs.declared.lawful.Usable.{Usable}
use Rattle.faults.specs.declared.profile.Profile.{Profile}

-- the counts of the kinds that a stage reads, of those that it writes, and of those that may be indices
unfoldable pub usable_of : Profile → Usable
usable_of p =
    record {
      profile = p;
      opcodes = ordinary_set p.edition;
      readable = cond (eqb p.stage 0) (bit_and p.counts 0xffffff) (bit_and p.counts 0xff00ffff00);
      writable = cond (eqb p.stage 0) (bit_and p.counts 0xffffff0000) (bit_and p.counts 0xff0000ffff0000);
      indexing = cond (eqb p.stage 0) (bit_and p.counts 0xffffff) 0;
    }

abbrev pub is_source : OperandShape → Bool
is_source Unused = false
is_source Source = true
is_source Sampler = false

-- the bits of a direct source of a kind below 8 with no offset; none where it is not used
abbrev pub lawful_source_bits : Bool → ℕ
lawful_source_bits used = cond used 0x00030f07ff00ffff 0

unfoldable pub is_lawful_destination : ℕ → ℕ → ℕ → Bool
is_lawful_destination writable opcode field =
    not (is_stray 0x070fffff field)
    && ltb (value_of layout.number field) (count_at writable (value_of layout.masked_kind field))
    && not (mask_wrong opcode (destination_of true field))

-- a source of so many rows
unfoldable pub is_lawful_source : ℕ → Bool → ℕ → ℕ → Bool
is_lawful_source readable used rows field =
    not (is_stray (lawful_source_bits used) field)
    && (not used || leb (value_of layout.number field + rows) (count_at readable (value_of layout.kind field)))

-- an indexed source of so many rows: a constant, by a register that may be an index
unfoldable pub is_rightly_indexed : Usable → ℕ → ℕ → Bool
is_rightly_indexed u rows field =
    not (is_stray 0x80030701ffffffff field)
    && eqb (value_of layout.kind field) 1
    && ltb (value_of layout.number field) (count_at u.indexing (value_of layout.index_kind field))
    && leb (value_of layout.offset field + rows) (count_at u.readable 1)

-- an indexed source, a direct one, or none
unfoldable pub is_lawful_either : Usable → Bool → ℕ → ℕ → Bool
is_lawful_either u used rows field = cond (is_indexed field) (used && is_rightly_indexed u rows field) (is_lawful_source u.readable used rows field)

unfoldable pub is_lawful : Usable → Fields → Bool
is_lawful u f =
    cond (among_of u.opcodes f.opcode)
    (is_lawful_destination u.writable f.opcode f.destination
    && is_lawful_source u.readable true 1 f.source1
    && is_lawful_source u.readable (is_source (shape_of f.opcode).source2) 1 f.source2)
    false

unfoldable pub is_lawful_matrix : Usable → Fields → Bool
is_lawful_matrix u f =
    cond (eqb (row_count2 f.opcode) 1) false
    (is_lawful_destination u.writable f.opcode f.destination
    && is_lawful_source u.readable true 1 f.source1
    && is_lawful_source u.readable true (row_count2 f.opcode) f.source2
    && eqb (value_of layout.swizzle f.source2) 0xe4)

unfoldable pub is_lawful_tex : Usable → Fields → Bool
is_lawful_tex u f =
    cond (eqb f.opcode tex)
    (is_lawful_destination u.writable f.opcode f.destination
    && is_lawful_source u.readable true 1 f.source1
    && eqb u.profile.stage 1
    && not (is_stray (operand_bits Sampler) f.source2)
    && not (sampler_wrong (count_in u.profile) (sampler_of f.source2)))
    false

-- all four selectors are the first one
abbrev pub repeats_first : ℕ → Bool
repeats_first swizzle = eqb (swizzle % 4 * 0x55) swizzle

-- with such a direct source, and nothing else
unfoldable pub is_lawful_kil : Usable → Fields → Bool
is_lawful_kil u f =
    cond (eqb f.opcode kil)
    (eqb u.profile.stage 1 && eqb f.destination 0 && eqb f.source2 0
    && is_lawful_source u.readable true 1 f.source1
    && repeats_first (value_of layout.swizzle f.source1))
    false

-- each source indexed or direct; a matrix or not
unfoldable pub is_lawful_indexed : Usable → Fields → Bool
is_lawful_indexed u f =
    cond (eqb (row_count2 f.opcode) 1 && not (among_of u.opcodes f.opcode)) false
    (is_lawful_destination u.writable f.opcode f.destination
    && is_lawful_either u true 1 f.source1
    && is_lawful_either u (is_source (shape_of f.opcode).source2) (row_count2 f.opcode) f.source2
    && (eqb (row_count2 f.opcode) 1 || eqb (value_of layout.swizzle f.source2) 0xe4))

-- an opener, each source indexed or direct; els or eif with no source
unfoldable pub is_lawful_branch : Usable → Fields → Bool
is_lawful_branch u f =
    cond (not (is_branch f.opcode)) false
    (cond (is_opener f.opcode)
    (not (eqb u.profile.edition 1) && eqb f.destination 0 && is_lawful_either u true 1 f.source1 && is_lawful_either u true 1 f.source2)
    (not (eqb u.profile.edition 1) && eqb f.destination 0 && eqb f.source1 0 && eqb f.source2 0))

-- ---- what the answer "yes" means: the token is lawful

-- the same opcodes and registers, beside another profile
abbrev pub usable_beside : Usable → Profile → Usable
usable_beside u p =
    record { profile = p; opcodes = u.opcodes; readable = u.readable; writable = u.writable; indexing = u.indexing }

-- in each edition and stage that has these opcodes and registers
unfoldable pub LawfulWith : Usable → Fields → Type 0
LawfulWith u f =
    (edition stage : ℕ) → usable_beside u (profile_of edition stage) ≡ usable_of (profile_of edition stage) → Lawful edition stage f

-- in the edition and stage of the profile
unfoldable pub LawfulUnder : Usable → Fields → Type 0
LawfulUnder u f = (edition stage : ℕ) → u ≡ usable_of (profile_of edition stage) → Lawful edition stage f
