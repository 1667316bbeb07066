-- Document 01, "Numbers of the faults": a rule for each of faults 1 to 19. Faults 20, 21 and 22 are those of branches and paths, and stand
-- in the crate paths (Nesting, Unwritten, Faults).
use Rattle.std.specs.Prelude.{ℕ, ◌+◌, ◌-◌, ◌%◌, Bool, false, not, ◌&&◌, ◌||◌, List, eqb, ltb, leb, length, get_or, None, Option, Some}
use Rattle.layout.specs.Layout.{word_at}
use Rattle.layout.specs.Opcodes.{kil, is_added, is_fragment_only, is_three_wide, is_matrix}
use Rattle.layout.specs.Programs.{stage_of, token_count}
use Rattle.layout.specs.Samplers.{settings_wrong}
use Rattle.layout.specs.Swizzles.{bit_of, selectors_agree}
use Rattle.layout.specs.declared.record.MaskedRegister.{MaskedRegister}
use Rattle.layout.specs.declared.record.DirectSource.{DirectSource}
use Rattle.layout.specs.declared.record.IndexedSource.{IndexedSource}
use Rattle.layout.specs.declared.record.Sampler.{Sampler}
use Rattle.registers.specs.Uses.{is_readable, is_writable}
use Rattle.registers.specs.Limits.{limit_of}

-- ---- the whole program: 1 to 8

-- 1: edition not 1, 2, 3
abbrev pub edition_unknown : ℕ → Bool
edition_unknown edition = not (eqb edition 1 || eqb edition 2 || eqb edition 3)

-- 2: under 7 bytes
abbrev pub header_missing : List ℕ → Bool
header_missing bytes = ltb (length bytes) 7

-- 3: wrong first byte
abbrev pub first_byte_wrong : List ℕ → Bool
first_byte_wrong bytes = not (eqb (get_or bytes 0 0) 0xa0)

-- "01 00 00 00", for every edition
abbrev pub version_word : ℕ → ℕ
version_word edition = 1

-- 4: wrong version
abbrev pub version_wrong : ℕ → List ℕ → Bool
version_wrong edition bytes = not (eqb (word_at bytes 1) (version_word edition))

-- 5: wrong type id
abbrev pub type_id_wrong : List ℕ → Bool
type_id_wrong bytes = not (eqb (get_or bytes 5 0) 0xa1)

-- 6: wrong stage
abbrev pub stage_wrong : List ℕ → Bool
stage_wrong bytes = ltb 1 (stage_of bytes)

-- 7: bytes after the header not a multiple of 24
abbrev pub tokens_not_whole : List ℕ → Bool
tokens_not_whole bytes = not (eqb ((length bytes - 7) % 24) 0)

-- 8: too many tokens
abbrev pub tokens_too_many : ℕ → List ℕ → Bool
tokens_too_many edition bytes = ltb (limit_of edition) (token_count bytes)

-- ---- one token: 9, 12 and 13 are in the crate bytecode (Decode)

-- 10: added opcode in edition 1
abbrev pub opcode_too_new : ℕ → ℕ → Bool
opcode_too_new edition opcode = eqb edition 1 && is_added opcode

-- 11: kil or tex in a vertex program
abbrev pub opcode_not_for_stage : ℕ → ℕ → Bool
opcode_not_for_stage stage opcode = eqb stage 0 && is_fragment_only opcode

-- What is in an edition and a stage: how many registers of each kind. Rules 14 to 19 take it as `count`.

-- 14: destination type not writable, or number not below its count
abbrev pub destination_wrong : (ℕ → ℕ) → ℕ → Option MaskedRegister → Bool
destination_wrong count stage None = false
destination_wrong count stage (Some r) = not (is_writable r.kind stage) || leb (count r.kind) r.number

-- 15: mask 0; or w in the mask of nrm, crs, m33, m34
abbrev pub mask_wrong : ℕ → Option MaskedRegister → Bool
mask_wrong opcode None = false
mask_wrong opcode (Some r) = eqb r.mask 0 || (is_three_wide opcode && bit_of r.mask 3)

-- 16: D = 1 and: not a vertex program, or type not 1, or I above 2, or number not below I's count, or O + rows above the constant count
abbrev pub indexed_wrong : (ℕ → ℕ) → ℕ → ℕ → IndexedSource → Bool
indexed_wrong count stage rows s =
    not (eqb stage 0) || not (eqb s.kind 1) || ltb 2 s.index_kind
    || leb (count s.index_kind) s.number || ltb (count 1) (s.offset + rows)

-- 17: D = 0 and: type not readable, or number + rows above its count, or O not 0
abbrev pub direct_wrong : (ℕ → ℕ) → ℕ → ℕ → DirectSource → Bool
direct_wrong count stage rows s =
    not (is_readable s.kind stage) || ltb (count s.kind) (s.number + rows) || not (eqb s.offset 0)

-- 18, of source 1: kil's four selectors differ
abbrev pub selectors_differ : ℕ → ℕ → Bool
selectors_differ opcode swizzle = eqb opcode kil && not (selectors_agree swizzle)

-- 18, of source 2: matrix source 2 swizzle not E4
abbrev pub matrix_swizzled : ℕ → ℕ → Bool
matrix_swizzled opcode swizzle = is_matrix opcode && not (eqb swizzle 0xe4)

-- 19: sampler: number not below count, and what layout (Samplers) says of the others: "type not 5, .. filter, wrap or dimension above 1,
-- mipmap above 2, special not 0"
abbrev pub sampler_wrong : (ℕ → ℕ) → Sampler → Bool
sampler_wrong count s = leb (count 5) s.number || settings_wrong s
