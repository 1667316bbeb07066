-- Document 01, "Check order": 1 to 8 as numbered, token and part 0. Then tokens in turn; each by 9 to 15 as numbered, then source 1 by 16 to
-- 18, then source 2 by 16 to 18, or 19 for a sampler, then 20, 21. 22 comes last.
use Rattle.std.specs.Prelude.{ℕ, zero, suc, ◌+◌, Bool, not, cond, List, [], ◌∷◌, ◌++◌, eqb}
use Rattle.std.proofs.Math.Option.{Option, none, some}
use Rattle.layout.specs.Opcodes.{shape_of, row_count2}
use Rattle.bytecode.specs.Fields.{fields_of, record_of}
use Rattle.bytecode.specs.Decode.{unused_part, undefined_part}
use Rattle.layout.specs.declared.record.Operand.{Operand}
use Rattle.layout.specs.declared.record.Operand.TheVariants.{Unused as NoOperand, Direct, Indexed, Sampler as Sampled}
use Rattle.layout.specs.declared.record.Token.{Token}
use Rattle.registers.specs.Counts.{count_of}
use Rattle.paths.specs.Paths.{TokenFault, PathToken}
use Rattle.components.specs.Tokens.{path_token_of}
use Rattle.layout.specs.Programs.{stage_of, token_count, token_at}
use Rattle.faults.specs.Rules.{edition_unknown, header_missing, first_byte_wrong, version_wrong, type_id_wrong, stage_wrong, tokens_not_whole, tokens_too_many}
use Rattle.faults.specs.Rules.{opcode_too_new, opcode_not_for_stage, destination_wrong, mask_wrong, indexed_wrong, direct_wrong, selectors_differ, matrix_swizzled, sampler_wrong}

-- a rule: whether it is broken, and the number and part that it then gives
pub record Rule : Type 0 where
  pub broken : Bool
  pub number : ℕ
  pub part : ℕ

abbrev pub rule : Bool → ℕ → ℕ → Rule
rule b n p = record { broken = b; number = n; part = p }

-- the first broken rule
abbrev pub first_fault : List Rule → Option TokenFault
first_fault [] = none
first_fault (r ∷ rs) = cond r.broken (some (record { number = r.number; part = r.part })) (first_fault rs)

-- ---- 1 to 8

abbrev pub header_rules : ℕ → List ℕ → List Rule
header_rules edition bytes =
    rule (edition_unknown edition) 1 0
    ∷ rule (header_missing bytes) 2 0
    ∷ rule (first_byte_wrong bytes) 3 0
    ∷ rule (version_wrong edition bytes) 4 0
    ∷ rule (type_id_wrong bytes) 5 0
    ∷ rule (stage_wrong bytes) 6 0
    ∷ rule (tokens_not_whole bytes) 7 0
    ∷ rule (tokens_too_many edition bytes) 8 0
    ∷ []

-- ---- 9 to 19; the part of a source is 2 or 3

-- 16 to 19 of one source; matrix or kil is the rule 18 of this source, from its swizzle
abbrev pub source_rules : (ℕ → ℕ) → ℕ → ℕ → (ℕ → Bool) → ℕ → Operand → List Rule
source_rules count stage rows swizzled part NoOperand = []
source_rules count stage rows swizzled part (Direct s) =
    rule (direct_wrong count stage rows s) 17 part ∷ rule (swizzled s.swizzle) 18 part ∷ []
source_rules count stage rows swizzled part (Indexed s) =
    rule (indexed_wrong count stage rows s) 16 part ∷ rule (swizzled s.swizzle) 18 part ∷ []
source_rules count stage rows swizzled part (Sampled s) = rule (sampler_wrong count s) 19 part ∷ []

-- 14 to 19 of a record
abbrev pub record_rules : (ℕ → ℕ) → ℕ → Token → List Rule
record_rules count stage t =
    rule (destination_wrong count stage t.destination) 14 1
    ∷ rule (mask_wrong t.opcode t.destination) 15 1
    ∷ (source_rules count stage 1 (selectors_differ t.opcode) 2 t.source1
    ++ source_rules count stage (row_count2 t.opcode) (matrix_swizzled t.opcode) 3 t.source2)

-- 9 to 19 of a token's bytes
abbrev pub token_rules : (ℕ → ℕ) → ℕ → ℕ → List ℕ → List Rule
token_rules count edition stage s =
    rule (not (shape_of (fields_of s).opcode).listed) 9 0
    ∷ rule (opcode_too_new edition (fields_of s).opcode) 10 0
    ∷ rule (opcode_not_for_stage stage (fields_of s).opcode) 11 0
    ∷ rule (not (eqb (unused_part (shape_of (fields_of s).opcode) (fields_of s)) 0)) 12 (unused_part (shape_of (fields_of s).opcode) (fields_of s))
    ∷ rule (not (eqb (undefined_part (shape_of (fields_of s).opcode) (fields_of s)) 0)) 13 (undefined_part (shape_of (fields_of s).opcode) (fields_of s))
    ∷ record_rules count stage (record_of s)

-- ---- a program

-- a token as paths see it, with the first of its faults 9 to 19
abbrev pub path_token_at : (ℕ → ℕ) → ℕ → ℕ → List ℕ → PathToken
path_token_at count edition stage s = path_token_of (first_fault (token_rules count edition stage s)) (record_of s)

-- so many tokens, from token n on
abbrev pub tokens_from : ℕ → List ℕ → ℕ → ℕ → List PathToken
tokens_from edition bytes n zero = []
tokens_from edition bytes n (suc left) =
    path_token_at (λ k. count_of k edition (stage_of bytes)) edition (stage_of bytes) (token_at bytes n)
    ∷ tokens_from edition bytes (n + 1) left

-- the tokens of a program
abbrev pub tokens_of : ℕ → List ℕ → List PathToken
tokens_of edition bytes = tokens_from edition bytes 0 (token_count bytes)
