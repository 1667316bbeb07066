-- Opcodes as the code groups them, and the shape of a source by whether it is used. No rule speaks of these groups, and nobody has to
-- believe them: that the tests by groups find what the rules say of each opcode is proved.
use Rattle.std.specs.Prelude.{ℕ, Bool, not, cond, ◌&&◌, ◌++◌, eqb}
use Rattle.layout.specs.Opcodes.{is_in, tex, openers, bare_opcodes, is_added, is_listed, is_fragment_only, is_matrix}
use Rattle.layout.specs.declared.opcodes.OperandShape.{OperandShape}
use Rattle.layout.specs.declared.opcodes.OperandShape.TheVariants.{Unused, Source, Sampler}

-- the opcodes of branches
abbrev pub is_branch : ℕ → Bool
is_branch o = is_in o (openers ++ bare_opcodes)

-- The ordinary opcodes, all but those of branches, matrices, kil and tex: each has a destination and one or two sources of one register, in
-- every stage, and no rule says anything of it by name but 10 and 15.
abbrev pub is_ordinary : ℕ → Bool
is_ordinary o = is_listed o && not (is_matrix o) && not (is_branch o) && not (is_fragment_only o)

-- the ordinary opcodes of an edition; edition 1 has no added ones
abbrev pub is_ordinary_in : ℕ → ℕ → Bool
is_ordinary_in edition o = is_ordinary o && not (eqb edition 1 && is_added o)

-- a source where one is used; tex alone has a sampler
abbrev pub source_shape : Bool → OperandShape
source_shape used = cond used Source Unused

abbrev pub second_shape : ℕ → Bool → OperandShape
second_shape o used = cond (eqb o tex) Sampler (source_shape used)
