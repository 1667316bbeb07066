-- What a quick test's answer "no" means: the token reads nothing unwritten. Each test is for tokens of one kind, which are told here by the
-- opcode and by D of the sources; the tests of faults 9 to 19 tell that a token is of that kind.
use Rattle.std.specs.Prelude.{Bool, true, false, ◌||◌, ◌≡◌}
use Rattle.layout.specs.Opcodes.{shape_of, kil, tex, is_matrix, is_opener}
use Rattle.layout.specs.computed.Groups.{is_ordinary}
use Rattle.layout.specs.Records.{is_indexed, token_of}
use Rattle.layout.specs.declared.fields.Fields.{Fields}
use Rattle.paths.specs.computed.Check.{lacks}
use Rattle.components.specs.Reads.{reads1, reads2, temporaries}
use Rattle.components.specs.computed.Written.{component_set}
use Rattle.components.specs.declared.written.Written.{Written}

-- of all that the token reads through source 1, and through source 2, the set lacks no temporary component
abbrev pub ReadsWritten : Written → Fields → Type 0
ReadsWritten s f =
    (lacks (component_set s) (temporaries (reads1 (token_of (shape_of f.opcode) f))) ≡ false)
    × (lacks (component_set s) (temporaries (reads2 (token_of (shape_of f.opcode) f))) ≡ false)

-- D = 0 of both sources
abbrev pub BothDirect : Fields → Type 0
BothDirect f = (is_indexed f.source1 ≡ false) × (is_indexed f.source2 ≡ false)

-- an ordinary opcode with direct sources
abbrev pub OrdinaryReads : Bool → Written → Fields → Type 0
OrdinaryReads r s f = r ≡ false → is_ordinary f.opcode ≡ true → BothDirect f → ReadsWritten s f

-- m33, m44 and m34 with direct sources
abbrev pub MatrixReads : Bool → Written → Fields → Type 0
MatrixReads r s f = r ≡ false → is_matrix f.opcode ≡ true → BothDirect f → ReadsWritten s f

-- tex with direct coordinates
abbrev pub TexReads : Bool → Written → Fields → Type 0
TexReads r s f = r ≡ false → f.opcode ≡ tex → is_indexed f.source1 ≡ false → ReadsWritten s f

-- an ordinary opcode or a matrix, whose sources may be indexed
abbrev pub IndexedReads : Bool → Written → Fields → Type 0
IndexedReads r s f = r ≡ false → (is_ordinary f.opcode || is_matrix f.opcode) ≡ true → ReadsWritten s f

-- an opener, whose sources may be indexed
abbrev pub OpenerReads : Bool → Written → Fields → Type 0
OpenerReads r s f = r ≡ false → is_opener f.opcode ≡ true → ReadsWritten s f

-- kil with a direct source
abbrev pub KilReads : Bool → Written → Fields → Type 0
KilReads r s f = r ≡ false → f.opcode ≡ kil → is_indexed f.source1 ≡ false → ReadsWritten s f
