-- Document 01, "Layout": tokens of 24 bytes, opcode 4, destination 4, source 1 8, source 2 or sampler 8.
use Rattle.std.specs.Prelude.{ℕ, ◌/◌, ◌^◌, List, ◌++◌}
use Rattle.layout.specs.Layout.{word_at, long_at, word_bytes}
use Rattle.layout.specs.Opcodes.{shape_of}
use Rattle.layout.specs.Records.{token_of}
use Rattle.layout.specs.declared.fields.Fields.{Fields}
use Rattle.layout.specs.declared.record.Token.{Token}

abbrev pub fields_of : List ℕ → Fields
fields_of s = record { opcode = word_at s 0; destination = word_at s 4; source1 = long_at s 8; source2 = long_at s 16 }

-- the record of a token's bytes, whatever its faults
abbrev pub record_of : List ℕ → Token
record_of s = token_of (shape_of (fields_of s).opcode) (fields_of s)

-- the bytes of the four fields
abbrev pub bytes_of : Fields → List ℕ
bytes_of f =
    word_bytes f.opcode
    ++ word_bytes f.destination
    ++ word_bytes f.source1 ++ word_bytes (f.source1 / 2 ^ 32)
    ++ word_bytes f.source2 ++ word_bytes (f.source2 / 2 ^ 32)
