-- What the quick tests compute of a token's fields. Nobody has to believe these: what the answer "no" means stands in ReadsWritten.
use Rattle.std.specs.Prelude.{ℕ, Bool, cond, ◌||◌}
use Rattle.layout.specs.Opcodes.{row_count2}
use Rattle.layout.specs.Records.{register_of, direct_of, is_indexed, indexed_of, sampler_of}
use Rattle.layout.specs.computed.Sets.{coordinate_set, selector_set1, selector_set2}
use Rattle.layout.specs.declared.fields.Fields.{Fields}
use Rattle.components.specs.computed.Access.{lacks_access, lacks_some, selected_access, index_access}
use Rattle.components.specs.declared.written.Written.{Written}

-- what is read through two direct sources of one row each is not all written
unfoldable pub may_read_unwritten : Written → Fields → Bool
may_read_unwritten s f =
    lacks_access s (selected_access (selector_set1 f.opcode (register_of f.destination).mask 0) (direct_of f.source1))
    || lacks_access s (selected_access (selector_set2 f.opcode (register_of f.destination).mask) (direct_of f.source2))

-- the same through a matrix, all of whose rows' components are asked for, read or not
unfoldable pub matrix_may_read_unwritten : Written → Fields → Bool
matrix_may_read_unwritten s f =
    lacks_access s (selected_access (selector_set1 f.opcode (register_of f.destination).mask 0) (direct_of f.source1))
    || lacks_some s (row_count2 f.opcode) (direct_of f.source2)

-- and through the coordinates of tex
unfoldable pub tex_may_read_unwritten : Written → Fields → Bool
tex_may_read_unwritten s f = lacks_access s (selected_access (coordinate_set (sampler_of f.source2).dimension) (direct_of f.source1))

-- a source, indexed or direct, reads what is not written, or might: all four components of a direct one's rows are asked for
unfoldable pub may_lack : Written → ℕ → ℕ → Bool
may_lack s rows field = cond (is_indexed field) (lacks_access s (index_access (indexed_of field))) (lacks_some s rows (direct_of field))

-- and through two such sources
unfoldable pub indexed_may_read_unwritten : Written → Fields → Bool
indexed_may_read_unwritten s f = may_lack s 1 f.source1 || may_lack s (row_count2 f.opcode) f.source2

-- a source of an opener, indexed or direct, reads what is not written: a direct one is read by all four selectors
unfoldable pub opener_lacks : Written → ℕ → Bool
opener_lacks s field = cond (is_indexed field) (lacks_access s (index_access (indexed_of field))) (lacks_access s (selected_access 15 (direct_of field)))

-- and through two such sources
unfoldable pub opener_may_read_unwritten : Written → Fields → Bool
opener_may_read_unwritten s f = opener_lacks s f.source1 || opener_lacks s f.source2

-- and through the one direct source of kil, by its first selector
unfoldable pub kil_may_read_unwritten : Written → Fields → Bool
kil_may_read_unwritten s f = lacks_access s (selected_access 1 (direct_of f.source1))
