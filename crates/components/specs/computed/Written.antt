-- The check's set of written components, as the code keeps it: two 64-bit numbers with four bits for each temporary
-- register, x the lowest: registers 0 to 15 in the low number, 16 to 31 in the high one. No edition has more than 26.
use Rattle.std.specs.Prelude.{ℕ, ◌*◌, ◌/◌, ◌%◌, ◌^◌, Bool, cond, not, ltb, eqb}
use Rattle.std.specs.Int.Bits.{bit_and, bit_or}
use Rattle.paths.specs.computed.Sets.{ComponentSet}
use Rattle.paths.specs.computed.Check.{lacks}
use Rattle.layout.specs.Swizzles.{bit_of, mask_components}
use Rattle.components.specs.Reads.{rows_of, temporaries}
use Rattle.components.specs.declared.written.Written.{Written}

-- the number that a register's bits are in; a register above 31 has none
abbrev pub half_of : Written → ℕ → ℕ
half_of s register = cond (ltb register 16) s.low (cond (ltb register 32) s.high 0)

-- the components that the two numbers stand for, each as register * 4 + component
abbrev pub component_set : Written → ComponentSet
component_set s n = bit_of (half_of s (n / 4)) (n % 64)

-- "joined at eif": what both sets have
abbrev pub join_of : Written → Written → Written
join_of a b = record { low = bit_and a.low b.low; high = bit_and a.high b.high }

-- the number that a register's bits are in, with those of a mask set
abbrev pub marked_half : ℕ → ℕ → ℕ → ℕ
marked_half half register mask = bit_or half (mask % 16 * 2 ^ (register % 16 * 4))

-- "a token with a destination writes the components of its mask"; a register above 31 is not kept
unfoldable pub mark_of : Written → ℕ → ℕ → Written
mark_of s register mask =
    cond (ltb register 16) (record { low = marked_half s.low register mask; high = s.high })
    (cond (ltb register 32) (record { low = s.low; high = marked_half s.high register mask })
    s)

-- the bits of a mask are not all set among a register's, as the code tests it
abbrev pub lacks_row : Written → ℕ → ℕ → Bool
lacks_row s register mask = not (eqb (bit_and (mask % 16) (half_of s register / 2 ^ (register % 16 * 4))) (mask % 16))

-- some component is missing that is read of each of some rows, from a temporary register on
unfoldable pub lacks_of : Written → ℕ → ℕ → ℕ → Bool
lacks_of s register rows components = lacks (component_set s) (temporaries (rows_of 2 register rows (mask_components components)))
