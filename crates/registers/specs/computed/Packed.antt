-- The counts of one edition and stage as the code hands them on.
use Rattle.std.specs.Prelude.{ℕ, ◌+◌, ◌*◌}

-- seven counts as one number, eight bits for each kind
abbrev pub packed : (ℕ → ℕ) → ℕ
packed count =
    count 0 + 0x100 * count 1 + 0x10000 * count 2 + 0x1000000 * count 3
    + 0x100000000 * (count 4 + 0x100 * count 5 + 0x10000 * count 6)
