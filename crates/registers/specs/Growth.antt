-- A program never loses registers where the edition rises.
use Rattle.std.specs.Prelude.{ℕ, ◌≤◌}
use Rattle.registers.specs.Counts.{count_of}

-- from edition 1 to 2 and from 2 to 3, for every kind and stage
pub record Growth : Type 0 where
  pub first : (kind stage : ℕ) → count_of kind 1 stage ≤ count_of kind 2 stage
  pub second : (kind stage : ℕ) → count_of kind 2 stage ≤ count_of kind 3 stage
