-- The register counts of one edition and stage as the code keeps them, in one number.
use Rattle.std.specs.Prelude.{ℕ, ◌*◌, ◌/◌, ◌%◌, ◌^◌, cond, leb}
use Rattle.registers.specs.Counts.{count_of}
use Rattle.registers.specs.computed.Packed.{packed}
use Rattle.faults.specs.declared.profile.Profile.{Profile}

abbrev pub profile_of : ℕ → ℕ → Profile
profile_of edition stage = record { edition = edition; stage = stage; counts = packed (λ kind. count_of kind edition stage) }

-- the count of a kind below 8
abbrev pub count_at : ℕ → ℕ → ℕ
count_at counts kind = counts / 2 ^ (8 * (kind % 8)) % 256

-- how many registers of a kind a profile has
unfoldable pub count_in : Profile → ℕ → ℕ
count_in profile kind = cond (leb 8 kind) 0 (profile.counts / 2 ^ (8 * kind) % 256)
