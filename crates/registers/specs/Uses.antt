-- Document 01: "Readable: vertex 0, 1, 2; fragment 1, 2, 4. Writable: vertex 2, 3, 4; fragment 2, 3, 6."
use Rattle.std.specs.Prelude.{ℕ, Bool, ◌&&◌, ◌||◌, eqb}

abbrev pub is_readable : ℕ → ℕ → Bool
is_readable kind stage =
    (eqb stage 0 && (eqb kind 0 || eqb kind 1 || eqb kind 2)) || (eqb stage 1 && (eqb kind 1 || eqb kind 2 || eqb kind 4))

abbrev pub is_writable : ℕ → ℕ → Bool
is_writable kind stage =
    (eqb stage 0 && (eqb kind 2 || eqb kind 3 || eqb kind 4)) || (eqb stage 1 && (eqb kind 2 || eqb kind 3 || eqb kind 6))
