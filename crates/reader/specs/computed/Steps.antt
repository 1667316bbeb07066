-- A read as the code makes it, on the slice and the number of tokens read: the bytes that it decodes.
use Rattle.std.specs.Prelude.{ℕ, cond, List, []}
use Rattle.layout.specs.Programs.{token_at, no_token_left}

-- the bytes of token n, or none where fewer than 24 are left
unfoldable pub token_bytes : List ℕ → ℕ → List ℕ
token_bytes s n = cond (no_token_left s n) [] (token_at s n)
