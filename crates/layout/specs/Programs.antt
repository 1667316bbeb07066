-- Document 01, "Layout": "Header: A0, 01 00 00 00, A1, then 00 vertex or 01 fragment. Then tokens of 24 bytes": where a program's parts stand
-- among its bytes.
use Rattle.std.specs.Prelude.{ℕ, ◌+◌, ◌-◌, ◌*◌, ◌/◌, Bool, List, ltb, length, get_or, take, drop}

-- "then 00 vertex or 01 fragment"
abbrev pub stage_of : List ℕ → ℕ
stage_of bytes = get_or bytes 6 0

-- the token count: "the length less 7, over 24"
abbrev pub token_count : List ℕ → ℕ
token_count bytes = (length bytes - 7) / 24

-- where token n begins, after a header of 7
abbrev pub token_start : ℕ → ℕ
token_start n = 7 + n * 24

-- the 24 bytes of token n
abbrev pub token_at : List ℕ → ℕ → List ℕ
token_at bytes n = take 24 (drop (token_start n) bytes)

-- "Fewer than 24 left"
abbrev pub no_token_left : List ℕ → ℕ → Bool
no_token_left bytes n = ltb (length bytes) (token_start n + 24)
