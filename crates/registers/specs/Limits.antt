-- Document 01: tokens, 200, 1,024, 2,048.
use Rattle.std.specs.Prelude.{ℕ, cond, eqb}

-- the most tokens of an edition; 0 for what is no edition
unfoldable pub limit_of : ℕ → ℕ
limit_of edition = cond (eqb edition 1) 200 (cond (eqb edition 2) 1024 (cond (eqb edition 3) 2048 0))
