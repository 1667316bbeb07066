-- The goals of `counts_of` that the check leaves: eight bytes as a number are the seven counts, packed.
use Rattle.std.proofs.Common.{◌∙◌, ap, arith, ℕ, ◌≡◌, ◌-◌, [], ◌∷◌}
use Rattle.std.proofs.Math.Path.{fun_ext}
use Rattle.std.specs.Int.{w64, from_le_bytes}
use lib.ListN.{get_or}
use Rattle.registers.specs.Counts.{table}
use Rattle.registers.specs.computed.Packed.{packed}
use Rattle.registers.proofs.Outside.{entry}
use Rattle.registers.proofs.counts.counts_of.Goals as goal

in_bytes : (c : ℕ → ℕ) → from_le_bytes w64 (c 0 ∷ c 1 ∷ c 2 ∷ c 3 ∷ c 4 ∷ c 5 ∷ c 6 ∷ 0 ∷ []) ≡ packed c
in_bytes c = omega arith

pub returns : goal.returns
returns c =
    let a = c.args in
    c.from_le_bytes.ensures
    ∙ in_bytes (λ k. get_or (get_or (get_or table k []) (a.edition - 1) []) a.stage 0)
    ∙ ap packed (fun_ext (λ k. entry k a.edition a.stage c.requires.first))
