-- Faults 1 to 8, of the program as a whole.
use Rattle.std.specs.Prelude.{ℕ, List, [], ◌∷◌}
use Rattle.bytecode.specs.declared.answers.Refusal.{Refusal}
use Rattle.faults.specs.Rules.{type_id_wrong, stage_wrong, tokens_not_whole, tokens_too_many}
use Rattle.faults.specs.Order.{rule, first_fault, header_rules}
use Rattle.faults.specs.computed.Faults.{refusal_at}

-- faults 1 to 8, at token 0
unfoldable pub header_fault : ℕ → List ℕ → Refusal
header_fault edition bytes = refusal_at 0 (first_fault (header_rules edition bytes))

-- 5 to 8 by themselves, as the code takes them
unfoldable pub rest_fault : ℕ → List ℕ → Refusal
rest_fault edition bytes =
    refusal_at 0
    (first_fault
    (rule (type_id_wrong bytes) 5 0
    ∷ rule (stage_wrong bytes) 6 0
    ∷ rule (tokens_not_whole bytes) 7 0
    ∷ rule (tokens_too_many edition bytes) 8 0
    ∷ []))
