-- Document 01, "Numbers of the faults": a token is lawful where none of rules 9 to 19 is broken.
use Rattle.std.specs.Prelude.{ℕ, List, ◌≡◌, length}
use Rattle.std.proofs.Math.Option.{none}
use Rattle.bytecode.specs.Fields.{fields_of}
use Rattle.layout.specs.declared.fields.Fields.{Fields}
use Rattle.registers.specs.Counts.{count_of}
use Rattle.faults.specs.Order.{first_fault, token_rules}

-- in an edition and a stage: of 24 bytes that hold these fields no rule is broken
abbrev pub Lawful : ℕ → ℕ → Fields → Type 0
Lawful edition stage f =
    (s : List ℕ) → length s ≡ 24 → fields_of s ≡ f → first_fault (token_rules (λ k. count_of k edition stage) edition stage s) ≡ none
