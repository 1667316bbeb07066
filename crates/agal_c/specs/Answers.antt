-- The numbers that C is handed: those of a refusal, 0 where nothing is refused, and what is answered.
use Rattle.std.specs.Prelude.{ℕ}
use Rattle.bytecode.specs.Numbers.{Numbers}
use Rattle.bytecode.specs.declared.answers.Refusal.{Refusal}
use Rattle.agal_c.specs.declared.answers.Answer.{Answer}

-- document 01's numbers of an answer
abbrev pub numbers_answer : Numbers → Answer
numbers_answer n = record { number = n.number; part = n.part; stage = n.stage; token = n.token; value = n.value }

-- ---- where C is told a place or a length that those numbers don't have

abbrev pub answered : ℕ → ℕ → Answer
answered stage value = record { number = 0; part = 0; stage = stage; token = 0; value = value }

abbrev pub refused : Refusal → ℕ → Answer
refused r value = record { number = r.number; part = r.part; stage = 0; token = r.token; value = value }
