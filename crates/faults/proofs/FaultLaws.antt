-- The first fault of a token, stage by stage.
-- Assumes nothing.
use Prim.Native.Nat.{ℕ, suc}
use mathlib.Core.Bool.{Bool, true, false, cond}
use mathlib.Core.List.{List, [], ◌∷◌, ◌++◌}
use mathlib.Core.Option.{Option, none, some, some-ne-none}
use mathlib.Core.Path.{◌≡◌, refl, ◌∙◌, ap, sym}
use lib.Dec.{eqb-suc-zero}
use Rattle.std.specs.Prelude.{Result, Ok, Err, ⊤}
use Rattle.bytecode.specs.Decode.{refusal, outcome}
use Rattle.bytecode.specs.declared.answers.Refusal.{Refusal}
use Rattle.layout.specs.declared.record.Operand.{Operand}
use Rattle.layout.specs.declared.record.Operand.TheVariants.{Unused as NoOperand, Direct, Indexed, Sampler as Sampled}
use Rattle.layout.specs.declared.record.Token.{Token}
use Rattle.paths.specs.Paths.{TokenFault}
use Rattle.layout.specs.Opcodes.{row_count2}
use Rattle.faults.specs.Rules.{destination_wrong, mask_wrong, indexed_wrong, direct_wrong, selectors_differ, matrix_swizzled, sampler_wrong}
use Rattle.faults.specs.computed.Profile.{count_in}
use Rattle.faults.specs.Order.{Rule, first_fault, source_rules}
use Rattle.faults.specs.computed.Faults.{number_of, refusal_at, record_fault}
use Rattle.faults.specs.declared.profile.Profile.{Profile}

-- ---- no rule is broken

abbrev pub AllKept : List Rule → Type 0
AllKept [] = Unit {0}
AllKept (r ∷ rs) = (r.broken ≡ false) × AllKept rs

pub none_broken : (rs : List Rule) → first_fault rs ≡ none → AllKept rs
none_broken [] e = tt
none_broken (r ∷ rs) e = go (λ k. none_broken rs k) r.broken refl e
  where
    go : (first_fault rs ≡ none → AllKept rs) → (b : Bool) → r.broken ≡ b → cond b (some (record { number = r.number; part = r.part })) (first_fault rs) ≡ none → AllKept (r ∷ rs)
    go ih true q k = absurd (some-ne-none _ k)
    go ih false q k = (q, ih k)

-- ---- one rule after another

abbrev pub or_else : Option TokenFault → Option TokenFault → Option TokenFault
or_else none b = b
or_else (some f) b = some f

pub first_append : (rs bs : List Rule) → first_fault (rs ++ bs) ≡ or_else (first_fault rs) (first_fault bs)
first_append [] bs = refl
first_append (r ∷ rs) bs = go (first_append rs bs) r.broken
  where
    go : first_fault (rs ++ bs) ≡ or_else (first_fault rs) (first_fault bs) → (b : Bool)
        → cond b (some (record { number = r.number; part = r.part })) (first_fault (rs ++ bs)) ≡ or_else (cond b (some (record { number = r.number; part = r.part })) (first_fault rs)) (first_fault bs)
    go ih true = refl
    go ih false = ih

-- ---- a source

-- a source's fault by its number, at its part, or what comes later where it has none
abbrev pub next : ℕ → ℕ → Result ⊤ ℕ → Result ⊤ Refusal → Result ⊤ Refusal
next token part (Ok u) later = later
next token part (Err n) later = Err (refusal n token part)

-- one or two rules of a source, by their tests
two : (a b : Bool) (m n token part : ℕ) (later : Option TokenFault)
    → outcome (refusal_at token (or_else (cond a (some (record { number = suc m; part = part })) (cond b (some (record { number = suc n; part = part })) none)) later))
    ≡ next token part (number_of (cond a (some (record { number = suc m; part = 0 })) (cond b (some (record { number = suc n; part = 0 })) none))) (outcome (refusal_at token later))
two true b m n token part later = rw (eqb-suc-zero m)
two false true m n token part later = rw (eqb-suc-zero n)
two false false m n token part later = refl

-- the number of a source's fault does not depend on the part, and the part is the source's
source_next : (count : ℕ → ℕ) (stage rows : ℕ) (swizzled : ℕ → Bool) (token part : ℕ) (o : Operand) (later : Option TokenFault)
    → outcome (refusal_at token (or_else (first_fault (source_rules count stage rows swizzled part o)) later))
    ≡ next token part (number_of (first_fault (source_rules count stage rows swizzled 0 o))) (outcome (refusal_at token later))
source_next count stage rows swizzled token part NoOperand later = refl
source_next count stage rows swizzled token part (Direct s) later = two (direct_wrong count stage rows s) (swizzled s.swizzle) 16 17 token part later
source_next count stage rows swizzled token part (Indexed s) later = two (indexed_wrong count stage rows s) (swizzled s.swizzle) 15 17 token part later
source_next count stage rows swizzled token part (Sampled s) later = two (sampler_wrong count s) false 18 0 token part later

-- ---- a record

module _ (profile : Profile) (token : ℕ) (t : Token) where
  abbrev source1 : ℕ → List Rule
  source1 part = source_rules (count_in profile) profile.stage 1 (selectors_differ t.opcode) part t.source1

  abbrev source2 : ℕ → List Rule
  source2 part = source_rules (count_in profile) profile.stage (row_count2 t.opcode) (matrix_swizzled t.opcode) part t.source2

  or_none : (a : Option TokenFault) → or_else a none ≡ a
  or_none none = refl
  or_none (some f) = refl

  sources : outcome (refusal_at token (first_fault (source1 2 ++ source2 3))) ≡ next token 2 (number_of (first_fault (source1 0))) (next token 3 (number_of (first_fault (source2 0))) (Ok tt))
  sources =
      ap (λ f. outcome (refusal_at token f)) (first_append (source1 2) (source2 3))
      ∙ source_next (count_in profile) profile.stage 1 (selectors_differ t.opcode) token 2 t.source1 (first_fault (source2 3))
      ∙ ap (next token 2 (number_of (first_fault (source1 0))))
      (ap (λ f. outcome (refusal_at token f)) (sym (or_none (first_fault (source2 3))))
      ∙ source_next (count_in profile) profile.stage (row_count2 t.opcode) (matrix_swizzled t.opcode) token 3 t.source2 none)

  pub staged : outcome (record_fault profile token t)
      ≡ cond (destination_wrong (count_in profile) profile.stage t.destination) (Err (refusal 14 token 1))
      (cond (mask_wrong t.opcode t.destination) (Err (refusal 15 token 1))
      (next token 2 (number_of (first_fault (source1 0))) (next token 3 (number_of (first_fault (source2 0))) (Ok tt))))
  unfolding record_fault
  staged = go (destination_wrong (count_in profile) profile.stage t.destination) (mask_wrong t.opcode t.destination)
    where
      go : (a b : Bool)
          → outcome (refusal_at token (cond a (some (record { number = 14; part = 1 })) (cond b (some (record { number = 15; part = 1 })) (first_fault (source1 2 ++ source2 3)))))
          ≡ cond a (Err (refusal 14 token 1)) (cond b (Err (refusal 15 token 1)) (next token 2 (number_of (first_fault (source1 0))) (next token 3 (number_of (first_fault (source2 0))) (Ok tt))))
      go true b = refl
      go false true = refl
      go false false = sources
