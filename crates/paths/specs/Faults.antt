-- Document 01, "Numbers of the faults": faults 9 to 22 of a program in their order, over its tokens and its paths.
use Rattle.std.specs.Prelude.{Bool, true, false, List, [], ◌∷◌, ◌⊎◌, ◌≡◌, ℕ, zero, suc, ◌<◌, ◌≤◌, length}
use Rattle.std.proofs.Math.Option.{Option, none, some}
use Rattle.paths.specs.Paths.{Source, source1, source2, TokenFault, PathToken}
use Rattle.paths.specs.Unwritten.{SomePathReads}
use Rattle.paths.specs.Nesting.{misplaced_at, open_branches, innermost}

-- "What can be called": accepted, or a refusal number, a token number from 0, and a part
pub data Answer : Type 0 where
  accepted : Answer
  refused : ℕ → ℕ → ℕ → Answer

-- ---- one token: the first of its faults 9 to 19, whether it is out of place, and through which sources some path reads there an
-- unwritten component

-- it has none of faults 9 to 21
abbrev pub NoFault : Option TokenFault → Bool → (Source → Type 0) → Type 0
NoFault fault stray Reads = (fault ≡ none) × (stray ≡ false) × ((s : Source) → ¬ Reads s)

-- "The part of 21 is 2 when some way reads an unwritten temporary component through source 1 there, its index register included, else 3."
abbrev pub UnwrittenPart : (Source → Type 0) → ℕ → Type 0
UnwrittenPart Reads part = ((part ≡ 2) × Reads source1) ⊎ ((part ≡ 3) × (¬ Reads source1) × Reads source2)

-- "Check order": 9 to 19 with their own number and part, then 20 with part 0, then 21. This is the first.
abbrev pub FaultIs : Option TokenFault → Bool → (Source → Type 0) → ℕ → ℕ → Type 0
FaultIs fault stray Reads number part =
    (fault ≡ some (record { number = number; part = part }))
    ⊎ ((number ≡ 20) × (part ≡ 0) × (fault ≡ none) × (stray ≡ true))
    ⊎ ((number ≡ 21) × (fault ≡ none) × (stray ≡ false) × UnwrittenPart Reads part)

-- ---- a program

-- the first of faults 9 to 19 at token n
abbrev pub token_fault_at : List PathToken → ℕ → Option TokenFault
token_fault_at [] n = none
token_fault_at (t ∷ ts) zero = t.fault
token_fault_at (t ∷ ts) (suc n) = token_fault_at ts n

-- none of faults 9 to 21 at token n
abbrev pub Clean : List PathToken → ℕ → Type 0
Clean prog n = NoFault (token_fault_at prog n) (misplaced_at prog n) (λ s. SomePathReads s prog n)

-- none of them at any token before n
abbrev pub CleanBefore : List PathToken → ℕ → Type 0
CleanBefore prog n = (j : ℕ) → j < n → Clean prog j

-- the first of faults 9 to 21 at token n
abbrev pub FaultAt : List PathToken → ℕ → ℕ → ℕ → Type 0
FaultAt prog n number part = FaultIs (token_fault_at prog n) (misplaced_at prog n) (λ s. SomePathReads s prog n) number part

-- 22: "at the end a branch is open; token = innermost open opener", part 0; it comes last
abbrev pub Unclosed : List PathToken → ℕ → ℕ → ℕ → Type 0
Unclosed prog number n part =
    (number ≡ 22) × (part ≡ 0) × CleanBefore prog (length prog) × (innermost (open_branches prog) ≡ some n)

-- "Check order": tokens in turn, "22 comes last". The first fault has this number, token and part.
abbrev pub FirstFault : List PathToken → ℕ → ℕ → ℕ → Type 0
FirstFault prog number n part = (CleanBefore prog n × FaultAt prog n number part) ⊎ Unclosed prog number n part

-- "The faults before 21 at a token are .. 9 to 20 at this token and at earlier ones, and 21 at earlier ones": they are absent, and some
-- path reads at token n an unwritten component, which gives the part.
abbrev pub FirstUnwritten : List PathToken → ℕ → ℕ → Type 0
FirstUnwritten prog n part =
    CleanBefore prog n × (token_fault_at prog n ≡ none) × (misplaced_at prog n ≡ false)
    × UnwrittenPart (λ s. SomePathReads s prog n) part

-- no token has a fault, and no branch is open at the end
abbrev pub Faultless : List PathToken → Type 0
Faultless prog = CleanBefore prog (length prog) × (open_branches prog ≡ [])

-- the faults of the tokens by themselves have the numbers 9 to 19
abbrev pub TokenFaultsNumbered : List PathToken → Type 0
TokenFaultsNumbered prog = (n : ℕ) (f : TokenFault) → token_fault_at prog n ≡ some f → (9 ≤ f.number) × (f.number ≤ 19)
