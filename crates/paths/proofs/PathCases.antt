-- Small programs, computed: which tokens paths visit, where branches end, and what the check answers.
-- Assumes nothing.
use mathlib.Core.Path.{◌≡◌, refl, sym, ◌∙◌, subst}
use mathlib.Core.Bool.{Bool, true, false, true≢false}
use mathlib.Core.List.{List, [], ◌∷◌, Memᴰ, map, ◌++◌}
use mathlib.Core.Option.{none, some, some-injective, none-ne-some}
use Prim.Native.Nat.{ℕ, zero, suc}
use lib.ListN.{replicate}
use Rattle.paths.specs.Paths.{Flow, plain, opener, els, eif, Source, source1, source2, PathToken, Visit, visit_of, visited}
use Rattle.paths.specs.computed.Sets.{has}
use Rattle.paths.specs.Nesting.{eif_of, Closes}
use Rattle.paths.specs.Faults.{Answer, accepted, refused}
use Rattle.paths.specs.computed.Check.{verdict_of, check_from}
use Rattle.paths.proofs.Threaded.{has_member}

abbrev through : List ℕ → List ℕ → Source → List ℕ
through a b source1 = a
through a b source2 = b

abbrev pub bare : Flow → PathToken
bare f = record { flow = f; reads = through [] []; writes = []; fault = none }

abbrev pub write : ℕ → PathToken
write c = record { flow = plain; reads = through [] []; writes = c ∷ []; fault = none }

abbrev read : List ℕ → List ℕ → PathToken
read a b = record { flow = plain; reads = through a b; writes = []; fault = none }

-- it reads and writes the component, and its own fault is 14 in part 1
abbrev faulty : PathToken
faulty = record { flow = eif; reads = through (0 ∷ []) []; writes = 0 ∷ []; fault = some (record { number = 14; part = 1 }) }

-- a program, and what the check answers; where one path lacks source 1 and another source 2, the part is 2 whichever path comes first
abbrev cases : List (List PathToken × Answer)
cases =
    ([], accepted)
    ∷ (read (0 ∷ []) [] ∷ [], refused 21 0 2)
    ∷ (read [] (0 ∷ []) ∷ [], refused 21 0 3)
    ∷ (read (0 ∷ []) (0 ∷ []) ∷ [], refused 21 0 2)
    ∷ (write 0 ∷ read (0 ∷ []) (1 ∷ []) ∷ [], refused 21 1 3)
    ∷ (record { flow = plain; reads = through (0 ∷ []) []; writes = 0 ∷ []; fault = none } ∷ [], refused 21 0 2)
    ∷ (record { flow = eif; reads = through (0 ∷ []) []; writes = []; fault = none } ∷ [], refused 20 0 0)
    ∷ (faulty ∷ [], refused 14 0 1)
    ∷ (bare opener ∷ write 0 ∷ bare els ∷ write 0 ∷ bare eif ∷ read (0 ∷ []) [] ∷ [], accepted)
    ∷ (bare opener ∷ write 0 ∷ bare els ∷ bare eif ∷ read (0 ∷ []) [] ∷ [], refused 21 4 2)
    ∷ (bare opener ∷ write 0 ∷ bare eif ∷ read (0 ∷ []) [] ∷ [], refused 21 3 2)
    ∷ (bare opener ∷ write 0 ∷ bare els ∷ read (0 ∷ []) [] ∷ bare eif ∷ [], refused 21 3 2)
    ∷ (bare opener ∷ write 0 ∷ bare els ∷ write 4 ∷ bare eif ∷ read (0 ∷ []) (4 ∷ []) ∷ [], refused 21 5 2)
    ∷ (bare opener ∷ write 4 ∷ bare els ∷ write 0 ∷ bare eif ∷ read (0 ∷ []) (4 ∷ []) ∷ [], refused 21 5 2)
    ∷ (bare opener ∷ bare els ∷ bare els ∷ [], refused 20 2 0)
    ∷ (bare opener ∷ bare opener ∷ bare eif ∷ [], refused 22 0 0)
    ∷ (bare opener ∷ bare opener ∷ [], refused 22 1 0)
    ∷ (replicate 16 (bare opener) ++ replicate 16 (bare eif), accepted)
    ∷ (replicate 17 (bare opener), refused 20 16 0)
    ∷ (bare eif ∷ [], refused 20 0 0)
    ∷ []

answered : map (λ (c : List PathToken × Answer). verdict_of c.0) cases ≡ map (λ (c : List PathToken × Answer). c.1) cases
unfolding check_from
answered = refl

-- a branch in the first block of another
abbrev pub nested : List PathToken
nested = bare opener ∷ bare opener ∷ write 0 ∷ bare els ∷ write 1 ∷ bare eif ∷ bare els ∷ write 2 ∷ bare eif ∷ []

-- the numbers of the tokens that a path visits, by its choices at the two openers
numbers : Bool → Bool → List ℕ
numbers outer inner = map (λ (v : Visit). v.number) (visited (λ (n : ℕ). elim n [ zero ↦ outer | suc m ↦ inner ]) nested)

all_paths : (numbers true true ∷ numbers true false ∷ numbers false true ∷ [])
    ≡ ((0 ∷ 1 ∷ 2 ∷ 5 ∷ 8 ∷ []) ∷ (0 ∷ 1 ∷ 3 ∷ 4 ∷ 5 ∷ 8 ∷ []) ∷ (0 ∷ 6 ∷ 7 ∷ 8 ∷ []) ∷ [])
unfolding numbers
all_paths = refl

ends_of_branches : (eif_of nested 0 ∷ eif_of nested 1 ∷ []) ≡ (some 8 ∷ some 5 ∷ [])
ends_of_branches = refl

-- ---- visits that do not close

-- the opener is visited, and its eif is not among the later visits
unclosed : (prog : List PathToken) (v : Visit) (later : List Visit) (e : ℕ) → v.token.flow ≡ opener → eif_of prog v.number ≡ some e
    → has (map (λ u. u.number) later) e ≡ false → ¬ Closes prog (v ∷ later)
unclosed prog v later e o q h c =
    let (x, r, m) = c.0 o in
    let s : x ≡ e = some-injective x e (sym r ∙ q) in
    true≢false (sym (has_member (subst (λ y. Memᴰ y (map (λ u. u.number) later)) s m)) ∙ h)

-- a visit to token n, of which only what it does to branches matters
abbrev at : ℕ → Flow → Visit
at n f = visit_of n (bare f)

-- the inner eif, token 5, is none of the outer opener's
never_closed : ¬ Closes nested (at 0 opener ∷ at 1 opener ∷ at 5 eif ∷ [])
never_closed = unclosed nested (at 0 opener) (at 1 opener ∷ at 5 eif ∷ []) 8 refl refl refl

-- nor does its own, token 8, close it when it was visited before and is not later
closed_before : ¬ Closes nested (at 8 eif ∷ at 0 opener ∷ at 6 els ∷ [])
closed_before c = unclosed nested (at 0 opener) (at 6 els ∷ []) 8 refl refl refl c.1

-- an opener that has no eif
cut_off : ¬ Closes (bare opener ∷ []) (at 0 opener ∷ at 1 eif ∷ [])
cut_off c = none-ne-some _ (c.0 refl).1
