-- Document 01, "Register counts by edition and stage (000)".
use Rattle.std.specs.Prelude.{ℕ, zero, suc, List, [], ◌∷◌, get_or}

-- a row of the table, in its order: edition 1 fragment and vertex, edition 2, edition 3
abbrev pub row : ℕ → ℕ → ℕ → ℕ → ℕ → ℕ → List (List ℕ)
row f1 v1 f2 v2 f3 v3 = (v1 ∷ f1 ∷ []) ∷ (v2 ∷ f2 ∷ []) ∷ (v3 ∷ f3 ∷ []) ∷ []

abbrev pub table : List (List (List ℕ))
table =
    row 0 8 0 8 0 16
    ∷ row 28 128 64 250 200 250
    ∷ row 8 8 26 26 26 26
    ∷ row 1 1 1 1 1 1
    ∷ row 8 8 10 10 10 10
    ∷ row 8 0 16 0 16 0
    ∷ row 0 0 1 0 1 0
    ∷ []

-- the count of a kind in an edition, from 1, and a stage, 0 vertex and 1 fragment; 0 for what is not in the table
unfoldable pub count_of : ℕ → ℕ → ℕ → ℕ
count_of kind zero stage = 0
count_of kind (suc edition) stage = get_or (get_or (get_or table kind []) edition []) stage 0
