-- Sets of components, for the check in Check. Nobody has to believe them: what is unwritten is told over the visits of a path (Unwritten).
use Rattle.std.specs.Prelude.{Bool, false, ◌||◌, List, [], ◌∷◌, ℕ, eqb}

-- a set of temporary components, each as register * 4 + component
abbrev pub ComponentSet : Type 0
ComponentSet = ℕ → Bool

-- the empty one
abbrev pub nothing : ComponentSet
nothing c = false

-- the set of the components of a list
abbrev pub has : List ℕ → ComponentSet
has [] c = false
has (x ∷ xs) c = eqb x c || has xs c

-- a set with the components of a list added
abbrev pub adds : ComponentSet → List ℕ → ComponentSet
adds s xs c = s c || has xs c
