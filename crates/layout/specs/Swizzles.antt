-- Document 01, "Layout": mask bit 0 is x, bit 3 is w; swizzle bits 0-1 choose for x, bits 6-7 for w, so E4 is xyzw; and the set of
-- components that a swizzle names. Components are 0 for x to 3 for w, and selectors 0 to 3.
use Rattle.std.specs.Prelude.{ℕ, ◌+◌, ◌/◌, ◌%◌, ◌^◌, Bool, true, false, cond, ◌&&◌, ◌||◌, List, [], ◌∷◌, map, eqb, ltb}
use Rattle.layout.specs.Opcodes.{is_in}

-- a number before others, where a test passes
abbrev pub keep : Bool → ℕ → List ℕ → List ℕ
keep true c cs = c ∷ cs
keep false c cs = cs

-- those of 0 to 3 that pass a test, rising
abbrev pub those : (ℕ → Bool) → List ℕ
those test = keep (test 0) 0 (keep (test 1) 1 (keep (test 2) 2 (keep (test 3) 3 [])))

-- "the first three selectors", "all four"
abbrev pub first_few : ℕ → List ℕ
first_few n = those (λ i. ltb i n)

-- "Mask bit 0 is x, bit 3 is w"
abbrev pub bit_of : ℕ → ℕ → Bool
bit_of set i = eqb (set / 2 ^ i % 2) 1

-- the components of a mask
abbrev pub mask_components : ℕ → List ℕ
mask_components mask = those (bit_of mask)

-- "swizzle bits 0-1 choose for x, bits 6-7 for w": the component that the i-th selector of a swizzle names
abbrev pub selector : ℕ → ℕ → ℕ
selector swizzle i = swizzle / 4 ^ i % 4

-- "so E4 is xyzw"
abbrev pub xyzw : ℕ
xyzw = 0xe4

-- the components that some selectors name, each once
abbrev pub named : ℕ → List ℕ → List ℕ
named swizzle selectors = those (λ c. is_in c (map (selector swizzle) selectors))

-- all four selectors name one component
abbrev pub selectors_agree : ℕ → Bool
selectors_agree swizzle =
    eqb (selector swizzle 0) (selector swizzle 1)
    && eqb (selector swizzle 0) (selector swizzle 2)
    && eqb (selector swizzle 0) (selector swizzle 3)

-- some selector of s names the component
abbrev pub is_named : ℕ → ℕ → Bool
is_named s component =
    eqb (selector s 0) component || eqb (selector s 1) component
    || eqb (selector s 2) component || eqb (selector s 3) component

-- the named components as a set: 1 for x, 2 for y, 4 for z, 8 for w
unfoldable pub components_of : ℕ → ℕ
components_of s =
    cond (is_named s 0) 1 0 + cond (is_named s 1) 2 0 + cond (is_named s 2) 4 0 + cond (is_named s 3) 8 0
