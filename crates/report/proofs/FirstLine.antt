-- A text that opens with a first line.
-- Assumes nothing.
use Prim.Native.Nat.{ℕ, ◌+◌, ◌*◌, ◌≤◌}
use mathlib.Core.List.{List, [], ◌∷◌, ◌++◌, append-nil}
use mathlib.Core.Path.{◌≡◌, refl, ◌∙◌, ap, subst}
use native.Mathlib.Omega.{arith}
use types.Run.{OneOf, miss}
use denote.Enum.Declared.{tag_of}
use Rattle.listing.specs.First.{first_line}
use Rattle.listing.specs.computed.Writers.{first_most}
use Rattle.listing.specs.declared.first.FirstLine.{FirstLine}
use Rattle.listing.specs.declared.first.FirstLine.TheVariants.{Accepted, Refused, NoEdition, InputTooLong}
use Rattle.listing.specs.declared.first.Heading.{Heading}
use Rattle.listing.proofs.FirstMost.{first_most_lem}
use Rattle.listing.specs.contracts.first.FirstLine.{the_type}
use Rattle.layout.specs.Programs.{token_count}
use Rattle.report.specs.computed.Writers.{all_lines, Listed, lines_after, HasLines, text_in, HasRoom, Puts, Measured}
use Rattle.report.proofs.Room.{front, behind, in_turn, add_lengths}

-- a first line that is not an accepted program's, by the code's numbers for the four kinds
abbrev IsAlone : FirstLine → Type 0
IsAlone f = OneOf (1 ∷ 2 ∷ 3 ∷ []) (tag_of the_type f)

-- no line comes after it
none_after : (f : FirstLine) (bytes : List ℕ) → IsAlone f → lines_after f bytes ≡ []
none_after (Accepted h) bytes k = absurd (miss (1 ∷ 2 ∷ 3 ∷ []) 0 tt k)
none_after (Refused f) bytes k = refl
none_after NoEdition bytes k = refl
none_after InputTooLong bytes k = refl

module _ (first : FirstLine) (bytes : List ℕ) where
  -- it is no longer than the text may be
  pub first_short : first_most first ≤ 262178
  first_short = omega (arith, first_most_lem first)

  -- where there is room for the text, there is room for its first line
  pub first_room : {size : ℕ} → HasRoom (text_in first bytes) 262178 0 size → HasRoom (first_line first) (first_most first) 0 size
  first_room = front (first_line first) (lines_after first bytes) (first_most first) first_short

  -- a first line alone is the text
  pub only : IsAlone first → text_in first bytes ≡ first_line first
  only k = ap (λ l. first_line first ++ l) (none_after first bytes k) ∙ append-nil (first_line first)

  -- the token lines of an accepted program follow
  module _ {h : Heading} (e : first ≡ Accepted h) (lines : HasLines first bytes) where
    pub listed : Listed h.stage bytes
    listed = subst (λ f. HasLines f bytes) e lines

    two_parts : text_in first bytes ≡ first_line first ++ all_lines h.stage bytes
    two_parts = ap (λ f. first_line first ++ lines_after f bytes) e

    most : first_most first + 128 * token_count bytes ≤ 262178
    most = omega (arith, listed.few, ap first_most e)

    pub lines_room : {p size : ℕ} {l m : List ℕ} → HasRoom (text_in first bytes) 262178 0 size → Puts (first_line first) (first_most first) 0 l m p
        → HasRoom (all_lines h.stage bytes) (128 * token_count bytes) p size
    lines_room {size = size} r a = behind (first_line first) _ most a (subst (λ t. HasRoom t 262178 0 size) two_parts r)

    pub both_put : {p r : ℕ} {l m n : List ℕ} → Puts (first_line first) (first_most first) 0 l m p → Puts (all_lines h.stage bytes) (128 * token_count bytes) p m n r
        → Puts (text_in first bytes) 262178 0 l n r
    both_put a b = rw two_parts (in_turn most a b)

    pub both_measured : {n m : ℕ} → Measured (first_line first) (first_most first) n → Measured (all_lines h.stage bytes) (128 * token_count bytes) m
        → Measured (text_in first bytes) 262178 (n + m)
    both_measured a b = rw two_parts (add_lengths most a b)
