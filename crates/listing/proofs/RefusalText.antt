-- The line of a refusal is what `{}` writes of it, and LF. The numbers are bounded since `{}` writes 64 digits at most; those that a refusal
-- has in code are below 2 ^ 64.
-- Assumes nothing.
use Prim.Native.Nat.{ℕ, ◌%◌, ◌^◌, ◌<◌}
use mathlib.Core.List.{List, [], ◌∷◌, ◌++◌, append_assoc}
use mathlib.Core.Path.{◌≡◌, ◌∙◌, sym, ap}
use Rattle.std.specs.Fmt.{decimal as shown}
use Rattle.std.proofs.lemmas.Fmt.{decimal_by_steps_wide}
use Rattle.bytecode.specs.Refusal.{refusal_text}
use Rattle.bytecode.specs.declared.answers.Refusal.{Refusal}
use Rattle.listing.specs.Text.{ascii}
use Rattle.listing.specs.Decimal.{digit, decimal}
use Rattle.listing.specs.First.{refusal_line}
use Rattle.listing.proofs.Notation.{one_digit, more_digits}

-- the two notations of a number, both by the last digit after those of a tenth
decimal_is_shown : (n : ℕ) → n < 10 ^ 64 → decimal n ≡ shown n
decimal_is_shown =
    decimal_by_steps_wide
    (λ m ds. decimal m ≡ ds)
    one_digit
    (λ m ds h e. more_digits m h ∙ ap (λ (l : List ℕ). l ++ (digit (m % 10) ∷ [])) e)

-- each word with the number after it
by_words : (a v b w c e : List ℕ) → a ++ (v ++ b) ++ (w ++ c) ++ e ≡ a ++ v ++ b ++ w ++ c ++ e
by_words a v b w c e =
    sym (ap (λ (l : List ℕ). l ++ w ++ c ++ e) (append_assoc a v b) ∙ ap (λ (l : List ℕ). l ++ e) (append_assoc (a ++ (v ++ b)) w c))

pub refusal_line_is_text : (r : Refusal) → r.number < 10 ^ 64 → r.token < 10 ^ 64 → r.part < 10 ^ 64 → refusal_line r ≡ refusal_text r ++ ascii "\n"
unfolding refusal_line
refusal_line_is_text r n t p =
    rw (decimal_is_shown r.number n, decimal_is_shown r.token t, decimal_is_shown r.part p)
    (by_words (ascii "refused " ++ shown r.number) (ascii " at ") (shown r.token) (ascii " part ") (shown r.part) (ascii "\n"))
