-- The goals of `fault_of` that the check leaves.
use mathlib.Core.Path.{◌∙◌, sym}
use Rattle.bytecode.specs.Decode.{token_fault}
use Rattle.bytecode.proofs.DecodeLaws.{some_part, no_part, is_unused_part, is_undefined_part}
use Rattle.bytecode.proofs.decoding.fault_of.Goals as goal

pub returns-then-not-raw : goal.returns-then-not-raw
unfolding token_fault
returns-then-not-raw c = simp (c.refusal.ensures, c.if-not-raw.true)

pub returns-in-Some : goal.returns-in-Some
unfolding token_fault
returns-in-Some c =
    let (part, named) = some_part _ _ (sym (is_unused_part _ _ _ c.lowest_part.ensures) ∙ c.in-Some.is) in
    simp (c.refusal-in-Some.ensures, c.if-not-raw.false, named, part)

pub returns-in-Some-lowest_part : goal.returns-in-Some-lowest_part
unfolding token_fault
returns-in-Some-lowest_part c =
    let none = no_part _ (λ p e. c.in_default.not-Some p (is_unused_part _ _ _ c.lowest_part.ensures ∙ e)) in
    let (part, named) = some_part _ _ (sym (is_undefined_part _ _ _ c.lowest_part-2.ensures) ∙ c.in-Some-lowest_part.is) in
    simp (c.refusal-in-Some-lowest_part.ensures, c.if-not-raw.false, none, named, part)

pub returns : goal.returns
unfolding token_fault
returns c =
    let no_unused = no_part _ (λ p e. c.in_default.not-Some p (is_unused_part _ _ _ c.lowest_part.ensures ∙ e)) in
    let no_undefined = no_part _ (λ p e. c.in_default-lowest_part.not-Some p (is_undefined_part _ _ _ c.lowest_part-2.ensures ∙ e)) in
    simp (c.if-not-raw.false, no_unused, no_undefined)
