use Rattle.std.proofs.Common.{ℕ, ◌≡◌, ◌∙◌, List, length, take, ap, subst, Option, None, Some, IfSome, Result, Ok, Err, OnOk, arith}
use Rattle.std.proofs.lemmas.List.{take_all, length-take-le}
use Rattle.std.proofs.lemmas.Bool.{lt-ltb}
use Rattle.std.specs.Option.{option_map}
use Rattle.std.specs.Io.KnownBytes.{Appends}
use Rattle.report.specs.Text.{text_of}
use Rattle.agallist.proofs.list.Goals as goal
use Rattle.std.proofs.Math.Decide.{dec_le}

-- A byte more than the limit is too long, and so is every input that has more.
text_of-take : (xs : List ℕ) → text_of (take 49161 xs) ≡ text_of xs
unfolding text_of
text_of-take xs = elim (dec_le (length xs) 49161) [
  | yes h ↦ ap text_of (take_all 49161 xs h)
  | no h ↦
      let l : length (take 49161 xs) ≡ 49161 = length-take-le 49161 xs (omega (arith, h)) in
      simp (lt-ltb 49160 (length (take 49161 xs)) (omega (arith, l)), lt-ltb 49160 (length xs) (omega (arith, h)))
]

appended : (known : Option (List ℕ)) (read : List ℕ) (before after : Option (List ℕ)) → IfSome (option_map (take 49161) known) (λ xs. read ≡ xs)
    → Appends before after (text_of read) → IfSome known (λ xs. Appends before after (text_of xs))
appended None read before after e p = tt
appended (Some xs) read before after e p = subst (Appends before after) (ap text_of e ∙ text_of-take xs) p

when_ok : {T E : Type 0} (r : Result T E) {P Q : Type 0} → (P → Q) → OnOk r P → OnOk r Q
when_ok (Ok x) f p = f p
when_ok (Err e) f p = tt

pub returns : goal.returns
returns g c =
    let read = rw (c.take.ensures.limit, c.take.ensures.inner, c.new-bytes.ensures.items) at c.in_ok-read_to_end.ensures.bytes in
    when_ok c.put.result (appended (g.R.Read.remaining c.args.input) _ (g.W.Write.contents c.args.out.now) (g.W.Write.contents c.put.new.out) read) (rw c.deref.ensures.value at c.put.ensures)
