-- The goals of `read` that the check leaves.
use Rattle.std.specs.Prelude.{Ok}
use borrow.Author.Rules.{rules}
use mathlib.Core.Path.{◌≡◌, ◌∙◌, sym, ap}
use Rattle.reader.specs.Reading.{place_from, read_of}
use Rattle.reader.proofs.ReadingLaws.{token_left, reads_on}
use Rattle.reader.proofs.answers.TokenReader.read.Goals.{in-Ok, in-Err}
use Rattle.reader.proofs.answers.TokenReader.read.Goals as goal

pub overflow_add-place : goal.overflow_add-place
overflow_add-place c =
    let reader = c.args.self in
    let e : read_of reader.program.now reader.place ≡ Ok c.in-Ok.field-0 = cc in
    let l = token_left reader.program.now reader.place c.in-Ok.field-0 e in
    search rules

pub returns : goal.returns
returns c =
    reads_on c.args.self c.read_at-answer.ensures
    (elim c.match-answer.branch [
      | in-Ok w ↦ w.place-is ∙ sym (ap (place_from c.args.self.place) w.in-Ok.is)
      | in-Err w ↦ w.place-is ∙ sym (ap (place_from c.args.self.place) w.in-Err.is)
    ])
