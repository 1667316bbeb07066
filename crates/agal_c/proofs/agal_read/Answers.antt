-- The goals of `agal_read` that the check leaves.
use borrow.Author.Rules.{rules}
use Rattle.reader.proofs.ReadingLaws.{reads_bytes}
use Rattle.agal_c.proofs.CallLaws.{told_outright, by_code, place_within}
use Rattle.agal_c.proofs.agal_read.Goals as goal

pub returns-in-Some : goal.returns-in-Some
returns-in-Some c =
    let a = c.args in
    let token = c.token_bytes-token in
    let l = told_outright token.result.now a.flat.now a.place 1 _ _ c.in-Some.ensures.told c.refused_at.ensures in
    let e = (reads_bytes a.program.now a.place).answer in
    record { value = rw (← e, ← token.ensures) l.0; flat_after = rw (← e, ← token.ensures) l.1 }

pub overflow_add-place : goal.overflow_add-place
overflow_add-place c =
    search (rules, place_within c.args.program.now c.args.place (rw c.token_bytes-token.ensures at c.in_default.ensures.whole))

pub returns : goal.returns
returns c =
    let a = c.args in
    let token = c.token_bytes-token in
    let l = by_code token.result.now a.flat.now a.place 1 _ _ _ (c.deliver.ensures.value, c.deliver.ensures.flat_after) c.delivered.ensures in
    let e = (reads_bytes a.program.now a.place).answer in
    record { value = rw (← e, ← token.ensures) l.0; flat_after = rw (← e, ← token.ensures) l.1 }
