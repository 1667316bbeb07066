-- The goals of `deliver` that the check leaves.
use Rattle.std.specs.Prelude.{Err}
use mathlib.Core.Path.{◌∙◌, sym, ap}
use Rattle.bytecode.proofs.DecodeLaws.{not_clean, told, not_told}
use Rattle.agal_c.proofs.CallLaws.{faulty, fine, not_read, no_room, room}
use Rattle.agal_c.proofs.flat.deliver.Goals as goal

pub unreachable-requires : goal.unreachable-requires
unreachable-requires c =
    not_clean _ _ (sym c.is_clean.ensures ∙ c.if-not-is_clean.true) (not_told _ _ (sym c.fault_of.ensures ∙ c.in_default.is))

pub returns-then-not-is_clean : goal.returns-then-not-is_clean
returns-then-not-is_clean c =
    let s = c.args.token.now in
    let e = faulty s c.requires c.fields_of.ensures c.of-raw.ensures (sym c.is_clean.ensures ∙ c.if-not-is_clean.true) in
    let (value, flat_after) = not_read s c.args.flat.now _ (e ∙ ap Err (told _ _ (sym c.fault_of.ensures ∙ c.in-Err.is)).0) in
    record { value = value; flat_after = flat_after }

pub returns-then-flat-lt29 : goal.returns-then-flat-lt29
returns-then-flat-lt29 c =
    let s = c.args.token.now in
    let (value, flat_after) = no_room s c.args.flat.now _ (fine s c.requires c.fields_of.ensures c.of-raw.ensures (sym c.is_clean.ensures ∙ c.if-not-is_clean.false)) c.if-flat-lt29.true in
    record { value = value; flat_after = flat_after }

pub returns : goal.returns
returns c =
    let s = c.args.token.now in
    let (value, flat_after) = room s c.args.flat.now _ (fine s c.requires c.fields_of.ensures c.of-raw.ensures (sym c.is_clean.ensures ∙ c.if-not-is_clean.false)) c.if-flat-lt29.false in
    record { value = value; flat_after = c.put_token.ensures ∙ flat_after }
