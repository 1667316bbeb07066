-- What a ghost field holds is a proposition.
use Rattle.std.specs.Prelude.{ℕ, zero, suc, ◌+◌, List, Result}
use mathlib.Core.Sum.{⊎_set}
use denote.Struct.Props.{props}
use Rattle.bytecode.specs.Fields.{record_of}
use Rattle.bytecode.specs.declared.answers.Refusal.{Refusal}
use Rattle.layout.specs.declared.record.Token.{Token}
use Rattle.layout.specs.Programs.{token_at}
use Rattle.listing.specs.declared.first.FirstLine.{FirstLine}
use Rattle.listing.specs.declared.first.FirstLine.TheVariants.{Accepted, Refused, NoEdition, InputTooLong}
use Rattle.report.specs.Depth.{opened_after}
use Rattle.report.specs.Lines.{flow_in, Listable}
use Rattle.report.specs.computed.Writers.{Listed, HasLines}

decoded_set : IsSet (Result Token Refusal)
decoded_set = hlevel (props, ⊎_set)

Listable-prop : (stage : ℕ) (bytes : List ℕ) (n some opened : ℕ) → IsProp (Listable stage bytes n some opened)
Listable-prop stage bytes n zero opened = hlevel
Listable-prop stage bytes n (suc some) opened =
    let t = record_of (token_at bytes n) in
    hlevel (props, decoded_set, Listable-prop stage bytes (n + 1) some (opened_after (flow_in t) opened))

Listed-prop : (stage : ℕ) (bytes : List ℕ) → IsProp (Listed stage bytes)
Listed-prop stage bytes = hlevel (props, Listable-prop)

pub HasLines-prop : (first : FirstLine) (bytes : List ℕ) → IsProp (HasLines first bytes)
HasLines-prop (Accepted h) bytes = Listed-prop h.stage bytes
HasLines-prop (Refused f) bytes = hlevel
HasLines-prop NoEdition bytes = hlevel
HasLines-prop InputTooLong bytes = hlevel
