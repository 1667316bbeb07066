-- Document 01, "Listing": "a refusal, as `refused 14 at 0 part 1`".
use Rattle.std.specs.Prelude.{ℕ, List, ◌++◌, codes}
use Rattle.std.specs.Fmt.{decimal}
use Rattle.bytecode.specs.declared.answers.Refusal.{Refusal}

abbrev pub refusal_text : Refusal → List ℕ
refusal_text r = codes "refused " ++ decimal r.number ++ codes " at " ++ decimal r.token ++ codes " part " ++ decimal r.part
