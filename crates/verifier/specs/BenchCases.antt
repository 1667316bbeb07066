-- Document 01, "Bench checks": the cases marked (P), as one table. Each answer is worked out from the paper's "Check order".
use Rattle.std.specs.Prelude.{ℕ, ◌≡◌, Err, Ok, Result}
use mathlib.Core.List.{List, [], ◌∷◌, ◌++◌, Memᴰ}
use Rattle.bytecode.specs.Decode.{refusal}
use Rattle.verifier.specs.Verdict.{program, verdict}
use Rattle.verifier.specs.declared.answers.Program.{Program}
use Rattle.bytecode.specs.declared.answers.Refusal.{Refusal}

pub record Case : Type 0 where
  pub edition : ℕ
  pub bytes : List ℕ
  pub answer : Result Program Refusal

abbrev pub case : ℕ → List ℕ → Result Program Refusal → Case
case edition bytes answer = record { edition = edition; bytes = bytes; answer = answer }

-- accepted as a vertex program of so many tokens
abbrev pub vertex : ℕ → Result Program Refusal
vertex tokens = Ok (program 0 tokens)

-- a fault's number, its token and its part
abbrev pub refused_by : ℕ → ℕ → ℕ → Result Program Refusal
refused_by number token part = Err (refusal number token part)

-- ---- bytes: of a token its opcode, its destination, source 1 and source 2, a line each

-- "Header: A0, 01 00 00 00, A1, then 00 vertex"
abbrev pub header : List ℕ
header = 0xa0 ∷ 0x01 ∷ 0x00 ∷ 0x00 ∷ 0x00 ∷ 0xa1 ∷ 0x00 ∷ []

-- an opcode, all other bytes 0
abbrev pub bare : ℕ → List ℕ
bare opcode =
    opcode ∷ 0x00 ∷ 0x00 ∷ 0x00
    ∷ 0x00 ∷ 0x00 ∷ 0x00 ∷ 0x00
    ∷ 0x00 ∷ 0x00 ∷ 0x00 ∷ 0x00 ∷ 0x00 ∷ 0x00 ∷ 0x00 ∷ 0x00
    ∷ 0x00 ∷ 0x00 ∷ 0x00 ∷ 0x00 ∷ 0x00 ∷ 0x00 ∷ 0x00 ∷ 0x00
    ∷ []

-- "els 20"
abbrev els : List ℕ
els = bare 0x20

-- "eif 21"
abbrev eif : List ℕ
eif = bare 0x21

-- ife va0.xyzw va0.xyzw
abbrev ife : List ℕ
ife =
    0x1c ∷ 0x00 ∷ 0x00 ∷ 0x00
    ∷ 0x00 ∷ 0x00 ∷ 0x00 ∷ 0x00
    ∷ 0x00 ∷ 0x00 ∷ 0x00 ∷ 0xe4 ∷ 0x00 ∷ 0x00 ∷ 0x00 ∷ 0x00
    ∷ 0x00 ∷ 0x00 ∷ 0x00 ∷ 0xe4 ∷ 0x00 ∷ 0x00 ∷ 0x00 ∷ 0x00
    ∷ []

-- m44 op0.xyzw va0.xyzw vc.xyzw, for a vc below 256
abbrev pub m44_with : ℕ → List ℕ
m44_with vc =
    0x18 ∷ 0x00 ∷ 0x00 ∷ 0x00
    ∷ 0x00 ∷ 0x00 ∷ 0x0f ∷ 0x03
    ∷ 0x00 ∷ 0x00 ∷ 0x00 ∷ 0xe4 ∷ 0x00 ∷ 0x00 ∷ 0x00 ∷ 0x00
    ∷ vc ∷ 0x00 ∷ 0x00 ∷ 0xe4 ∷ 0x01 ∷ 0x00 ∷ 0x00 ∷ 0x00
    ∷ []

-- mov vt.xyzw va0.xyzw, for a vt below 256
abbrev pub write : ℕ → List ℕ
write vt =
    0x00 ∷ 0x00 ∷ 0x00 ∷ 0x00
    ∷ vt ∷ 0x00 ∷ 0x0f ∷ 0x02
    ∷ 0x00 ∷ 0x00 ∷ 0x00 ∷ 0xe4 ∷ 0x00 ∷ 0x00 ∷ 0x00 ∷ 0x00
    ∷ 0x00 ∷ 0x00 ∷ 0x00 ∷ 0x00 ∷ 0x00 ∷ 0x00 ∷ 0x00 ∷ 0x00
    ∷ []

-- mov op0.xyzw vt0.xyzw
abbrev pub read : List ℕ
read =
    0x00 ∷ 0x00 ∷ 0x00 ∷ 0x00
    ∷ 0x00 ∷ 0x00 ∷ 0x0f ∷ 0x03
    ∷ 0x00 ∷ 0x00 ∷ 0x00 ∷ 0xe4 ∷ 0x02 ∷ 0x00 ∷ 0x00 ∷ 0x00
    ∷ 0x00 ∷ 0x00 ∷ 0x00 ∷ 0x00 ∷ 0x00 ∷ 0x00 ∷ 0x00 ∷ 0x00
    ∷ []

-- ---- the table

abbrev pub bench_cases : List Case
bench_cases =
    -- "No bytes: 2."
    case 1 [] (refused_by 2 0 0)
    -- "Seven header bytes: accepted, 0 tokens."
    ∷ case 1 header (vertex 0)
    -- "8 bytes: 7."
    ∷ case 1 (header ++ 0x00 ∷ []) (refused_by 7 0 0)
    -- "A token of zeros: 14." It is a mov into va0, and attributes are not writable.
    ∷ case 1 (header ++ bare 0x00) (refused_by 14 0 1)
    -- "Opcode 2b: 9."
    ∷ case 1 (header ++ bare 0x2b) (refused_by 9 0 0)
    -- "ife in edition 1: 10."
    ∷ case 1 (header ++ ife) (refused_by 10 0 0)
    -- "m44 with vc124, edition 1: accepted;" 124 + 4 rows are 128
    ∷ case 1 (header ++ m44_with 124) (vertex 1)
    -- "vc125: 17." in source 2
    ∷ case 1 (header ++ m44_with 125) (refused_by 17 0 3)
    -- "mov from vt0 first: 21." in source 1
    ∷ case 1 (header ++ read) (refused_by 21 0 2)
    -- "vt0 written in both blocks, then read: accepted;"
    ∷ case 2 (header ++ ife ++ write 0 ++ els ++ write 0 ++ eif ++ read) (vertex 6)
    -- "in the first only: 21.", with a second block that writes vt1, with an empty one, and with none
    ∷ case 2 (header ++ ife ++ write 0 ++ els ++ write 1 ++ eif ++ read) (refused_by 21 5 2)
    ∷ case 2 (header ++ ife ++ write 0 ++ els ++ eif ++ read) (refused_by 21 4 2)
    ∷ case 2 (header ++ ife ++ write 0 ++ eif ++ read) (refused_by 21 3 2)
    -- "Second els: 20."
    ∷ case 2 (header ++ ife ++ els ++ els ++ eif) (refused_by 20 2 0)
    ∷ []

-- every case of the table has its answer
abbrev pub BenchChecks : Type 0
BenchChecks = (k : Case) → Memᴰ k bench_cases → verdict k.edition k.bytes ≡ k.answer
