-- Document 01, "Opcodes" and "Listing": the names of opcodes, registers and sampler settings.
use Rattle.std.specs.Prelude.{ℕ, cond, List, [], ◌∷◌, eqb, get_or}
use Prim.Native.String.{String}
use Rattle.listing.specs.Text.{ascii}

-- "mov 00, add 01, .. sne 2d. AGAL2 and AGAL3 add ddx 1a, .. eif 21. All hexadecimal."
abbrev pub opcode_names : List (ℕ × String)
opcode_names =
    (0x00, "mov") ∷ (0x01, "add") ∷ (0x02, "sub") ∷ (0x03, "mul") ∷ (0x04, "div") ∷ (0x05, "rcp") ∷ (0x06, "min") ∷ (0x07, "max") ∷
    (0x08, "frc") ∷ (0x09, "sqt") ∷ (0x0a, "rsq") ∷ (0x0b, "pow") ∷ (0x0c, "log") ∷ (0x0d, "exp") ∷ (0x0e, "nrm") ∷ (0x0f, "sin") ∷
    (0x10, "cos") ∷ (0x11, "crs") ∷ (0x12, "dp3") ∷ (0x13, "dp4") ∷ (0x14, "abs") ∷ (0x15, "neg") ∷ (0x16, "sat") ∷ (0x17, "m33") ∷
    (0x18, "m44") ∷ (0x19, "m34") ∷ (0x27, "kil") ∷ (0x28, "tex") ∷ (0x29, "sge") ∷ (0x2a, "slt") ∷ (0x2c, "seq") ∷ (0x2d, "sne") ∷
    (0x1a, "ddx") ∷ (0x1b, "ddy") ∷ (0x1c, "ife") ∷ (0x1d, "ine") ∷ (0x1e, "ifg") ∷ (0x1f, "ifl") ∷ (0x20, "els") ∷ (0x21, "eif") ∷ []

-- the name that stands beside a number, none where the number is not in the table
abbrev pub name_in : List (ℕ × String) → ℕ → List ℕ
name_in [] n = []
name_in (row ∷ rows) n = cond (eqb n row.0) (ascii row.1) (name_in rows n)

unfoldable pub opcode_name : ℕ → List ℕ
opcode_name o = name_in opcode_names o

-- a name that both stages have
abbrev pub both : String → String × String
both name = (name, name)

-- "Names: va, vc or fc, vt or ft, op or oc, v, fs, od": by register type from 0, in a vertex program and in a fragment program
abbrev pub register_names : List (String × String)
register_names = both "va" ∷ ("vc", "fc") ∷ ("vt", "ft") ∷ ("op", "oc") ∷ both "v" ∷ both "fs" ∷ both "od" ∷ []

-- the name of a register type in a stage, 0 vertex or 1 fragment; none from type 7 on
unfoldable pub register_name : ℕ → ℕ → List ℕ
register_name stage kind =
    cond (eqb stage 0)
    (ascii (get_or register_names kind (both "")).0)
    (ascii (get_or register_names kind (both "")).1)

-- Sampler settings: "2d, mipnone, clamp, nearest", "else cube, mipnearest, miplinear, repeat, linear"

abbrev pub dimension_name : ℕ → List ℕ
dimension_name d = cond (eqb d 0) (ascii "2d") (ascii "cube")

abbrev pub mipmap_name : ℕ → List ℕ
mipmap_name m = cond (eqb m 0) (ascii "mipnone") (cond (eqb m 1) (ascii "mipnearest") (ascii "miplinear"))

abbrev pub wrap_name : ℕ → List ℕ
wrap_name w = cond (eqb w 0) (ascii "clamp") (ascii "repeat")

abbrev pub filter_name : ℕ → List ℕ
filter_name f = cond (eqb f 0) (ascii "nearest") (ascii "linear")
