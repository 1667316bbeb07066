-- Bytes and flat forms say all of a record, editions lose no register, and a number in text is one number.
-- Assumes nothing.
use Rattle.std.specs.Prelude.{Ok, Result}
use Prim.Native.Nat.{ℕ, zero, suc, ◌<◌, ◌≤◌, zero-le}
use mathlib.Core.List.{List, append-nil}
use mathlib.Core.Path.{◌≡◌, refl, sym, ap, ◌∙◌, subst}
use native.Mathlib.Decide.{dec_le}
use native.Mathlib.Omega.{arith}
use lib.Dec.{lit≤}
use lib.ListN.{replicate}
use Rattle.layout.specs.declared.record.Token.{Token}
use Rattle.bytecode.specs.declared.answers.Refusal.{Refusal}
use Rattle.bytecode.specs.Decode.{decode_of}
use Rattle.bytecode.proofs.RoundTrip.{round_trip}
use Rattle.registers.specs.Counts.{count_of}
use Rattle.registers.proofs.Growth.{growth}
use Rattle.listing.specs.Decimal.{said_after}
use Rattle.listing.proofs.Notation.{is_decimal, unique}
use Rattle.agal_c.specs.Flat.{token_of_flat}
use Rattle.agal_c.proofs.ReadBack.{read_back}
use Rattle.consequences.specs.Bytes.{SameBytes, SameRecord, CopiesDecode, SameFlat, FlatEncodes, KeepsRegisters, ReadsDecimal}

-- ---- tokens and records

pub same_bytes : SameBytes
same_bytes s other t h k e f =
    let room : List ℕ = replicate 24 0 in
    sym (append-nil s)
    ∙ sym (round_trip.bytes s t h e room (lit≤ tt)).1 ∙ (round_trip.bytes other t k f room (lit≤ tt)).1
    ∙ append-nil other

one_token : (t other : Token) → ◌≡◌ {A = Result Token Refusal} (Ok t) (Ok other) → t ≡ other
one_token t other e = cc

pub same_record : SameRecord
same_record t other buffer room w v e =
    one_token t other (sym (round_trip.records t buffer w) ∙ ap decode_of e ∙ round_trip.records other room v)

pub copies_decode : CopiesDecode
copies_decode s t h e buffer l =
    let w = (round_trip.bytes s t h e buffer l).0 in
    (w, round_trip.records t buffer w)

-- ---- flat forms

pub same_flat : SameFlat
same_flat t other rest behind (w, a, b) (v, c, d) e =
    sym (read_back.token t rest w a b) ∙ ap token_of_flat e ∙ read_back.token other behind v c d

pub flat_encodes : FlatEncodes
flat_encodes t rest buffer (w, a, b) = (
  rw (read_back.flat t rest, read_back.token t rest w a b) refl,
  rw (read_back.flat t rest, read_back.token t rest w a b) refl,
)

-- ---- registers

-- one edition on
next_edition : (kind stage edition : ℕ) → edition < 3 → count_of kind edition stage ≤ count_of kind (suc edition) stage
unfolding count_of
next_edition kind stage zero h = zero-le
next_edition kind stage (suc zero) h = growth.first kind stage
next_edition kind stage (suc (suc zero)) h = growth.second kind stage
next_edition kind stage (suc (suc (suc edition))) h = absurd (omega arith)

pub keeps_registers : KeepsRegisters
keeps_registers kind stage number edition zero h l k =
    let e : edition ≡ zero = omega arith in
    subst (λ x. number < count_of kind x stage) e k
keeps_registers kind stage number edition (suc later) h l k =
    elim (dec_le edition later) [
      | yes b ↦
          let x = keeps_registers kind stage number edition later b (omega arith) k in
          omega (arith, x, next_edition kind stage later (omega arith))
      | no b ↦ let e : edition ≡ suc later = omega (arith, b) in subst (λ x. number < count_of kind x stage) e k
    ]

-- ---- numbers in text

pub reads_decimal : ReadsDecimal
reads_decimal = record {
  number = λ n m e. sym (is_decimal n).value ∙ ap (λ text. said_after 0 text) e ∙ (is_decimal m).value;
  digits = λ n text other i j. unique n text i ∙ sym (unique n other j);
}
