-- What the functions of this crate promise each other and those of report. No promise of a call that document 01 names says anything by these
-- names.
use Rattle.std.specs.Prelude.{ℕ, ◌+◌, ◌/◌, ◌%◌, ◌≤◌, true, List, [], ◌∷◌, ◌++◌, ◌≡◌, leb, take, drop, length}
use Rattle.layout.specs.Opcodes.{is_listed}
use Rattle.layout.specs.declared.record.Operand.{Operand}
use Rattle.layout.specs.declared.record.Operand.TheVariants.{Unused as NoOperand, Direct, Indexed, Sampler as Sampled}
use Rattle.layout.specs.declared.record.Token.{Token}
use Rattle.listing.specs.Text.{when}
use Rattle.listing.specs.Decimal.{digit}
use Rattle.listing.specs.declared.stage.Stage.{Stage}
use Rattle.listing.specs.declared.stage.Stage.TheVariants.{Vertex, Fragment}
use Rattle.listing.specs.declared.text.Writer.{Writer}
use Rattle.listing.specs.declared.first.FirstLine.{FirstLine}
use Rattle.listing.specs.declared.first.FirstLine.TheVariants.{Accepted, Refused, NoEdition, InputTooLong}

-- A text grows at the end of what a buffer holds: the text so far is what stands before a place. Each writer puts its item there; r, the
-- place after the item, is at most `most` further, and what stands from r on stays.
pub record Appends (item : List ℕ) (most at : ℕ) (before after : List ℕ) (r : ℕ) : Type 0 where
  pub text : take r after ≡ take at before ++ item
  pub onward : at ≤ r
  pub room : r ≤ at + most
  pub rest : drop r after ≡ drop r before

-- so many bytes more fit
abbrev pub RoomFor : ℕ → Writer → Type 0
RoomFor n w = w.at + n ≤ length w.out.now

-- The text that grows in a writer's buffer got an item of at most so many bytes; the buffer is the same one.
pub record Writes (item : List ℕ) (most : ℕ) (before after : Writer) : Type 0 where
  pub same : after.out.ghost_name ≡ before.out.ghost_name
  pub size : length after.out.now ≡ length before.out.now
  pub appends : Appends item most before.at before.out.now after.out.now after.at

-- the digit that counts a unit, a power of ten; none where the number is smaller
abbrev pub digit_at : ℕ → ℕ → List ℕ
digit_at n unit = when (leb unit n) (digit (n / unit % 10) ∷ [])

-- what a public call calls a stage
abbrev pub stage_number : Stage → ℕ
stage_number Vertex = 0
stage_number Fragment = 1

-- as many bytes as an operand's text has at most, with five digits to a number
abbrev pub operand_room : Operand → ℕ
operand_room NoOperand = 0
operand_room (Direct s) = 13
operand_room (Indexed s) = 25
operand_room (Sampled s) = 52

-- what is known of a record that has a line; 77 bytes are a sampler after an indexed source
pub record Nameable (t : Token) (depth_of : ℕ) : Type 0 where
  pub opcode : is_listed t.opcode ≡ true
  pub depth : depth_of ≤ 16
  pub room : operand_room t.source1 + operand_room t.source2 ≤ 77

-- as many bytes as a first line of each kind has at most: a number of tokens has five digits, the token of a refusal twenty
abbrev pub first_most : FirstLine → ℕ
first_most (Accepted h) = 34
first_most (Refused r) = 49
first_most NoEdition = 34
first_most InputTooLong = 34
