-- Request (h), of the bytes of a text: that they are the list.
-- Assumes nothing.
use Rattle.std.specs.Prelude.{ℕ, ◌+◌, ◌*◌, ◌<◌, ◌≡◌, true, List, length, get_or, Err}
use Rattle.isa.specs.declared.Undecoded.TheVariants.{Illegal, Unimplemented}
use Rattle.isa.specs.Fields.{short_opcode, short_operands}
use Rattle.isa.specs.Decode.{cpu_prefix, decode_of}
use Rattle.isa.specs.Encode.{text1}
use Rattle.hex_digits.specs.Digits.{is_digit, number_at}
use Rattle.hex_digits.specs.Output.{newline}
use Rattle.parcels_listing.specs.Listing.{line_size}

-- ---- the numbers of line k, the first being line 0: "parcel (4), opcode (2), operand bits (3)"

module _ (text : List ℕ) (k : ℕ) where
  abbrev pub parcel_at : ℕ
  parcel_at = number_at 4 text (k * line_size)

  abbrev pub opcode_at : ℕ
  opcode_at = number_at 2 text (k * line_size + 4)

  abbrev pub operands_at : ℕ
  operands_at = number_at 3 text (k * line_size + 6)

-- ---- "the decoder doesn't call it illegal or unimplemented"

pub record LegalParcel (p : ℕ) : Type 0 where
  pub not_illegal : decode_of (text1 p) ≡ Err Illegal → ⊥
  pub not_unimplemented : (v : ℕ) → decode_of (text1 p) ≡ Err (Unimplemented v) → ⊥

-- ---- the list

-- x is one of the first n numbers of a sequence
pub record Among (f : ℕ → ℕ) (n x : ℕ) : Type 0 where
  pub place : ℕ
  pub within : place < n
  pub number : f place ≡ x

-- one of the lines of a text, of so many, has the parcel p
abbrev pub HasLine : List ℕ → ℕ → ℕ → Type 0
HasLine text count p = Among (parcel_at text) count p

pub record IsList (text : List ℕ) : Type 0 where
  -- how many lines
  pub count : ℕ
  -- "a line of nine upper-case hexadecimal digits"
  pub size : length text ≡ count * line_size
  pub digit : (k i : ℕ) → k < count → i < 9 → is_digit (get_or text (k * line_size + i) 0) ≡ true
  pub ended : (k : ℕ) → k < count → get_or text (k * line_size + 9) 0 ≡ newline
  -- "opcode (2), operand bits (3)": the parcel's
  pub opcode : (k : ℕ) → k < count → opcode_at text k ≡ short_opcode (parcel_at text k)
  pub operands : (k : ℕ) → k < count → operands_at text k ≡ short_operands (parcel_at text k)
  -- "A parcel whose top bit is 0 is on the list exactly when the decoder doesn't call it illegal or unimplemented"
  pub legal_listed : (p : ℕ) → p < 0x8000 → LegalParcel p → HasLine text count p
  pub listed_legal : (p : ℕ) → p < 0x8000 → HasLine text count p → LegalParcel p
  -- "no other parcel is"
  pub no_other : (p : ℕ) → HasLine text count p → p < 0x8000
  -- "once, by rising parcel value"
  pub rising : (j k : ℕ) → j < k → k < count → parcel_at text j < parcel_at text k
  pub once : (j k : ℕ) → j < count → k < count → parcel_at text j ≡ parcel_at text k → j ≡ k
  -- "The CPU prefix is listed as itself"
  pub prefix : HasLine text count cpu_prefix

-- no two texts are: what the record says leaves no byte open
abbrev pub OneList : Type 0
OneList = (s t : List ℕ) → IsList s → IsList t → s ≡ t
