-- Request (h), a list of every one-parcel instruction: "Print each legal one-parcel encoding once, by rising parcel value, as a line of
-- nine upper-case hexadecimal digits: parcel (4), opcode (2), operand bits (3)."
-- Assumes nothing.
use Rattle.std.specs.Prelude.{ℕ, zero, suc, ◌-◌, Bool, true, false, cond, ◌&&◌, List, [], ◌∷◌, ◌++◌, ltb, Ok, Err}
use Rattle.isa.specs.declared.Undecoded.TheVariants.{Illegal, Unimplemented, Truncated}
use Rattle.isa.specs.Fields.{short_opcode, short_operands}
use Rattle.isa.specs.Decode.{decode_of}
use Rattle.isa.specs.Encode.{text1}
use Rattle.hex_digits.specs.Digits.{digits}
use Rattle.hex_digits.specs.Output.{newline}
use Rattle.isa.specs.Answers.{Decoded}

-- ---- which parcels

-- "the decoder doesn't call it illegal or unimplemented"; a CPU prefix alone is cut text, which is neither: "The CPU prefix is listed
-- as itself"
abbrev pub is_legal : Decoded → Bool
is_legal (Ok (i, n)) = true
is_legal (Err Illegal) = false
is_legal (Err (Unimplemented v)) = false
is_legal (Err Truncated) = true

-- "A parcel whose top bit is 0 is on the list exactly when ..; no other parcel is": by the answer to it alone
unfoldable pub on_list : ℕ → Bool
on_list p = ltb p 0x8000 && is_legal (decode_of (text1 p))

-- how many parcels there are
abbrev pub parcel_count : ℕ
parcel_count = 0x10000

-- of n parcels from p on those on the list, "by rising parcel value"
unfoldable pub listed_of : ℕ → ℕ → List ℕ
listed_of zero p = []
listed_of (suc n) p = cond (on_list p) (p ∷ listed_of n (suc p)) (listed_of n (suc p))

-- of all parcels from p on
abbrev pub listed_from : ℕ → List ℕ
listed_from p = listed_of (parcel_count - p) p

-- ---- what is printed

-- "parcel (4), opcode (2), operand bits (3)"
abbrev pub parcel_line : ℕ → List ℕ
parcel_line p = digits 4 p ++ digits 2 (short_opcode p) ++ digits 3 (short_operands p) ++ (newline ∷ [])

-- nine digits and a newline
abbrev pub line_size : ℕ
line_size = 10

unfoldable pub parcel_lines : List ℕ → List ℕ
parcel_lines [] = []
parcel_lines (p ∷ ps) = parcel_line p ++ parcel_lines ps

abbrev pub listing : List ℕ
listing = parcel_lines (listed_from 0)
