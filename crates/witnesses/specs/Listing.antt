-- Wrong lists of the one-parcel instructions: with a parcel left out or put on it, with a wrong line, with a line lost between portions.
-- Assumes nothing.
use Rattle.std.specs.Prelude.{ℕ, Bool, List, [], ◌∷◌, T, length, get_or, replicate}
use Rattle.isa.specs.Decode.{decode_short, decode_wide, decode_prefixed, decode_bare, decode_of}
use Rattle.exec_spec.specs.Alu.{bit_digit}
use Rattle.hex_digits.specs.Digits.{digit_of, number_at, digit_byte}
use Rattle.hex_digits.specs.Output.{newline, printed}
use Rattle.parcels_listing.specs.Listing.{on_list, listed_of, listed_from, parcel_line, parcel_lines}
use Rattle.parcels_listing.specs.Portions.{Portion, portion_of}
use Rattle.witnesses.specs.Boards.{is, all}

-- whether a parcel is on the list
abbrev pub listed : ℕ → ℕ
listed p = bit_digit (on_list p)

-- how many of an opcode's 1,024 parcels are on it
abbrev pub listed_with : ℕ → ℕ
listed_with first = length (listed_of 0x400 first)

-- the number of n digits of a parcel's line from a place on
abbrev pub in_line : ℕ → ℕ → ℕ → ℕ
in_line p n i = number_at n (parcel_line p) i

-- a portion from a parcel on, in a buffer of n bytes
abbrev pub portion_in : ℕ → ℕ → Portion
portion_in p n = portion_of p (replicate n 0)

unfoldable pub listings : List Bool
listings =
    -- an unimplemented opcode listed: 8, 9 and 0xC
    is (listed 0x2000) 0 1
    ∷ is (listed 0x27FF) 0 1
    ∷ is (listed 0x3000) 0 1
    -- FLUSHD listed, an unimplemented niladic after CLRE, a trapped one
    ∷ is (listed 0x2C06) 0 1
    ∷ is (listed 0x2C0B) 0 1
    ∷ is (listed 0x2E00) 0 1
    -- the prefix left out
    ∷ is (listed 0x2C00) 1 0
    -- an instruction left out: KRET, CLRE, the first parcel and the last
    ∷ is (listed 0x2C01) 1 0
    ∷ is (listed 0x2C0A) 1 0
    ∷ is (listed 0x0000) 1 0
    ∷ is (listed 0x7FFF) 1 0
    -- all niladics listed, or the prefix not counted among them; a stack subcode left out
    ∷ is (listed_with 0x2C00) 9 0x400
    ∷ is (listed_with 0x2C00) 9 8
    ∷ is (listed_with 0x0800) 0x400 0x300
    -- a parcel whose top bit is 1 listed
    ∷ is (listed 0x8000) 0 1
    ∷ is (listed 0xFFFF) 0 1
    -- another number of lines
    ∷ is (length (listed_from 0)) 28681 28680
    -- a digit of the operand bits lost, or the opcode's among them
    ∷ is (in_line 0x7FFF 3 6) 0x3FF 0x0FF
    ∷ is (in_line 0x7FFF 3 6) 0x3FF 0x7FF
    -- the opcode a bit off, or with the operand bits' top bits
    ∷ is (in_line 0x2C00 2 4) 0x0B 0x16
    ∷ is (in_line 0x2FFF 2 4) 0x0B 0x2F
    -- a lower-case digit, a line with no end
    ∷ is (get_or (parcel_line 0x2C00) 1 0) 67 99
    ∷ is (get_or (parcel_line 0x2C00) 9 0) newline 13
    -- a line lost or printed twice between two portions: two lines have room in 25 bytes
    ∷ is (portion_in 0x2C00 25).next 0x2C02 0x2C03
    ∷ is (portion_in 0x2C00 25).next 0x2C02 0x2C01
    ∷ is (portion_in 0x2C00 25).output.place 20 25
    ∷ is (number_at 4 (portion_in 0x2C00 25).output.bytes 10) 0x2C01 0x2C00
    -- a portion that begins where it cannot go on, or ends before the last parcel
    ∷ is (portion_in 0x2C00 9).next 0x2C00 0x2C01
    ∷ is (portion_in 0x7FFE 25).next 0x10000 0x7FFF
    ∷ []

pub listings_checked : T (all listings)
unfolding listings on_list listed_of parcel_lines printed digit_of digit_byte decode_short decode_wide decode_prefixed decode_bare decode_of
listings_checked = tt
