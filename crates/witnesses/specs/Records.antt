-- Wrong conversions of records and frames, each at a line or a text for which the definition gives another one.
-- Assumes nothing.
use Rattle.std.specs.Prelude.{ℕ, ◌+◌, Bool, false, List, [], ◌∷◌, ◌++◌, length, get_or, replicate, T}
use Rattle.hex_digits.specs.Digits.{digit_of, number_at, digit_byte, digits}
use Rattle.hex_digits.specs.Output.{newline, output, printed}
use Rattle.lines.specs.Texts.{lines_of, lines_text, newline_at, ended_lines, size_of}
use Rattle.board_lines.specs.Lines.{frame_of}
use Rattle.records_lines.specs.Records.{address_bytes, is_count, is_record, digit_bytes, byte_sum, record_refusal}
use Rattle.records_lines.specs.Conversions.{frames_from, record_converted, store_converted, frame_converted}
use Rattle.records_conversion.specs.declared.Way.TheVariants.{In, Out}
use Rattle.records_conversion.specs.Conversion.{conversion, conversion_program}
use Rattle.records_conversion.specs.Loop.{progress, lines_done, exchange_from}
use Rattle.witnesses.specs.Boards.{is, all}

-- ---- lines

-- a record by its type and the number of its digits: "S" is 83, "0" is 48
abbrev pub typed : ℕ → ℕ → ℕ → List ℕ
typed t n x = 83 ∷ (48 + t) ∷ digits n x

-- the refusal of a line of records, how many frames it gives, the digits of frame k, and its address
abbrev pub in_refusal : List ℕ → ℕ
in_refusal s = (record_converted s).refusal

abbrev pub in_frames : List ℕ → ℕ
in_frames s = length (record_converted s).lines

abbrev pub in_digits : List ℕ → ℕ → ℕ
in_digits s k = length (get_or (record_converted s).lines k [])

abbrev pub in_address : List ℕ → ℕ → ℕ
in_address s k = number_at 8 (get_or (record_converted s).lines k []) 2

-- the refusal of a line of frames, and the number of the last two digits of its record
abbrev pub out_refusal : List ℕ → ℕ
out_refusal s = (frame_converted s).refusal

abbrev pub out_checksum : List ℕ → ℕ
out_checksum s = number_at 2 (get_or (frame_converted s).lines 0 []) 14

-- 33 bytes from 0xFFF0 on in an S1, and from 0xFFFFFFF0 on in an S3
abbrev pub past_width : List ℕ
past_width = typed 1 74 0x24_FFF0_33333333_33333333_33333333_33333333_33333333_33333333_33333333_33333333_33_59

abbrev pub past_addresses : List ℕ
past_addresses = typed 3 78 0x26_FFFFFFF0_22222222_22222222_22222222_22222222_22222222_22222222_22222222_22222222_22_8A

unfoldable pub record_lines : List Bool
record_lines =
    -- the checksum without the count, and the two's complement
    is (in_refusal (typed 1 10 0x04_0100_AB_4F)) 0 14
    ∷ is (in_refusal (typed 1 10 0x04_0100_AB_53)) 14 0
    ∷ is (in_refusal (typed 1 10 0x04_0100_AB_50)) 14 0
    -- the checksum of records without data not tested
    ∷ is (in_refusal (typed 9 8 0x03_1000_ED)) 14 0
    ∷ is (in_refusal (typed 5 8 0x03_0003_F8)) 14 0
    -- a wrong checksum told before a wrong count
    ∷ is (in_refusal (typed 1 10 0x05_0100_AB_00)) 13 14
    -- S2 with two address bytes
    ∷ is (in_address (typed 2 12 0x05_123456_AB_B3) 0) 0x12_3456 0x1234
    -- pieces of 33 bytes, and of 31
    ∷ is (in_frames past_width) 2 1
    ∷ is (in_digits past_width 0) 74 76
    ∷ is (in_digits past_width 0) 74 72
    -- addresses kept to the width of their type, or not kept to 32 bits
    ∷ is (in_address past_width 1) 0x1_0010 0x10
    ∷ is (in_address past_addresses 1) 0x10 0xFFFF_FFFF
    -- frames of S0, and one of a record with no data
    ∷ is (in_frames (typed 0 14 0x06_0000_484452_1B)) 0 1
    ∷ is (in_frames (typed 1 8 0x03_0000_FC)) 0 1
    -- S5 with data, S4, lower case, a carriage return, an empty line taken
    ∷ is (in_refusal (typed 5 10 0x04_0000_00_FB)) 13 0
    ∷ is (in_refusal (typed 4 10 0x04_0100_AB_4F)) 13 0
    ∷ is (in_refusal (115 ∷ 49 ∷ digits 10 0x04_0100_AB_4F)) 13 0
    ∷ is (in_refusal (typed 1 10 0x04_0100_AB_4F ++ 13 ∷ [])) 13 0
    ∷ is (in_refusal []) 13 0
    ∷ []

unfoldable pub frame_lines : List Bool
frame_lines =
    -- 15 before 7: kind 01 of 14 digits, and with a byte that is no digit
    is (out_refusal (digits 14 0x01_06_00000100_00)) 7 15
    ∷ is (out_refusal (digits 11 0x010_6000_0010 ++ 71 ∷ [])) 7 15
    -- 7 for a frame of another kind
    ∷ is (out_refusal (digits 12 0x03_00000000_07)) 15 7
    ∷ is (out_refusal (digits 12 0x01_06_00000100)) 15 7
    -- the checksum without the count
    ∷ is (out_checksum (digits 12 0x02_00000100_AB)) 0x4D 0x53
    ∷ []

-- ---- texts

abbrev pub good_record : List ℕ
good_record = typed 1 10 0x04_0100_AB_4F

abbrev pub wrong_record : List ℕ
wrong_record = typed 1 10 0x04_0100_AB_4E

-- what an exchange keeps
abbrev pub kept_of : List ℕ → ℕ
kept_of t = length (exchange_from In t (progress (output [] 0) 0 false)).kept

unfoldable pub conversions : List Bool
conversions =
    -- lines after the first refusal converted: a frame has 13 bytes with its newline, an 82 line 13
    is (length (conversion In 1 (wrong_record ∷ good_record ∷ []))) 13 26
    -- what earlier lines gave withheld
    ∷ is (length (conversion In 1 (good_record ∷ wrong_record ∷ []))) 26 13
    ∷ is (number_at 2 (conversion In 1 (good_record ∷ wrong_record ∷ [])) 0) 0x02 0x82
    -- the refusal of another line, and lines numbered from 0
    ∷ is (number_at 12 (conversion In 1 (good_record ∷ wrong_record ∷ [])) 13) 0x82_0E_00000002 0x82_0E_00000001
    ∷ is (number_at 12 (conversion_program In (wrong_record ++ newline ∷ [])) 0) 0x82_0E_00000001 0x82_0E_00000000
    -- a last line without a newline passed over, and a line after the last newline
    ∷ is (length (conversion_program In good_record)) 13 0
    ∷ is (length (conversion_program In (good_record ++ newline ∷ []))) 13 26
    -- one way taken for the other
    ∷ is (number_at 4 (conversion_program Out good_record) 0) 0x8207 0x0200
    -- a carriage return taken for the end of a line
    ∷ is (newline_at (48 ∷ 13 ∷ newline ∷ [])) 2 1
    -- an unended line kept whole, or not at all, and bytes kept once the work is over
    ∷ is (kept_of (replicate 600 48)) 515 600
    ∷ is (kept_of (good_record ++ newline ∷ 83 ∷ [])) 1 0
    ∷ is (kept_of (wrong_record ++ newline ∷ 83 ∷ [])) 0 1
    ∷ []

pub record_lines_checked : T (all record_lines)
unfolding record_lines digit_of digit_byte address_bytes is_count is_record digit_bytes byte_sum record_refusal frames_from
record_lines_checked = tt

pub frame_lines_checked : T (all frame_lines)
unfolding frame_lines digit_of digit_byte frame_of digit_bytes byte_sum store_converted
frame_lines_checked = tt

pub conversions_checked : T (all conversions)
unfolding conversions newline_at digit_of digit_byte frame_of address_bytes is_count is_record digit_bytes byte_sum record_refusal frames_from store_converted lines_of lines_text conversion ended_lines size_of lines_done printed
conversions_checked = tt
