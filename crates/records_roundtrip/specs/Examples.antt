-- Records and the frames and records that they give, as they stand in files: what the round trips speak of can be met.
-- Assumes nothing.
use Rattle.std.specs.Prelude.{ℕ, ◌≡◌, List, [], ◌∷◌}
use Rattle.hex_digits.specs.Digits.{digits}
use Rattle.records_lines.specs.Records.{letter_s}
use Rattle.records_lines.specs.Conversions.{record_converted, frame_converted, Accepted, given_by}
use Rattle.machine.specs.Status.{Cpu}
use Rattle.run_spec.specs.Run.{board}
use Rattle.board_conversation.specs.Conversation.{answered}
use Rattle.records_roundtrip.specs.BoardMemory.{records_on}

abbrev pub record_digits : ℕ → ℕ → ℕ → List ℕ
record_digits t n x = letter_s ∷ t ∷ digits n x

-- "1" is 49: 33 bytes at 0x1000; 33 bytes from 0xFFFFFFF0 on in an S3, the last of them at 0x10; an S9
abbrev pub example_records : List (List ℕ)
example_records =
    record_digits 49 74 0x24_1000_01020304_05060708_090A0B0C_0D0E0F10_11121314_15161718_191A1B1C_1D1E1F20_21_9A
    ∷ record_digits 51 78 0x26_FFFFFFF0_01020304_05060708_090A0B0C_0D0E0F10_11121314_15161718_191A1B1C_1D1E1F20_21_BB
    ∷ record_digits 57 8 0x03_0000_FC
    ∷ []

abbrev pub example_frames : List (List ℕ)
example_frames =
    digits 74 0x02_00001000_01020304_05060708_090A0B0C_0D0E0F10_11121314_15161718_191A1B1C_1D1E1F20
    ∷ digits 12 0x02_00001020_21
    ∷ digits 74 0x02_FFFFFFF0_01020304_05060708_090A0B0C_0D0E0F10_11121314_15161718_191A1B1C_1D1E1F20
    ∷ digits 12 0x02_00000010_21
    ∷ []

abbrev pub example_again : List (List ℕ)
example_again =
    record_digits 51 76 0x25_00001000_01020304_05060708_090A0B0C_0D0E0F10_11121314_15161718_191A1B1C_1D1E1F20_BA
    ∷ record_digits 51 14 0x06_00001020_21_A8
    ∷ record_digits 51 76 0x25_FFFFFFF0_01020304_05060708_090A0B0C_0D0E0F10_11121314_15161718_191A1B1C_1D1E1F20_DD
    ∷ record_digits 51 14 0x06_00000010_21_C8
    ∷ []

pub record ExampleConverted : Type 0 where
  pub records_taken : Accepted record_converted example_records
  pub frames_given : given_by record_converted example_records ≡ example_frames
  pub frames_taken : Accepted frame_converted example_frames
  pub records_given : given_by frame_converted example_frames ≡ example_again

-- ---- on a board of five bytes: two bytes at 2

abbrev pub short_record : List ℕ
short_record = record_digits 49 12 0x05_0002_AABB_93

abbrev pub ShortLoaded : Type 0
ShortLoaded =
    (c : Cpu) → records_on 1 (short_record ∷ []) (board c (0 ∷ 0 ∷ 0 ∷ 0 ∷ 0 ∷ [])) ≡ answered (board c (0 ∷ 0 ∷ 0xAA ∷ 0xBB ∷ 0 ∷ [])) []
