-- A line converted (request (j)): a record to frames, and a frame to a record.
-- Assumes nothing.
use Rattle.std.specs.Prelude.{◌≡◌, ℕ, zero, suc, ◌+◌, ◌/◌, ◌%◌, ◌^◌, cond, List, [], ◌∷◌, ◌++◌, length, take, drop, ◌==◌, Option, Some, None}
use Rattle.word.proofs.ListLaws.{Each}
use Rattle.hex_digits.specs.Digits.{digits}
use Rattle.hex_digits.specs.Output.{Output, printed}
use Rattle.lines.specs.Texts.{lines_text}
use Rattle.board_lines.specs.declared.Frame.{Frame}
use Rattle.board_lines.specs.declared.Frame.TheVariants.{Set, Store, Run, Confined}
use Rattle.board_lines.specs.Lines.{frame_of, malformed_line}
use Rattle.board_lines.specs.Stores.{byte_count}
use Rattle.records_lines.specs.Records.{record_type, is_data_type, letter_s, checksum_of, record_refusal, record_address, record_data}

-- 0 and the lines that a line gives, or its refusal and none
pub record LineConverted : Type 0 where
  pub refusal : ℕ
  pub lines : List (List ℕ)

abbrev pub line_gives : List (List ℕ) → LineConverted
line_gives l = record { refusal = 0; lines = l }

abbrev pub line_refused : ℕ → LineConverted
line_refused r = record { refusal = r; lines = [] }

-- ---- a record: "Convert S1, S2 and S3 data records to frames of kind 02, 32 bytes each but a record's last"

-- the digits of 32 bytes
abbrev pub most_digits : ℕ
most_digits = 64

-- kind, address and the digits of the bytes, which are the record's
abbrev pub store_frame : ℕ → List ℕ → List ℕ
store_frame a d = digits 2 2 ++ digits 8 a ++ d

-- so many frames
unfoldable pub frames_from : ℕ → ℕ → List ℕ → List (List ℕ)
frames_from zero a d = []
frames_from (suc n) a d = store_frame a (take most_digits d) ∷ frames_from n ((a + 32) % 2 ^ 32) (drop most_digits d)

abbrev pub frame_count : List ℕ → ℕ
frame_count d = (length d + 63) / most_digits

abbrev pub frames_of : ℕ → List ℕ → List (List ℕ)
frames_of a d = frames_from (frame_count d) a d

-- "S0, S5, the end records S7, S8, S9 and a data record with no data yield no frame"
abbrev pub record_frames : List ℕ → List (List ℕ)
record_frames s = cond (is_data_type (record_type s)) (frames_of (record_address s) (record_data s)) []

abbrev pub record_converted : List ℕ → LineConverted
record_converted s = cond (record_refusal s == 0) (line_gives (record_frames s)) (line_refused (record_refusal s))

-- ---- a frame: "Convert back to S3 records, one for each 02 frame"

-- count, address and data: the count, and the frame's digits after its kind
abbrev pub frame_body : List ℕ → List ℕ
frame_body s = digits 2 (byte_count s + 5) ++ drop 2 s

-- "3" is 51
abbrev pub store_record : List ℕ → List ℕ
store_record s = letter_s ∷ 51 ∷ (frame_body s ++ digits 2 (checksum_of (frame_body s)))

-- "15, a frame of another kind, after 7 for a bad frame line"
abbrev pub other_kind : ℕ
other_kind = 15

unfoldable pub store_converted : List ℕ → Option Frame → LineConverted
store_converted s (Some (Set place word)) = line_refused other_kind
store_converted s (Some (Store address)) = line_gives (store_record s ∷ [])
store_converted s (Some (Run budget level)) = line_refused other_kind
store_converted s (Some (Confined budget level)) = line_refused other_kind
store_converted s None = line_refused malformed_line

abbrev pub frame_converted : List ℕ → LineConverted
frame_converted s = store_converted s (frame_of s)

-- ---- as the code answers: the refusal, and the lines printed to a buffer

pub record LineOutput : Type 0 where
  pub refusal : ℕ
  pub output : Output

abbrev pub line_output : ℕ → Output → LineOutput
line_output r o = record { refusal = r; output = o }

abbrev pub output_of : LineConverted → Output → LineOutput
output_of c o = line_output c.refusal (printed (lines_text c.lines) o)

-- ---- lines one after the other, each converted by f

-- all of them are accepted
abbrev pub Accepted : (List ℕ → LineConverted) → List (List ℕ) → Type 0
Accepted f l = Each (λ (s : List ℕ). (f s).refusal ≡ 0) l

-- what they give together
abbrev pub given_by : (List ℕ → LineConverted) → List (List ℕ) → List (List ℕ)
given_by f [] = []
given_by f (s ∷ l) = (f s).lines ++ given_by f l
