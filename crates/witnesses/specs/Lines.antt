-- Wrong answers of a board program, each at lines at which the definition answers otherwise.
-- Assumes nothing.
use Rattle.std.specs.Prelude.{ℕ, ◌+◌, ◌≡◌, refl, Bool, List, [], ◌∷◌, ◌++◌, length, set, take, T}
use Rattle.machine.specs.Registers.{good_bank, set_register}
use Rattle.run_spec.specs.Run.{advance, refusal, run}
use Rattle.hex_digits.specs.Digits.{digit_of, number_at, digit_byte, digits}
use Rattle.hex_digits.specs.Output.{newline}
use Rattle.board_lines.specs.Lines.{numbers_of, frame_of}
use Rattle.board_lines.specs.Stores.{frame_store}
use Rattle.board_lines.specs.Answers.{refused_line, ran_line}
use Rattle.lines.specs.Texts.{lines_of, newline_at, ended_lines, size_of, last_of}
use Rattle.board_conversation.specs.Conversation.{frame_answer, conversation, board_program}
use Rattle.board_conversation.specs.Blocks.{together}
use Rattle.board_conversation.specs.Loop.{exchange_lines, exchange_rest}
use Rattle.witnesses.specs.Boards.{is, all, page}

-- ---- frames: a kind's number, or 7 for a bad line

abbrev pub kind_of : List ℕ → ℕ
kind_of s = (numbers_of (frame_of s)).kind + (numbers_of (frame_of s)).refusal

-- frame 02 with 32 bytes of 0xFF, at address 0
abbrev pub longest : List ℕ
longest = digits 10 0x02_0000_0000 ++ digits 64 0xFFFF_FFFF_FFFF_FFFF_FFFF_FFFF_FFFF_FFFF_FFFF_FFFF_FFFF_FFFF_FFFF_FFFF_FFFF_FFFF

unfoldable pub frames : List Bool
frames =
    -- lower-case digits taken, and any other byte: "A" is 65, "a" 97, a carriage return 13
    is (kind_of (digits 12 0x0106_0000_010A)) 1 7
    ∷ is (kind_of (set (digits 12 0x0106_0000_010A) 11 97)) 7 1
    ∷ is (kind_of (set (digits 12 0x0106_0000_0100) 11 13)) 7 1
    -- a run of more than twelve digits taken, and a frame of fewer
    ∷ is (kind_of (digits 14 0x03_0000_0001_0700)) 7 3
    ∷ is (kind_of (digits 10 0x03_0000_0001)) 7 3
    ∷ is (kind_of (digits 10 0x02_0000_0000)) 7 2
    -- kind 04 read as kind 03, and kind 05 read at all
    ∷ is (kind_of (digits 12 0x0400_0000_0107)) 4 3
    ∷ is (kind_of (digits 12 0x0500_0000_0107)) 7 3
    -- the end of a long line not looked at
    ∷ is (kind_of longest) 2 7
    ∷ is (kind_of (set longest 73 32)) 7 2
    -- a long line cut to the longest good length: 75 digits stay bad, 74 of them would not be
    ∷ is (kind_of (take 75 (longest ++ digits 6 0))) 7 2
    ∷ is (kind_of (take 74 (longest ++ digits 6 0))) 2 7
    -- a word read with its second byte in the place of the third
    ∷ is (numbers_of (frame_of (digits 12 0x0106_1234_5678))).second 0x1234_5678 0x1234_3478
    -- frame 02 taken if its first byte is on the board: two bytes at 0xFFF
    ∷ is (frame_store (digits 14 0x02_0000_0FFF_0102) page 0xFFF).refusal 8 0
    ∷ is (frame_store (digits 12 0x0200_000F_FF01) page 0xFFF).refusal 0 8
    ∷ []

-- ---- printed lines, as numbers of their digits

unfoldable pub answers : List Bool
answers =
    -- an 82 line with the line in the place of the refusal, or its number one digit off
    is (number_at 12 (refused_line 2 0x1234_5678) 0) 0x8202_1234_5678 0x8278_1234_5678
    ∷ is (number_at 12 (refused_line 2 0x1234_5678) 0) 0x8202_1234_5678 0x8202_0123_4567
    -- an 83 line with the stop in the place of its code, or PC in the place of PSW
    ∷ is (number_at 30 (ran_line 3 2 0x17 0x100 0x1_0400) 0) 0x83_0000_0003_0217_0000_0100_0001_0400 0x83_0000_0003_0202_0000_0100_0001_0400
    ∷ is (number_at 30 (ran_line 3 2 0x17 0x100 0x1_0400) 0) 0x83_0000_0003_0217_0000_0100_0001_0400 0x83_0000_0003_0217_0000_0100_0000_0100
    ∷ []

-- ---- conversations, 27 bytes of totals under each

-- twelve digits and their newline
abbrev pub line : ℕ → List ℕ
line x = digits 12 x ++ (newline ∷ [])

unfoldable pub conversations : List Bool
conversations =
    -- lines numbered from 0, or an empty line passed over
    is (number_at 12 (board_program (newline ∷ [])) 0) 0x8207_0000_0001 0x8207_0000_0000
    -- a refusal that prints nothing, or a register set that prints something
    ∷ is (length (board_program (line 0x0109_0000_1008))) 40 27
    ∷ is (length (board_program (line 0x0109_0000_1010))) 27 40
    -- kind 04 run as kind 03: at kernel level it is refused with 9
    ∷ is (number_at 30 (board_program (line 0x0400_0000_0107)) 0) 0x83_0000_0000_0109_0000_0000_0000_0000 0x83_0000_0001_0000_0000_0000_0000_0000
    -- a last line without a newline passed over
    ∷ is (length (board_program (digits 12 0x0300_0000_0007))) 58 27
    ∷ []

-- ---- exchanges of the program's loop

-- runs of budget 0, of 0x1000 steps and, confined, of 0xFFFFFFFF
abbrev pub no_step_run : List ℕ
no_step_run = line 0x0300_0000_0007

abbrev pub long_run : List ℕ
long_run = line 0x0300_0010_0007

abbrev pub longest_run : List ℕ
longest_run = line 0x04FF_FFFF_FF07

unfoldable pub exchanges : List Bool
exchanges =
    -- answers held back by a long run
    is (length (exchange_lines (no_step_run ++ no_step_run ++ long_run))) 2 3
    ∷ is (length (exchange_lines (no_step_run ++ longest_run ++ no_step_run))) 1 3
    -- a long run that waits though nothing has been answered
    ∷ is (length (exchange_lines (long_run ++ no_step_run))) 2 0
    -- a line answered and kept, or neither answered nor kept
    ∷ is (length (exchange_rest (no_step_run ++ long_run ++ no_step_run))) 26 39
    ∷ is (length (exchange_rest (no_step_run ++ long_run ++ no_step_run))) 26 13
    -- an unended line kept whole, or not at all
    ∷ is (length (exchange_rest (digits 80 0))) 75 80
    ∷ is (length (exchange_rest (no_step_run ++ digits 10 0))) 10 0
    -- lines numbered from 1 in every exchange
    ∷ is (last_of 5 (exchange_lines (no_step_run ++ no_step_run))) 7 2
    ∷ []

-- document 01, "Whole case", and the line that request (b) puts under it
pub whole_case : board_program (line 0x0106_0000_0100 ++ line 0x0109_0000_1008 ++ line 0x0300_0000_0007)
    ≡ line 0x8202_0000_0002 ++ (digits 30 0x83_0000_0000_0000_0000_0100_0000_0000 ++ (newline ∷ []))
    ++ (digits 26 0x8F_0000_0001_0000_0000_0000_0001 ++ (newline ∷ []))
unfolding frame_of digit_of digit_byte set_register frame_answer conversation lines_of run refusal good_bank advance
whole_case = refl

pub frames_checked : T (all frames)
unfolding frames frame_of digit_of digit_byte frame_store
frames_checked = tt

pub answers_checked : T (all answers)
unfolding answers digit_of digit_byte
answers_checked = tt

pub conversations_checked : T (all conversations)
unfolding conversations frame_of digit_of digit_byte set_register frame_answer conversation lines_of run refusal good_bank advance
conversations_checked = tt

pub exchanges_checked : T (all exchanges)
unfolding exchanges frame_of digit_of digit_byte newline_at ended_lines together size_of last_of
exchanges_checked = tt
