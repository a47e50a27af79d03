-- Wrong totals, each at printed lines or at an input for which the definition gives others.
-- Assumes nothing.
use Rattle.std.specs.Prelude.{ℕ, Bool, List, [], ◌∷◌, ◌++◌, length, T}
use Rattle.machine.specs.Registers.{good_bank, set_register}
use Rattle.run_spec.specs.Run.{advance, refusal, run}
use Rattle.hex_digits.specs.Digits.{digit_of, number_at, digit_byte, digits}
use Rattle.hex_digits.specs.Output.{newline}
use Rattle.board_lines.specs.Lines.{frame_of}
use Rattle.board_lines.specs.Answers.{refused_line, ran_line}
use Rattle.lines.specs.Texts.{lines_of, newline_at, ended_lines, size_of, last_of}
use Rattle.board_lines.specs.Totals.{totals, totals_of, totals_line}
use Rattle.board_lines.specs.Printouts.{start_tally, lines_added}
use Rattle.board_conversation.specs.Conversation.{frame_answer, conversation, start_board, board_program}
use Rattle.board_conversation.specs.Blocks.{together}
use Rattle.board_conversation.specs.Loop.{streamed}
use Rattle.witnesses.specs.Boards.{is, all}
use Rattle.witnesses.specs.Lines.{line}

-- the totals under a text of printed lines, as one number of 26 digits
abbrev pub under : List ℕ → ℕ
under t = number_at 26 (totals_line (totals_of (lines_of t))) 0

-- ---- of printed lines

-- a run of three steps to an event, one of no step that was refused with 9
abbrev pub ran_to_event : List ℕ
ran_to_event = ran_line 3 2 0x17 0x100 0x1_0400

abbrev pub refused_run : List ℕ
refused_run = ran_line 0 1 9 0 0

unfoldable pub totals_of_lines : List Bool
totals_of_lines =
    -- a refused run left out of the refused lines, or out of the runs
    is (under refused_run) 0x8F_0000_0001_0000_0000_0000_0001 0x8F_0000_0001_0000_0000_0000_0000
    ∷ is (under refused_run) 0x8F_0000_0001_0000_0000_0000_0001 0x8F_0000_0000_0000_0000_0000_0001
    -- a run that met an event counted as refused, and a refused line counted as a run
    ∷ is (under ran_to_event) 0x8F_0000_0001_0000_0003_0000_0000 0x8F_0000_0001_0000_0003_0000_0001
    ∷ is (under (refused_line 7 2)) 0x8F_0000_0000_0000_0000_0000_0001 0x8F_0000_0001_0000_0000_0000_0001
    -- a refusal read from the place of the code: code 01 of an event is none
    ∷ is (under (ran_line 3 2 1 0x100 0x1_0400)) 0x8F_0000_0001_0000_0003_0000_0000 0x8F_0000_0001_0000_0003_0000_0001
    -- only the last line's, or only the first one's
    ∷ is (under (ran_to_event ++ refused_line 2 2 ++ ran_to_event)) 0x8F_0000_0002_0000_0006_0000_0001 0x8F_0000_0001_0000_0003_0000_0000
    -- totals that stop at the largest number, and sums of more than eight digits
    ∷ is (under (ran_to_event ++ ran_line 0xFFFF_FFFF 0 0 0 0)) 0x8F_0000_0002_0000_0002_0000_0000 0x8F_0000_0002_FFFF_FFFF_0000_0000
    ∷ is (totals_of (lines_of (ran_to_event ++ ran_line 0xFFFF_FFFF 0 0 0 0))).steps 2 0x1_0000_0002
    -- steps and refused lines exchanged
    ∷ is (number_at 26 (totals_line (totals 1 2 3)) 0) 0x8F_0000_0001_0000_0002_0000_0003 0x8F_0000_0001_0000_0003_0000_0002
    ∷ []

-- ---- of an input

-- kind 04 at kernel level, refused with 9, of a budget of 5
abbrev pub refused_of_five : ℕ
refused_of_five = 0x0400_0000_0507

unfoldable pub totals_of_inputs : List Bool
totals_of_inputs =
    -- nothing printed for no input, and a line that is done counted
    is (length (board_program [])) 27 0
    ∷ is (number_at 26 (board_program (line 0x0106_0000_0100)) 0) 0x8F_0000_0000_0000_0000_0000_0000 0x8F_0000_0001_0000_0000_0000_0000
    -- steps from the budget, and a refused run not counted as refused
    ∷ is (number_at 26 (board_program (line refused_of_five)) 31) 0x8F_0000_0001_0000_0000_0000_0001 0x8F_0000_0001_0000_0005_0000_0001
    ∷ is (number_at 26 (board_program (line refused_of_five)) 31) 0x8F_0000_0001_0000_0000_0000_0001 0x8F_0000_0001_0000_0000_0000_0000
    -- a line of kind 03 that is bad counted as a run: one digit too many
    ∷ is (number_at 26 (board_program (digits 13 0x0_3000_0000_1070 ++ (newline ∷ []))) 13) 0x8F_0000_0000_0000_0000_0000_0001 0x8F_0000_0001_0000_0000_0000_0001
    -- totals printed before the answer to a last line without a newline, or without it
    ∷ is (number_at 2 (board_program (digits 12 0x0300_0000_0007)) 0) 0x83 0x8F
    ∷ is (number_at 26 (board_program (digits 12 0x0300_0000_0007)) 31) 0x8F_0000_0001_0000_0000_0000_0000 0x8F_0000_0000_0000_0000_0000_0000
    -- totals of the last exchange alone, totals under each exchange
    ∷ is (number_at 26 (streamed 0 [] (line 0x0300_0000_0007 ∷ line 0x0300_0000_0007 ∷ []) start_tally start_board) 62) 0x8F_0000_0002_0000_0000_0000_0000 0x8F_0000_0001_0000_0000_0000_0000
    ∷ is (length (streamed 0 [] (line 0x0300_0000_0007 ∷ line 0x0300_0000_0007 ∷ []) start_tally start_board)) 89 116
    ∷ []

pub totals_of_lines_checked : T (all totals_of_lines)
unfolding totals_of_lines digit_of digit_byte lines_of
totals_of_lines_checked = tt

pub totals_of_inputs_checked : T (all totals_of_inputs)
unfolding totals_of_inputs frame_of digit_of digit_byte set_register frame_answer conversation lines_of newline_at run refusal good_bank advance streamed lines_added ended_lines together size_of last_of
totals_of_inputs_checked = tt
