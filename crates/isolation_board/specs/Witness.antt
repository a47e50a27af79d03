-- A conversation that meets the premise on lines: confined runs, and refused lines of every kind between them.
-- Assumes nothing.
use Rattle.std.specs.Prelude.{ℕ, ◌≡◌, true, false, ◌||◌, List, [], ◌∷◌, ◌++◌}
use Rattle.hex_digits.specs.Digits.{digits}
use Rattle.hex_digits.specs.Output.{newline}
use Rattle.board_lines.specs.Answers.{refused_line, ran_line}
use Rattle.board_lines.specs.Totals.{totals, totals_line}
use Rattle.board_conversation.specs.Conversation.{conversation, program_on}
use Rattle.isolation_witness.specs.Witness.{nonpaged_board}
use Rattle.isolation_board.specs.Lines.{admits_lines}

unfoldable pub witness_lines : List (List ℕ)
witness_lines =
    -- a confined run of one step
    digits 12 0x0400_0000_0107
    -- an empty line, number 7; register 0, number 2; off the board, number 8; a run of kind 03 at input 8, number 3
    ∷ []
    ∷ digits 12 0x0100_0000_0000
    ∷ digits 12 0x02FF_FFFF_FF00
    ∷ digits 12 0x0300_0000_0108
    -- a confined run that goes on from the first, to a read where nothing is mapped
    ∷ digits 12 0x0400_0000_0107
    ∷ []

-- on a machine that meets the premises of isolation
abbrev pub WitnessAdmitted : Type 0
WitnessAdmitted = admits_lines 1 witness_lines (nonpaged_board 1) ≡ true

-- lines of kinds 01, 02 and 03 that are done are none of these: CONFIG set to 0, a byte stored at 0, a run of no step
abbrev pub WitnessBarred : Type 0
WitnessBarred =
    (admits_lines 1 (digits 12 0x0101_0000_0000 ∷ []) (nonpaged_board 1)
    || admits_lines 1 (digits 12 0x0200_0000_0000 ∷ []) (nonpaged_board 1)
    || admits_lines 1 (digits 12 0x0300_0000_0007 ∷ []) (nonpaged_board 1))
    ≡ false

-- what it prints
abbrev pub WitnessPrinted : Type 0
WitnessPrinted =
    (conversation 1 witness_lines (nonpaged_board 1)).printed
    ≡ ran_line 1 0 0 2 0x10400 ++ refused_line 7 2 ++ refused_line 2 3 ++ refused_line 8 4
    ++ ran_line 0 1 3 2 0x10400 ++ ran_line 0 2 0x08 2 0x10400

-- and so it prints whatever else the hidden page holds
abbrev pub WitnessSame : Type 0
WitnessSame =
    (h : ℕ) → (conversation 1 witness_lines (nonpaged_board 1)).printed ≡ (conversation 1 witness_lines (nonpaged_board h)).printed

-- ---- as the program's input: its totals are three runs, one step, four refused lines

abbrev pub as_input : List (List ℕ) → List ℕ
as_input [] = []
as_input (s ∷ l) = s ++ newline ∷ as_input l

abbrev pub WitnessTotals : Type 0
WitnessTotals =
    program_on (nonpaged_board 1) (as_input witness_lines) ≡ (conversation 1 witness_lines (nonpaged_board 1)).printed ++ totals_line (totals 3 1 4)

abbrev pub WitnessProgram : Type 0
WitnessProgram = (h : ℕ) → program_on (nonpaged_board 1) (as_input witness_lines) ≡ program_on (nonpaged_board h) (as_input witness_lines)
