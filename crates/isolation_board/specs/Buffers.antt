-- Demand 3 of the board program's buffer: lines that are confined runs or refused, put to two boards with the same buffer.
-- Assumes nothing.
use Rattle.std.specs.Prelude.{ℕ, ◌≡◌, true, List}
use Rattle.run_spec.specs.Run.{Board}
use Rattle.board_lines.specs.Printouts.{Printout}
use Rattle.board_conversation.specs.Code.{board_io}
use Rattle.board_conversation.specs.Blocks.{lines_on}
use Rattle.isolation.specs.Isolation.{Same, Apart}
use Rattle.isolation_board.specs.Lines.{admits_lines}

-- the buffers are equal, all of their bytes and the place of the next, and so are the tallies; the boards are the same but for
-- the hidden pages
abbrev pub ConfinedBuffers : Type 1
ConfinedBuffers =
    (Hidden : ℕ → Type 0) (a b : Board) → Apart Hidden a b
    → (o : Printout) (n : ℕ) (lines : List (List ℕ)) → admits_lines n lines a ≡ true
    → ((lines_on n lines (board_io a o)).printout ≡ (lines_on n lines (board_io b o)).printout)
    × Same Hidden a b (lines_on n lines (board_io a o)).board (lines_on n lines (board_io b o)).board
