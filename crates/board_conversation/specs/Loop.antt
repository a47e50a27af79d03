-- The loop of the board program: it reads, answers lines, writes their answers, and keeps the rest of what was read.
-- Assumes nothing.
use Rattle.std.specs.Prelude.{ℕ, Bool, false, cond, List, [], ◌∷◌, ◌++◌, take, drop}
use Rattle.run_spec.specs.Run.{Board}
use Rattle.board_conversation.specs.declared.LoopState.{LoopState}
use Rattle.lines.specs.Texts.{lines_of, next, ends_line, ended_lines, size_of, last_of}
use Rattle.board_lines.specs.Totals.{totals_line}
use Rattle.board_lines.specs.declared.Tally.{Tally}
use Rattle.board_lines.specs.Printouts.{totals_at, totalled, lines_added}
use Rattle.board_conversation.specs.Conversation.{Answered, conversation}
use Rattle.board_conversation.specs.Code.{BoardIo, board_io}
use Rattle.board_conversation.specs.Blocks.{together, lines_on}

-- the lines that are answered before the next write
abbrev pub exchange_lines : List ℕ → List (List ℕ)
exchange_lines t = together false (ended_lines t)

-- no frame has as many digits, so an unended line that is cut there stays bad
abbrev pub most_carried : ℕ
most_carried = 75

-- the bytes that are kept: all where a line ends in them, else at most so many of an unended line
abbrev pub carried_of : List ℕ → List ℕ
carried_of t = cond (ends_line t) t (take most_carried t)

abbrev pub exchange_rest : List ℕ → List ℕ
exchange_rest t = carried_of (drop (size_of (exchange_lines t)) t)

-- ---- an exchange of the loop

-- after it: the board and the buffer, the number of the last line, the bytes that are kept, and whether a line ends in them
pub record Exchange : Type 0 where
  pub board_io : BoardIo
  pub last : ℕ
  pub bytes : List ℕ
  pub more : Bool

abbrev pub exchange : BoardIo → ℕ → List ℕ → Bool → Exchange
exchange d n t b = record { board_io = d; last = n; bytes = t; more = b }

-- after line n, on the bytes that are there
abbrev pub exchange_of : ℕ → List ℕ → BoardIo → Exchange
exchange_of n t d =
    exchange (lines_on (next n) (exchange_lines t) d) (last_of n (exchange_lines t)) (exchange_rest t)
    (ends_line (drop (size_of (exchange_lines t)) t))

-- before the first of them: nothing is there, and no line has been answered
abbrev pub beginning : LoopState
beginning = record { from = 0; end = 0; more = false; last = 0 }

-- at the end of input, after the line that is left, the totals of all that was printed
abbrev pub totals_on : BoardIo → BoardIo
totals_on d = board_io d.board (totalled d.printout)

-- ---- all exchanges

-- the lines of an exchange, and what the rest of the input prints then, with the tally so far
abbrev pub then_printed : Answered → Tally → (Tally → Board → List ℕ) → List ℕ
then_printed a k rest = a.printed ++ rest (lines_added (lines_of a.printed) k) a.board

-- what is printed after line n with c kept and the tally k, where the exchanges read these bytes, perhaps none
unfoldable pub streamed : ℕ → List ℕ → List (List ℕ) → Tally → Board → List ℕ
streamed n c [] k b = then_printed (conversation (next n) (lines_of c) b) k (λ t d. totals_line (totals_at t))
streamed n c (x ∷ xs) k b =
    then_printed (conversation (next n) (exchange_lines (c ++ x)) b) k
    (λ t d. streamed (last_of n (exchange_lines (c ++ x))) (exchange_rest (c ++ x)) xs t d)
