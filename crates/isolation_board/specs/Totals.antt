-- Request (b) of what runs answer: "a refused run counts as a run and as a refused line". A run's line adds one run, the steps
-- that the run answers, and a refused line if and only if its stop is "refused".
-- Assumes nothing.
use Rattle.std.specs.Prelude.{ℕ, ◌≡◌, Bool, eqb}
use Rattle.run_spec.specs.Run.{Board, refused, run}
use Rattle.lines.specs.Texts.{lines_of}
use Rattle.board_lines.specs.declared.Tally.{Tally}
use Rattle.board_lines.specs.Printouts.{run_counted, refusal_added, added_if, lines_added}
use Rattle.board_conversation.specs.Conversation.{has_run}

abbrev pub RunCounts : Type 0
RunCounts =
    (confined : Bool) (budget level : ℕ) (b : Board) (k : Tally)
    → lines_added (lines_of (has_run (run confined budget level b)).printed) k
    ≡ added_if (eqb (run confined budget level b).stop refused) refusal_added
    (run_counted (run confined budget level b).steps k)
