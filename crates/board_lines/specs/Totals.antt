-- The totals under the answers: runs, steps and refused lines, from the 82 and 83 lines that were printed (request (b)).
-- Assumes nothing.
use Rattle.std.specs.Prelude.{ℕ, ◌+◌, ◌%◌, ◌^◌, Bool, cond, ◌&&◌, ◌||◌, List, [], ◌∷◌, ◌++◌, ◌==◌}
use Rattle.hex_digits.specs.Digits.{number_at, digits}
use Rattle.hex_digits.specs.Output.{newline}
use Rattle.board_lines.specs.Answers.{refused_kind, ran_kind, steps_place, stop_place, refused_stop}

pub record Totals : Type 0 where
  pub runs : ℕ
  pub steps : ℕ
  pub refused : ℕ

abbrev pub totals : ℕ → ℕ → ℕ → Totals
totals runs steps refused = record { runs = runs; steps = steps; refused = refused }

-- ---- what a printed line gives, by its digits

abbrev pub is_refusal_line : List ℕ → Bool
is_refusal_line s = number_at 2 s 0 == refused_kind

abbrev pub is_run_line : List ℕ → Bool
is_run_line s = number_at 2 s 0 == ran_kind

-- "a refused run counts as a run and as a refused line"
abbrev pub is_refused : List ℕ → Bool
is_refused s = is_refusal_line s || is_run_line s && number_at 2 s stop_place == refused_stop

abbrev pub runs_in : List ℕ → ℕ
runs_in s = cond (is_run_line s) 1 0

abbrev pub steps_in : List ℕ → ℕ
steps_in s = cond (is_run_line s) (number_at 8 s steps_place) 0

abbrev pub refused_in : List ℕ → ℕ
refused_in s = cond (is_refused s) 1 0

-- ---- "Each total equals what the printed 82 and 83 lines give", "modulo 2^32"

abbrev pub sum_over : (List ℕ → ℕ) → List (List ℕ) → ℕ
sum_over f [] = 0
sum_over f (s ∷ l) = f s + sum_over f l

abbrev pub totals_of : List (List ℕ) → Totals
totals_of l = totals (sum_over runs_in l % 2 ^ 32) (sum_over steps_in l % 2 ^ 32) (sum_over refused_in l % 2 ^ 32)

-- "8F, then runs, steps and refused lines, 8 digits each"
abbrev pub totals_kind : ℕ
totals_kind = 0x8F

abbrev pub totals_line : Totals → List ℕ
totals_line t = digits 2 totals_kind ++ digits 8 t.runs ++ digits 8 t.steps ++ digits 8 t.refused ++ (newline ∷ [])
