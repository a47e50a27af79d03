-- What is printed for a line: 83 lines for runs, 82 lines for refused lines (document 01, "The board program and its frames").
-- Assumes nothing.
use Rattle.std.specs.Prelude.{ℕ, zero, suc, List, [], ◌∷◌, ◌++◌}
use Rattle.hex_digits.specs.Digits.{digits}
use Rattle.hex_digits.specs.Output.{newline}

-- the kinds of lines that are printed
abbrev pub refused_kind : ℕ
refused_kind = 0x82

abbrev pub ran_kind : ℕ
ran_kind = 0x83

-- "82, number (2), line from 1 (8)"
abbrev pub refused_line : ℕ → ℕ → List ℕ
refused_line refusal line = digits 2 refused_kind ++ digits 2 refusal ++ digits 8 line ++ (newline ∷ [])

-- "Kinds 01 and 02 print nothing if done"
abbrev pub unless_done : ℕ → ℕ → List ℕ
unless_done n zero = []
unless_done n (suc r) = refused_line (suc r) n

-- "83, steps done (8 digits), stop (2), code (2), PC (8), PSW (8)"
abbrev pub ran_line : ℕ → ℕ → ℕ → ℕ → ℕ → List ℕ
ran_line steps stop code pc psw =
    digits 2 ran_kind ++ digits 8 steps ++ digits 2 stop ++ digits 2 code ++ digits 8 pc ++ digits 8 psw ++ (newline ∷ [])

-- where the digits of the steps, the stop and the code begin in it
abbrev pub steps_place : ℕ
steps_place = 2

abbrev pub stop_place : ℕ
stop_place = 10

abbrev pub code_place : ℕ
code_place = 12

-- stop 01, "refused"
abbrev pub refused_stop : ℕ
refused_stop = 1
