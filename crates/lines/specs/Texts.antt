-- The lines of a text: each ended by a newline, but the last perhaps by the end of input; nothing after the last newline is no
-- line.
-- Assumes nothing.
use Rattle.std.specs.Prelude.{ℕ, suc, ◌+◌, ◌%◌, ◌^◌, Bool, cond, List, [], ◌∷◌, ◌++◌, length, eqb, ltb}
use Rattle.hex_digits.specs.Output.{newline}

-- a byte in front of the first line
abbrev pub onto : ℕ → List (List ℕ) → List (List ℕ)
onto b [] = (b ∷ []) ∷ []
onto b (s ∷ t) = (b ∷ s) ∷ t

unfoldable pub lines_of : List ℕ → List (List ℕ)
lines_of [] = []
lines_of (b ∷ t) = cond (eqb b newline) ([] ∷ lines_of t) (onto b (lines_of t))

-- the text of lines, each ended
unfoldable pub lines_text : List (List ℕ) → List ℕ
lines_text [] = []
lines_text (s ∷ l) = (s ++ newline ∷ []) ++ lines_text l

-- a line's number has eight digits
abbrev pub next : ℕ → ℕ
next n = (n + 1) % 2 ^ 32

-- the number of the last of lines, where n is the number of the line before
unfoldable pub last_of : ℕ → List (List ℕ) → ℕ
last_of n [] = n
last_of n (s ∷ t) = last_of (next n) t

-- ---- a text that is read in blocks

-- the place of the first newline, or the length
unfoldable pub newline_at : List ℕ → ℕ
newline_at [] = 0
newline_at (b ∷ t) = cond (eqb b newline) 0 (suc (newline_at t))

-- whether a line ends in a text
abbrev pub ends_line : List ℕ → Bool
ends_line t = ltb (newline_at t) (length t)

-- a byte in front of the first line, if one ends
abbrev pub onto_ended : ℕ → List (List ℕ) → List (List ℕ)
onto_ended b [] = []
onto_ended b (s ∷ t) = (b ∷ s) ∷ t

-- the lines that a newline ends
unfoldable pub ended_lines : List ℕ → List (List ℕ)
ended_lines [] = []
ended_lines (b ∷ t) = cond (eqb b newline) ([] ∷ ended_lines t) (onto_ended b (ended_lines t))

-- the bytes of lines, with their newlines
unfoldable pub size_of : List (List ℕ) → ℕ
size_of [] = 0
size_of (s ∷ t) = suc (length s) + size_of t

-- at the end of input: what is left is a line, if anything is left
abbrev pub last_line : List ℕ → List (List ℕ)
last_line [] = []
last_line (b ∷ s) = (b ∷ s) ∷ []

-- the input, whole
abbrev pub whole : List (List ℕ) → List ℕ
whole [] = []
whole (x ∷ xs) = x ++ whole xs
