-- Request (j): "The first found prints its 82 line and stops the work; what earlier lines gave stands."
-- Assumes nothing.
use Rattle.std.specs.Prelude.{◌≡◌, ℕ, List, ◌∷◌, ◌++◌}
use Rattle.lines.specs.Texts.{lines_text, next, last_of}
use Rattle.board_lines.specs.Answers.{refused_line}
use Rattle.records_lines.specs.Conversions.{Accepted, given_by}
use Rattle.records_conversion.specs.declared.Way.{Way}
use Rattle.records_conversion.specs.Conversion.{converted_by, conversion}

-- lines that are accepted, then one that is refused, then any others
pub record FirstRefused (w : Way) (l : List (List ℕ)) : Type 0 where
  pub before : List (List ℕ)
  pub line : List ℕ
  pub after : List (List ℕ)
  pub parts : l ≡ before ++ line ∷ after
  pub accepted : Accepted (converted_by w) before
  pub refused : (converted_by w line).refusal ≡ 0 → ⊥

-- lines are all accepted, or one of them is the first that is refused
pub data Judged (w : Way) (l : List (List ℕ)) : Type 0 where
  all_accepted : Accepted (converted_by w) l → Judged w l
  first_refused : FirstRefused w l → Judged w l

-- lines after line n
pub record Stopping : Type 0 where
  pub judged : (w : Way) (l : List (List ℕ)) → Judged w l
  pub accepted : (w : Way) (n : ℕ) (l : List (List ℕ)) → Accepted (converted_by w) l
      → conversion w (next n) l ≡ lines_text (given_by (converted_by w) l)
  -- "what earlier lines gave stands", and the line of the refusal
  pub refused : (w : Way) (n : ℕ) (l : List (List ℕ)) (f : FirstRefused w l)
      → conversion w (next n) l
      ≡ lines_text (given_by (converted_by w) f.before) ++ refused_line (converted_by w f.line).refusal (next (last_of n f.before))
