-- What a line of the board program says (document 01, "The board program and its frames").
-- Assumes nothing.
use Rattle.std.specs.Prelude.{ℕ, ◌%◌, Bool, cond, ◌&&◌, List, length, ◌==◌, nat_le, Option, Some, None}
use Rattle.hex_digits.specs.Digits.{all_digits, number_at}
use Rattle.board_lines.specs.declared.Frame.{Frame}
use Rattle.board_lines.specs.declared.Frame.TheVariants.{Set, Store, Run, Confined}

-- refusal 7, "bad line": wrong digit, length or kind; empty line
abbrev pub malformed_line : ℕ
malformed_line = 7

-- "When an answer is an enum, the promises use a definition that gives this paper's number and values for each case": the
-- kind of a frame with its numbers, or the refusal
pub record FrameNumbers : Type 0 where
  pub refusal : ℕ
  pub kind : ℕ
  pub first : ℕ
  pub second : ℕ

abbrev pub taken : ℕ → ℕ → ℕ → FrameNumbers
taken kind first second = record { refusal = 0; kind = kind; first = first; second = second }

abbrev pub numbers_of : Option Frame → FrameNumbers
numbers_of (Some (Set place word)) = taken 1 place word
numbers_of (Some (Store address)) = taken 2 address 0
numbers_of (Some (Run budget level)) = taken 3 budget level
numbers_of (Some (Confined budget level)) = taken 4 budget level
numbers_of None = record { refusal = malformed_line; kind = 0; first = 0; second = 0 }

-- a frame is 12 to 74 digits in even number
abbrev pub is_length : ℕ → Bool
is_length n = nat_le 12 n && nat_le n 74 && n % 2 == 0

-- kinds of exactly 12 digits. 01: register and word; 03 and 04: budget and interrupt level
abbrev pub of_twelve : ℕ → List ℕ → Option Frame
of_twelve kind s =
    cond (kind == 1) (Some (Set (number_at 2 s 2) (number_at 8 s 4)))
    (cond (kind == 3) (Some (Run (number_at 8 s 2) (number_at 2 s 10)))
    (cond (kind == 4) (Some (Confined (number_at 8 s 2) (number_at 2 s 10))) None))

-- 02: address and 1 to 32 bytes
abbrev pub of_kind : ℕ → List ℕ → Option Frame
of_kind kind s = cond (kind == 2) (Some (Store (number_at 8 s 2))) (cond (length s == 12) (of_twelve kind s) None)

unfoldable pub frame_of : List ℕ → Option Frame
frame_of s = cond (is_length (length s) && all_digits s) (of_kind (number_at 2 s 0) s) None
