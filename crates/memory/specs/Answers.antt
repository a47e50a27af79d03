-- What an access answers: a value, or the exception that it raises (Table 1-26).
-- Assumes nothing.
use Rattle.std.specs.Prelude.{ℕ, ◌%◌, ◌^◌, cond, ltb}

pub data Answer : Type 0 where
  good : ℕ → Answer
  raised : ℕ → Answer

-- the answer in one number of 64 bits: a value below 2 ^ 32, or 2 ^ 32 more than the exception's number
unfoldable pub answer_of : ℕ → Answer
answer_of x = cond (ltb x (2 ^ 32)) (good (x % 2 ^ 32)) (raised (x % 2 ^ 32))
