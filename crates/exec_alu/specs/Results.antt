-- A result of an operation in one number of 36 bits: its value below, then two bits for the carry and two for the overflow.
-- Assumes nothing.
use Rattle.std.specs.Prelude.{ℕ, ◌/◌, ◌%◌, ◌^◌, cond, eqb}
use Rattle.exec_spec.specs.Alu.{Flag, stays, gets, Result, flags_over}

-- 0 and 1: the flag gets that digit; 2: it stays
abbrev pub flag_from : ℕ → Flag
flag_from k = cond (eqb k 2) stays (gets (eqb k 1))

abbrev pub result_of : ℕ → Flag → Flag → Result
result_of v c o = record { value = v; carry = c; overflow = o }

unfoldable pub unpacked : ℕ → Result
unpacked w = result_of (w % 2 ^ 32) (flag_from (w / 2 ^ 32 % 4)) (flag_from (w / 2 ^ 32 / 4 % 4))

-- the flags laid over a PSW
abbrev pub laid_over : Result → ℕ → ℕ
laid_over r x = flags_over r.carry r.overflow x
