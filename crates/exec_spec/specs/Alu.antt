-- What an operation gives of destination and source: a word, and the flags it sets (1.8 and the pages of section 3.3).
-- Assumes nothing.
use Rattle.std.specs.Prelude.{ℕ, Bool, true, false}
use Rattle.std.specs.Int.Bits.{bit_and, bit_or, bit_xor}
use Rattle.word.specs.Fields.{bit_of, put_of}
use Rattle.word.specs.Sums.{add_of, sub_of, equal_of, greater_of, higher_of}
use Rattle.word.specs.Products.{mul_of, div_of, udiv_of, urem_of}
use Rattle.word.specs.Shifts.{shl_of, shr_of, ushr_of}
use Rattle.machine.specs.Registers.{psw}
use Rattle.machine.specs.Status.{Cpu, reg, with}
use Rattle.exec_spec.specs.declared.Operation.{Operation}
use Rattle.exec_spec.specs.declared.Operation.TheVariants.{Add, Sub, Mul, Div, Rem, Udiv, Urem, And, Or, Xor, Shl, Shr, Ushr}
use Rattle.exec_spec.specs.declared.Relation.{Relation}
use Rattle.exec_spec.specs.declared.Relation.TheVariants.{Equal, Greater, Higher}
use Rattle.machine.specs.Bits.{flag_bit, carry_bit, overflow_bit}

-- a flag that stays, or gets a value
pub data Flag : Type 0 where
  stays : Flag
  gets : Bool → Flag

pub record Result : Type 0 where
  pub value : ℕ
  pub carry : Flag
  pub overflow : Flag

abbrev pub unflagged : ℕ → Result
unflagged v = record { value = v; carry = stays; overflow = stays }

-- operate on destination d and source s
abbrev pub operate : Operation → ℕ → ℕ → Result
operate Add d s = record { value = (add_of d s).value; carry = gets (add_of d s).carry; overflow = gets (add_of d s).overflow }
operate Sub d s = record { value = (sub_of d s).value; carry = gets (sub_of d s).carry; overflow = gets (sub_of d s).overflow }
operate Mul d s = record { value = (mul_of d s).value; carry = gets (mul_of d s).carry; overflow = gets (mul_of d s).overflow }
operate Div d s = record { value = (div_of d s).value; carry = stays; overflow = gets (div_of d s).overflow }
operate Rem d s = record { value = (div_of d s).rest; carry = stays; overflow = gets false }
operate Udiv d s = record { value = udiv_of d s; carry = gets false; overflow = stays }
operate Urem d s = record { value = urem_of d s; carry = gets false; overflow = stays }
operate And d s = unflagged (bit_and d s)
operate Or d s = unflagged (bit_or d s)
operate Xor d s = unflagged (bit_xor d s)
operate Shl d s = unflagged (shl_of d s)
operate Shr d s = unflagged (shr_of d s)
operate Ushr d s = unflagged (ushr_of d s)

-- the operations that a source of 0 makes an exception 0x1
abbrev pub divides : Operation → Bool
divides Add = false
divides Sub = false
divides Mul = false
divides Div = true
divides Rem = true
divides Udiv = true
divides Urem = true
divides And = false
divides Or = false
divides Xor = false
divides Shl = false
divides Shr = false
divides Ushr = false

-- CMP: src1 rel src2
abbrev pub related : Relation → ℕ → ℕ → Bool
related Equal s d = equal_of s d
related Greater s d = greater_of s d
related Higher s d = higher_of s d

abbrev pub bit_digit : Bool → ℕ
bit_digit true = 1
bit_digit false = 0

-- a word with bit n as b
abbrev pub with_bit_as : ℕ → Bool → ℕ → ℕ
with_bit_as n b x = put_of x n (bit_digit b)

abbrev pub flagged : ℕ → Flag → ℕ → ℕ
flagged n stays x = x
flagged n (gets b) x = with_bit_as n b x

-- the flags laid over PSW as it then is
abbrev pub flags_over : Flag → Flag → ℕ → ℕ
flags_over cf vf x = flagged overflow_bit vf (flagged carry_bit cf x)

abbrev pub with_flags : Cpu → Flag → Flag → Cpu
with_flags c cf vf = with c psw (flags_over cf vf (reg c psw))

abbrev pub with_flag : Cpu → Bool → Cpu
with_flag c f = with c psw (with_bit_as flag_bit f (reg c psw))

abbrev pub psw_bit : Cpu → ℕ → Bool
psw_bit c n = bit_of (reg c psw) n
