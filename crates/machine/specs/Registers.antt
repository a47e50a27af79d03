-- The thirteen registers of Table 1-1 and what is due, in one bank; reserved bits; how a register is set.
-- Assumes nothing.
use Rattle.std.specs.Prelude.{ℕ, zero, suc, ◌+◌, ◌-◌, ◌*◌, ◌^◌, Bool, true, cond, not, ◌&&◌, ◌||◌, List, [], ◌∷◌, get_or, set, eqb, leb}
use Rattle.word.specs.Fields.{field_of}

-- ---- the bank: places of Table 1-1 less one, then the trace and the timer overflows that are due, each 1 or 0, and
-- whether input 0 was taken and no look has found another level since

abbrev pub config : ℕ
config = 0

abbrev pub fault : ℕ
fault = 1

abbrev pub id : ℕ
id = 2

abbrev pub isp : ℕ
isp = 3

abbrev pub msp : ℕ
msp = 4

abbrev pub pc : ℕ
pc = 5

abbrev pub psw : ℕ
psw = 6

abbrev pub shad : ℕ
shad = 7

abbrev pub sp : ℕ
sp = 8

abbrev pub stb : ℕ
stb = 9

abbrev pub timer1 : ℕ
timer1 = 10

abbrev pub timer2 : ℕ
timer2 = 11

abbrev pub vb : ℕ
vb = 12

abbrev pub trace_due : ℕ
trace_due = 13

abbrev pub timer1_due : ℕ
timer1_due = 14

abbrev pub timer2_due : ℕ
timer2_due = 15

abbrev pub nmi_taken : ℕ
nmi_taken = 16

abbrev pub bank_size : ℕ
bank_size = 17

abbrev pub Bank : Type 0
Bank = List ℕ

-- a register's word
abbrev pub word : Bank → ℕ → ℕ
word b k = get_or b k 0

-- ---- Table 1-24: a register's number after a CPU prefix, as its place in the bank; bank_size where there is none

abbrev pub prefixed_registers : List ℕ
prefixed_registers =
    bank_size ∷ msp ∷ isp ∷ sp ∷ config ∷ psw ∷ shad ∷ vb ∷ stb ∷ fault ∷ id ∷ timer1 ∷ timer2 ∷ []

abbrev pub register_of : ℕ → ℕ
register_of n = get_or prefixed_registers n bank_size

-- ---- reserved bits: Tables 1-2 to 1-14 give each register one run of bits; the others "return 0 when read"

abbrev pub low_bits : List ℕ
low_bits = 16 ∷ 0 ∷ 0 ∷ 4 ∷ 4 ∷ 1 ∷ 4 ∷ 4 ∷ 4 ∷ 11 ∷ 0 ∷ 0 ∷ 4 ∷ []

abbrev pub bit_counts : List ℕ
bit_counts = 16 ∷ 32 ∷ 32 ∷ 28 ∷ 28 ∷ 31 ∷ 13 ∷ 28 ∷ 28 ∷ 21 ∷ 32 ∷ 32 ∷ 28 ∷ []

-- a word with the reserved bits of register k 0
abbrev pub unreserved : ℕ → ℕ → ℕ
unreserved k v = field_of v (get_or low_bits k 0) (get_or bit_counts k 32) * 2 ^ get_or low_bits k 0

abbrev pub clean : ℕ → ℕ → Bool
clean k v = eqb (unreserved k v) v

-- ---- refusal 2, "bad register": unknown register, a reserved bit set, or MSP not in SP to SP + 256, a plain sum

abbrev pub register_refused : ℕ
register_refused = 2

abbrev pub stack_held : ℕ → ℕ → Bool
stack_held s m = leb s m && leb m (s + 256)

-- the first n registers have no reserved bit set
abbrev pub clean_below : ℕ → Bank → Bool
clean_below zero b = true
clean_below (suc n) b = clean_below n b && clean n (word b n)

unfoldable pub good_bank : Bank → Bool
good_bank b = clean_below 13 b && stack_held (word b sp) (word b msp)

-- ---- frame 01: the register at place p of Table 1-1 set to a word; SP sets MSP, ID ignores it

-- what is due is no register
abbrev pub is_register_place : ℕ → Bool
is_register_place p = leb 1 p && leb p 13

abbrev pub settable : Bank → ℕ → ℕ → Bool
settable b k v = clean k v && (not (eqb k msp) || stack_held (word b sp) v)

abbrev pub assigned : Bank → ℕ → ℕ → Bank
assigned b k v = cond (eqb k id) b (cond (eqb k sp) (set (set b sp v) msp v) (set b k v))

-- the bank after it, and 0 or the refusal
pub record Setting : Type 0 where
  pub refusal : ℕ
  pub bank : Bank

abbrev pub setting : ℕ → Bank → Setting
setting r b = record { refusal = r; bank = b }

unfoldable pub set_register : Bank → ℕ → ℕ → Setting
set_register b p v =
    cond (is_register_place p && settable b (p - 1) v) (setting 0 (assigned b (p - 1) v)) (setting register_refused b)

-- ---- the start: ID 0x0000003B, every other register 0, nothing due

abbrev pub start_bank : Bank
start_bank = 0 ∷ 0 ∷ 0x3B ∷ 0 ∷ 0 ∷ 0 ∷ 0 ∷ 0 ∷ 0 ∷ 0 ∷ 0 ∷ 0 ∷ 0 ∷ 0 ∷ 0 ∷ 0 ∷ 0 ∷ []
