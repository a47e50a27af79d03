-- Instructions of two operands: source, destination, zero divide, write, in document 01's order.
-- Assumes nothing.
use Rattle.std.specs.Prelude.{ℕ, zero, suc, ◌*◌, ◌%◌, Bool, true, false, cond, ◌&&◌, List, [], ◌∷◌, eqb}
use Rattle.word.specs.Fields.{bit_of}
use Rattle.word.specs.declared.Width.TheVariants.{Word}
use Rattle.word.specs.declared.Tagged.{Tagged}
use Rattle.word.specs.Sums.{plus_of}
use Rattle.word.specs.Tags.{tagged_add_of, tagged_sub_of}
use Rattle.isa.specs.declared.Operand.{Operand}
use Rattle.isa.specs.declared.Wide.{Wide}
use Rattle.isa.specs.Legal.{of_mode, double_word}
use Rattle.memory.specs.Exceptions.{alignment_fault}
use Rattle.access_spec.specs.Program.{Program, ret}
use Rattle.machine.specs.Registers.{psw}
use Rattle.machine.specs.Status.{Cpu, reg, with}
use Rattle.datapath.specs.Parts.{Out, stop, done, ◌>>=◌}
use Rattle.datapath.specs.Data.{read_data, write_data}
use Rattle.exec_spec.specs.declared.Operation.{Operation}
use Rattle.exec_spec.specs.declared.Relation.{Relation}
use Rattle.exec_spec.specs.declared.Task.{Task}
use Rattle.exec_spec.specs.declared.Task.TheVariants.{Compute, Accumulate, Interlock, Compare, TaggedAdd, TaggedSub, Move, MoveAddress, MoveWords}
use Rattle.memory.specs.Exceptions.{zero_divide}
use Rattle.machine.specs.Bits.{flag_bit, carry_bit, overflow_bit}
use Rattle.exec_spec.specs.Alu.{Result, operate, divides, related, with_flags, with_flag, with_bit_as}
use Rattle.exec_spec.specs.Operands.{Place, in_memory, in_register, literal, locate, read_place, read_operand, write_place, write_register, write_accumulator, check_registers}

-- "Division by zero results in a zero divide exception"
unfoldable pub check_divisor : Cpu → Operation → ℕ → Program (Out Cpu)
check_divisor c op x = cond (divides op && eqb x 0) (ret (stop zero_divide c)) (done c)

-- the source's value, the destination's place and its value, then the rest
abbrev pub with_operands : Cpu → Wide → Operand → Operand → (ℕ → Place → ℕ → Program (Out Cpu)) → Program (Out Cpu)
with_operands c w s d f = do
  x ← read_operand c w s
  p ← locate c w d
  y ← read_place c p
  f x p y

-- ADD, SUB, MUL, DIV, REM, UDIV, UREM, AND, OR, XOR, SHL, SHR, USHR: the result is written, then the flags are laid over
abbrev pub put_result : Cpu → Place → Result → Program (Out Cpu)
put_result c p r = do
  c ← write_place c p r.value
  done (with_flags c r.carry r.overflow)

abbrev pub compute_with : Cpu → Operation → Place → ℕ → ℕ → Program (Out Cpu)
compute_with c op p x y = do
  c ← check_divisor c op x
  put_result c p (operate op y x)

unfoldable pub compute : Cpu → Wide → Operation → Operand → Operand → Program (Out Cpu)
compute c w op s d = with_operands c w s d (λ x p y. compute_with c op p x y)

-- the same with a trailing 3: "the sum is placed in .. the Accumulator"
abbrev pub accumulate_result : Cpu → Result → Program (Out Cpu)
accumulate_result c r = do
  c ← write_accumulator c r.value
  done (with_flags c r.carry r.overflow)

abbrev pub accumulate_with : Cpu → Operation → ℕ → ℕ → Program (Out Cpu)
accumulate_with c op x y = do
  c ← check_divisor c op x
  accumulate_result c (operate op y x)

unfoldable pub accumulate : Cpu → Wide → Operation → Operand → Operand → Program (Out Cpu)
accumulate c w op s d = with_operands c w s d (λ x p y. accumulate_with c op x y)

-- ADDI, ANDI, ORI: "The original value of dst is placed in the accumulator", after dst; no flag changes
abbrev pub interlock_with : Cpu → Operation → Place → ℕ → ℕ → Program (Out Cpu)
interlock_with c op p x y = do
  c ← write_place c p (operate op y x).value
  write_accumulator c y

unfoldable pub interlock : Cpu → Wide → Operation → Operand → Operand → Program (Out Cpu)
interlock c w op s d = with_operands c w s d (λ x p y. interlock_with c op p x y)

-- CMP
unfoldable pub compare : Cpu → Wide → Relation → Operand → Operand → Program (Out Cpu)
compare c w r s d = with_operands c w s d (λ x p y. done (with_flag c (related r x y)))

-- TADD, TSUB: the flags are set, then the result is stored, unless F is set
abbrev pub tagged_over : Tagged → ℕ → ℕ
tagged_over t x = with_bit_as flag_bit t.flag (with_bit_as overflow_bit t.overflow (with_bit_as carry_bit t.carry x))

abbrev pub tagged_flags : Cpu → Tagged → Cpu
tagged_flags c t = with c psw (tagged_over t (reg c psw))

-- a store that faults leaves the flags; a register takes the result after them
abbrev pub put_tagged : Cpu → Tagged → Place → Program (Out Cpu)
put_tagged c t p = do
  c ← write_place c p t.value
  done (tagged_flags c t)

unfoldable pub write_tagged : Cpu → Tagged → Place → Program (Out Cpu)
write_tagged c t (in_memory m a) = put_tagged c t (in_memory m a)
write_tagged c t (in_register k) = done (write_register (tagged_flags c t) k t.value)
write_tagged c t (literal v) = done (tagged_flags c t)

abbrev pub store_tagged : Cpu → Tagged → Place → Program (Out Cpu)
store_tagged c t p = cond t.stored (write_tagged c t p) (done (tagged_flags c t))

abbrev pub tagged_with : Bool → ℕ → ℕ → ℕ → Tagged
tagged_with true psw y x = tagged_sub_of y x (bit_of psw carry_bit) (bit_of psw overflow_bit)
tagged_with false psw y x = tagged_add_of y x (bit_of psw carry_bit) (bit_of psw overflow_bit)

abbrev pub tagged : Bool → Cpu → ℕ → ℕ → Tagged
tagged minus c y x = tagged_with minus (reg c psw) y x

unfoldable pub compute_tagged : Cpu → Wide → Bool → Operand → Operand → Program (Out Cpu)
compute_tagged c w minus s d = with_operands c w s d (λ x p y. store_tagged c (tagged minus c y x) p)

-- MOV
abbrev pub move_to : Cpu → Wide → Operand → ℕ → Program (Out Cpu)
move_to c w d v = do
  p ← locate c w d
  write_place c p v

unfoldable pub move : Cpu → Wide → Operand → Operand → Program (Out Cpu)
move c w s d = do
  x ← read_operand c w s
  move_to c w d x

-- MOVA: "The address of the source operand is calculated and stored in the destination"; it is neither aligned nor translated
abbrev pub place_address : Place → ℕ
place_address (in_memory m a) = a
place_address (in_register k) = 0
place_address (literal v) = v

unfoldable pub move_address : Cpu → Wide → Operand → Operand → Program (Out Cpu)
move_address c w s d = do
  a ← locate c w s
  move_to c w d (place_address a)

-- DQM: two or four words by the destination's mode; all are read before the destination is found
abbrev pub word_count : Operand → ℕ
word_count d = cond (of_mode double_word d) 2 4

abbrev pub copies : ℕ → ℕ → List ℕ
copies zero v = []
copies (suc n) v = v ∷ copies n v

unfoldable pub read_words : Cpu → ℕ → ℕ → Program (Out (List ℕ))
read_words c a zero = done []
read_words c a (suc n) = do
  x ← read_data c Word a
  xs ← read_words c (plus_of a 4) n
  done (x ∷ xs)

-- "addresses of quad-word operands must be divisible by 16 .. addresses of double-word operands .. by 8"
unfoldable pub read_many : Cpu → ℕ → Place → Program (Out (List ℕ))
read_many c n (in_memory m a) = cond (eqb (a % (n * 4)) 0) (read_words c a n) (ret (stop alignment_fault c))
read_many c n (in_register k) = done (copies n (reg c k))
read_many c n (literal v) = done (copies n v)

unfoldable pub write_words : Cpu → ℕ → List ℕ → Program (Out Cpu)
write_words c a [] = done c
write_words c a (x ∷ xs) = do
  c ← write_data c Word a x
  write_words c (plus_of a 4) xs

unfoldable pub write_many : Cpu → ℕ → Place → List ℕ → Program (Out Cpu)
write_many c n (in_memory m a) xs = cond (eqb (a % (n * 4)) 0) (write_words c a xs) (ret (stop alignment_fault c))
write_many c n (in_register k) xs = done c
write_many c n (literal v) xs = done c

unfoldable pub move_words : Cpu → Wide → Operand → Operand → Program (Out Cpu)
move_words c w s d = do
  p ← locate c w s
  xs ← read_many c (word_count d) p
  q ← locate c w d
  write_many c (word_count d) q xs

unfoldable pub perform : Cpu → Wide → Task → Operand → Operand → Program (Out Cpu)
perform c w (Compute op) s d = compute c w op s d
perform c w (Accumulate op) s d = accumulate c w op s d
perform c w (Interlock op) s d = interlock c w op s d
perform c w (Compare r) s d = compare c w r s d
perform c w TaggedAdd s d = compute_tagged c w false s d
perform c w TaggedSub s d = compute_tagged c w true s d
perform c w Move s d = move c w s d
perform c w MoveAddress s d = move_address c w s d
perform c w MoveWords s d = move_words c w s d

-- privilege and missing registers come before any access
unfoldable pub dyadic : Cpu → Wide → Task → Operand → Operand → Program (Out Cpu)
dyadic c w t s d = do
  c ← check_registers c s d
  perform c w t s d
