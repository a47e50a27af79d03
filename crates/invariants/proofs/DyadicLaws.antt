-- Instructions of two operands keep to the rules, in at most ten accesses.
-- Assumes nothing.
use Prim.Native.Nat.{ℕ, zero, suc, ◌*◌, ◌%◌, ◌≤◌}
use mathlib.Core.Path.{◌≡◌, refl}
use mathlib.Core.Bool.{Bool, true, false, cond, ◌&&◌}
use mathlib.Core.List.{List, [], ◌∷◌}
use native.Mathlib.Omega.{arith}
use lib.Dec.{eqb}
use lib.ListN.{length}
use Rattle.word.specs.declared.Width.TheVariants.{Word}
use Rattle.word.specs.declared.Tagged.{Tagged}
use Rattle.word.specs.Sums.{plus_of}
use Rattle.isa.specs.declared.Operand.{Operand}
use Rattle.isa.specs.declared.Wide.{Wide}
use Rattle.isa.specs.Legal.{of_mode, double_word}
use Rattle.memory.specs.Exceptions.{alignment_fault, zero_divide}
use Rattle.machine.specs.Registers.{psw}
use Rattle.machine.specs.Status.{Cpu, reg}
use Rattle.exec_spec.specs.declared.Operation.{Operation}
use Rattle.exec_spec.specs.declared.Relation.{Relation}
use Rattle.exec_spec.specs.declared.Task.{Task}
use Rattle.exec_spec.specs.declared.Task.TheVariants.{Compute, Accumulate, Interlock, Compare, TaggedAdd, TaggedSub, Move, MoveAddress, MoveWords}
use Rattle.machine.specs.Bits.{flag_bit, carry_bit, overflow_bit}
use Rattle.exec_spec.specs.Alu.{Flag, operate, related, divides, with_flags, with_flag}
use Rattle.exec_spec.specs.Operands.{Place, in_memory, in_register, literal}
use Rattle.exec_spec.specs.Dyadic.{check_divisor, compute, accumulate, interlock, compare, tagged_flags, write_tagged, tagged, compute_tagged, move, move_address, word_count, copies, read_words, read_many, write_words, write_many, move_words, perform, dyadic}
use Rattle.invariants.proofs.RuleLaws.{Rules, Value, Part, bind, more, gives, stops, either}
use Rattle.invariants.proofs.FlagLaws.{alike_same, alike_bit, alike_flag}
use Rattle.invariants.proofs.AccessLaws.{plus_value, read_data_law, write_data_law}
use Rattle.invariants.proofs.OperandLaws.{OperandFits, Named, PlaceFits, locate_part, read_place_law, read_operand_law, register_holds, write_place_law, write_accumulator_law, check_registers_law}

module _ (k : Rules) where
  -- ---- flags

  flags_hold : (c : Cpu) (x y : Flag) → k.Holds c → k.Holds (with_flags c x y)
  flags_hold c x y h =
      k.status c _ h (alike_flag overflow_bit y _ _ tt (omega arith) (alike_flag carry_bit x _ _ tt (omega arith) (alike_same (reg c psw))))

  flag_holds : (c : Cpu) (b : Bool) → k.Holds c → k.Holds (with_flag c b)
  flag_holds c b h = k.status c _ h (alike_bit flag_bit b _ _ tt (omega arith) (alike_same (reg c psw)))

  tagged_holds : (c : Cpu) (t : Tagged) → k.Holds c → k.Holds (tagged_flags c t)
  tagged_holds c t h =
      k.status c _ h
      (alike_bit flag_bit t.flag _ _ tt (omega arith)
      (alike_bit overflow_bit t.overflow _ _ tt (omega arith) (alike_bit carry_bit t.carry _ _ tt (omega arith) (alike_same (reg c psw)))))

  -- ---- several words

  copies_long : (n v : ℕ) → length (copies n v) ≡ n
  copies_long zero v = refl
  copies_long (suc n) v = rw (copies_long n v)

  read_words_law : (c : Cpu) (a n : ℕ) → k.Holds c → Value k a → Part k (λ xs. length xs ≡ n) n (read_words c a n)
  unfolding read_words
  read_words_law c a zero h f = gives refl
  read_words_law c a (suc n) h f =
      more (suc n) (omega arith)
      (bind (read_data_law k c Word a h f) λ x _. bind (read_words_law c (plus_of a 4) n h (plus_value k a 4)) λ xs e. gives {n = 0} (rw e))

  read_many_law : (c : Cpu) (n : ℕ) (p : Place) → k.Holds c → PlaceFits k p → Part k (λ xs. length xs ≡ n) n (read_many c n p)
  unfolding read_many
  read_many_law c n (in_memory m a) h f = either (eqb (a % (n * 4)) 0) (λ _. read_words_law c a n h f) (λ _. stops (k.raises alignment_fault refl) h)
  read_many_law c n (in_register r) h f = gives (copies_long n (reg c r))
  read_many_law c n (literal v) h f = gives (copies_long n v)

  write_words_law : (c : Cpu) (a : ℕ) (xs : List ℕ) → k.Holds c → Value k a → Part k k.Holds (length xs) (write_words c a xs)
  unfolding write_words
  write_words_law c a [] h f = gives h
  write_words_law c a (x ∷ xs) h f =
      more (suc (length xs)) (omega arith)
      (bind (write_data_law k c Word a x h f) λ d g. write_words_law d (plus_of a 4) xs g (plus_value k a 4))

  write_many_law : (c : Cpu) (n : ℕ) (p : Place) (xs : List ℕ) → k.Holds c → PlaceFits k p → Part k k.Holds (length xs) (write_many c n p xs)
  unfolding write_many
  write_many_law c n (in_memory m a) xs h f =
      either (eqb (a % (n * 4)) 0) (λ _. write_words_law c a xs h f) (λ _. stops (k.raises alignment_fault refl) h)
  write_many_law c n (in_register r) xs h f = gives h
  write_many_law c n (literal v) xs h f = gives h

  count_most : (d : Operand) → word_count d ≤ 4
  count_most d = go (of_mode double_word d)
    where
      go : (b : Bool) → cond b 2 4 ≤ 4
      go true = omega arith
      go false = omega arith

  -- ---- each task; in the order of document 01

  check_divisor_law : (c : Cpu) (op : Operation) (x : ℕ) → k.Holds c → Part k k.Holds 0 (check_divisor c op x)
  unfolding check_divisor
  check_divisor_law c op x h = either (divides op && eqb x 0) (λ _. stops (k.raises zero_divide refl) h) (λ _. gives h)

  write_tagged_law : (c : Cpu) (t : Tagged) (p : Place) → k.Holds c → PlaceFits k p → Part k k.Holds 1 (write_tagged c t p)
  unfolding write_tagged
  write_tagged_law c t (in_memory m a) h f = bind (write_place_law k c (in_memory m a) t.value h f) λ d g. gives {n = 0} (tagged_holds d t g)
  write_tagged_law c t (in_register r) h f = gives (register_holds k _ r _ f (tagged_holds c t h))
  write_tagged_law c t (literal v) h f = gives (tagged_holds c t h)

  module _ (c : Cpu) (w : Wide) (s d : Operand) (h : k.Holds c) (fs : OperandFits w s) (fd : OperandFits w d) (ns : Named k s) (nd : Named k d) where
    compute_part : (op : Operation) → Part k k.Holds 5 (compute c w op s d)
    unfolding compute
    compute_part op =
        bind (read_operand_law k c w s h fs ns) λ x _.
        bind (locate_part k c w d h fd nd) λ p f.
        bind (read_place_law k c p h f) λ y _.
        bind (check_divisor_law c op x h) λ c g.
        bind (write_place_law k c p _ g f) λ c g. gives {n = 0} (flags_hold c (operate op y x).carry (operate op y x).overflow g)

    accumulate_part : (op : Operation) → Part k k.Holds 5 (accumulate c w op s d)
    unfolding accumulate
    accumulate_part op =
        bind (read_operand_law k c w s h fs ns) λ x _.
        bind (locate_part k c w d h fd nd) λ p f.
        bind (read_place_law k c p h f) λ y _.
        bind (check_divisor_law c op x h) λ c g.
        bind (write_accumulator_law k c _ g) λ c g. gives {n = 0} (flags_hold c (operate op y x).carry (operate op y x).overflow g)

    interlock_part : (op : Operation) → Part k k.Holds 6 (interlock c w op s d)
    unfolding interlock
    interlock_part op =
        bind (read_operand_law k c w s h fs ns) λ x _.
        bind (locate_part k c w d h fd nd) λ p f.
        bind (read_place_law k c p h f) λ y _.
        bind (write_place_law k c p _ h f) λ c g. write_accumulator_law k c y g

    compare_part : (r : Relation) → Part k k.Holds 4 (compare c w r s d)
    unfolding compare
    compare_part r =
        bind (read_operand_law k c w s h fs ns) λ x _.
        bind (locate_part k c w d h fd nd) λ p f.
        bind (read_place_law k c p h f) λ y _. gives {n = 0} (flag_holds c (related r x y) h)

    tagged_part : (minus : Bool) → Part k k.Holds 5 (compute_tagged c w minus s d)
    unfolding compute_tagged
    tagged_part minus =
        bind (read_operand_law k c w s h fs ns) λ x _.
        bind (locate_part k c w d h fd nd) λ p f.
        bind (read_place_law k c p h f) λ y _.
        either (tagged minus c y x).stored (λ _. write_tagged_law c (tagged minus c y x) p h f) (λ _. gives (tagged_holds c (tagged minus c y x) h))

    move_part : Part k k.Holds 4 (move c w s d)
    unfolding move
    move_part =
        bind (read_operand_law k c w s h fs ns) λ x _.
        bind (locate_part k c w d h fd nd) λ p f. write_place_law k c p x h f

    address_part : Part k k.Holds 3 (move_address c w s d)
    unfolding move_address
    address_part =
        bind (locate_part k c w s h fs ns) λ a _.
        bind (locate_part k c w d h fd nd) λ p f. write_place_law k c p _ h f

    words_part : Part k k.Holds 10 (move_words c w s d)
    unfolding move_words
    words_part =
        bind (locate_part k c w s h fs ns) λ p f.
        bind (more 4 (count_most d) (read_many_law c (word_count d) p h f)) λ xs e.
        bind (locate_part k c w d h fd nd) λ q g. more 4 (rw e (count_most d)) (write_many_law c (word_count d) q xs h g)

    perform_part : (t : Task) → Part k k.Holds 10 (perform c w t s d)
    unfolding perform
    perform_part (Compute op) = more 10 (omega arith) (compute_part op)
    perform_part (Accumulate op) = more 10 (omega arith) (accumulate_part op)
    perform_part (Interlock op) = more 10 (omega arith) (interlock_part op)
    perform_part (Compare r) = more 10 (omega arith) (compare_part r)
    perform_part TaggedAdd = more 10 (omega arith) (tagged_part false)
    perform_part TaggedSub = more 10 (omega arith) (tagged_part true)
    perform_part Move = more 10 (omega arith) move_part
    perform_part MoveAddress = more 10 (omega arith) address_part
    perform_part MoveWords = words_part

  pub dyadic_part : (c : Cpu) (w : Wide) (t : Task) (s d : Operand) → k.Holds c → OperandFits w s → OperandFits w d → Part k k.Holds 10 (dyadic c w t s d)
  unfolding dyadic
  dyadic_part c w t s d h fs fd = bind (check_registers_law k c s d h) λ e g. perform_part e w s d g.0 fs fd g.1.0 g.1.1 t
