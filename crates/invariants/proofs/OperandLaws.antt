-- Operands of dyadics keep to the rules: found, read, written.
-- Assumes nothing.
use Prim.Native.Nat.{ℕ, zero, suc, ◌+◌, ◌*◌, ◌/◌, ◌%◌, ◌^◌, ◌<◌, ◌≤◌}
use mathlib.Core.Path.{◌≡◌, refl}
use mathlib.Core.Bool.{Bool, true, false, cond, ◌&&◌, ◌||◌, true≢false, false≢true}
use mathlib.Core.List.{List, [], ◌∷◌}
use native.Mathlib.Nat.{mod-lt}
use native.Mathlib.Omega.{arith}
use lib.Dec.{T, eqb, ltb, leb, leb→le}
use lib.ListN.{get_or}
use lib.Pow.{pow_pos, pow_mono, shl_lt}
use Rattle.word.proofs.CaseLaws.{or_left, or_right}
use Rattle.word.specs.Fields.{bit_of}
use Rattle.word.specs.declared.Width.TheVariants.{Word}
use Rattle.isa.specs.declared.Mode.{Mode}
use Rattle.isa.specs.declared.Operand.{Operand}
use Rattle.isa.specs.declared.Operand.TheVariants.{General, Register}
use Rattle.isa.specs.declared.Wide.{Wide}
use Rattle.isa.specs.declared.Wide.TheVariants.{Three, Five}
use Rattle.isa.specs.Legal.{is_register}
use Rattle.memory.specs.Exceptions.{privilege_violation, unimplemented_register}
use Rattle.machine.specs.Registers.{config, id, isp, pc, msp, shad, sp, low_bits, bit_counts, unreserved, bank_size, trace_due, prefixed_registers, register_of}
use Rattle.machine.specs.Status.{Cpu, reg, with, csp, is_user}
use Rattle.word.specs.Sums.{plus_of}
use Rattle.exec_spec.specs.Operands.{ModeKind, absolute, offset, indirect, constant, mode_kind, width_of, absolute_address, stack_address, Place, in_memory, in_register, literal, located, locate, read_place, read_operand, shadowed, write_register, write_place, write_accumulator, missing, check_registers}
use Rattle.access_spec.proofs.BoundedLaws.{Any}
use Rattle.invariants.proofs.RuleLaws.{Rules, Value, Part, bind, gives, stops, either}
use Rattle.invariants.proofs.AccessLaws.{plus_value, read_data_law, write_data_law}

-- ---- a word without its reserved bits

abbrev fits : List ℕ → List ℕ → Bool
fits [] [] = true
fits [] (l ∷ ls) = false
fits (n ∷ ns) [] = false
fits (n ∷ ns) (l ∷ ls) = leb (n + l) 32 && fits ns ls

both : (a b : Bool) → T (a && b) → T a × T b
both true b t = (tt, t)
both false b t = absurd t

in_word : (ns ls : List ℕ) → T (fits ns ls) → (k : ℕ) → get_or ns k 32 + get_or ls k 0 ≤ 32
in_word [] [] t k = omega arith
in_word [] (l ∷ ls) t k = absurd t
in_word (n ∷ ns) [] t k = absurd t
in_word (n ∷ ns) (l ∷ ls) t zero = leb→le (n + l) 32 (both (leb (n + l) 32) (fits ns ls) t).0
in_word (n ∷ ns) (l ∷ ls) t (suc k) = in_word ns ls (both (leb (n + l) 32) (fits ns ls) t).1 k

pub kept_word : (k v : ℕ) → unreserved k v < 2 ^ 32
kept_word k v =
    let n : ℕ = get_or bit_counts k 32 in
    let l : ℕ = get_or low_bits k 0 in
    let small : v / 2 ^ l % 2 ^ n < 2 ^ n = mod-lt _ (pow_pos n) in
    let most : 2 ^ (n + l) ≤ 2 ^ 32 = pow_mono (in_word bit_counts low_bits tt k) in
    omega (arith, shl_lt n l small)

-- ---- a register that is not missing is one of the bank's thirteen

or_holds : (a b : Bool) → T a → T (a || b)
or_holds true b t = tt
or_holds false b t = absurd t

first : (a b : Bool) → T (a || b) → b ≡ false → T a
first true b t e = tt
first false true t e = absurd (true≢false e)
first false false t e = t

abbrev registers : List ℕ → Bool
registers [] = true
registers (r ∷ rs) = (ltb r trace_due || eqb r bank_size) && registers rs

register_at : (rs : List ℕ) → T (registers rs) → (n : ℕ) → eqb (get_or rs n bank_size) bank_size ≡ false → T (ltb (get_or rs n bank_size) trace_due)
register_at [] t n e = absurd (true≢false e)
register_at (r ∷ rs) t zero e = first (ltb r trace_due) (eqb r bank_size) (both (ltb r trace_due || eqb r bank_size) (registers rs) t).0 e
register_at (r ∷ rs) t (suc n) e = register_at rs (both (ltb r trace_due || eqb r bank_size) (registers rs) t).1 n e

-- ---- operands that fit: addresses are words, and a register is only named where all are allowed

abbrev pub AddressFits : Wide → ModeKind → ℕ → Type 0
AddressFits Three absolute v = v < 2 ^ 16
AddressFits Five absolute v = v < 2 ^ 32
AddressFits w offset v = Unit
AddressFits w indirect v = Unit
AddressFits w constant v = Unit

abbrev pub OperandFits : Wide → Operand → Type 0
OperandFits w (General m v) = AddressFits w (mode_kind m) v
OperandFits w (Register n) = Unit

-- a register of the bank, where all are allowed
abbrev pub RegisterFits : Rules → ℕ → Type 0
RegisterFits k r = k.Free × T (ltb r trace_due)

abbrev pub Named : Rules → Operand → Type 0
Named k (General m v) = Unit
Named k (Register n) = RegisterFits k (register_of n)

abbrev pub PlaceFits : Rules → Place → Type 0
PlaceFits k (in_memory m a) = Value k a
PlaceFits k (in_register n) = RegisterFits k n
PlaceFits k (literal v) = Unit

module _ (k : Rules) where
  absolute_value : (c : Cpu) (w : Wide) (v : ℕ) → k.Holds c → AddressFits w absolute v → Value k (absolute_address c w v)
  absolute_value c Five v h f = λ _. f
  absolute_value c Three v h f = go (bit_of (reg c config) 17)
    where
      go : (b : Bool) → Value k (cond b (plus_of (reg c pc / 2 ^ 29 * 2 ^ 29) v) v)
      go true = plus_value k _ v
      go false = λ t. omega (arith, f)

  located_part : (c : Cpu) (w : Wide) (n : ModeKind) (m : Mode) (v : ℕ) → k.Holds c → AddressFits w n v → Part k (PlaceFits k) 1 (located c w n m v)
  unfolding located
  located_part c w absolute m v h f = gives (absolute_value c w v h f)
  located_part c w offset m v h f = gives (plus_value k _ v)
  located_part c w indirect m v h f = bind (read_data_law k c Word (stack_address c v) h (plus_value k _ v)) λ a g. gives {n = 0} g
  located_part c w constant m v h f = gives tt

  pub locate_part : (c : Cpu) (w : Wide) (o : Operand) → k.Holds c → OperandFits w o → Named k o → Part k (PlaceFits k) 1 (locate c w o)
  unfolding locate
  locate_part c w (General m v) h f n = located_part c w (mode_kind m) m v h f
  locate_part c w (Register x) h f n = gives n

  pub read_place_law : (c : Cpu) (p : Place) → k.Holds c → PlaceFits k p → Part k Any 1 (read_place c p)
  unfolding read_place
  read_place_law c (in_memory m a) h f = bind (read_data_law k c (width_of m) a h f) λ x _. gives {n = 0} tt
  read_place_law c (in_register n) h f = gives tt
  read_place_law c (literal v) h f = gives tt

  pub read_operand_law : (c : Cpu) (w : Wide) (o : Operand) → k.Holds c → OperandFits w o → Named k o → Part k Any 2 (read_operand c w o)
  unfolding read_operand
  read_operand_law c w o h f n = bind (locate_part c w o h f n) λ p g. read_place_law c p h g

  shadow_holds : (c : Cpu) (r v : ℕ) → k.Holds c → Value k v → k.Holds (shadowed c r v)
  shadow_holds c r v h f = go (eqb r (csp c.bank))
    where
      go : (b : Bool) → k.Holds (cond b (with c shad v) c)
      go true = k.plain c shad v tt h f
      go false = h

  pub register_holds : (c : Cpu) (r v : ℕ) → RegisterFits k r → k.Holds c → k.Holds (write_register c r v)
  unfolding write_register
  register_holds c r v f h = go (eqb r id) (eqb r sp) (eqb r isp)
    where
      stack : k.Holds (with (with c sp (unreserved sp v)) msp (unreserved sp v))
      stack = k.plain _ msp _ tt (k.plain c sp _ tt h (λ _. kept_word sp v)) (λ _. kept_word sp v)

      go : (x y z : Bool)
          → k.Holds (cond x c (cond y (shadowed (with (with c sp (unreserved sp v)) msp (unreserved sp v)) sp (unreserved sp v))
          (cond z (shadowed (with c isp (unreserved isp v)) isp (unreserved isp v)) (with c r (unreserved r v)))))
      go true y z = h
      go false true z = shadow_holds _ sp _ stack (λ _. kept_word sp v)
      go false false true = shadow_holds _ isp _ (k.plain c isp _ tt h (λ _. kept_word isp v)) (λ _. kept_word isp v)
      go false false false = k.register c r (unreserved r v) (or_holds (ltb r trace_due) (leb (unreserved r v) 1) f.1) f.0 h (λ _. kept_word r v)

  pub write_place_law : (c : Cpu) (p : Place) (v : ℕ) → k.Holds c → PlaceFits k p → Part k k.Holds 1 (write_place c p v)
  unfolding write_place
  write_place_law c (in_memory m a) v h f = write_data_law k c (width_of m) a v h f
  write_place_law c (in_register n) v h f = gives (register_holds c n v f h)
  write_place_law c (literal x) v h f = gives h

  pub write_accumulator_law : (c : Cpu) (v : ℕ) → k.Holds c → Part k k.Holds 1 (write_accumulator c v)
  unfolding write_accumulator
  write_accumulator_law c v h = write_data_law k c Word (stack_address c 4) v h (plus_value k _ 4)

  -- past the check no operand is a register, or the level is the kernel's
  pub check_registers_law : (c : Cpu) (s d : Operand) → k.Holds c → Part k (λ e. k.Holds e × (Named k s × Named k d)) 0 (check_registers c s d)
  unfolding check_registers
  check_registers_law c s d h =
      either (is_user c.bank && (is_register s || is_register d)) (λ _. stops (k.raises privilege_violation refl) h)
      (λ e. either (missing s || missing d) (λ m. stops (k.raises_all (looked_up s d e m) unimplemented_register) h)
      (λ m. gives (h, go s d e (or_left (missing s) (missing d) m) (or_right (missing s) (missing d) m))))
    where
      level : (b : Bool) → (b && true) ≡ false → b ≡ false
      level true e = e
      level false e = refl

      free : (is_user c.bank && true) ≡ false → k.Free
      free e = k.kernel c h (level (is_user c.bank) e)

      named : (n : ℕ) → (is_user c.bank && true) ≡ false → eqb (register_of n) bank_size ≡ false → RegisterFits k (register_of n)
      named n e m = (free e, register_at prefixed_registers tt n m)

      -- what is missing is a register, and at user level the check has stopped before it is looked for
      looked_up : (s d : Operand) → (is_user c.bank && (is_register s || is_register d)) ≡ false → (missing s || missing d) ≡ true → k.Free
      looked_up (General m v) (General n w) e x = absurd (false≢true x)
      looked_up (General m v) (Register n) e x = free e
      looked_up (Register m) d e x = free e

      go : (s d : Operand) → (is_user c.bank && (is_register s || is_register d)) ≡ false → missing s ≡ false → missing d ≡ false → Named k s × Named k d
      go (General m v) (General n w) e x y = (tt, tt)
      go (General m v) (Register n) e x y = (tt, named n e y)
      go (Register m) (General n w) e x y = (named m e x, tt)
      go (Register m) (Register n) e x y = (named m e x, named n e y)
