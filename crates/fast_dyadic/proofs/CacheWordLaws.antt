-- Words of the stack that the cache holds.
-- Assumes nothing.
use Prim.Native.Nat.{ℕ, ◌%◌, ◌^◌, ◌<◌}
use mathlib.Core.Path.{◌≡◌, refl, sym, ap, subst, ◌∙◌}
use mathlib.Core.Bool.{Bool, true, false, ◌&&◌}
use mathlib.Core.List.{[]}
use native.Mathlib.Omega.{arith}
use lib.Dec.{eqb}
use borrow.Author.Tests.{eq-eqb}
use Rattle.word.specs.declared.Width.TheVariants.{Word}
use Rattle.isa.specs.declared.Mode.{Mode}
use Rattle.isa.specs.declared.Mode.TheVariants.{AbsoluteByte, AbsoluteUbyte, AbsoluteHalf, AbsoluteUhalf, StackByte, StackUbyte, StackHalf, StackUhalf, IndirectByte, IndirectUbyte, IndirectHalf, IndirectUhalf, AbsoluteWord, StackWord, IndirectWord, Immediate}
use Rattle.isa.specs.declared.Operand.TheVariants.{General}
use Rattle.isa.specs.declared.Wide.{Wide}
use Rattle.memory.specs.Answers.{good, answer_of}
use Rattle.memory.specs.Bytes.{place_of}
use Rattle.access_spec.specs.Program.{after}
use Rattle.machine.specs.Registers.{Bank, word, psw, sp, msp, stack_held}
use Rattle.machine.specs.Cache.{Cache, cache_read, cache_write}
use Rattle.machine.specs.Status.{Cpu, cpu, cached, is_little}
use Rattle.datapath.specs.Parts.{onward, ◌>>=◌, done}
use Rattle.datapath.specs.Data.{read_cached, read_data, write_cached, write_data}
use Rattle.exec_spec.specs.declared.Operation.{Operation}
use Rattle.exec_spec.specs.declared.Relation.{Relation}
use Rattle.exec_spec.specs.declared.Task.{Task}
use Rattle.exec_spec.specs.declared.Task.TheVariants.{Compute, Accumulate, Compare, Move}
use Rattle.exec_spec.specs.Alu.{Result, operate, divides, related, with_flags, with_flag}
use Rattle.exec_spec.specs.Operands.{mode_kind, stack_address, located, locate, read_place, read_operand, write_place, write_accumulator}
use Rattle.exec_spec.specs.Dyadic.{check_divisor}
use Rattle.exec_operands.specs.Code.{is_constant}
use Rattle.exec_alu.specs.Results.{unpacked}
use Rattle.step_spec.specs.Step.{holds_stack}
use Rattle.invariants.proofs.HeldLaws.{holds_with}
use Rattle.fast_dyadic.specs.Fast.{is_stack_word, is_fast, after_source}
use Rattle.fast_dyadic.proofs.GiveLaws.{good_is}

pub stack_word_is : (m : Mode) → is_stack_word m ≡ true → m ≡ StackWord
stack_word_is AbsoluteByte h = cc
stack_word_is AbsoluteUbyte h = cc
stack_word_is AbsoluteHalf h = cc
stack_word_is AbsoluteUhalf h = cc
stack_word_is StackByte h = cc
stack_word_is StackUbyte h = cc
stack_word_is StackHalf h = cc
stack_word_is StackUhalf h = cc
stack_word_is IndirectByte h = cc
stack_word_is IndirectUbyte h = cc
stack_word_is IndirectHalf h = cc
stack_word_is IndirectUhalf h = cc
stack_word_is AbsoluteWord h = cc
stack_word_is StackWord h = refl
stack_word_is IndirectWord h = cc
stack_word_is Immediate h = cc

immediate_is : (m : Mode) → is_constant (mode_kind m) ≡ true → m ≡ Immediate
immediate_is AbsoluteByte h = cc
immediate_is AbsoluteUbyte h = cc
immediate_is AbsoluteHalf h = cc
immediate_is AbsoluteUhalf h = cc
immediate_is StackByte h = cc
immediate_is StackUbyte h = cc
immediate_is StackHalf h = cc
immediate_is StackUhalf h = cc
immediate_is IndirectByte h = cc
immediate_is IndirectUbyte h = cc
immediate_is IndirectHalf h = cc
immediate_is IndirectUhalf h = cc
immediate_is AbsoluteWord h = cc
immediate_is StackWord h = cc
immediate_is IndirectWord h = cc
immediate_is Immediate h = refl

-- ---- a word of the cache

place_word : (l : Bool) (a : ℕ) → place_of l Word a ≡ a
place_word true a = refl
place_word false a = refl

-- the word at the stack offset v is at a
abbrev pub Near : Bank → ℕ → ℕ → Type 0
Near b v a = (a ≡ stack_address (cpu b []) v) × (cached b a ≡ true) × (a % 4 ≡ 0)

module _ (b : Bank) (q : Cache) (a : ℕ) (near : cached b a ≡ true) (whole : a % 4 ≡ 0) where
  pub word_read : read_data (cpu b q) Word a ≡ done (cache_read 4 q a)
  unfolding read_data read_cached
  word_read = rw (near, eq-eqb (a % 4) 0 whole, place_word (is_little b) a) refl

  pub word_written : (v : ℕ) → write_data (cpu b q) Word a v ≡ done (cpu b (cache_write 4 q a v))
  unfolding write_data write_cached
  word_written v = rw (near, eq-eqb (a % 4) 0 whole, place_word (is_little b) a) refl

-- ---- sources

module _ (b : Bank) (q : Cache) (m : Mode) (v : ℕ) (w : Wide) where
  pub source_constant : (f : Bool) → f ≡ is_constant (mode_kind m) → f ≡ true → (x : ℕ) → answer_of x ≡ good v → x < 2 ^ 32 → read_operand (cpu b q) w (General m v) ≡ done x
  unfolding read_operand locate located read_place ◌>>=◌ after onward
  source_constant f e h x ex l = rw (immediate_is m (sym e ∙ h)) (ap (λ (n : ℕ). done n) (good_is x v ex l))

  pub source_word : (f : Bool) → f ≡ is_stack_word m → f ≡ true → (a : ℕ) → Near b v a → (c n x : ℕ) → c ≡ a % 2 ^ 32 → a < 2 ^ 32 → n ≡ cache_read 4 q c → answer_of x ≡ good n → x < 2 ^ 32
      → read_operand (cpu b q) w (General m v) ≡ done x
  unfolding read_operand locate located read_place ◌>>=◌ after onward
  source_word f e h a k c n x ec la en ex l =
      rw (stack_word_is m (sym e ∙ h), ← k.0, word_read b q a k.1 k.2) (ap (λ (z : ℕ). done z) (ap (cache_read 4 q) (sym at) ∙ sym en ∙ good_is x n ex l))
    where
      at : c ≡ a
      at = let i : a % 2 ^ 32 ≡ a = omega arith in ec ∙ i

-- ---- the rest of a task: a is the address of the destination

module _ (b : Bank) (q : Cache) (a : ℕ) (near : cached b a ≡ true) (whole : a % 4 ≡ 0) (w : Wide) (d : ℕ) (there : a ≡ stack_address (cpu b []) d) (x : ℕ) where
  pub rest_move : (s : Cache) → s ≡ cache_write 4 q a x → after_source (cpu b q) w Move (General StackWord d) x ≡ done (cpu b s)
  unfolding locate located write_place ◌>>=◌ after onward
  rest_move s es = rw (← there, word_written b q a near whole x) (ap (λ (z : Cache). done (cpu b z)) (sym es))

  -- y is the destination's word
  module _ (y : ℕ) (ey : y ≡ cache_read 4 q a) where
    pub rest_compare : (r : Relation) (t : Bool) → t ≡ related r x y → (e : Bank) → ((p : Cache) → cpu e p ≡ with_flag (cpu b p) t)
        → after_source (cpu b q) w (Compare r) (General StackWord d) x ≡ done (cpu e q)
    unfolding locate located read_place ◌>>=◌ after onward
    rest_compare r t et e f = rw (← there, word_read b q a near whole) (ap (λ (c : Cpu). done c) (ap (λ (n : ℕ). with_flag (cpu b q) (related r x n)) (sym ey) ∙ ap (with_flag (cpu b q)) (sym et) ∙ sym (f q)))

    module _ (op : Operation) (g : Bool) (eg : g ≡ divides op) (z : Bool) (ez : z ≡ (g && eqb x 0)) (h : z ≡ false) (n : ℕ) (en : unpacked n ≡ operate op y x) (v : ℕ) (ev : v ≡ (unpacked n).value)
        (e : Bank) (f : (p : Cache) → cpu e p ≡ with_flags (cpu b p) (unpacked n).carry (unpacked n).overflow) where
      no_fault : (divides op && eqb x 0) ≡ false
      no_fault = ap (λ (j : Bool). j && eqb x 0) (sym eg) ∙ sym ez ∙ h

      flagged_as : (s : Cache) → with_flags (cpu b s) (operate op y x).carry (operate op y x).overflow ≡ cpu e s
      flagged_as s = ap (λ (r : Result). with_flags (cpu b s) r.carry r.overflow) (sym en) ∙ sym (f s)

      value_is : (operate op y x).value ≡ v
      value_is = ap (λ (r : Result). r.value) (sym en) ∙ sym ev

      pub rest_compute : (s : Cache) → s ≡ cache_write 4 q a v → after_source (cpu b q) w (Compute op) (General StackWord d) x ≡ done (cpu e s)
      unfolding locate located read_place check_divisor write_place ◌>>=◌ after onward
      rest_compute s es =
          rw (← there, word_read b q a near whole, ← ey, no_fault, value_is, word_written b q a near whole v)
          (ap (λ (c : Cpu). done c) (ap (λ (p : Cache). with_flags (cpu b p) (operate op y x).carry (operate op y x).overflow) (sym es) ∙ flagged_as s))

      pub rest_accumulate : (o : ℕ) → Near b 4 o → o < 2 ^ 32 → (i : ℕ) → i ≡ o % 2 ^ 32 → (s : Cache) → s ≡ cache_write 4 q i v → after_source (cpu b q) w (Accumulate op) (General StackWord d) x ≡ done (cpu e s)
      unfolding locate located read_place check_divisor write_accumulator ◌>>=◌ after onward
      rest_accumulate o ko lo i ei s es =
          rw (← there, word_read b q a near whole, ← ey, no_fault, value_is, ← ko.0, word_written b q o ko.1 ko.2 v)
          (ap (λ (c : Cpu). done c) (ap (λ (p : Cache). with_flags (cpu b p) (operate op y x).carry (operate op y x).overflow) (ap (λ (j : ℕ). cache_write 4 q j v) (sym at) ∙ sym es) ∙ flagged_as s))
        where
          at : i ≡ o
          at = let j : o % 2 ^ 32 ≡ o = omega arith in ei ∙ j

-- ---- flags change no stack pointer

module _ (b e : Bank) where
  pub flags_hold : (n : ℕ) → ((p : Cache) → cpu e p ≡ with_flags (cpu b p) (unpacked n).carry (unpacked n).overflow) → stack_held (word e sp) (word e msp) ≡ stack_held (word b sp) (word b msp)
  flags_hold n f = ap holds_stack (f []) ∙ holds_with (cpu b []) psw _ refl refl

  pub flag_holds : (t : Bool) → ((p : Cache) → cpu e p ≡ with_flag (cpu b p) t) → stack_held (word e sp) (word e msp) ≡ stack_held (word b sp) (word b msp)
  flag_holds t f = ap holds_stack (f []) ∙ holds_with (cpu b []) psw _ refl refl

-- ---- a task by its case

module _ (b e : Bank) (q s : Cache) (a x : ℕ) (t u : Task) (same : t ≡ u) where
  pub finish_known : is_fast u ≡ true → ((w : Wide) (d : ℕ) → a ≡ stack_address (cpu b []) d → after_source (cpu b q) w u (General StackWord d) x ≡ done (cpu e s)) → holds_stack (cpu e s) ≡ holds_stack (cpu b q)
      → (is_fast t ≡ true) × ((w : Wide) (d : ℕ) → a ≡ stack_address (cpu b []) d → after_source (cpu b q) w t (General StackWord d) x ≡ done (cpu e s)) × (holds_stack (cpu e s) ≡ holds_stack (cpu b q))
  finish_known f g h = rw same (f, g, h)

-- an address that fits is its low word
pub cached_low : (b : Bank) (v a c : ℕ) → Near b v a → a < 2 ^ 32 → c ≡ a % 2 ^ 32 → Near b v c
cached_low b v a c k l e = let i : a % 2 ^ 32 ≡ a = omega arith in subst (λ (n : ℕ). Near b v n) (sym (e ∙ i)) k
