-- Instructions of two operands, neither of them a register.
-- Assumes nothing.
use Prim.Native.Nat.{ℕ, ◌%◌, ◌^◌, ◌<◌}
use mathlib.Core.Path.{◌≡◌, refl, sym, ap, ◌∙◌}
use mathlib.Core.Bool.{Bool, true, and-false}
use mathlib.Core.List.{[]}
use native.Mathlib.Omega.{arith}
use Rattle.word.proofs.CaseLaws.{not_both}
use Rattle.isa.specs.declared.Mode.{Mode}
use Rattle.isa.specs.declared.Mode.TheVariants.{StackWord}
use Rattle.isa.specs.declared.Operand.{Operand}
use Rattle.isa.specs.declared.Operand.TheVariants.{General}
use Rattle.isa.specs.declared.Wide.{Wide}
use Rattle.memory.specs.Bytes.{Memory}
use Rattle.machine.specs.Registers.{Bank, pc}
use Rattle.machine.specs.Cache.{Cache}
use Rattle.machine.specs.Status.{Cpu, cpu, is_user}
use Rattle.datapath.specs.Parts.{done, ◌>>=◌}
use Rattle.exec_spec.specs.declared.Task.{Task}
use Rattle.exec_spec.specs.declared.Task.TheVariants.{Compute, Accumulate, Interlock, Compare, TaggedAdd, TaggedSub, Move, MoveAddress, MoveWords}
use Rattle.exec_spec.specs.Operands.{stack_address, locate, read_place, read_operand, check_registers}
use Rattle.exec_spec.specs.Dyadic.{compute, accumulate, compare, move, perform, dyadic}
use Rattle.exec_spec.specs.Control.{pc_advanced}
use Rattle.exec_spec.specs.Execute.{two_operands, execute_normal}
use Rattle.exec_operands.specs.Code.{place_at}
use Rattle.step_spec.specs.Step.{holds_stack}
use Rattle.invariants.proofs.HeldLaws.{holds_with}
use Rattle.fast_dyadic.specs.Fast.{gives, is_stack_word, is_fast, after_source}
use Rattle.fast_dyadic.proofs.GiveLaws.{gives_then, gives_done}
use Rattle.fast_dyadic.proofs.CacheWordLaws.{stack_word_is}

-- ---- sources

pub source_uncached : (b : Bank) (q : Cache) (w : Wide) (o : Operand) (m : Memory) (k a x : ℕ) → gives (locate (cpu b q) w o) m (place_at o k) m → k < 2 ^ 32 → a ≡ k % 2 ^ 32
    → gives (read_place (cpu b q) (place_at o a)) m x m → gives (read_operand (cpu b q) w o) m x m
unfolding read_operand
source_uncached b q w o m k a x g l ea h =
    let i : k % 2 ^ 32 ≡ k = omega arith in
    gives_then (locate (cpu b q) w o) (λ p. read_place (cpu b q) p) m m m (place_at o k) x g (rw (sym (ea ∙ i)) h)

pub source_cached : (b : Bank) (q : Cache) (w : Wide) (o : Operand) (m : Memory) (x : ℕ) → ((v : Wide) → read_operand (cpu b q) v o ≡ done x) → gives (read_operand (cpu b q) w o) m x m
source_cached b q w o m x e = gives_done (read_operand (cpu b q) w o) x (e w) m

-- ---- the rest near

pub finish_cached : (b e : Bank) (q s : Cache) (w : Wide) (t : Task) (mode : Mode) (d x a : ℕ) (m : Memory) (f : Bool) → f ≡ is_stack_word mode → f ≡ true → is_fast t ≡ true
    → ((v : Wide) (k : ℕ) → a ≡ stack_address (cpu b []) k → after_source (cpu b q) v t (General StackWord k) x ≡ done (cpu e s)) → a ≡ stack_address (cpu b []) d → holds_stack (cpu e s) ≡ holds_stack (cpu b q)
    → (is_fast t ≡ true) × gives (after_source (cpu b q) w t (General mode d) x) m (cpu e s) m × (holds_stack (cpu e s) ≡ holds_stack (cpu b q))
finish_cached b e q s w t mode d x a m f ef h i g there hold = rw (stack_word_is mode (sym ef ∙ h)) (i, gives_done (after_source (cpu b q) w t (General StackWord d) x) (cpu e s) (g w d there) m, hold)

-- ---- the whole

-- a task of the fast way reads its source and goes on
performed : (c : Cpu) (w : Wide) (t : Task) (s d : Operand) → is_fast t ≡ true → perform c w t s d ≡ (read_operand c w s >>= (λ x. after_source c w t d x))
unfolding perform compute accumulate compare move
performed c w (Compute op) s d h = refl
performed c w (Accumulate op) s d h = refl
performed c w (Compare r) s d h = refl
performed c w Move s d h = refl
performed c w (Interlock op) s d h = not_both h
performed c w TaggedAdd s d h = not_both h
performed c w TaggedSub s d h = not_both h
performed c w MoveAddress s d h = not_both h
performed c w MoveWords s d h = not_both h

-- no register is named
checked : (c : Cpu) (a b : Mode) (s d : ℕ) → check_registers c (General a s) (General b d) ≡ done c
unfolding check_registers
checked c a b s d = rw (and-false (is_user c.bank)) refl

-- e is the bank before PC goes on, f after it
module _ (b e f : Bank) (q s : Cache) (n : ℕ) (w : Wide) (t : Task) (sm : Mode) (sv : ℕ) (dm : Mode) (d : ℕ) (m k : Memory) (x y : ℕ) (g : gives (read_operand (cpu b q) w (General sm sv)) m x m) (lx : x < 2 ^ 32) (ey : y ≡ x % 2 ^ 32)
    (i : is_fast t ≡ true) (h : gives (after_source (cpu b q) w t (General dm d) y) m (cpu e s) k) (adv : (p : Cache) → cpu f p ≡ pc_advanced (cpu e p) n) where
  two_done : gives (execute_normal (cpu b q) n (two_operands w t (General sm sv) (General dm d))) m (cpu f s) k
  unfolding execute_normal dyadic
  two_done =
      gives_then (dyadic (cpu b q) w t (General sm sv) (General dm d)) (λ c. done (pc_advanced c n)) m k k (cpu e s) (cpu f s)
      (gives_then (check_registers (cpu b q) (General sm sv) (General dm d)) (λ c. perform c w t (General sm sv) (General dm d)) m m k (cpu b q) (cpu e s)
      (gives_done (check_registers (cpu b q) (General sm sv) (General dm d)) (cpu b q) (checked (cpu b q) sm dm sv d) m)
      (rw (performed (cpu b q) w t (General sm sv) (General dm d) i)
      (gives_then (read_operand (cpu b q) w (General sm sv)) (λ z. after_source (cpu b q) w t (General dm d) z) m m k x (cpu e s) g (rw (sym same) h))))
      (gives_done (done (pc_advanced (cpu e s) n)) (cpu f s) (ap (λ (c : Cpu). done c) (sym (adv s))) k)
    where
      same : y ≡ x
      same = let j : x % 2 ^ 32 ≡ x = omega arith in ey ∙ j

  pub two_whole : holds_stack (cpu e s) ≡ holds_stack (cpu b q)
      → gives (execute_normal (cpu b q) n (two_operands w t (General sm sv) (General dm d))) m (cpu f s) k × (holds_stack (cpu f s) ≡ holds_stack (cpu b q))
  two_whole hold = (two_done, ap holds_stack (adv s) ∙ holds_with (cpu e s) pc _ refl refl ∙ hold)
