-- Jumps, and the calls and returns whose words the stack cache holds.
-- Assumes nothing.
use Prim.Native.Nat.{ℕ, ◌*◌, ◌/◌, ◌%◌, ◌^◌, ◌<◌, ◌≤◌}
use mathlib.Core.Path.{◌≡◌, refl, sym, ap, ◌∙◌}
use mathlib.Core.Bool.{Bool, true, false, not, ◌&&◌, and-false}
use mathlib.Core.List.{[]}
use native.Mathlib.Omega.{arith}
use lib.Dec.{eqb, leb, ltb}
use lib.ListN.{set}
use borrow.Author.Tests.{eq-eqb, le-ltb}
use Rattle.word.specs.Fields.{bit_of}
use Rattle.word.proofs.CaseLaws.{and_left, and_right}
use Rattle.word.specs.declared.Width.TheVariants.{Word}
use Rattle.word.specs.Sums.{plus_of, minus_of}
use Rattle.isa.specs.declared.MonadicMode.{MonadicMode}
use Rattle.isa.specs.Legal.{is_stack}
use Rattle.memory.specs.Answers.{Answer, answer_of}
use Rattle.memory.specs.Bytes.{Memory}
use Rattle.memory.proofs.AnswerLaws.{answer_got}
use Rattle.access_spec.specs.Access.{probe, Response, response}
use Rattle.access_spec.specs.Journal.{Journaled, logging}
use Rattle.access.specs.Followed.{only_memory}
use Rattle.datapath.specs.Moves.{flush, fill}
use Rattle.isa.specs.declared.MonadicMode.TheVariants.{WordAbsolute, WordStack, WordIndirect, WordImmediate, FlowAbsoluteIndirect, FlowStackIndirect, FlowRelative, FlowAbsolute}
use Rattle.access_spec.specs.Program.{Program, interpret, after}
use Rattle.machine.specs.Registers.{Bank, word, pc, psw, sp, msp, shad, config, stack_held}
use Rattle.machine.proofs.BankLaws.{word_set_other}
use Rattle.machine.specs.Cache.{Cache, cache_write}
use Rattle.machine.specs.Status.{Cpu, cpu, with, csp, sp_current, cache_on, cached, regime}
use Rattle.machine.proofs.BankLaws.{Made}
use Rattle.datapath.specs.Parts.{Out, onward, ◌>>=◌, done, replied, request}
use Rattle.datapath.specs.Data.{read_data, check_store}
use Rattle.exec_spec.specs.declared.Monadic.{Monadic}
use Rattle.exec_spec.specs.Operands.{stack_address}
use Rattle.exec_spec.specs.declared.Monadic.TheVariants as monadic
use Rattle.exec_spec.specs.Control.{jumped, next_pc, pc_advanced, with_csp, with_guard, read_word32, jump, jump_if, call, return, released, call_to, read_through}
use Rattle.exec_spec.specs.Stack.{stack_target, check_msp, clipped, enter_offset, enter_at, enter, catch_to, catch_current, catch, enter_clipped}
use Rattle.exec_spec.specs.Execute.{one_operand, execute_monadic}
use Rattle.step_spec.specs.Step.{holds_stack}
use Rattle.run_spec.specs.Run.{is_kcall}
use Rattle.invariants.proofs.HeldLaws.{holds_with}
use Rattle.fast_dyadic.specs.Fast.{gives, is_relative}
use Rattle.fast_dyadic.proofs.GiveLaws.{gives_then, gives_done, set_same}
use Rattle.fast_dyadic.proofs.CacheWordLaws.{word_written}

relative_is : (m : MonadicMode) → is_relative m ≡ true → m ≡ FlowRelative
relative_is WordAbsolute h = cc
relative_is WordStack h = cc
relative_is WordIndirect h = cc
relative_is WordImmediate h = cc
relative_is FlowAbsoluteIndirect h = cc
relative_is FlowStackIndirect h = cc
relative_is FlowRelative h = refl
relative_is FlowAbsolute h = cc

jumped_holds : (b d : Bank) (a : ℕ) → Made b d (λ c. jumped c a) → (q : Cache) → holds_stack (cpu d q) ≡ holds_stack (cpu b q)
jumped_holds b d a f q = ap holds_stack (f q) ∙ holds_with (cpu b q) pc _ refl refl

-- ---- jumps

abbrev pub Goes : (Cache → Program (Out Cpu)) → Bank → Bank → Type 0
Goes p b d = ((q : Cache) → p q ≡ done (cpu d q)) × ((q : Cache) → holds_stack (cpu d q) ≡ holds_stack (cpu b q))

module _ (b d : Bank) (m : MonadicMode) (v : ℕ) where
  pub jump_goes : (f : Bool) → f ≡ is_relative m → f ≡ true → (a : ℕ) → a ≡ plus_of (word b pc) v → Made b d (λ c. jumped c a) → Goes (λ q. jump (cpu b q) m v) b d
  unfolding jump read_word32 ◌>>=◌ after onward read_through
  jump_goes f ef h a ea g = ((λ q. rw (relative_is m (sym ef ∙ h), ← ea) (ap (λ (c : Cpu). done c) (sym (g q)))), jumped_holds b d a g)

  pub taken_goes : (t : Bool) (n : ℕ) → t ≡ true → Goes (λ q. jump (cpu b q) m v) b d → Goes (λ q. jump_if t (cpu b q) m v n) b d
  unfolding jump_if
  taken_goes t n h g = rw h g

  pub passed_goes : (t : Bool) (n : ℕ) → t ≡ false → Made b d (λ c. pc_advanced c n) → Goes (λ q. jump_if t (cpu b q) m v n) b d
  unfolding jump_if
  passed_goes t n h g = rw h ((λ q. ap (λ (c : Cpu). done c) (sym (g q))), (λ q. ap holds_stack (g q) ∙ holds_with (cpu b q) pc _ refl refl))

-- ---- calls and returns

-- words in the cache: SP is current
cached_current : (b : Bank) (a : ℕ) → cached b a ≡ true → csp b ≡ sp
cached_current b a h = rw (and_right (bit_of (word b config) 18) (sp_current b) (and_left (cache_on b) (leb (word b sp) a) (and_left (cache_on b && leb (word b sp) a) (ltb a (word b msp)) h))) refl

module _ (b d : Bank) (q s : Cache) (m : MonadicMode) (v n : ℕ) where
  pub call_done : (f : Bool) → f ≡ is_relative m → f ≡ true → (p : ℕ) → p ≡ word b sp → (g : Bool) → g ≡ cached b p → g ≡ true → p % 4 ≡ 0 → (x : ℕ) → x ≡ next_pc (cpu b []) n → s ≡ cache_write 4 q p x
      → (a : ℕ) → a ≡ plus_of (word b pc) v → Made b d (λ c. jumped c a) → (call (cpu b q) m v n ≡ done (cpu d s)) × (holds_stack (cpu d s) ≡ holds_stack (cpu b q))
  unfolding call read_word32 ◌>>=◌ after onward call_to read_through
  call_done f ef h p ep g eg near whole x ex es a ea e =
      (rw (relative_is m (sym ef ∙ h), cached_current b p (sym eg ∙ near), ← ep, ← ex, ← ea, word_written b q p (sym eg ∙ near) whole x, ← es) (ap (λ (c : Cpu). done c) (sym (e s))), jumped_holds b d a e s)

-- e is the bank after the stack is released
module _ (b e d : Bank) (v : ℕ) (rel : Made b e (λ c. released c v)) (t : Bool) (et : t ≡ stack_held (word d sp) (word d msp)) (held : t ≡ true) where
  pub return_done : (q : Cache) (m : Memory) (a : ℕ) → a ≡ stack_address (cpu b []) v → (x : ℕ) → gives (read_data (cpu b q) Word a) m x m → x < 2 ^ 32 → (y : ℕ) → y ≡ x % 2 ^ 32 → Made e d (λ c. jumped c y)
      → gives (return (cpu b q) v) m (cpu d q) m × (holds_stack (cpu d q) ≡ true)
  unfolding return
  return_done q m a ea x g l y ey jum =
      let i : x % 2 ^ 32 ≡ x = omega arith in (
        gives_then (read_data (cpu b q) Word (stack_address (cpu b q) v)) _ m m m x (cpu d q) (rw (← ea) g)
            (gives_done (done (jumped (released (cpu b q) v) x)) (cpu d q) (ap (λ (c : Cpu). done c) (ap (λ (c : Cpu). jumped c x) (sym (rel q)) ∙ ap (λ (n : ℕ). jumped (cpu e q) n) (sym (ey ∙ i)) ∙ sym (jum q))) m),
        sym et ∙ held,
      )

  pub pop_done : (n : ℕ) → Made e d (λ c. pc_advanced c n) → ((q : Cache) → cpu d q ≡ pc_advanced (released (cpu b q) v) n) × ((q : Cache) → holds_stack (cpu d q) ≡ true)
  pop_done n adv = ((λ q. adv q ∙ ap (λ (c : Cpu). pc_advanced c n) (rel q)), (λ q. sym et ∙ held))

-- ---- ENTER and CATCH that move nothing

offset_is : (m : MonadicMode) → is_stack m ≡ true → m ≡ WordStack
offset_is WordAbsolute h = cc
offset_is WordStack h = refl
offset_is WordIndirect h = cc
offset_is WordImmediate h = cc
offset_is FlowAbsoluteIndirect h = cc
offset_is FlowStackIndirect h = cc
offset_is FlowRelative h = cc
offset_is FlowAbsolute h = cc

on_current : (b : Bank) → cache_on b ≡ true → sp_current b ≡ true
on_current b h = and_right (bit_of (word b config) 18) (sp_current b) h

module _ (b : Bank) (m : MonadicMode) (v n : ℕ) (f : Bool) (ef : f ≡ is_stack m) (hf : f ≡ true) (g : Bool) (eg : g ≡ cache_on b) (hg : g ≡ true) where
  on : cache_on b ≡ true
  on = sym eg ∙ hg

  pub catch_goes : (d : Bank) (a : ℕ) → a ≡ stack_address (cpu b []) v → a ≤ word b msp → Made b d (λ c. pc_advanced c n) → Goes (λ q. catch (cpu b q) m v n) b d
  unfolding catch catch_current stack_target catch_to fill check_msp ◌>>=◌ after onward
  catch_goes d a ea h e =
      ((λ q. rw (offset_is m (sym ef ∙ hf), on, ← ea, on_current b on, le-ltb (word b msp) a h, eq-eqb (word b msp) (word b msp) refl) (ap (λ (c : Cpu). done c) (sym (e q)))), (λ q. ap holds_stack (e q) ∙ holds_with (cpu b q) pc _ refl refl))

  module _ (t : ℕ) (et : t ≡ stack_address (cpu b []) v / 16 * 16) (l : ℕ) (el : l ≡ minus_of (word b msp) t) (small : l ≤ 256) (k : Memory) (y : ℕ) (ey : response (answer_of y) (only_memory k) ≡ logging (probe (regime b) t) (only_memory k)) (hy : y < 2 ^ 32) where
    checked : (q : Cache) → gives (check_store (cpu b q) t) k y k
    unfolding check_store request interpret logging
    checked q =
        ap (λ (z : Response Journaled Answer). response (replied (cpu b q) t z.out) z.world.memory) (sym ey) ∙ rw (answer_got y hy) refl

    unmoved : (q : Cache) → flush false t 16 (cpu b q) ≡ done (cpu b q)
    unfolding flush
    unmoved q = rw (le-ltb 256 (minus_of (word b msp) t) (rw (← el) small), and-false (not (eqb (word b msp) (word b sp)))) refl

    unclipped : clipped (word b msp) (word b msp) t ≡ word b msp
    unclipped = rw (le-ltb 256 (minus_of (word b msp) t) (rw (← el) small)) refl

    unchecked : (q : Cache) → check_msp (cpu b q) (regime b) (word b msp) (clipped (word b msp) (word b msp) t) ≡ done 0
    unfolding check_msp
    unchecked q = rw (unclipped, eq-eqb (word b msp) (word b msp) refl) refl

    -- MSP put where it stands
    pointed : (q : Cache) → with (with_csp (cpu b q) t) msp (clipped (word b msp) (word b msp) t) ≡ with_csp (cpu b q) t
    pointed q =
        rw (unclipped, on_current b on)
        (ap (λ (z : Bank). cpu z q) (set_same (set (set b sp t) shad t) msp (word b msp) (word_set_other (set b sp t) shad t msp refl ∙ word_set_other b sp t msp refl)))

    module _ (e : Bank) (ce : Made b e (λ c. with_csp c t)) where
      entered : (q : Cache) → gives (enter_offset (cpu b q) t) k (cpu e q) k
      unfolding enter_offset enter_clipped
      entered q =
          gives_then (flush false t 16 (cpu b q)) _ k k k (cpu b q) (cpu e q) (gives_done (flush false t 16 (cpu b q)) (cpu b q) (unmoved q) k)
          (gives_then (check_store (cpu b q) t) _ k k k y (cpu e q) (checked q)
          (gives_then (check_msp (cpu b q) (regime b) (word b msp) (clipped (word b msp) (word b msp) t)) _ k k k 0 (cpu e q) (gives_done (check_msp (cpu b q) (regime b) (word b msp) (clipped (word b msp) (word b msp) t)) 0 (unchecked q) k)
          (gives_done (done (with (with_csp (cpu b q) t) msp (clipped (word b msp) (word b msp) t))) (cpu e q) (ap (λ (c : Cpu). done c) (pointed q ∙ sym (ce q))) k)))

      at_target : (q : Cache) → gives (enter_at (cpu b q) WordStack t) k (cpu e q) k
      unfolding enter_at
      at_target q = rw (on, on_current b on) (entered q)

      pub enter_gives : (u d : Bank) → Made e u (λ c. with_guard c true) → Made u d (λ c. pc_advanced c n) → (z : Bool) → z ≡ stack_held (word d sp) (word d msp) → z ≡ true
          → ((q : Cache) → gives (enter (cpu b q) m v n) k (cpu d q) k) × ((q : Cache) → holds_stack (cpu d q) ≡ true)
      unfolding enter stack_target
      enter_gives u d gu ad z ez hz = (
        (λ q. rw (offset_is m (sym ef ∙ hf))
            (gives_then (stack_target (cpu b q) WordStack v) _ k k k (stack_address (cpu b q) v) (cpu d q) (gives_done (stack_target (cpu b q) WordStack v) (stack_address (cpu b q) v) refl k)
            (gives_then (enter_at (cpu b q) WordStack (stack_address (cpu b q) v / 16 * 16)) _ k k k (cpu e q) (cpu d q) (rw (← et) (at_target q))
            (gives_done (done (pc_advanced (with_guard (cpu e q) true) n)) (cpu d q) (ap (λ (c : Cpu). done c) (ap (λ (c : Cpu). pc_advanced c n) (sym (gu q)) ∙ sym (ad q))) k)))),
        (λ q. sym ez ∙ hz),
      )

-- ---- by the instruction

-- k is the memory
abbrev pub Done : Memory → Bank → Cache → Bank → Cache → Monadic → MonadicMode → ℕ → ℕ → Type 0
Done k b q d s o m v n =
    gives (execute_monadic (cpu b q) o m v n) k (cpu d s) k × (is_kcall (one_operand o m v) ≡ false) × (holds_stack (cpu b q) ≡ true → holds_stack (cpu d s) ≡ true)

module _ (k : Memory) (b d : Bank) (q s : Cache) (o : Monadic) (m : MonadicMode) (v n : ℕ) where
  pub calls : o ≡ monadic.Call → (call (cpu b q) m v n ≡ done (cpu d s)) × (holds_stack (cpu d s) ≡ holds_stack (cpu b q)) → Done k b q d s o m v n
  unfolding execute_monadic
  calls e g = rw e (gives_done (call (cpu b q) m v n) (cpu d s) g.0 k, refl, (λ h. g.1 ∙ h))

  pub returns_effect_free : o ≡ monadic.Return → q ≡ s → gives (return (cpu b q) v) k (cpu d q) k × (holds_stack (cpu d q) ≡ true) → Done k b q d s o m v n
  unfolding execute_monadic
  returns_effect_free e f g = rw (e, ← f) (g.0, refl, (λ h. g.1))

  pub jumps : o ≡ monadic.Jmp → q ≡ s → Goes (λ p. jump (cpu b p) m v) b d → Done k b q d s o m v n
  unfolding execute_monadic
  jumps e f g = rw (e, ← f) (gives_done (jump (cpu b q) m v) (cpu d q) (g.0 q) k, refl, (λ h. g.1 q ∙ h))

  pub jumps_true : o ≡ monadic.JmpTrue → q ≡ s → (t : Bool) → t ≡ bit_of (word b psw) 4 → Goes (λ p. jump_if t (cpu b p) m v n) b d → Done k b q d s o m v n
  unfolding execute_monadic
  jumps_true e f t et g = rw (e, ← f) (rw (← et) (gives_done (jump_if t (cpu b q) m v n) (cpu d q) (g.0 q) k), refl, (λ h. g.1 q ∙ h))

  pub jumps_false : o ≡ monadic.JmpFalse → q ≡ s → (t : Bool) → t ≡ bit_of (word b psw) 4 → Goes (λ p. jump_if (not t) (cpu b p) m v n) b d → Done k b q d s o m v n
  unfolding execute_monadic
  jumps_false e f t et g = rw (e, ← f) (rw (← et) (gives_done (jump_if (not t) (cpu b q) m v n) (cpu d q) (g.0 q) k), refl, (λ h. g.1 q ∙ h))

  pub pops : o ≡ monadic.Popn → q ≡ s → ((p : Cache) → cpu d p ≡ pc_advanced (released (cpu b p) v) n) × ((p : Cache) → holds_stack (cpu d p) ≡ true) → Done k b q d s o m v n
  unfolding execute_monadic
  pops e f g = rw (e, ← f) (gives_done (done (pc_advanced (released (cpu b q) v) n)) (cpu d q) (ap (λ (c : Cpu). done c) (sym (g.0 q))) k, refl, (λ h. g.1 q))

  pub catches : o ≡ monadic.Catch → q ≡ s → Goes (λ p. catch (cpu b p) m v n) b d → Done k b q d s o m v n
  unfolding execute_monadic
  catches e f g = rw (e, ← f) (gives_done (catch (cpu b q) m v n) (cpu d q) (g.0 q) k, refl, (λ h. g.1 q ∙ h))

  pub enters : o ≡ monadic.Enter → q ≡ s → ((p : Cache) → gives (enter (cpu b p) m v n) k (cpu d p) k) × ((p : Cache) → holds_stack (cpu d p) ≡ true) → Done k b q d s o m v n
  unfolding execute_monadic
  enters e f g = rw (e, ← f) (g.0 q, refl, (λ h. g.1 q))
