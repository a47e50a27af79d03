-- The ways out of ENTER.
-- Assumes nothing.
use Prim.Native.Nat.{ℕ, ◌*◌, ◌/◌, ◌%◌, ◌^◌, ◌<◌, ◌≤◌}
use mathlib.Core.Path.{◌≡◌, refl, sym, ap, ◌∙◌}
use mathlib.Core.Bool.{Bool, true, false}
use lib.ListN.{get_or, set}
use borrow.Author.Tests.{lt-ltb, le-ltb}
use Rattle.word.specs.Sums.{plus_of, minus_of}
use Rattle.isa.specs.declared.MonadicMode.{MonadicMode}
use Rattle.isa.specs.Legal.{is_stack}
use Rattle.memory.specs.Answers.{answer_of}
use Rattle.access_spec.specs.Access.{Response, response}
use Rattle.access_spec.specs.Program.{Program, interpret}
use Rattle.access_spec.specs.Journal.{Journaled, logging}
use Rattle.access.specs.Followed.{regime_for}
use Rattle.machine.specs.Registers.{Bank, word, msp}
use Rattle.machine.specs.Cache.{Cache}
use Rattle.machine.specs.Status.{Cpu, cpu, with, is_user, is_virtual, sp_current, cache_on, regime}
use Rattle.datapath.specs.Parts.{Out, ◌>>=◌, done}
use Rattle.datapath.specs.Data.{check_store}
use Rattle.datapath.specs.Code.{cpu_out, value_out}
use Rattle.datapath.specs.Moves.{flush}
use Rattle.datapath.proofs.PartLaws.{goes, stops_ended, ended_goes, ended_stops}
use Rattle.exec_spec.specs.Control.{with_csp, with_guard, pc_advanced}
use Rattle.exec_spec.specs.Stack.{stack_target, check_msp, quad_words, clipped, enter_plain, enter_uncached, enter_empty, enter_offset, enter_at, enter, enter_clipped}
use Rattle.exec_flow.proofs.EndLaws.{finished}
use Rattle.exec_flow.proofs.WordLaws.{Valued}
use Rattle.machine.proofs.BankLaws.{Made}

-- ---- nothing moved: s is the bank after the check, d with the stack pointer set

module _ (b : Bank) (q : Cache) (target x : ℕ) (s : Bank) (t u : Journaled) (e : Valued b q x s (check_store (cpu b q) target) t u) where
  abbrev then_csp : ℕ → Program (Out Cpu)
  then_csp _ = done (with_csp (cpu b q) target)

  abbrev then_both : ℕ → Program (Out Cpu)
  then_both _ = done (with (with_csp (cpu b q) target) msp target)

  pub plain_stopped : 2 ^ 32 ≤ x → response (cpu_out (answer_of x) s q) u ≡ interpret logging (enter_plain (cpu b q) target) t
  unfolding enter_plain
  plain_stopped h = stops_ended (λ v. v) s q x (check_store (cpu b q) target) then_csp t u e.0 h

  pub uncached_stopped : 2 ^ 32 ≤ x → response (cpu_out (answer_of x) s q) u ≡ interpret logging (enter_uncached (cpu b q) target) t
  unfolding enter_uncached
  uncached_stopped h = stops_ended (λ v. v) s q x (check_store (cpu b q) target) then_both t u e.0 h

  module _ (h : x < 2 ^ 32) (d : Bank) (f : Made s d (λ c. with_csp c target)) where
    set_down : cpu d q ≡ with_csp (cpu b q) target
    set_down = f q ∙ ap (λ (n : Bank). with_csp (cpu n q) target) (e.1 h)

    pub plain_done : response (cpu_out (answer_of x) d q) u ≡ interpret logging (enter_plain (cpu b q) target) t
    unfolding enter_plain interpret
    plain_done = finished x d q (with_csp (cpu b q) target) u h set_down ∙ sym (goes (λ v. v) s q x (check_store (cpu b q) target) then_csp t u e.0 h)

    pub uncached_done : response (cpu_out (answer_of x) (set d 4 target) q) u ≡ interpret logging (enter_uncached (cpu b q) target) t
    unfolding enter_uncached interpret
    uncached_done =
        finished x (set d 4 target) q (with (with_csp (cpu b q) target) msp target) u h (ap (λ (c : Cpu). with c msp target) set_down)
        ∙ sym (goes (λ v. v) s q x (check_store (cpu b q) target) then_both t u e.0 h)

-- ---- after the flush: d is the bank that it left

module _ (b : Bank) (q : Cache) (target x : ℕ) (d : Bank) (t u : Journaled) where
  module _ (e : response (cpu_out (answer_of x) d q) u ≡ interpret logging (flush true target quad_words (cpu b q)) t) where
    abbrev then_empty : Cpu → Program (Out Cpu)
    then_empty c = enter_uncached c target

    pub empty_stopped : 2 ^ 32 ≤ x → response (cpu_out (answer_of x) d q) u ≡ interpret logging (enter_empty (cpu b q) target) t
    unfolding enter_empty enter_uncached
    empty_stopped h = ended_stops d q x (flush true target quad_words (cpu b q)) then_empty t u e h

    pub empty_done : x < 2 ^ 32 → (g : Response Journaled (Out Cpu)) → g ≡ interpret logging (enter_uncached (cpu d q) target) u → g ≡ interpret logging (enter_empty (cpu b q) target) t
    unfolding enter_empty enter_uncached
    empty_done h g f = f ∙ sym (ended_goes d q x (flush true target quad_words (cpu b q)) then_empty t u e h)

  module _ (e : response (cpu_out (answer_of x) d q) u ≡ interpret logging (flush false target quad_words (cpu b q)) t) where
    abbrev then_clipped : Cpu → Program (Out Cpu)
    then_clipped c = enter_clipped c target (word b msp)

    pub offset_stopped : 2 ^ 32 ≤ x → response (cpu_out (answer_of x) d q) u ≡ interpret logging (enter_offset (cpu b q) target) t
    unfolding enter_offset enter_clipped
    offset_stopped h = ended_stops d q x (flush false target quad_words (cpu b q)) then_clipped t u e h

    pub offset_done : x < 2 ^ 32 → (g : Response Journaled (Out Cpu)) → g ≡ interpret logging (enter_clipped (cpu d q) target (word b msp)) u → g ≡ interpret logging (enter_offset (cpu b q) target) t
    unfolding enter_offset enter_clipped
    offset_done h g f = f ∙ sym (ended_goes d q x (flush false target quad_words (cpu b q)) then_clipped t u e h)

-- ---- MSP clipped to the cache's size

module _ (old m target a : ℕ) where
  pub clipped_top : (p : ℕ) → a ≡ minus_of old target → 256 < a → p ≡ plus_of target 256 → p < m → p ≡ clipped old m target
  clipped_top p ea h ep k = rw (← ea, lt-ltb 256 a h, ← ep, lt-ltb p m k) refl

  pub clipped_same : (p : ℕ) → a ≡ minus_of old target → 256 < a → p ≡ plus_of target 256 → m ≤ p → m ≡ clipped old m target
  clipped_same p ea h ep k = rw (← ea, lt-ltb 256 a h, ← ep, le-ltb p m k) refl

  pub clipped_low : a ≡ minus_of old target → a ≤ 256 → m ≡ clipped old m target
  clipped_low ea h = rw (← ea, le-ltb 256 a h) refl

module _ (b : Bank) (q : Cache) (target old new : ℕ) (en : new ≡ clipped old (word b msp) target) (x : ℕ) (s : Bank) (t u : Journaled) (e : Valued b q x s (check_store (cpu b q) target) t u) where
  abbrev then_set : ℕ → ℕ → Program (Out Cpu)
  then_set n _ = done (with (with_csp (cpu b q) target) msp n)

  abbrev then_msp : ℕ → ℕ → Program (Out Cpu)
  then_msp n _ = check_msp (cpu b q) (regime b) old n >>= then_set n

  pub clipped_first : 2 ^ 32 ≤ x → response (cpu_out (answer_of x) s q) u ≡ interpret logging (enter_clipped (cpu b q) target old) t
  unfolding enter_clipped
  clipped_first h = stops_ended (λ v. v) s q x (check_store (cpu b q) target) (then_msp (clipped old (word b msp) target)) t u e.0 h

  module _ (h : x < 2 ^ 32) (y z : Bool) (ey : y ≡ is_user s) (ez : z ≡ is_virtual s) (v : ℕ) (d : Bank) (w : Journaled)
      (f : Valued s q v d (check_msp (cpu s q) (regime_for (get_or s 9 0) y z) old new) u w) where
    same : interpret logging (check_msp (cpu s q) (regime_for (get_or s 9 0) y z) old new) u ≡ interpret logging (check_msp (cpu b q) (regime b) old new) u
    same = rw (ey, ez, e.1 h) refl

    second : response (value_out (answer_of v) d q) w ≡ interpret logging (check_msp (cpu b q) (regime b) old new) u
    second = f.0 ∙ same

    first_checked : interpret logging (enter_clipped (cpu b q) target old) t ≡ interpret logging (then_msp new (x % 2 ^ 32)) u
    unfolding enter_clipped
    first_checked = rw en (goes (λ v. v) s q x (check_store (cpu b q) target) (then_msp (clipped old (word b msp) target)) t u e.0 h)

    pub clipped_second : 2 ^ 32 ≤ v → response (cpu_out (answer_of v) d q) w ≡ interpret logging (enter_clipped (cpu b q) target old) t
    clipped_second k = stops_ended (λ v. v) d q v (check_msp (cpu b q) (regime b) old new) (then_set new) u w second k ∙ sym first_checked

    pub clipped_done : v < 2 ^ 32 → (r : Bank) → Made d r (λ c. with_csp c target) → response (cpu_out (answer_of v) (set r 4 new) q) w ≡ interpret logging (enter_clipped (cpu b q) target old) t
    unfolding interpret
    clipped_done k r g =
        finished v (set r 4 new) q (with (with_csp (cpu b q) target) msp new) w k (ap (λ (c : Cpu). with c msp new) (g q ∙ ap (λ (n : Bank). with_csp (cpu n q) target) (f.1 k ∙ e.1 h)))
        ∙ sym (first_checked ∙ goes (λ v. v) d q v (check_msp (cpu b q) (regime b) old new) (then_set new) u w second k)

-- ---- which of them

module _ (b : Bank) (q : Cache) (k : MonadicMode) (target : ℕ) (t : Journaled) (g : Response Journaled (Out Cpu)) (z : Bool) (ez : z ≡ sp_current b) where
  pub at_plain : z ≡ false → g ≡ interpret logging (enter_plain (cpu b q) target) t → g ≡ interpret logging (enter_at (cpu b q) k target) t
  unfolding enter_at
  at_plain h e = rw (sym ez ∙ h) e

  module _ (h : z ≡ true) (y : Bool) (ey : y ≡ cache_on b) where
    pub at_uncached : y ≡ false → g ≡ interpret logging (enter_uncached (cpu b q) target) t → g ≡ interpret logging (enter_at (cpu b q) k target) t
    unfolding enter_at
    at_uncached l e = rw (sym ey ∙ l, sym ez ∙ h) e

    module _ (l : y ≡ true) (i : Bool) (ei : i ≡ is_stack k) where
      pub at_offset : i ≡ true → g ≡ interpret logging (enter_offset (cpu b q) target) t → g ≡ interpret logging (enter_at (cpu b q) k target) t
      unfolding enter_at
      at_offset j e = rw (sym ey ∙ l, sym ez ∙ h, sym ei ∙ j) e

      pub at_empty : i ≡ false → g ≡ interpret logging (enter_empty (cpu b q) target) t → g ≡ interpret logging (enter_at (cpu b q) k target) t
      unfolding enter_at
      at_empty j e = rw (sym ey ∙ l, sym ez ∙ h, sym ei ∙ j) e

-- ---- the whole

module _ (b : Bank) (q : Cache) (k : MonadicMode) (v n x : ℕ) (s : Bank) (t u : Journaled) (e : Valued b q x s (stack_target (cpu b q) k v) t u) where
  abbrev then_guard : Cpu → Program (Out Cpu)
  then_guard c = done (pc_advanced (with_guard c true) n)

  abbrev then_enter : ℕ → Program (Out Cpu)
  then_enter a = enter_at (cpu b q) k (a / 16 * 16) >>= then_guard

  pub enter_first : 2 ^ 32 ≤ x → response (cpu_out (answer_of x) s q) u ≡ interpret logging (enter (cpu b q) k v n) t
  unfolding enter
  enter_first h = stops_ended (λ v. v) s q x (stack_target (cpu b q) k v) then_enter t u e.0 h

  module _ (h : x < 2 ^ 32) (a : ℕ) (ea : a ≡ x % 2 ^ 32) (z : ℕ) (ez : z ≡ a / 16 * 16) (y : ℕ) (d : Bank) (w : Journaled) (f : response (cpu_out (answer_of y) d q) w ≡ interpret logging (enter_at (cpu s q) k z) u) where
    same_target : interpret logging (enter_at (cpu s q) k z >>= then_guard) u ≡ interpret logging (then_enter (x % 2 ^ 32)) u
    same_target = rw (e.1 h, ez, ea) refl

    targeted : interpret logging (enter (cpu b q) k v n) t ≡ interpret logging (enter_at (cpu s q) k z >>= then_guard) u
    unfolding enter
    targeted = goes (λ v. v) s q x (stack_target (cpu b q) k v) then_enter t u e.0 h ∙ sym same_target

    pub enter_second : 2 ^ 32 ≤ y → response (cpu_out (answer_of y) d q) w ≡ interpret logging (enter (cpu b q) k v n) t
    enter_second l = ended_stops d q y (enter_at (cpu s q) k z) then_guard u w f l ∙ sym targeted

    pub enter_done : y < 2 ^ 32 → (r : Bank) → Made d r (λ c. with_guard c true) → (i : Bank) → Made r i (λ c. pc_advanced c n) → response (cpu_out (answer_of y) i q) w ≡ interpret logging (enter (cpu b q) k v n) t
    unfolding interpret
    enter_done l r er i ei =
        finished y i q (pc_advanced (with_guard (cpu d q) true) n) w l (ei q ∙ ap (λ (c : Cpu). pc_advanced c n) (er q))
        ∙ sym (targeted ∙ ended_goes d q y (enter_at (cpu s q) k z) then_guard u w f l)
