-- The ways out of CATCH.
-- Assumes nothing.
use Prim.Native.Nat.{ℕ, ◌%◌, ◌^◌, ◌<◌, ◌≤◌}
use mathlib.Core.Path.{◌≡◌, refl, sym, ap, ◌∙◌}
use mathlib.Core.Bool.{Bool, true, false, cond}
use native.Mathlib.Omega.{arith}
use lib.ListN.{get_or, set}
use Rattle.isa.specs.declared.MonadicMode.{MonadicMode}
use Rattle.memory.specs.Answers.{answer_of}
use Rattle.mmu.specs.declared.Regime.{Regime}
use Rattle.access_spec.specs.Access.{Response, response}
use Rattle.access_spec.specs.Program.{Program, interpret}
use Rattle.access_spec.specs.Journal.{Journaled, logging}
use Rattle.access.specs.Followed.{regime_for}
use Rattle.machine.specs.Registers.{Bank, word, msp, sp}
use Rattle.machine.specs.Cache.{Cache}
use Rattle.machine.specs.Status.{Cpu, cpu, reg, with, is_user, is_virtual, sp_current, cache_on, regime}
use Rattle.datapath.specs.Parts.{Out, ◌>>=◌, done}
use Rattle.datapath.specs.Code.{cpu_out}
use Rattle.datapath.specs.Moves.{fill}
use Rattle.datapath.proofs.PartLaws.{goes, stops_ended, ended_goes, ended_stops}
use Rattle.exec_spec.specs.Control.{pc_advanced}
use Rattle.exec_spec.specs.Stack.{stack_target, check_msp, quad_words, catch_to, catch_current, catch}
use Rattle.exec_flow.proofs.EndLaws.{finished}
use Rattle.exec_flow.proofs.WordLaws.{Valued}
use Rattle.machine.proofs.BankLaws.{Made}

-- ---- the cache filled: d and p are the bank and the cache after it

module _ (b : Bank) (q : Cache) (g : Regime) (target x : ℕ) (d : Bank) (p : Cache) (t u : Journaled) (e : response (cpu_out (answer_of x) d p) u ≡ interpret logging (fill g target quad_words (cpu b q)) t) where
  abbrev then_keep : Cpu → ℕ → Program (Out Cpu)
  then_keep c _ = done c

  abbrev then_check : Cpu → Program (Out Cpu)
  then_check c = check_msp c g (word b msp) (reg c msp) >>= then_keep c

  pub fill_stopped : 2 ^ 32 ≤ x → response (cpu_out (answer_of x) d p) u ≡ interpret logging (catch_to (cpu b q) g target) t
  unfolding catch_to
  fill_stopped h = ended_stops d p x (fill g target quad_words (cpu b q)) then_check t u e h

  module _ (h : x < 2 ^ 32) (y : ℕ) (s : Bank) (w : Journaled) (f : Valued d p y s (check_msp (cpu d p) g (word b msp) (word d msp)) u w) where
    filled : interpret logging (catch_to (cpu b q) g target) t ≡ interpret logging (then_check (cpu d p)) u
    unfolding catch_to
    filled = ended_goes d p x (fill g target quad_words (cpu b q)) then_check t u e h

    pub check_stopped : 2 ^ 32 ≤ y → response (cpu_out (answer_of y) s p) w ≡ interpret logging (catch_to (cpu b q) g target) t
    check_stopped k = stops_ended (λ v. v) s p y (check_msp (cpu d p) g (word b msp) (word d msp)) (then_keep (cpu d p)) u w f.0 k ∙ sym filled

    pub caught : y < 2 ^ 32 → response (cpu_out (answer_of y) s p) w ≡ interpret logging (catch_to (cpu b q) g target) t
    unfolding interpret
    caught k =
        finished y s p (cpu d p) w k (ap (λ (n : Bank). cpu n p) (f.1 k))
        ∙ sym (filled ∙ goes (λ v. v) s p y (check_msp (cpu d p) g (word b msp) (word d msp)) (then_keep (cpu d p)) u w f.0 k)

-- ---- by the target: s is the bank after it

module _ (b : Bank) (q : Cache) (k : MonadicMode) (v x : ℕ) (s : Bank) (t u : Journaled) (e : Valued b q x s (stack_target (cpu b q) k v) t u) where
  abbrev then_catch : ℕ → Program (Out Cpu)
  then_catch a = cond (cache_on b) (catch_to (cpu b q) (regime b) a) (done (with (cpu b q) msp (word b sp)))

  pub target_stopped : 2 ^ 32 ≤ x → response (cpu_out (answer_of x) s q) u ≡ interpret logging (catch_current (cpu b q) k v) t
  unfolding catch_current
  target_stopped h = stops_ended (λ v. v) s q x (stack_target (cpu b q) k v) then_catch t u e.0 h

  module _ (h : x < 2 ^ 32) (z : Bool) (ez : z ≡ cache_on s) where
    kept : s ≡ b
    kept = e.1 h

    on : cache_on b ≡ z
    on = sym (ez ∙ ap cache_on kept)

    targeted : interpret logging (catch_current (cpu b q) k v) t ≡ interpret logging (then_catch (x % 2 ^ 32)) u
    unfolding catch_current
    targeted = goes (λ v. v) s q x (stack_target (cpu b q) k v) then_catch t u e.0 h

    pub current_caught : z ≡ true → (i j : Bool) → i ≡ is_user s → j ≡ is_virtual s → (a : ℕ) → a ≡ x % 2 ^ 32 → (g : Response Journaled (Out Cpu))
        → g ≡ interpret logging (catch_to (cpu s q) (regime_for (get_or s 9 0) i j) a) u → g ≡ interpret logging (catch_current (cpu b q) k v) t
    current_caught l i j ei ej a ea g f = f ∙ same ∙ sym (targeted ∙ chosen)
      where
        same : interpret logging (catch_to (cpu s q) (regime_for (get_or s 9 0) i j) a) u ≡ interpret logging (catch_to (cpu b q) (regime b) (x % 2 ^ 32)) u
        same = rw (ei, ej, kept, ea) refl

        chosen : interpret logging (then_catch (x % 2 ^ 32)) u ≡ interpret logging (catch_to (cpu b q) (regime b) (x % 2 ^ 32)) u
        chosen = rw (on ∙ l) refl

    pub current_left : z ≡ false → response (cpu_out (answer_of 0) (set s 4 (get_or s 8 0)) q) u ≡ interpret logging (catch_current (cpu b q) k v) t
    unfolding interpret
    current_left l =
        finished 0 (set s 4 (get_or s 8 0)) q (with (cpu b q) msp (word b sp)) u (omega arith) (ap (λ (n : Bank). with (cpu n q) msp (word n sp)) kept) ∙ sym (targeted ∙ chosen)
      where
        chosen : interpret logging (then_catch (x % 2 ^ 32)) u ≡ interpret logging (done (with (cpu b q) msp (word b sp))) u
        chosen = rw (on ∙ l) refl

-- ---- the whole

module _ (b : Bank) (q : Cache) (k : MonadicMode) (v : ℕ) (t : Journaled) where
  abbrev pub catch_held : Program (Out Cpu)
  catch_held = cond (sp_current b) (catch_current (cpu b q) k v) (done (cpu b q))

  module _ (z : Bool) (ez : z ≡ sp_current b) where
    pub held_current : z ≡ true → (g : Response Journaled (Out Cpu)) → g ≡ interpret logging (catch_current (cpu b q) k v) t → g ≡ interpret logging catch_held t
    held_current h g e = rw (sym ez ∙ h) e

    pub held_nothing : z ≡ false → response (cpu_out (answer_of 0) b q) t ≡ interpret logging catch_held t
    unfolding interpret
    held_nothing h = rw (sym ez ∙ h) (finished 0 b q (cpu b q) t (omega arith) refl)

  module _ (n x : ℕ) (d : Bank) (p : Cache) (u : Journaled) (e : response (cpu_out (answer_of x) d p) u ≡ interpret logging catch_held t) where
    abbrev then_advance : Cpu → Program (Out Cpu)
    then_advance c = done (pc_advanced c n)

    pub catch_stopped : 2 ^ 32 ≤ x → response (cpu_out (answer_of x) d p) u ≡ interpret logging (catch (cpu b q) k v n) t
    unfolding catch
    catch_stopped h = ended_stops d p x catch_held then_advance t u e h

    pub catch_done : x < 2 ^ 32 → (s : Bank) → Made d s (λ c. pc_advanced c n) → response (cpu_out (answer_of x) s p) u ≡ interpret logging (catch (cpu b q) k v n) t
    unfolding catch interpret
    catch_done h s f = finished x s p (pc_advanced (cpu d p) n) u h (f p) ∙ sym (ended_goes d p x catch_held then_advance t u e h)
