-- The ways out of CRET.
-- Assumes nothing.
use Prim.Native.Nat.{ℕ, ◌%◌, ◌^◌, ◌<◌, ◌≤◌}
use mathlib.Core.Path.{◌≡◌, refl, sym, ap, ◌∙◌}
use mathlib.Core.Bool.{Bool, true, false}
use native.Mathlib.Omega.{arith}
use lib.ListN.{get_or, set}
use Rattle.word.specs.Fields.{bit_of}
use Rattle.word.specs.declared.Width.TheVariants.{Word}
use Rattle.word.specs.Sums.{plus_of}
use Rattle.memory.specs.Answers.{answer_of}
use Rattle.access_spec.specs.Access.{read, Response, response}
use Rattle.access_spec.specs.Program.{Program, interpret}
use Rattle.access_spec.specs.Journal.{Journaled, logging}
use Rattle.access.specs.Followed.{regime_for}
use Rattle.machine.specs.Registers.{Bank, word, unreserved, config, isp, msp, sp}
use Rattle.machine.specs.Cache.{Cache}
use Rattle.machine.specs.Status.{Cpu, cpu, with, is_user, kernel_regime}
use Rattle.datapath.specs.Parts.{Out, ◌>>=◌, done}
use Rattle.datapath.specs.Data.{read_frame}
use Rattle.datapath.specs.Code.{cpu_out}
use Rattle.datapath.proofs.PartLaws.{ended_goes, ended_stops}
use Rattle.exec_spec.specs.Stack.{catch_to}
use Rattle.exec_spec.specs.EventFrames.{restored_regime, cret_fill, cret, returned, cret_caught, cret_from, cret_after}
use Rattle.exec_flow.proofs.EndLaws.{finished, loaded_on, load_stopped}
use Rattle.machine.proofs.BankLaws.{Made}

-- ---- the cache filled

module _ (b : Bank) (q : Cache) (n p : ℕ) (y z : Bool) (ey : y ≡ is_user b) (ez : z ≡ bit_of p 16) (x : ℕ) (d : Bank) (c : Cache) (t u : Journaled)
    (e : response (cpu_out (answer_of x) d c) u ≡ interpret logging (catch_to (cpu b q) (regime_for (get_or b 9 0) y z) n) t) where
  abbrev then_msp : Cpu → Program (Out Cpu)
  then_msp f = done (with f msp n)

  caught : response (cpu_out (answer_of x) d c) u ≡ interpret logging (catch_to (cpu b q) (restored_regime (cpu b q) p) n) t
  caught = e ∙ same
    where
      same : interpret logging (catch_to (cpu b q) (regime_for (get_or b 9 0) y z) n) t ≡ interpret logging (catch_to (cpu b q) (restored_regime (cpu b q) p) n) t
      same = rw (ey, ez) refl

  pub caught_stopped : 2 ^ 32 ≤ x → response (cpu_out (answer_of x) d c) u ≡ interpret logging (cret_caught (cpu b q) n p) t
  unfolding cret_caught
  caught_stopped h = ended_stops d c x (catch_to (cpu b q) (restored_regime (cpu b q) p) n) then_msp t u caught h

  pub caught_done : x < 2 ^ 32 → response (cpu_out (answer_of x) (set d 4 n) c) u ≡ interpret logging (cret_caught (cpu b q) n p) t
  unfolding cret_caught interpret
  caught_done h =
      finished x (set d 4 n) c (with (cpu d c) msp n) u h refl ∙ sym (ended_goes d c x (catch_to (cpu b q) (restored_regime (cpu b q) p) n) then_msp t u caught h)

-- ---- whether it is filled

module _ (b : Bank) (q : Cache) (m p : ℕ) (t : Journaled) (n : ℕ) (en : n ≡ unreserved msp m) (y : Bool) (ey : y ≡ bit_of p 9) where
  pub fill_left : y ≡ false → response (cpu_out (answer_of 0) (set b 4 n) q) t ≡ interpret logging (cret_fill (cpu b q) m p) t
  unfolding cret_fill interpret cret_caught
  fill_left h = rw (sym ey ∙ h, ← en) (finished 0 (set b 4 n) q (with (cpu b q) msp n) t (omega arith) refl)

  module _ (h : y ≡ true) (z : Bool) (ez : z ≡ bit_of (word b config) 18) where
    pub fill_off : z ≡ false → response (cpu_out (answer_of 0) b q) t ≡ interpret logging (cret_fill (cpu b q) m p) t
    unfolding cret_fill interpret cret_caught
    fill_off k = rw (sym ey ∙ h, sym ez ∙ k) (finished 0 b q (cpu b q) t (omega arith) refl)

    pub fill_on : z ≡ true → (g : Response Journaled (Out Cpu)) → g ≡ interpret logging (cret_caught (cpu b q) n p) t → g ≡ interpret logging (cret_fill (cpu b q) m p) t
    unfolding cret_fill cret_caught
    fill_on k g f = rw (sym ey ∙ h, sym ez ∙ k, ← en) f

-- ---- the registers restored

module _ (b : Bank) (q : Cache) (s m a p n : ℕ) (en : n ≡ unreserved sp s) (x : ℕ) (d : Bank) (c : Cache) (t u : Journaled)
    (e : response (cpu_out (answer_of x) d c) u ≡ interpret logging (cret_fill (cpu (set (set b 8 n) 4 n) q) m p) t) where
  abbrev then_return : Cpu → Program (Out Cpu)
  then_return f = done (returned f a p)

  started : response (cpu_out (answer_of x) d c) u ≡ interpret logging (cret_fill (with (with (cpu b q) sp (unreserved sp s)) msp (unreserved sp s)) m p) t
  started = e ∙ ap (λ (i : ℕ). interpret logging (cret_fill (cpu (set (set b 8 i) 4 i) q) m p) t) en

  pub from_stopped : 2 ^ 32 ≤ x → response (cpu_out (answer_of x) d c) u ≡ interpret logging (cret_from (cpu b q) s m a p) t
  unfolding cret_from
  from_stopped h = ended_stops d c x (cret_fill (with (with (cpu b q) sp (unreserved sp s)) msp (unreserved sp s)) m p) then_return t u started h

  pub from_done : x < 2 ^ 32 → (f : Bank) → Made d f (λ i. returned i a p) → response (cpu_out (answer_of x) f c) u ≡ interpret logging (cret_from (cpu b q) s m a p) t
  unfolding cret_from interpret
  from_done h f ef =
      finished x f c (returned (cpu d c) a p) u h (ef c) ∙ sym (ended_goes d c x (cret_fill (with (with (cpu b q) sp (unreserved sp s)) msp (unreserved sp s)) m p) then_return t u started h)

-- ---- the frame's words: PC and PSW

module _ (b : Bank) (q : Cache) (s m : ℕ) (i : ℕ) (ei : i ≡ plus_of (word b isp) 8) (x : ℕ) (t u : Journaled) (e : response (answer_of x) u ≡ logging (read (kernel_regime b) Word i) t) where
  abbrev then_from : ℕ → ℕ → Program (Out Cpu)
  then_from a p = cret_from (cpu b q) s m a p

  abbrev then_psw : ℕ → ℕ → Program (Out Cpu)
  then_psw j a = read_frame (cpu b q) j >>= then_from a

  pub after_first : 2 ^ 32 ≤ x → response (cpu_out (answer_of (2 ^ 32)) b q) u ≡ interpret logging (cret_after (cpu b q) s m) t
  unfolding cret_after
  after_first h = rw (← ei) (load_stopped b q x i t u (then_psw (plus_of (word b isp) 12)) e h)

  module _ (h : x < 2 ^ 32) (j : ℕ) (ej : j ≡ plus_of (word b isp) 12) (y : ℕ) (w : Journaled) (f : response (answer_of y) w ≡ logging (read (kernel_regime b) Word j) u) where
    first_loaded : interpret logging (cret_after (cpu b q) s m) t ≡ interpret logging (then_psw j (x % 2 ^ 32)) u
    unfolding cret_after
    first_loaded = rw (← ei, ← ej) (loaded_on b q x i t u (then_psw j) e h)

    pub after_second : 2 ^ 32 ≤ y → response (cpu_out (answer_of (2 ^ 32)) b q) w ≡ interpret logging (cret_after (cpu b q) s m) t
    after_second k = load_stopped b q y j u w (then_from (x % 2 ^ 32)) f k ∙ sym first_loaded

    pub after_done : y < 2 ^ 32 → (a p : ℕ) → a ≡ x % 2 ^ 32 → p ≡ y % 2 ^ 32 → (g : Response Journaled (Out Cpu)) → g ≡ interpret logging (cret_from (cpu b q) s m a p) w
        → g ≡ interpret logging (cret_after (cpu b q) s m) t
    after_done k a p ea ep g z = z ∙ same ∙ sym (first_loaded ∙ loaded_on b q y j u w (then_from (x % 2 ^ 32)) f k)
      where
        same : interpret logging (cret_from (cpu b q) s m a p) w ≡ interpret logging (cret_from (cpu b q) s m (x % 2 ^ 32) (y % 2 ^ 32)) w
        same = rw (ea, ep) refl

-- ---- the frame's words: SP and MSP

module _ (b : Bank) (q : Cache) (x : ℕ) (t u : Journaled) (e : response (answer_of x) u ≡ logging (read (kernel_regime b) Word (word b isp)) t) where
  abbrev then_after : ℕ → ℕ → Program (Out Cpu)
  then_after s m = cret_after (cpu b q) s m

  abbrev then_second : ℕ → ℕ → Program (Out Cpu)
  then_second j s = read_frame (cpu b q) j >>= then_after s

  pub cret_first : 2 ^ 32 ≤ x → response (cpu_out (answer_of (2 ^ 32)) b q) u ≡ interpret logging (cret (cpu b q)) t
  unfolding cret cret_after cret_from
  cret_first h = load_stopped b q x (word b isp) t u (then_second (plus_of (word b isp) 4)) e h

  module _ (h : x < 2 ^ 32) (j : ℕ) (ej : j ≡ plus_of (word b isp) 4) (y : ℕ) (w : Journaled) (f : response (answer_of y) w ≡ logging (read (kernel_regime b) Word j) u) where
    sp_loaded : interpret logging (cret (cpu b q)) t ≡ interpret logging (then_second j (x % 2 ^ 32)) u
    unfolding cret cret_after cret_from
    sp_loaded = rw ej (loaded_on b q x (word b isp) t u (then_second (plus_of (word b isp) 4)) e h)

    pub cret_second : 2 ^ 32 ≤ y → response (cpu_out (answer_of (2 ^ 32)) b q) w ≡ interpret logging (cret (cpu b q)) t
    cret_second k = load_stopped b q y j u w (then_after (x % 2 ^ 32)) f k ∙ sym sp_loaded

    pub cret_done : y < 2 ^ 32 → (s m : ℕ) → s ≡ x % 2 ^ 32 → m ≡ y % 2 ^ 32 → (g : Response Journaled (Out Cpu)) → g ≡ interpret logging (cret_after (cpu b q) s m) w → g ≡ interpret logging (cret (cpu b q)) t
    cret_done k s m es em g z = z ∙ same ∙ sym (sp_loaded ∙ loaded_on b q y j u w (then_after (x % 2 ^ 32)) f k)
      where
        same : interpret logging (cret_after (cpu b q) s m) w ≡ interpret logging (cret_after (cpu b q) (x % 2 ^ 32) (y % 2 ^ 32)) w
        same = rw (es, em) refl
