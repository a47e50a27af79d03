-- At user level an attempt of a confined run has one regime from its first access to its result.
-- Assumes nothing.
use Prim.Native.Nat.{ℕ, zero, suc}
use mathlib.Core.Path.{◌≡◌, refl, sym, ap, subst, ◌∙◌}
use mathlib.Core.Bool.{Bool, true, false≢true}
use mathlib.Core.List.{List, [], ◌∷◌}
use native.Mathlib.Omega.{arith}
use lib.Dec.{T}
use lib.ListN.{get_or, set}
use lib.Seq.{get_or-set_other}
use Rattle.word.specs.Fields.{bit_of}
use Rattle.mmu.specs.declared.Regime.{Regime}
use Rattle.access_spec.specs.Access.{Access, regime_of}
use Rattle.access_spec.specs.Program.{Handler, interpret}
use Rattle.access_spec.proofs.BoundedLaws.{Any, Bounded, within_more, within_bounded, within_result}
use Rattle.machine.specs.Registers.{Bank, word, psw, stb}
use Rattle.machine.specs.Status.{Cpu, is_user, is_virtual, regime}
use Rattle.datapath.specs.Parts.{Out}
use Rattle.step_spec.specs.Events.{looked}
use Rattle.step_spec.specs.Step.{trace_falls, stepped, timed}
use Rattle.run_spec.specs.Run.{ConfinedActed, confined_attempt}
use Rattle.invariants.proofs.RuleLaws.{Rules, ConfinedException, AnswerIn, AnswersAllowed, any_answer, Alike, plainly}
use Rattle.invariants.proofs.StepLaws.{EndsIn, Leaves, looked_holds, trace_holds, timed_holds, confined_ends, confined_part}

-- ---- a bank with another word in one place

regime_of_law : (a b : Bank) → word a stb ≡ word b stb → is_user a ≡ is_user b → is_virtual a ≡ is_virtual b → regime a ≡ regime b
regime_of_law a b e f g = λ i. record { stb = e i; user = f i; translated = g i }

-- what is asked of the old word and of the new one holds of the word there, as the place may be missing
set_word : (P : ℕ → Type 0) (b : List ℕ) (k v : ℕ) → P (get_or b k 0) → P v → P (get_or (set b k v) k 0)
set_word P [] k v h g = h
set_word P (x ∷ b) zero v h g = g
set_word P (x ∷ b) (suc k) v h g = set_word P b k v h g

apart : (k v : ℕ) → T (plainly k v) → (psw ≡ k → ⊥) × (stb ≡ k → ⊥)
apart k v t = ((λ e. subst (λ (x : ℕ). T (plainly x v)) (sym e) t), (λ e. subst (λ (x : ℕ). T (plainly x v)) (sym e) t))

plain_regime : (b : Bank) (k v : ℕ) → T (plainly k v) → regime (set b k v) ≡ regime b
plain_regime b k v t =
    regime_of_law (set b k v) b (get_or-set_other b k stb v 0 (apart k v t).1)
    (ap (λ (x : ℕ). bit_of x 10) (get_or-set_other b k psw v 0 (apart k v t).0))
    (ap (λ (x : ℕ). bit_of x 16) (get_or-set_other b k psw v 0 (apart k v t).0))

status_regime : (b : Bank) (v : ℕ) → Alike (word b psw) v → regime (set b psw v) ≡ regime b
status_regime b v a =
    regime_of_law (set b psw v) b (get_or-set_other b psw stb v 0 (λ e. omega arith))
    (set_word (λ (x : ℕ). bit_of x 10 ≡ bit_of (word b psw) 10) b psw v refl (a.bits 10 tt))
    (set_word (λ (x : ℕ). bit_of x 16 ≡ bit_of (word b psw) 16) b psw v refl (a.bits 16 tt))

-- the machines left have a regime
abbrev pub InRegime : Regime → Out ConfinedActed → Type 0
InRegime r = Leaves (λ d. regime d.bank ≡ r)

-- ---- the regime of a machine at user level

module _ (c : Cpu) (u : is_user c.bank ≡ true) where
  -- whose exceptions are in R, with all that a confined run may meet
  abbrev fixed_raising : (R : ℕ → Type 0) → ((e : ℕ) → ConfinedException e → R e) → Rules
  fixed_raising R f =
      record {
        Asks = λ q. regime_of q ≡ regime c.bank;
        Holds = λ d. regime d.bank ≡ regime c.bank;
        Raises = R;
        Free = ⊥;
        Words = ⊥;
        asks = λ d q h e. e ∙ h;
        anything = λ f q. absurd f;
        kernel = λ d h e. false≢true (sym e ∙ ap (λ (r : Regime). r.user) h ∙ u);
        raises = f;
        raises_all = λ a e. absurd a;
        plain = λ d k v t h w. plain_regime d.bank k v t ∙ h;
        register = λ d k v t f h w. absurd f;
        status = λ d v h a. status_regime d.bank v a ∙ h;
        stored = λ d w a v h. h;
        filled = λ d a w x y z h f. h;
        words = λ d k h w. absurd w;
      }

  abbrev fixed : Rules
  fixed = fixed_raising Any (λ e l. tt)

  -- every access of an attempt goes as the machine it began with has it
  pub user_fixed : Bounded (λ q. regime_of q ≡ regime c.bank) (InRegime (regime c.bank)) 75 (confined_attempt c)
  user_fixed = within_bounded fixed.Asks (AnswersAllowed fixed) (InRegime (regime c.bank)) 75 (confined_attempt c) (any_answer fixed (λ w. w) (λ e. tt)) (confined_part fixed c refl)

  -- and it ends by no other exception than a confined run's, in a world whose accesses raise no other
  pub user_ends : {W : Type 0} (h : Handler W) → ((q : Access) (w : W) → AnswerIn ⊥ ConfinedException q (h q w).out) → (w : W)
      → EndsIn ConfinedException (λ d. regime d.bank ≡ regime c.bank) (interpret h (confined_attempt c) w).out
  user_ends h f w =
      within_result raising.Asks (AnswersAllowed raising) h Any (EndsIn ConfinedException raising.Holds) 75 (confined_attempt c) w
      (λ q w i. (f q w, tt)) tt (confined_ends raising c refl)
    where
      raising : Rules
      raising = fixed_raising ConfinedException (λ e l. l)

  -- and what a step does beside it keeps the regime: the look for events, the trace, the timers
  pub looked_kept : (level : ℕ) → regime (looked level c).bank ≡ regime c.bank
  looked_kept level = looked_holds fixed level c refl

  pub timed_kept : (s d : Cpu) (t b : Bool) → regime d.bank ≡ regime c.bank → regime (timed s (stepped (trace_falls t d) b)).bank ≡ regime c.bank
  timed_kept s d t b h = timed_holds fixed s (stepped (trace_falls t d) b) (trace_holds fixed t d h)

-- as isolation asks for it
pub user_fixed_most : (c : Cpu) → is_user c.bank ≡ true → is_virtual c.bank ≡ true
    → Bounded (λ q. regime_of q ≡ regime c.bank) (InRegime (regime c.bank)) 100 (confined_attempt c)
user_fixed_most c u v = within_more _ (λ q. Any) (InRegime (regime c.bank)) 75 100 (confined_attempt c) (omega arith) (user_fixed c u)
