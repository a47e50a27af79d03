-- Every step and every attempt of a confined run keeps to the rules, in at most 79 and 75 accesses.
-- Assumes nothing.
use Prim.Native.Nat.{ℕ, ◌+◌, ◌*◌, ◌≤◌}
use mathlib.Core.Path.{◌≡◌, refl, sym, ◌∙◌}
use mathlib.Core.Bool.{Bool, true, false, cond, not, ◌&&◌, false≢true}
use native.Mathlib.Omega.{arith}
use lib.Dec.{T, eqb, lit<}
use Rattle.word.specs.Fields.{bit_of}
use Rattle.word.specs.Lists.{contains}
use Rattle.word.specs.Sums.{plus_of}
use Rattle.isa.specs.declared.Undecoded.TheVariants.{Illegal, Unimplemented, Truncated}
use Rattle.isa.specs.Decode.{decode_of}
use Rattle.access_spec.specs.Program.{Program, ret, after}
use Rattle.machine.specs.Registers.{config, psw, trace_due, timer1_due, timer2_due, nmi_taken}
use Rattle.machine.specs.Registers as place
use Rattle.machine.specs.Status.{Cpu, reg, with, is_user}
use Rattle.datapath.specs.Parts.{Out, ok, stop, resets}
use Rattle.exec_spec.specs.EventFrames.{exception_sequence, reset}
use Rattle.exec_spec.specs.Execute.{normal}
use Rattle.memory.specs.Exceptions.{trace_exception, illegal_instruction}
use Rattle.step_spec.specs.Events.{Event, interrupt, timer1, timer2, trace, Due, none, due, due_of, looked, take}
use Rattle.step_spec.specs.Timers.{counts1, counts2, ticked, counted}
use Rattle.step_spec.specs.Step.{Dispatch, to_instruction, to_vector, dispatch, fetch_instruction, Acted, finished, sequenced, act, attempt, traces_at, trace_falls, Stepped, stepped, settled, event_step, exception_step, finish, instruction_step, step_for, step, timed}
use Rattle.run_spec.specs.Run.{ConfinedActed, carried_out, fetched, is_kcall, act_confined, confined_attempt}
use Rattle.access_spec.proofs.BoundedLaws.{Within, within_more, within_after, within_weaker}
use Rattle.invariants.specs.StopCodes.{fetched_codes}
use Rattle.invariants.proofs.RuleLaws.{plainly, Rules, AnswersAllowed, ResultsAllowed, Part, bind, more, gives, either}
use Rattle.invariants.proofs.AccessLaws.{plus_value}
use Rattle.invariants.proofs.TextLaws.{fetch_text_law}
use Rattle.invariants.proofs.FrameLaws.{interrupt_part, exception_part, unimplemented_part, reset_holds}
use Rattle.invariants.proofs.ExecuteLaws.{NormalFits, execute_part}
use Rattle.invariants.proofs.ConstantLaws.{AnswerFits, decode_fits}
use Rattle.std.specs.Prelude.{Ok, Err}
use Rattle.isa.specs.Answers.{Decoded}

-- ---- results

abbrev DispatchFits : Dispatch → Type 0
DispatchFits (to_instruction i n) = NormalFits (normal i)
DispatchFits (to_vector v) = Unit

abbrev ActedHolds : Rules → Acted → Type 0
ActedHolds k (finished t c) = k.Holds c
ActedHolds k (sequenced c) = k.Holds c

abbrev pub SteppedHolds : Rules → Stepped → Type 0
SteppedHolds k s = k.Holds s.cpu

abbrev ConfinedHolds : Rules → ConfinedActed → Type 0
ConfinedHolds k (carried_out t c) = k.Holds c
ConfinedHolds k (fetched code) = contains fetched_codes code ≡ true

-- an attempt of a confined run ends with a machine in H, with the code of what has only been fetched, or by an exception in R
abbrev pub EndsIn : (ℕ → Type 0) → (Cpu → Type 0) → Out ConfinedActed → Type 0
EndsIn R H (ok (carried_out t c)) = H c
EndsIn R H (ok (fetched code)) = contains fetched_codes code ≡ true
EndsIn R H (stop e c) = R e × H c

-- every machine that it leaves is in H
abbrev pub Leaves : (Cpu → Type 0) → Out ConfinedActed → Type 0
Leaves H (ok (carried_out t c)) = H c
Leaves H (ok (fetched code)) = Unit
Leaves H (stop e c) = H c

module _ (k : Rules) where
  -- ---- what is due, and the timers

  pub looked_holds : (level : ℕ) (c : Cpu) → k.Holds c → k.Holds (looked level c)
  looked_holds level c h = go (eqb level 0)
    where
      go : (b : Bool) → k.Holds (cond b c (with c nmi_taken 0))
      go true = h
      go false = k.plain c nmi_taken 0 tt h (λ _. lit< tt)

  pub trace_holds : (b : Bool) (c : Cpu) → k.Holds c → k.Holds (trace_falls b c)
  trace_holds true c h = k.plain c trace_due 1 tt h (λ _. lit< tt)
  trace_holds false c h = h

  ticked_holds : (c : Cpu) (n mark : ℕ) (on : Bool) → T (plainly n (plus_of (reg c n) 1)) → T (plainly mark 1) → k.Holds c → k.Holds (ticked c n mark on)
  ticked_holds c n mark on t u h = go (eqb (plus_of (reg c n) 1) 0 && on)
    where
      more_by_one : k.Holds (with c n (plus_of (reg c n) 1))
      more_by_one = k.plain c n _ t h (plus_value k (reg c n) 1)

      go : (b : Bool) → k.Holds (cond b (with (with c n (plus_of (reg c n) 1)) mark 1) (with c n (plus_of (reg c n) 1)))
      go true = k.plain _ mark 1 u more_by_one (λ _. lit< tt)
      go false = more_by_one

  pub counted_holds : (config : ℕ) (kernel completed : Bool) (c : Cpu) → k.Holds c → k.Holds (counted config kernel completed c)
  unfolding counted
  counted_holds config kernel completed c h = second (counts2 config kernel completed) _ (first (counts1 config kernel completed))
    where
      first : (b : Bool) → k.Holds (cond b (ticked c place.timer1 timer1_due (bit_of config 24)) c)
      first true = ticked_holds c place.timer1 timer1_due (bit_of config 24) tt tt h
      first false = h

      second : (b : Bool) (d : Cpu) → k.Holds d → k.Holds (cond b (ticked d place.timer2 timer2_due (bit_of config 31)) d)
      second true d g = ticked_holds d place.timer2 timer2_due (bit_of config 31) tt tt g
      second false d g = g

  pub timed_holds : (c : Cpu) (s : Stepped) → SteppedHolds k s → k.Holds (timed c s)
  timed_holds c s h = counted_holds (reg c config) (not (is_user c.bank)) s.completed s.cpu h

  -- ---- fetch and instruction

  fetch_part : (c : Cpu) → k.Holds c → Part k DispatchFits 6 (fetch_instruction c)
  unfolding fetch_instruction
  fetch_part c h = bind {b = 0} (fetch_text_law k c h) λ t f. record { within = go (decode_of t) (decode_fits t f) }
    where
      go : (a : Decoded) → AnswerFits a → Within k.Asks (AnswersAllowed k) (ResultsAllowed k DispatchFits) 0 (ret (dispatch c a))
      go (Ok (i, n)) f = f
      go (Err Illegal) f = (k.raises illegal_instruction refl, h)
      go (Err (Unimplemented v)) f = tt
      go (Err Truncated) f = (k.raises illegal_instruction refl, h)

  act_part : (c : Cpu) (m : Dispatch) → k.Free → k.Holds c → DispatchFits m → Part k (ActedHolds k) 69 (act c m)
  unfolding act
  act_part c (to_instruction i n) free h f = bind (execute_part k c i n h f (λ _. free)) λ d g. gives {n = 0} g
  act_part c (to_vector v) free h f = more 69 (omega arith) (bind (unimplemented_part k free c v h) λ d g. gives {n = 0} g)

  attempt_part : (c : Cpu) → k.Free → k.Holds c → Part k (ActedHolds k) 75 (attempt c)
  unfolding attempt
  attempt_part c free h = bind (fetch_part c h) λ m f. act_part c m free h f

  try_part : (c : Cpu) (m : Dispatch) → k.Holds c → DispatchFits m → Part k (ConfinedHolds k) 69 (act_confined c m)
  unfolding act_confined
  try_part c (to_instruction i n) h f =
      either (is_kcall (normal i)) (λ _. gives refl) (λ e. bind (execute_part k c i n h f (λ g. absurd (apart e g))) λ d g. gives {n = 0} g)
    where
      apart : is_kcall (normal i) ≡ false → is_kcall (normal i) ≡ true → ⊥
      apart e g = false≢true (sym e ∙ g)
  try_part c (to_vector v) h f = gives refl

  pub confined_ends : (c : Cpu) → k.Holds c → Within k.Asks (AnswersAllowed k) (EndsIn k.Raises k.Holds) 75 (confined_attempt c)
  unfolding confined_attempt
  confined_ends c h =
      within_weaker k.Asks (AnswersAllowed k) (ResultsAllowed k (ConfinedHolds k)) (EndsIn k.Raises k.Holds) 75 (confined_attempt c) ends
      tries.within
    where
      tries : Part k (ConfinedHolds k) 75 (confined_attempt c)
      tries = bind (fetch_part c h) λ m f. try_part c m h f

      ends : (o : Out ConfinedActed) → ResultsAllowed k (ConfinedHolds k) o → EndsIn k.Raises k.Holds o
      ends (ok (carried_out t d)) g = g
      ends (ok (fetched code)) g = g
      ends (stop e d) g = g

  pub confined_part : (c : Cpu) → k.Holds c → Within k.Asks (AnswersAllowed k) (Leaves k.Holds) 75 (confined_attempt c)
  confined_part c h =
      within_weaker k.Asks (AnswersAllowed k) (EndsIn k.Raises k.Holds) (Leaves k.Holds) 75 (confined_attempt c) leaves (confined_ends c h)
    where
      leaves : (o : Out ConfinedActed) → EndsIn k.Raises k.Holds o → Leaves k.Holds o
      leaves (ok (carried_out t d)) g = g
      leaves (ok (fetched code)) g = tt
      leaves (stop e d) g = g.1

  -- ---- the step

  abbrev Stepping : ℕ → Program Stepped → Type 0
  Stepping n p = Within k.Asks (AnswersAllowed k) (SteppedHolds k) n p

  module _ (free : k.Free) where
    settled_holds : (o : Out Cpu) → ResultsAllowed k k.Holds o → k.Holds (settled o)
    settled_holds (ok c) h = h
    settled_holds (stop e c) h = reset_holds k free c h.1

    settles : (n : ℕ) (p : Program (Out Cpu)) → n ≤ 4 → Part k k.Holds n p → Stepping 4 (after p (λ o. ret (stepped (settled o) false)))
    settles n p l t =
        within_after k.Asks (AnswersAllowed k) (SteppedHolds k) (ResultsAllowed k k.Holds) n 0 4 p (λ o. ret (stepped (settled o) false)) (omega arith) t.within settled_holds

    event_part : (c : Cpu) (e : Event) → k.Holds c → Stepping 4 (event_step c e)
    unfolding event_step take
    event_part c (interrupt n) h = settles 3 _ (omega arith) (interrupt_part k free _ (16 + 4 * n) (go (eqb n 0)))
      where
        go : (b : Bool) → k.Holds (cond b (with c nmi_taken 1) c)
        go true = k.plain c nmi_taken 1 tt h (λ _. lit< tt)
        go false = h
    event_part c timer1 h = settles 3 _ (omega arith) (interrupt_part k free _ 44 (k.plain c timer1_due 0 tt h (λ _. lit< tt)))
    event_part c timer2 h = settles 3 _ (omega arith) (interrupt_part k free _ 48 (k.plain c timer2_due 0 tt h (λ _. lit< tt)))
    event_part c trace h = settles 4 _ (omega arith) (exception_part k free _ trace_exception (k.plain c trace_due 0 tt h (λ _. lit< tt)))

    exception_step_law : (c : Cpu) (e : ℕ) → k.Holds c → Stepping 4 (exception_step c e)
    unfolding exception_step
    exception_step_law c e h = go (eqb e resets)
      where
        go : (b : Bool) → Stepping 4 (cond b (ret (stepped (reset c) false)) (after (exception_sequence c e) (λ o. ret (stepped (settled o) false))))
        go true = reset_holds k free c h
        go false = settles 4 (exception_sequence c e) (omega arith) (exception_part k free c e h)

    finish_part : (p : ℕ) (o : Out Acted) → ResultsAllowed k (ActedHolds k) o → Stepping 4 (finish p o)
    unfolding finish
    finish_part p (ok (finished t c)) h = trace_holds (traces_at p t) c h
    finish_part p (ok (sequenced c)) h = trace_holds (bit_of p 7) c h
    finish_part p (stop e c) h = exception_step_law c e h.1

    instruction_part : (c : Cpu) → k.Holds c → Stepping 79 (instruction_step c)
    unfolding instruction_step
    instruction_part c h =
        within_after k.Asks (AnswersAllowed k) (SteppedHolds k) (ResultsAllowed k (ActedHolds k)) 75 4 79 (attempt c) (finish (reg c psw)) (omega arith)
        (attempt_part c free h).within (finish_part (reg c psw))

    due_part : (d : Due) (c : Cpu) → k.Holds c → Stepping 79 (step_for d c)
    due_part none c h = instruction_part c h
    due_part (due e) c h = within_more k.Asks (AnswersAllowed k) (SteppedHolds k) 4 79 (event_step c e) (omega arith) (event_part c e h)

    pub step_part : (level : ℕ) (c : Cpu) → k.Holds c → Stepping 79 (step level c)
    unfolding step
    step_part level c h = due_part (due_of level (looked level c).bank) (looked level c) (looked_holds level c h)
