-- A calm turn whose instruction was performed goes, in either kind of run.
-- Assumes nothing.
use Prim.Native.Nat.{ℕ}
use mathlib.Core.Path.{◌≡◌, refl, sym, ap, ◌∙◌}
use mathlib.Core.Bool.{Bool, true, false, not, ◌||◌}
use borrow.Author.Tests.{ne_eqb}
use Rattle.word.proofs.CaseLaws.{or_left, or_right}
use Rattle.word.specs.Fields.{bit_of}
use Rattle.memory.specs.Bytes.{Memory}
use Rattle.access_spec.specs.Access.{Response, response}
use Rattle.access_spec.specs.Program.{ret, interpret, plain}
use Rattle.access_spec.proofs.InterpretLaws.{interpret_after}
use Rattle.machine.specs.Registers.{Bank, word, config, psw, sp, msp, nmi_taken, stack_held}
use Rattle.machine.specs.Cache.{Cache}
use Rattle.machine.specs.Status.{Cpu, cpu, is_user}
use Rattle.datapath.specs.Parts.{Out, ok, done}
use Rattle.exec_spec.specs.Execute.{normal, execute, Traced, always, at_jumps, never, traced}
use Rattle.step_spec.specs.Events.{Due, due_of, looked}
use Rattle.step_spec.specs.Timers.{counted}
use Rattle.step_spec.specs.Step.{to_instruction, Acted, finished, fetch_instruction, act, attempt, traces_at, trace_falls, Stepped, stepped, finish, instruction_step, step_for, step, timed, holds_stack}
use Rattle.run_spec.specs.Run.{board, goes, if_stack_held, after_step, turn, ConfinedActed, carried_out, act_confined, confined_attempt, attempt_turn, confined_for, confined_turn, turn_of}
use Rattle.step_pending.specs.Dues.{due_code, due_from}
use Rattle.step_pending.proofs.Laws.{due_known}
use Rattle.fast_dyadic.specs.Fast.{gives}
use Rattle.fast.specs.Performed.{Performed, NoEventPending}
use Rattle.fast_dyadic.proofs.GiveLaws.{gives_then, gives_done, set_same}

-- ---- the look

pub pending_so : (level : ℕ) (b : Bank) → (level ≡ 0 → ⊥) → word b nmi_taken ≡ 0 → (u v : Bool) → u ≡ bit_of (word b psw) 7 → v ≡ bit_of (word b psw) 8 → (u || v) ≡ false
    → (t : Bool) → t ≡ stack_held (word b sp) (word b msp) → t ≡ true → (k : ℕ) → k ≡ due_code (due_of level b) → k ≡ 0 → NoEventPending level b
pending_so level b h g u v eu ev i t et j k ek l =
    record { asked = h; unmarked = g; idle = sym (due_known level b) ∙ ap due_from (sym ek ∙ l); untraced = sym eu ∙ or_left u v i; unjumped = sym ev ∙ or_right u v i; held = sym et ∙ j }

module _ (level : ℕ) (b : Bank) (q : Cache) (unpending : NoEventPending level b) where
  looked_same : looked level (cpu b q) ≡ cpu b q
  looked_same = rw (ne_eqb level 0 unpending.asked) (ap (λ (d : Bank). cpu d q) (set_same b nmi_taken 0 unpending.unmarked))

-- ---- the instruction

untraced : (p : ℕ) (t : Traced) → bit_of p 7 ≡ false → bit_of p 8 ≡ false → traces_at p t ≡ false
untraced p always h k = h
untraced p at_jumps h k = rw (h, k) refl
untraced p never h k = refl

module _ (c d : Cpu) (m n : Memory) (w : Performed c m d n) where
  abbrev kind : Traced
  kind = traced (normal w.instruction)

  acted : gives (act c (to_instruction w.instruction w.parcels)) m (finished kind d) n
  unfolding act
  acted = gives_then (execute c w.instruction w.parcels) (λ e. done (finished kind e)) m n n d (finished kind d) w.instruction_done.executed (gives_done (done (finished kind d)) (finished kind d) refl n)

  attempted : gives (attempt c) m (finished kind d) n
  unfolding attempt
  attempted = gives_then (fetch_instruction c) (λ i. act c i) m m n (to_instruction w.instruction w.parcels) (finished kind d) w.fetched acted

  carried_so : gives (act_confined c (to_instruction w.instruction w.parcels)) m (carried_out kind d) n
  unfolding act_confined
  carried_so =
      rw w.instruction_done.free
      (gives_then (execute c w.instruction w.parcels) (λ e. ret (ok (carried_out kind e))) m n n d (carried_out kind d) w.instruction_done.executed (gives_done (done (carried_out kind d)) (carried_out kind d) refl n))

  confined_so : gives (confined_attempt c) m (carried_out kind d) n
  unfolding confined_attempt
  confined_so = gives_then (fetch_instruction c) (λ i. act_confined c i) m m n (to_instruction w.instruction w.parcels) (carried_out kind d) w.fetched carried_so

-- ---- the turn: e is the bank after the instruction, f with the timers too

module _ (level : ℕ) (b e f : Bank) (q s : Cache) (m n : Memory) (unpending : NoEventPending level b) (w : Performed (cpu b q) m (cpu e s) n) (k : Bool) (ek : k ≡ is_user b) (tick : (p : Cache) → cpu f p ≡ counted (word b config) (not k) true (cpu e p)) where
  abbrev c : Cpu
  c = cpu b q

  abbrev d : Cpu
  d = cpu e s

  no_trace : trace_falls (traces_at (word b psw) (kind c d m n w)) d ≡ d
  no_trace = rw (untraced (word b psw) (kind c d m n w) unpending.untraced unpending.unjumped) refl

  ticked_so : timed c (stepped d true) ≡ cpu f s
  ticked_so = sym (tick s ∙ ap (λ (u : Bool). counted (word b config) (not u) true d) ek)

  stack_held_law : holds_stack d ≡ true
  stack_held_law = w.instruction_done.held unpending.held

  stepped_so : interpret plain (step level c) m ≡ response (stepped d true) n
  unfolding step instruction_step finish interpret
  stepped_so =
      ap (λ (z : Cpu). interpret plain (step_for (due_of level z.bank) z) m) (looked_same level b q unpending)
      ∙ ap (λ (z : Due). interpret plain (step_for z c) m) unpending.idle
      ∙ interpret_after plain (attempt c) (finish (word b psw)) m
      ∙ ap (λ (g : Response Memory (Out Acted)). interpret plain (finish (word b psw) g.out) g.world) (attempted c d m n w)
      ∙ ap (λ (z : Cpu). response (stepped z true) n) no_trace

  turn_goes : turn level (board c m) ≡ goes (board (cpu f s) n)
  unfolding turn
  turn_goes =
      ap (λ (g : Response Memory Stepped). after_step (board c m) g) stepped_so
      ∙ ap (λ (h : Bool). if_stack_held h (board c m) (goes (board (timed c (stepped d true)) n))) stack_held_law
      ∙ ap (λ (z : Cpu). goes (board z n)) ticked_so

  confined_goes : confined_turn level (board c m) ≡ goes (board (cpu f s) n)
  unfolding confined_turn
  confined_goes =
      ap (λ (z : Cpu). confined_for (due_of level z.bank) (board c m) z) (looked_same level b q unpending)
      ∙ ap (λ (z : Due). confined_for z (board c m) c) unpending.idle
      ∙ ap (λ (g : Response Memory (Out ConfinedActed)). attempt_turn (board c m) c g) (confined_so c d m n w)
      ∙ ap (λ (h : Bool). if_stack_held h (board c m) (goes (board (timed c (stepped (trace_falls (traces_at (word b psw) (kind c d m n w)) d) true)) n))) stack_held_law
      ∙ ap (λ (z : Cpu). goes (board (timed c (stepped z true)) n)) no_trace
      ∙ ap (λ (z : Cpu). goes (board z n)) ticked_so

  pub fast_goes : (confined : Bool) → turn_of confined level (board c m) ≡ goes (board (cpu f s) n)
  fast_goes true = confined_goes
  fast_goes false = turn_goes
