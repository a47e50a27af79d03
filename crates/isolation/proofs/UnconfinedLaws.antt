-- Before its first event sequence a run of kind 03 takes the steps of a confined run.
-- Assumes nothing.
use Prim.Native.Nat.{ℕ, zero, suc, ◌<◌, ◌≤◌}
use mathlib.Core.Path.{◌≡◌, refl, sym, ap, ◌∙◌}
use mathlib.Core.Bool.{Bool, true, false, cond, not, ◌&&◌}
use native.Mathlib.Omega.{arith}
use lib.ListN.{length, get_or}
use lib.Dec.{leb}
use Rattle.memory.specs.Bytes.{Memory, whole_pages, memory_size}
use Rattle.access_spec.specs.Access.{Response, response}
use Rattle.access_spec.specs.Program.{ret, interpret, plain}
use Rattle.access_spec.proofs.InterpretLaws.{interpret_after}
use Rattle.machine.specs.Registers.{psw, good_bank, register_refused}
use Rattle.machine.specs.Status.{Cpu, reg, is_user, is_virtual}
use Rattle.datapath.specs.Parts.{Out, ok, stop, onward, ◌>>=◌, done}
use Rattle.exec_spec.specs.Execute.{normal, execute, Traced, traced}
use Rattle.step_spec.specs.Events.{Due, none, due, due_of, looked, event_code}
use Rattle.step_spec.specs.Step.{Dispatch, to_instruction, to_vector, fetch_instruction, Acted, finished, act, attempt, traces_at, trace_falls, stepped, finish, instruction_step, step_for, step, timed, holds_stack}
use Rattle.run_spec.specs.Run.{Board, board, Turn, goes, ends, if_stack_held, after_step, turn, ConfinedActed, carried_out, fetched, kcall_code, is_kcall, act_confined, confined_attempt, after_attempt, attempt_turn, confined_for, confined_turn, RunResult, budget_spent, going, advance, refusal, level_refused, level_not_user, unless_refused, run}
use Rattle.invariants.proofs.HeldLaws.{holds_traced}
use Rattle.isolation.specs.Execution.{RunRequest, confined, execution}
use Rattle.isolation.proofs.ExecutionLaws.{execution_at, execution_steps, execution_spent}

-- an attempt of either kind that ends in a finished instruction ends in it for the other
abbrev Follows : Response Memory (Out ConfinedActed) → Response Memory (Out Acted) → Type 0
Follows x y = (t : Traced) (d : Cpu) → x.out ≡ ok (carried_out t d) → y ≡ response (ok (finished t d)) x.world

act_follows : (c : Cpu) (k : Dispatch) (m : Memory) → Follows (interpret plain (act_confined c k) m) (interpret plain (act c k) m)
unfolding act_confined act ◌>>=◌ onward interpret
act_follows c (to_vector v) m = λ t d h. let z : ◌≡◌ {A = ℕ} 0 1 = cc in absurd (omega arith)
act_follows c (to_instruction i n) m = go (is_kcall (normal i))
  where
    ran : (o : Out Cpu) (w : Memory)
        → Follows (interpret plain (onward (λ d. ret (ok (carried_out (traced (normal i)) d))) o) w)
        (interpret plain (onward (λ d. done (finished (traced (normal i)) d)) o) w)
    ran (ok d) w t e h =
        let p : traced (normal i) ≡ t = cc in
        let q : d ≡ e = cc in
        rw (p, q) refl
    ran (stop x d) w t e h = let z : ◌≡◌ {A = ℕ} 0 1 = cc in absurd (omega arith)

    go : (b : Bool) → Follows
        (interpret plain (cond b (ret (ok (fetched kcall_code))) (execute c i n >>= (λ d. ret (ok (carried_out (traced (normal i)) d))))) m)
        (interpret plain (execute c i n >>= (λ d. done (finished (traced (normal i)) d))) m)
    go true = λ t d h. let z : ◌≡◌ {A = ℕ} 0 1 = cc in absurd (omega arith)
    go false =
        rw (
          interpret_after plain (execute c i n) (onward (λ d. ret (ok (carried_out (traced (normal i)) d)))) m,
          interpret_after plain (execute c i n) (onward (λ d. done (finished (traced (normal i)) d))) m,
        )
        (ran (interpret plain (execute c i n) m).out (interpret plain (execute c i n) m).world)

attempt_follows : (c : Cpu) (m : Memory) → Follows (interpret plain (confined_attempt c) m) (interpret plain (attempt c) m)
unfolding confined_attempt attempt ◌>>=◌ onward interpret
attempt_follows c m =
    rw (interpret_after plain (fetch_instruction c) (onward (act_confined c)) m, interpret_after plain (fetch_instruction c) (onward (act c)) m)
    (go (interpret plain (fetch_instruction c) m).out (interpret plain (fetch_instruction c) m).world)
  where
    go : (o : Out Dispatch) (w : Memory) → Follows (interpret plain (onward (act_confined c) o) w) (interpret plain (onward (act c) o) w)
    go (ok k) w = act_follows c k w
    go (stop n d) w = λ t e h. let z : ◌≡◌ {A = ℕ} 0 1 = cc in absurd (omega arith)

-- ---- one turn

module _ (s u : Board) (c : Cpu) where
  lost_never : (b : Bool) (t : Turn) → (t ≡ goes u → ⊥) → if_stack_held b s t ≡ goes u → ⊥
  lost_never true t f h = f h
  lost_never false t f h = let z : ◌≡◌ {A = ℕ} 0 1 = cc in omega arith

  ends_never : (reason code : ℕ) (v : Board) → ends reason code v ≡ goes u → ⊥
  ends_never reason code v h = let z : ◌≡◌ {A = ℕ} 0 1 = cc in omega arith

  step_same : (g : Response Memory (Out ConfinedActed)) (y : Response Memory (Out Acted)) → Follows g y → attempt_turn s c g ≡ goes u
      → after_step s (interpret plain (finish (reg c psw) y.out) y.world) ≡ goes u
  unfolding interpret finish
  step_same g y f h = go g.out refl h
    where
      go : (o : Out ConfinedActed) → g.out ≡ o → after_attempt s c o g.world ≡ goes u
          → after_step s (interpret plain (finish (reg c psw) y.out) y.world) ≡ goes u
      go (ok (carried_out t d)) e h = rw (f t d e, holds_traced (traces_at (reg c psw) t) d) h
      go (ok (fetched code)) e h = absurd (lost_never (holds_stack c) _ (ends_never 2 code (board c g.world)) h)
      go (stop n d) e h = absurd (lost_never (holds_stack d) _ (ends_never 2 n (board d g.world)) h)

  for_same : (d : Due) → confined_for d s c ≡ goes u → after_step s (interpret plain (step_for d c) s.memory) ≡ goes u
  unfolding instruction_step
  for_same none h =
      rw (interpret_after plain (attempt c) (finish (reg c psw)) s.memory)
      (step_same (interpret plain (confined_attempt c) s.memory) (interpret plain (attempt c) s.memory) (attempt_follows c s.memory) h)
  for_same (due e) h = absurd (ends_never 2 (event_code e) (board c s.memory) h)

-- where a confined run takes a step, a run of kind 03 takes the same
pub turn_same : (level : ℕ) (s u : Board) → confined_turn level s ≡ goes u → turn level s ≡ goes u
unfolding confined_turn turn step
turn_same level s u h = for_same s u (looked level s.cpu) (due_of level (looked level s.cpu).bank) h

-- ---- a run

-- a confined turn that ends is no spent budget
abbrev Stops : Turn → Type 0
Stops (goes s) = Unit {0}
Stops (ends reason code s) = 1 ≤ reason

module _ (s : Board) (c : Cpu) where
  lost_stops : (b : Bool) (t : Turn) → Stops t → Stops (if_stack_held b s t)
  lost_stops true t h = h
  lost_stops false t h = omega arith

  after_stops : (o : Out ConfinedActed) (m : Memory) → Stops (after_attempt s c o m)
  after_stops (ok (carried_out t d)) m =
      lost_stops (holds_stack d) (goes (board (timed s.cpu (stepped (trace_falls (traces_at (reg c psw) t) d) true)) m)) tt
  after_stops (ok (fetched code)) m = lost_stops (holds_stack c) (ends 2 code (board c m)) (omega arith)
  after_stops (stop n d) m = lost_stops (holds_stack d) (ends 2 n (board d m)) (omega arith)

  for_stops : (d : Due) → Stops (confined_for d s c)
  for_stops none = after_stops (interpret plain (confined_attempt c) s.memory).out (interpret plain (confined_attempt c) s.memory).world
  for_stops (due e) = omega arith

turn_stops : (level : ℕ) (s : Board) → Stops (confined_turn level s)
unfolding confined_turn
turn_stops level s = for_stops s (looked level s.cpu) (due_of level (looked level s.cpu).bank)

advance_same : (level n budget : ℕ) (s : Board) → (advance (confined_turn level) n budget s).stop ≡ budget_spent
    → advance (turn level) n budget s ≡ advance (confined_turn level) n budget s
unfolding advance
advance_same level n zero s h = refl
advance_same level n (suc budget) s h =
    go (λ u. advance_same level (suc n) budget u) (confined_turn level s) refl (turn_stops level s) h
  where
    go : ((u : Board) → (advance (confined_turn level) (suc n) budget u).stop ≡ budget_spent
        → advance (turn level) (suc n) budget u ≡ advance (confined_turn level) (suc n) budget u)
        → (x : Turn) → confined_turn level s ≡ x → Stops x → (going n (λ u. advance (confined_turn level) (suc n) budget u) x).stop ≡ budget_spent
        → going n (λ u. advance (turn level) (suc n) budget u) (turn level s) ≡ going n (λ u. advance (confined_turn level) (suc n) budget u) x
    go f (goes u) e p h = rw (turn_same level s u e) (f u h)
    go f (ends reason code u) e p h = absurd (omega arith)

-- what a confined run does not refuse, kind 03 does not
refusal_kind : (level : ℕ) (s : Board) → refusal true level s ≡ 0 → refusal false level s ≡ 0
unfolding refusal
refusal_kind level s e =
    go (whole_pages (length s.memory)) (good_bank s.cpu.bank) (leb level 7) (is_user s.cpu.bank && is_virtual s.cpu.bank) e
  where
    go : (w g l u : Bool) → cond (not w) memory_size (cond (not g) register_refused (cond (not l) level_refused (cond (true && not u) level_not_user 0))) ≡ 0
        → cond (not w) memory_size (cond (not g) register_refused (cond (not l) level_refused (cond (false && not u) level_not_user 0))) ≡ 0
    go true true true u z = refl
    go true true false u z = z
    go true false l u z = z
    go false g l u z = z

-- a confined run that spends its budget is the run of kind 03
pub run_same : (budget level : ℕ) (s : Board) → (run true budget level s).stop ≡ budget_spent → run false budget level s ≡ run true budget level s
unfolding run
run_same budget level s h = go (refusal true level s) refl h
  where
    go : (r : ℕ) → refusal true level s ≡ r → (unless_refused r (advance (confined_turn level) 0 budget s) s).stop ≡ budget_spent
        → unless_refused (refusal false level s) (advance (turn level) 0 budget s) s ≡ unless_refused r (advance (confined_turn level) 0 budget s) s
    go zero e h = rw (refusal_kind level s e) (advance_same level 0 budget s h)
    go (suc r) e h = absurd (omega arith)

-- and its code is 0
advance_code : (level n budget : ℕ) (s : Board) → (advance (confined_turn level) n budget s).stop ≡ budget_spent
    → (advance (confined_turn level) n budget s).code ≡ 0
unfolding advance
advance_code level n zero s h = refl
advance_code level n (suc budget) s h = go (λ u. advance_code level (suc n) budget u) (confined_turn level s) (turn_stops level s) h
  where
    go : ((u : Board) → (advance (confined_turn level) (suc n) budget u).stop ≡ budget_spent → (advance (confined_turn level) (suc n) budget u).code ≡ 0)
        → (x : Turn) → Stops x → (going n (λ u. advance (confined_turn level) (suc n) budget u) x).stop ≡ budget_spent
        → (going n (λ u. advance (confined_turn level) (suc n) budget u) x).code ≡ 0
    go f (goes u) p h = f u h
    go f (ends reason code u) p h = absurd (omega arith)

pub run_code : (budget level : ℕ) (s : Board) → (run true budget level s).stop ≡ budget_spent → (run true budget level s).code ≡ 0
unfolding run
run_code budget level s h = go (refusal true level s) h
  where
    go : (r : ℕ) → (unless_refused r (advance (confined_turn level) 0 budget s) s).stop ≡ budget_spent
        → (unless_refused r (advance (confined_turn level) 0 budget s) s).code ≡ 0
    go zero h = advance_code level 0 budget s h
    go (suc r) h = absurd (omega arith)

-- so the board after each step of a confined run is what kind 03 leaves after as many
pub execution_unconfined : (o : RunRequest) (k : ℕ) (s d : Board) → k < (confined o s).steps
    → get_or (execution o s) k d ≡ (run false (suc k) o.level s).left
execution_unconfined o k s d l =
    let p = execution_spent o (suc k) s (omega arith) (omega arith) in
    execution_at o k s d (omega (arith, execution_steps o s))
    ∙ sym (ap (λ (e : RunResult). e.left) (run_same (suc k) o.level s (ap (λ (e : RunResult). e.stop) p)))
