-- One turn of a confined run, on two boards that are equal but for hidden pages.
-- Assumes nothing.
use Prim.Native.Nat.{ℕ}
use mathlib.Core.Path.{◌≡◌, refl, ap, ◌∙◌}
use mathlib.Core.Bool.{Bool, true, false}
use Rattle.memory.specs.Bytes.{Memory}
use Rattle.mmu.specs.declared.Regime.{Regime}
use Rattle.access_spec.specs.Access.{Access, regime_of}
use Rattle.access_spec.specs.Program.{interpret, plain}
use Rattle.access_spec.proofs.InterpretLaws.{Alike}
use Rattle.access_spec.proofs.BoundedLaws.{Bounded, bounded_result}
use Rattle.machine.specs.Registers.{psw}
use Rattle.machine.specs.Status.{Cpu, reg, regime}
use Rattle.datapath.specs.Parts.{Out, ok, stop}
use Rattle.step_spec.specs.Events.{Due, none, due, due_of, looked, event_code}
use Rattle.step_spec.specs.Step.{traces_at, trace_falls, stepped, timed, holds_stack}
use Rattle.run_spec.specs.Run.{Board, board, Turn, goes, ends, if_stack_held, refused, event_due, stack_range, ConfinedActed, carried_out, fetched, confined_attempt, after_attempt, attempt_turn, confined_for, confined_turn}
use Rattle.invariants.proofs.LevelLaws.{InRegime, looked_kept, timed_kept, user_fixed_most}
use Rattle.isolation.specs.Isolation.{Same}
use Rattle.isolation.proofs.AccessLaws.{Inv, access_twin}
use Rattle.isolation.proofs.ProgramLaws.{bounded_alike}

module _ (H : ℕ → Type 0) (r : Regime) (a₀ b₀ : Board) where
  abbrev pub Memories : Memory → Memory → Type 0
  Memories = Inv H r.stb a₀.memory b₀.memory

  -- two boards with one machine in the regime r, and memories of which the invariant holds
  pub data Pair : Board → Board → Type 0 where
    pair : (c : Cpu) (a b : Memory) → regime c.bank ≡ r → Memories a b → Pair (board c a) (board c b)

  -- two turns that do the same on such boards
  pub data Turns : Turn → Turn → Type 0 where
    both_go : {a b : Board} → Pair a b → Turns (goes a) (goes b)
    both_end : (reason code : ℕ) {a b : Board} → Pair a b → Turns (ends reason code a) (ends reason code b)

  pub pair_same : {a b : Board} → Pair a b → Same H a₀ b₀ a b
  pair_same (pair c a b e i) = record { registers = refl; others = i.agree; first_a = i.kept_a; first_b = i.kept_b }

  -- number 4 gives back the boards of before
  unless_turns : (held : Bool) {a b : Board} {x y : Turn} → Pair a b → Turns x y → Turns (if_stack_held held a x) (if_stack_held held b y)
  unless_turns true p t = t
  unless_turns false p t = both_end refused stack_range p

  module _ (user : r.user ≡ true) (virtual : r.translated ≡ true) where
    after_turns : (s c : Cpu) → regime c.bank ≡ r → {a b : Memory} → Pair (board s a) (board s b)
        → (o : Out ConfinedActed) → InRegime (regime c.bank) o → (x y : Memory) → Memories x y
        → Turns (after_attempt (board s a) c o x) (after_attempt (board s b) c o y)
    after_turns s c e p (ok (carried_out t d)) k x y i =
        let f = timed_kept c (ap (λ (z : Regime). z.user) e ∙ user) s d (traces_at (reg c psw) t) true k in
        unless_turns (holds_stack d) p (both_go (pair (timed s (stepped (trace_falls (traces_at (reg c psw) t) d) true)) x y (f ∙ e) i))
    after_turns s c e p (ok (fetched code)) k x y i = unless_turns (holds_stack c) p (both_end event_due code (pair c x y e i))
    after_turns s c e p (stop n d) k x y i = unless_turns (holds_stack d) p (both_end event_due n (pair d x y (k ∙ e) i))

    -- every access of an attempt goes in the regime that it began with
    attempt_turns : (s c : Cpu) → regime c.bank ≡ r → (a b : Memory) → Pair (board s a) (board s b) → Memories a b
        → Turns (attempt_turn (board s a) c (interpret plain (confined_attempt c) a)) (attempt_turn (board s b) c (interpret plain (confined_attempt c) b))
    attempt_turns s c e a b p i =
        rw (← t.out)
        (after_turns s c e p (interpret plain (confined_attempt c) a).out
        (bounded_result plain (λ q. regime_of q ≡ regime c.bank) (InRegime (regime c.bank)) 100 (confined_attempt c) a bound)
        (interpret plain (confined_attempt c) a).world (interpret plain (confined_attempt c) b).world t.world)
      where
        bound : Bounded (λ q. regime_of q ≡ regime c.bank) (InRegime (regime c.bank)) 100 (confined_attempt c)
        bound = user_fixed_most c (ap (λ (x : Regime). x.user) e ∙ user) (ap (λ (x : Regime). x.translated) e ∙ virtual)

        alike : (q : Access) → regime_of q ≡ regime c.bank → (x y : Memory) → Memories x y → Alike Memories (plain q x) (plain q y)
        alike q h x y j =
            let f = h ∙ e in
            access_twin H r.stb a₀.memory b₀.memory q (ap (λ (z : Regime). z.stb) f) (ap (λ (z : Regime). z.user) f ∙ user)
            (ap (λ (z : Regime). z.translated) f ∙ virtual) x y j

        t : Alike Memories (interpret plain (confined_attempt c) a) (interpret plain (confined_attempt c) b)
        t =
            bounded_alike Memories plain plain (λ q. regime_of q ≡ regime c.bank) (InRegime (regime c.bank)) alike 100
            (confined_attempt c) bound a b i

    for_turns : (d : Due) (s c : Cpu) → regime c.bank ≡ r → (a b : Memory) → Pair (board s a) (board s b) → Memories a b
        → Turns (confined_for d (board s a) c) (confined_for d (board s b) c)
    for_turns none s c e a b p i = attempt_turns s c e a b p i
    for_turns (due v) s c e a b p i = both_end event_due (event_code v) (pair c a b e i)

    pub turn_turns : (level : ℕ) {a b : Board} → Pair a b → Turns (confined_turn level a) (confined_turn level b)
    unfolding confined_turn
    turn_turns level (pair c a b e i) =
        for_turns (due_of level (looked level c).bank) c (looked level c) (looked_kept c (ap (λ (z : Regime). z.user) e ∙ user) level ∙ e) a b (pair c a b e i) i
