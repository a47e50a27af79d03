-- A confined run, and a list of them, on two boards that are equal but for hidden pages: demand 3.
-- Assumes nothing.
use Prim.Native.Nat.{ℕ, zero, suc}
use mathlib.Core.Path.{◌≡◌, refl, sym, ap, ◌∙◌}
use mathlib.Core.Bool.{true}
use mathlib.Core.List.{List, [], ◌∷◌}
use Rattle.memory.specs.Bytes.{Memory}
use Rattle.mmu.specs.declared.Regime.{Regime}
use Rattle.machine.specs.Status.{Cpu, regime}
use Rattle.run_spec.specs.Run.{Board, board, Turn, confined_turn, RunResult, run_result, budget_spent, going, advance, refused, refusal, unless_refused, run}
use Rattle.isolation.specs.Sealed.{Agree}
use Rattle.isolation.specs.Execution.{RunRequest, confined, report, passing, passed, none_if_refused, execution}
use Rattle.isolation.specs.Isolation.{Same, Along, none, both, SameRuns, Isolation}
use Rattle.isolation.proofs.RefusalLaws.{refusal_same, confined_user, confined_virtual}
use Rattle.isolation.proofs.TurnLaws.{Pair, pair, Turns, both_go, both_end, pair_same, turn_turns}

module _ (H : ℕ → Type 0) (r : Regime) (a₀ b₀ : Board) where
  abbrev Boards : Board → Board → Type 0
  Boards = Pair H r a₀ b₀

  -- two runs that ended alike
  record Ends (x y : RunResult) : Type 0 where
    report : report x ≡ report y
    left : Boards x.left y.left

  ended_ends : (n reason code : ℕ) {a b : Board} → Boards a b → Ends (run_result n reason code a) (run_result n reason code b)
  ended_ends n reason code (pair c a b e i) = record { report = refl; left = pair c a b e i }

  -- ---- by any turn that does the same on both boards

  module _ (t : Board → Turn) (alike : (a b : Board) → Boards a b → Turns H r a₀ b₀ (t a) (t b)) where
    going_ends : (n : ℕ) (f g : Board → RunResult) → ((a b : Board) → Boards a b → Ends (f a) (g b)) → {x y : Turn}
        → Turns H r a₀ b₀ x y → Ends (going n f x) (going n g y)
    going_ends n f g h (both_go {a} {b} p) = h a b p
    going_ends n f g h (both_end reason code p) = ended_ends n reason code p

    advance_ends : (n budget : ℕ) (a b : Board) → Boards a b → Ends (advance t n budget a) (advance t n budget b)
    unfolding advance
    advance_ends n zero a b p = ended_ends n budget_spent 0 p
    advance_ends n (suc budget) a b p = going_ends n _ _ (λ c d q. advance_ends (suc n) budget c d q) (alike a b p)

    passing_along : (f g : Board → List Board) → ((a b : Board) → Boards a b → Along (Same H a₀ b₀) (f a) (g b)) → {x y : Turn}
        → Turns H r a₀ b₀ x y → Along (Same H a₀ b₀) (passing f x) (passing g y)
    passing_along f g h (both_go {a} {b} p) = both (pair_same H r a₀ b₀ p) (h a b p)
    passing_along f g h (both_end reason code p) = both (pair_same H r a₀ b₀ p) none

    passed_along : (budget : ℕ) (a b : Board) → Boards a b → Along (Same H a₀ b₀) (passed t budget a) (passed t budget b)
    unfolding passed
    passed_along zero a b p = none
    passed_along (suc budget) a b p = passing_along _ _ (λ c d q. passed_along budget c d q) (alike a b p)

  -- ---- confined runs, refused ones too

  -- a run that is not refused is at user level with virtual addressing
  turns : (level : ℕ) (a b : Board) → Boards a b → refusal true level a ≡ 0 → (c d : Board) → Boards c d
      → Turns H r a₀ b₀ (confined_turn level c) (confined_turn level d)
  turns level a b (pair c x y e i) z s t p =
      turn_turns H r a₀ b₀
      (sym (ap (λ (q : Regime). q.user) e) ∙ confined_user level (board c x) z)
      (sym (ap (λ (q : Regime). q.translated) e) ∙ confined_virtual level (board c x) z) level p

  taken_ends : (o : RunRequest) (n : ℕ) (a b : Board) → Boards a b → refusal true o.level a ≡ n
      → Ends (unless_refused n (advance (confined_turn o.level) 0 o.budget a) a) (unless_refused n (advance (confined_turn o.level) 0 o.budget b) b)
  taken_ends o zero a b p z = advance_ends (confined_turn o.level) (turns o.level a b p z) 0 o.budget a b p
  taken_ends o (suc n) a b p z = ended_ends 0 refused (suc n) p

  run_ends : (o : RunRequest) {a b : Board} → Boards a b → Ends (confined o a) (confined o b)
  unfolding run
  run_ends o (pair c a b e i) =
      rw (← refusal_same o.level c a b i.agree.len)
      (taken_ends o (refusal true o.level (board c a)) (board c a) (board c b) (pair c a b e i) refl)

  through_along : (o : RunRequest) (n : ℕ) (a b : Board) → Boards a b → refusal true o.level a ≡ n
      → Along (Same H a₀ b₀) (none_if_refused n (passed (confined_turn o.level) o.budget a)) (none_if_refused n (passed (confined_turn o.level) o.budget b))
  through_along o zero a b p z = passed_along (confined_turn o.level) (turns o.level a b p z) o.budget a b p
  through_along o (suc n) a b p z = none

  execution_along : (o : RunRequest) {a b : Board} → Boards a b → Along (Same H a₀ b₀) (execution o a) (execution o b)
  unfolding execution
  execution_along o (pair c a b e i) =
      rw (← refusal_same o.level c a b i.agree.len)
      (through_along o (refusal true o.level (board c a)) (board c a) (board c b) (pair c a b e i) refl)

  -- ---- a list of them

  runs : (os : List RunRequest) {a b : Board} → Boards a b → SameRuns H a₀ b₀ os a b
  runs [] p = tt
  runs (o ∷ os) p =
      let e = run_ends o p in
      (record { answer = e.report; steps = execution_along o p; left = pair_same H r a₀ b₀ e.left }, runs os e.left)

-- demand 3
pub isolation : Isolation
isolation H a b p os = runs H (regime a.cpu.bank) a b os (start b.cpu p.registers b.memory p.others)
  where
    start : (c : Cpu) → a.cpu ≡ c → (n : Memory) → Agree H a.memory n → Pair H (regime a.cpu.bank) a (board c n) a (board c n)
    start c e n g =
        rw (← e)
        (pair a.cpu a.memory n refl
        (record {
          agree = g;
          seal = p.sealed;
          kept_a = record { len = refl; same = λ x h. refl };
          kept_b = record { len = refl; same = λ x h. refl };
        }))
