-- What the calls leave in the caller's blocks.
-- Assumes nothing.
use Prim.Native.Nat.{ℕ}
use mathlib.Core.Path.{◌≡◌, ap, ◌∙◌}
use mathlib.Core.Bool.{Bool, false}
use mathlib.Core.List.{List}
use lib.ListN.{length}
use Rattle.memory.specs.Bytes.{Memory}
use Rattle.machine.specs.Registers.{Bank}
use Rattle.machine.specs.Cache.{Cache, quads_of, flat_of}
use Rattle.machine.specs.Status.{cpu}
use Rattle.machine.proofs.FlatLaws.{flat_quads}
use Rattle.run_spec.specs.Run.{board, RunResult, run}
use Rattle.run_spec.specs.declared.Stopped.{Stopped}
use Rattle.run_spec.specs.Stopping.{stopped_at}
use Rattle.run.specs.Code.{step_result, one_step}
use Rattle.hobbit.specs.declared.HobbitAnswer.{HobbitAnswer}
use Rattle.hobbit.specs.Blocks.{board_in, blocks, blocks_of, run_answer, run_answer_of, step_answer, step_answer_of}

-- r and c are the blocks at the call, q the quad-words read from c and p those that the run left, d the bank and l the
-- memory that it left, f what is written back
module _ (r c : List ℕ) (m : Memory) (q : Cache) (eq : q ≡ quads_of c) (d : Bank) (p : Cache) (l : Memory) (f : List ℕ) (ef : f ≡ flat_of p) (x : Stopped) where
  returns_run : (confined : Bool) (budget level : ℕ) → stopped_at x (board (cpu d p) l) ≡ run confined budget level (board (cpu r q) m)
      → stopped_at x (board (cpu d p) l) ≡ run confined budget level (board_in r c m)
  returns_run confined budget level e = e ∙ ap (λ (k : Cache). run confined budget level (board (cpu r k) m)) eq

  pub run_returned : (confined : Bool) (budget level : ℕ) (a : HobbitAnswer) → a.steps ≡ x.steps → a.stop ≡ x.stop → a.code ≡ x.code
      → stopped_at x (board (cpu d p) l) ≡ run confined budget level (board (cpu r q) m)
      → run_answer a (blocks d f l) ≡ run_answer_of (run confined budget level (board_in r c m))
  run_returned confined budget level a g h i e =
      (λ j. record { steps = g j; stop = h j; code = i j; left = blocks d (ef j) l })
      ∙ ap (λ (y : RunResult). run_answer_of y) (returns_run confined budget level e)

  pub step_returned : (level : ℕ) → stopped_at x (board (cpu d p) l) ≡ run false 1 level (board (cpu r q) m)
      → step_answer x.code (blocks d f l) ≡ step_answer_of (one_step level (board_in r c m))
  step_returned level e =
      (λ j. step_answer x.code (blocks d (ef j) l))
      ∙ ap (λ (y : RunResult). step_answer_of (step_result y.code y.left)) (returns_run false 1 level e)

-- "a refused request changes nothing": the blocks of a board that was not changed are the caller's
pub blocks_kept : (r c : List ℕ) (m : Memory) → length c ≡ 64 → blocks_of (board_in r c m) ≡ blocks r c m
blocks_kept r c m h = ap (λ (f : List ℕ). blocks r f m) (flat_quads c h)
