-- What a run's line adds to the totals, by what the run answers.
-- Assumes nothing.
use mathlib.Core.Path.{◌≡◌, ap, ◌∙◌}
use Prim.Native.Nat.{ℕ, ◌%◌}
use native.Mathlib.Omega.{arith}
use lib.Dec.{eqb}
use Rattle.machine.specs.Registers.{pc, psw}
use Rattle.machine.specs.Status.{reg}
use Rattle.run_spec.specs.Run.{refused, run}
use Rattle.board_lines.specs.Printouts.{run_counted, refusal_added, added_if}
use Rattle.board_lines.proofs.TotalsLaws.{ran_added}
use Rattle.invariants.proofs.StopCodes.{run_listed}
use Rattle.isolation_board.specs.Totals.{RunCounts}
use Rattle.isolation_board.proofs.Codes.{small_stop}

pub run_counts : RunCounts
run_counts confined budget level b k =
    let e = run confined budget level b in
    let small = small_stop confined e.code e.stop (run_listed confined budget level b) in
    let whole : e.stop % 256 ≡ e.stop = omega (arith, small) in
    ran_added e.steps e.stop e.code (reg e.left.cpu pc) (reg e.left.cpu psw) k
    ∙ ap (λ (x : ℕ). added_if (eqb x refused) refusal_added (run_counted e.steps k)) whole
