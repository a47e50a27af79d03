use mathlib.Core.Path.{sym, ◌∙◌}
use native.Mathlib.Omega.{arith}
use Rattle.parcels_listing.proofs.PortionLaws.{nothing_yet, filled_as, passed_over, another_line, portion_full, portion_last}
use Rattle.std.proofs.Common.{rules}
use Rattle.parcels_listing.proofs.put_lines.Goals as goal
use Rattle.parcels_listing.proofs.put_lines.Goals.{then-on_list+else-out-place-lt-LINE_SIZE, else-on_list}

pub loop-p-init : goal.loop-p-init
loop-p-init c = search (rules, nothing_yet)

pub returns-then-out-place-lt-LINE_SIZE : goal.returns-then-out-place-lt-LINE_SIZE
returns-then-out-place-lt-LINE_SIZE c = search (rules, portion_full)

pub loop-p-preserved : goal.loop-p-preserved
loop-p-preserved c =
    let told = sym c.on_list.ensures in
    let before = c.loop-p.invariant in
    elim c.if-on_list.branch [
      | then-on_list+else-out-place-lt-LINE_SIZE w ↦
          filled_as _ _ _ _ _ _ _ w.out-is w.place-is
          (another_line _ _ _ _ _ _ before (omega arith) (told ∙ w.if-on_list.true) (omega (arith, w.if-out-place-lt-LINE_SIZE.false)) w.put_line.ensures)
      | else-on_list w ↦ filled_as _ _ _ _ _ _ _ w.out-is w.place-is (passed_over _ _ _ _ _ before (omega arith) (told ∙ w.if-on_list.false))
    ]

pub returns : goal.returns
returns c = search (rules, portion_last)
