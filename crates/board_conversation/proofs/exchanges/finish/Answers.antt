use Rattle.std.proofs.Common.{take, drop, ◌∙◌}
use Rattle.lines.specs.Texts.{next, last_line}
use Rattle.lines.proofs.CarryLaws.{least_is}
use Rattle.machine.specs.Status.{cpu}
use Rattle.run_spec.specs.Run.{board}
use Rattle.board_lines.specs.Printouts.{printout_of}
use Rattle.board_conversation.specs.Blocks.{lines_on}
use Rattle.board_conversation.specs.Code.{board_io, board_io_of, cleared}
use Rattle.board_conversation.proofs.PartLaws.{none_left, one_left, finished}
use Rattle.board_conversation.proofs.exchanges.finish.Goals.{then-f-e, else-f-e}
use Rattle.board_conversation.proofs.exchanges.finish.Goals as goal

pub returns-clause-text : goal.returns-clause-text
returns-clause-text c = let s = c.args in
    finished (lines_on (next s.s.last) (last_line (drop s.s.from (take s.s.end s.block.now))) (board_io (board (cpu s.r.now s.q.now) s.m.now) (cleared (printout_of s.printout.now)))) _ _ _
    (elim c.if-f-e.branch [
      | then-f-e w ↦ (λ i. board_io_of (cpu (w.r-is i) (w.q-is i)) (w.m-is i) (w.printout-is i)) ∙ one_left _ _ _ _ _ (least_is _ _ _ c.min-e.ensures) (least_is _ _ _ c.min-f.ensures) _ _ _ _ w.if-f-e.true w.answer_line.ensures.text
      | else-f-e w ↦ (λ i. board_io_of (cpu (w.r-is i) (w.q-is i)) (w.m-is i) (w.printout-is i)) ∙ none_left _ _ _ _ _ (least_is _ _ _ c.min-e.ensures) (least_is _ _ _ c.min-f.ensures) _ _ w.if-f-e.false
    ])
    c.put_totals.ensures.text
