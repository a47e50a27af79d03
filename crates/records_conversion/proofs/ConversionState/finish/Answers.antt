use Rattle.lines.proofs.CarryLaws.{least_is}
use Rattle.records_conversion.proofs.ExchangeLaws.{none_left, one_left}
use Rattle.records_conversion.proofs.ConversionState.finish.Goals as goal

pub returns-then-filled-gt0-clause-text : goal.returns-then-filled-gt0-clause-text
returns-then-filled-gt0-clause-text c = one_left c.args.way c.args.block.now _ _ (least_is _ _ _ c.min-filled.ensures) _ _ _ _ _ c.if-filled-gt0.true c.convert_line.ensures.text

pub returns-else-filled-gt0-clause-text : goal.returns-else-filled-gt0-clause-text
returns-else-filled-gt0-clause-text c = none_left c.args.way c.args.block.now _ _ (least_is _ _ _ c.min-filled.ensures) _ _ c.if-filled-gt0.false
