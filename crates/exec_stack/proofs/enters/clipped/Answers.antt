use Rattle.exec_stack.proofs.EnterLaws.{clipped_top, clipped_same, clipped_low}
use Rattle.exec_stack.proofs.enters.clipped.Goals as goal

pub returns-then-top-msp : goal.returns-then-top-msp
returns-then-top-msp c = clipped_top c.args.old c.args.msp c.args.target _ _ c.minus.ensures c.if-minus-gt-STACK_CACHE_BYTES.true c.plus-top.ensures c.if-top-msp.true

pub returns-else-top-msp : goal.returns-else-top-msp
returns-else-top-msp c = clipped_same c.args.old c.args.msp c.args.target _ _ c.minus.ensures c.if-minus-gt-STACK_CACHE_BYTES.true c.plus-top.ensures c.if-top-msp.false

pub returns-else-minus-gt-STACK_CACHE_BYTES : goal.returns-else-minus-gt-STACK_CACHE_BYTES
returns-else-minus-gt-STACK_CACHE_BYTES c = clipped_low c.args.old c.args.msp c.args.target _ c.minus.ensures c.if-minus-gt-STACK_CACHE_BYTES.false
