use Rattle.exec_dyadic.proofs.MoveLaws.{constant_address, memory_address}
use Rattle.exec_dyadic.proofs.moving.general_address.Goals as goal

pub returns-then-is_constant : goal.returns-then-is_constant
returns-then-is_constant c = constant_address c.args.mode c.args.v c.args.a _ c.is_constant.ensures c.if-is_constant.true

pub returns-else-is_constant : goal.returns-else-is_constant
returns-else-is_constant c = memory_address c.args.mode c.args.v c.args.a _ c.is_constant.ensures c.if-is_constant.false
