use Rattle.exec_alu.proofs.ResultLaws.{both_laid}
use Prim.Native.Nat.{◌/◌}
use lib.Bits.{mask_lt}
use Rattle.std.proofs.Common.{rules}
use Rattle.exec_alu.proofs.results.laid_over.Goals as goal

pub overflow_cast-flags : goal.overflow_cast-flags
overflow_cast-flags c = search (rules, mask_lt (c.args.w / 0x1_0000_0000 / 4) 2)

pub overflow_cast-flags-2 : goal.overflow_cast-flags-2
overflow_cast-flags-2 c = search (rules, mask_lt (c.args.w / 0x1_0000_0000) 2)

pub returns : goal.returns
returns c = search (rules, both_laid)
