use Rattle.exec_registers.proofs.RegisterLaws.{put_none}
use Rattle.std.proofs.Common.{rules}
use Rattle.exec_registers.proofs.registers.put.Goals as goal

pub returns-else-k-lt-BANK_WORDS : goal.returns-else-k-lt-BANK_WORDS
returns-else-k-lt-BANK_WORDS c = search (rules, put_none)
