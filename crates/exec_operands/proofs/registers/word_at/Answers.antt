use Rattle.exec_operands.proofs.ReadLaws.{word_past}
use Rattle.exec_operands.proofs.registers.word_at.Goals as goal

pub returns-else-k-lt-BANK_WORDS : goal.returns-else-k-lt-BANK_WORDS
returns-else-k-lt-BANK_WORDS c = word_past c.args.r.now c.args.k c.bank_size-size.ensures c.if-k-lt-BANK_WORDS.false
