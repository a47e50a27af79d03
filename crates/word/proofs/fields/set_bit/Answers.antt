use Rattle.std.proofs.Common.{◌%◌, arith}
use Rattle.word.proofs.FieldLaws.{set_masked}
use Rattle.word.proofs.fields.set_bit.Goals as goal

pub returns : goal.returns
returns c = set_masked c.args.x (c.args.n % 32) (omega arith)
