use Rattle.std.proofs.Common.{◌%◌, arith}
use Rattle.word.proofs.FieldLaws.{ones_fit, field_masked}
use Rattle.word.proofs.fields.field.Goals as goal

pub overflow_sub-result : goal.overflow_sub-result
overflow_sub-result c = ones_fit (c.args.count % 32) (omega arith)

pub returns : goal.returns
returns c = field_masked c.args.x (c.args.low % 32) (c.args.count % 32) (omega arith)
