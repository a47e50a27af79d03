use Rattle.exec_operands.proofs.PlaceLaws.{kind_known}
use mathlib.Core.Path.{refl}
use Rattle.exec_operands.proofs.places.is_constant.Goals as goal

pub returns-in-Absolute : goal.returns-in-Absolute
returns-in-Absolute c = kind_known c.args.mode _ _ _ c.mode_kind-k.ensures c.in-Absolute.is refl

pub returns-in-Offset : goal.returns-in-Offset
returns-in-Offset c = kind_known c.args.mode _ _ _ c.mode_kind-k.ensures c.in-Offset.is refl

pub returns-in-Indirect : goal.returns-in-Indirect
returns-in-Indirect c = kind_known c.args.mode _ _ _ c.mode_kind-k.ensures c.in-Indirect.is refl

pub returns-in-Constant : goal.returns-in-Constant
returns-in-Constant c = kind_known c.args.mode _ _ _ c.mode_kind-k.ensures c.in-Constant.is refl
