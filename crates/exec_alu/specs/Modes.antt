-- Where an operand is, in the code's type.
-- Assumes nothing.
use Rattle.exec_spec.specs.Operands.{ModeKind, absolute, offset, indirect, constant}
use Rattle.exec_alu.specs.declared.OperandKind.{OperandKind}
use Rattle.exec_alu.specs.declared.OperandKind.TheVariants.{Absolute, Offset, Indirect, Constant}

abbrev pub kind_from : OperandKind → ModeKind
kind_from Absolute = absolute
kind_from Offset = offset
kind_from Indirect = indirect
kind_from Constant = constant
