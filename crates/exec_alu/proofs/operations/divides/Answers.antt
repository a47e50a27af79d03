use mathlib.Core.Path.{sym, ap}
use Rattle.exec_spec.specs.Alu.{divides}
use Rattle.exec_alu.proofs.operations.divides.Goals as goal

pub returns-in-Add : goal.returns-in-Add
returns-in-Add c = ap divides (sym c.in-Add.is)

pub returns-in-Sub : goal.returns-in-Sub
returns-in-Sub c = ap divides (sym c.in-Sub.is)

pub returns-in-Mul : goal.returns-in-Mul
returns-in-Mul c = ap divides (sym c.in-Mul.is)

pub returns-in-Div : goal.returns-in-Div
returns-in-Div c = ap divides (sym c.in-Div.is)

pub returns-in-Rem : goal.returns-in-Rem
returns-in-Rem c = ap divides (sym c.in-Rem.is)

pub returns-in-Udiv : goal.returns-in-Udiv
returns-in-Udiv c = ap divides (sym c.in-Udiv.is)

pub returns-in-Urem : goal.returns-in-Urem
returns-in-Urem c = ap divides (sym c.in-Urem.is)

pub returns-in-And : goal.returns-in-And
returns-in-And c = ap divides (sym c.in-And.is)

pub returns-in-Or : goal.returns-in-Or
returns-in-Or c = ap divides (sym c.in-Or.is)

pub returns-in-Xor : goal.returns-in-Xor
returns-in-Xor c = ap divides (sym c.in-Xor.is)

pub returns-in-Shl : goal.returns-in-Shl
returns-in-Shl c = ap divides (sym c.in-Shl.is)

pub returns-in-Shr : goal.returns-in-Shr
returns-in-Shr c = ap divides (sym c.in-Shr.is)

pub returns-in-Ushr : goal.returns-in-Ushr
returns-in-Ushr c = ap divides (sym c.in-Ushr.is)
