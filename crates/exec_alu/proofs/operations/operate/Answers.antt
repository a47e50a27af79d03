use Rattle.exec_alu.proofs.ResultLaws.{operated}
use Rattle.std.proofs.Common.{rules}
use Rattle.exec_alu.proofs.operations.operate.Goals as goal

pub returns-in-Add : goal.returns-in-Add
returns-in-Add c = search (rules, operated)

pub returns-in-Sub : goal.returns-in-Sub
returns-in-Sub c = search (rules, operated)

pub returns-in-Mul : goal.returns-in-Mul
returns-in-Mul c = search (rules, operated)

pub returns-in-Div : goal.returns-in-Div
returns-in-Div c = search (rules, operated)

pub returns-in-Rem : goal.returns-in-Rem
returns-in-Rem c = search (rules, operated)

pub returns-in-Udiv : goal.returns-in-Udiv
returns-in-Udiv c = search (rules, operated)

pub returns-in-Urem : goal.returns-in-Urem
returns-in-Urem c = search (rules, operated)

pub returns-in-And : goal.returns-in-And
returns-in-And c = search (rules, operated)

pub returns-in-Or : goal.returns-in-Or
returns-in-Or c = search (rules, operated)

pub returns-in-Xor : goal.returns-in-Xor
returns-in-Xor c = search (rules, operated)

pub returns-in-Shl : goal.returns-in-Shl
returns-in-Shl c = search (rules, operated)

pub returns-in-Shr : goal.returns-in-Shr
returns-in-Shr c = search (rules, operated)

pub returns-in-Ushr : goal.returns-in-Ushr
returns-in-Ushr c = search (rules, operated)
