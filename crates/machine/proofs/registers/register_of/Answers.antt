use mathlib.Core.Path.{sym, ap}
use Prim.Native.Nat.{zero-le}
use lib.ListN.{get_or-eq_default}
use Rattle.word.proofs.MatchLaws.{climb}
use Rattle.machine.specs.Registers.{prefixed_registers, bank_size, register_of}
use Rattle.machine.proofs.registers.register_of.Goals as goal

pub returns-in-0 : goal.returns-in-0
returns-in-0 c = ap register_of (sym c.in-0.is)

pub returns-in-1 : goal.returns-in-1
returns-in-1 c = ap register_of (sym c.in-1.is)

pub returns-in-2 : goal.returns-in-2
returns-in-2 c = ap register_of (sym c.in-2.is)

pub returns-in-3 : goal.returns-in-3
returns-in-3 c = ap register_of (sym c.in-3.is)

pub returns-in-4 : goal.returns-in-4
returns-in-4 c = ap register_of (sym c.in-4.is)

pub returns-in-5 : goal.returns-in-5
returns-in-5 c = ap register_of (sym c.in-5.is)

pub returns-in-6 : goal.returns-in-6
returns-in-6 c = ap register_of (sym c.in-6.is)

pub returns-in-7 : goal.returns-in-7
returns-in-7 c = ap register_of (sym c.in-7.is)

pub returns-in-8 : goal.returns-in-8
returns-in-8 c = ap register_of (sym c.in-8.is)

pub returns-in-9 : goal.returns-in-9
returns-in-9 c = ap register_of (sym c.in-9.is)

pub returns-in-10 : goal.returns-in-10
returns-in-10 c = ap register_of (sym c.in-10.is)

pub returns-in-11 : goal.returns-in-11
returns-in-11 c = ap register_of (sym c.in-11.is)

pub returns-in-12 : goal.returns-in-12
returns-in-12 c = ap register_of (sym c.in-12.is)

pub returns-in_default : goal.returns-in_default
returns-in_default c = sym (get_or-eq_default prefixed_registers bank_size (climb _ 0 13 _ zero-le c.in_default.in_default-own.rest))
