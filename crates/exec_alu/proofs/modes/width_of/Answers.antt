use mathlib.Core.Path.{sym, ap}
use Rattle.exec_spec.specs.Operands.{width_of}
use Rattle.exec_alu.proofs.modes.width_of.Goals as goal

pub returns-in-AbsoluteByte : goal.returns-in-AbsoluteByte
returns-in-AbsoluteByte c = ap width_of (sym c.in-AbsoluteByte.is)

pub returns-in-AbsoluteUbyte : goal.returns-in-AbsoluteUbyte
returns-in-AbsoluteUbyte c = ap width_of (sym c.in-AbsoluteUbyte.is)

pub returns-in-AbsoluteHalf : goal.returns-in-AbsoluteHalf
returns-in-AbsoluteHalf c = ap width_of (sym c.in-AbsoluteHalf.is)

pub returns-in-AbsoluteUhalf : goal.returns-in-AbsoluteUhalf
returns-in-AbsoluteUhalf c = ap width_of (sym c.in-AbsoluteUhalf.is)

pub returns-in-StackByte : goal.returns-in-StackByte
returns-in-StackByte c = ap width_of (sym c.in-StackByte.is)

pub returns-in-StackUbyte : goal.returns-in-StackUbyte
returns-in-StackUbyte c = ap width_of (sym c.in-StackUbyte.is)

pub returns-in-StackHalf : goal.returns-in-StackHalf
returns-in-StackHalf c = ap width_of (sym c.in-StackHalf.is)

pub returns-in-StackUhalf : goal.returns-in-StackUhalf
returns-in-StackUhalf c = ap width_of (sym c.in-StackUhalf.is)

pub returns-in-IndirectByte : goal.returns-in-IndirectByte
returns-in-IndirectByte c = ap width_of (sym c.in-IndirectByte.is)

pub returns-in-IndirectUbyte : goal.returns-in-IndirectUbyte
returns-in-IndirectUbyte c = ap width_of (sym c.in-IndirectUbyte.is)

pub returns-in-IndirectHalf : goal.returns-in-IndirectHalf
returns-in-IndirectHalf c = ap width_of (sym c.in-IndirectHalf.is)

pub returns-in-IndirectUhalf : goal.returns-in-IndirectUhalf
returns-in-IndirectUhalf c = ap width_of (sym c.in-IndirectUhalf.is)

pub returns-in-AbsoluteWord : goal.returns-in-AbsoluteWord
returns-in-AbsoluteWord c = ap width_of (sym c.in-AbsoluteWord.is)

pub returns-in-StackWord : goal.returns-in-StackWord
returns-in-StackWord c = ap width_of (sym c.in-StackWord.is)

pub returns-in-IndirectWord : goal.returns-in-IndirectWord
returns-in-IndirectWord c = ap width_of (sym c.in-IndirectWord.is)

pub returns-in-Immediate : goal.returns-in-Immediate
returns-in-Immediate c = ap width_of (sym c.in-Immediate.is)
