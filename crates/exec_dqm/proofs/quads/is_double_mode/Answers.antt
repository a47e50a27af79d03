use mathlib.Core.Path.{refl}
use Rattle.exec_dqm.proofs.quads.is_double_mode.Goals as goal

pub returns-in-AbsoluteByte : goal.returns-in-AbsoluteByte
returns-in-AbsoluteByte c = rw c.in-AbsoluteByte.is refl

pub returns-in-AbsoluteUbyte : goal.returns-in-AbsoluteUbyte
returns-in-AbsoluteUbyte c = rw c.in-AbsoluteUbyte.is refl

pub returns-in-AbsoluteHalf : goal.returns-in-AbsoluteHalf
returns-in-AbsoluteHalf c = rw c.in-AbsoluteHalf.is refl

pub returns-in-AbsoluteUhalf : goal.returns-in-AbsoluteUhalf
returns-in-AbsoluteUhalf c = rw c.in-AbsoluteUhalf.is refl

pub returns-in-StackByte : goal.returns-in-StackByte
returns-in-StackByte c = rw c.in-StackByte.is refl

pub returns-in-StackUbyte : goal.returns-in-StackUbyte
returns-in-StackUbyte c = rw c.in-StackUbyte.is refl

pub returns-in-StackHalf : goal.returns-in-StackHalf
returns-in-StackHalf c = rw c.in-StackHalf.is refl

pub returns-in-StackUhalf : goal.returns-in-StackUhalf
returns-in-StackUhalf c = rw c.in-StackUhalf.is refl

pub returns-in-IndirectByte : goal.returns-in-IndirectByte
returns-in-IndirectByte c = rw c.in-IndirectByte.is refl

pub returns-in-IndirectUbyte : goal.returns-in-IndirectUbyte
returns-in-IndirectUbyte c = rw c.in-IndirectUbyte.is refl

pub returns-in-IndirectHalf : goal.returns-in-IndirectHalf
returns-in-IndirectHalf c = rw c.in-IndirectHalf.is refl

pub returns-in-IndirectUhalf : goal.returns-in-IndirectUhalf
returns-in-IndirectUhalf c = rw c.in-IndirectUhalf.is refl

pub returns-in-AbsoluteWord : goal.returns-in-AbsoluteWord
returns-in-AbsoluteWord c = rw c.in-AbsoluteWord.is refl

pub returns-in-StackWord : goal.returns-in-StackWord
returns-in-StackWord c = rw c.in-StackWord.is refl

pub returns-in-IndirectWord : goal.returns-in-IndirectWord
returns-in-IndirectWord c = rw c.in-IndirectWord.is refl

pub returns-in-Immediate : goal.returns-in-Immediate
returns-in-Immediate c = rw c.in-Immediate.is refl
