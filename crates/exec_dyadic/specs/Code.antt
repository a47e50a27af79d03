-- What is left of an instruction once its source is read and its destination is found.
-- Assumes nothing.
use Rattle.std.specs.Prelude.{ℕ}
use Rattle.isa.specs.declared.Operand.{Operand}
use Rattle.isa.specs.declared.Wide.{Wide}
use Rattle.access_spec.specs.Program.{Program}
use Rattle.machine.specs.Status.{Cpu}
use Rattle.datapath.specs.Parts.{Out, ◌>>=◌}
use Rattle.exec_spec.specs.Operands.{Place, locate, read_operand}

-- the source's value and the destination's place, then the rest
abbrev pub finding : Cpu → Wide → Operand → Operand → (ℕ → Place → Program (Out Cpu)) → Program (Out Cpu)
finding c w s d f = do
  x ← read_operand c w s
  p ← locate c w d
  f x p
