-- The refusals by their numbers (document 01: 1 to 9; the request for records: 13 to 15). 0 is none.
-- Assumes nothing.
use Rattle.std.specs.Prelude.{ℕ, Result, Ok, Err}
use Rattle.refusals.specs.declared.Refusal.{Refusal}
use Rattle.refusals.specs.declared.Refusal.TheVariants.{MemorySize, Register, InterruptLevel, LostStack, NoEncoding, CutText, MalformedLine, OutsideMemory, LevelNotUser, MalformedRecord, WrongChecksum, OtherKind}

abbrev pub number_of : Refusal → ℕ
number_of MemorySize = 1
number_of Register = 2
number_of InterruptLevel = 3
number_of LostStack = 4
number_of NoEncoding = 5
number_of CutText = 6
number_of MalformedLine = 7
number_of OutsideMemory = 8
number_of LevelNotUser = 9
number_of MalformedRecord = 13
number_of WrongChecksum = 14
number_of OtherKind = 15

-- of what is done or refused
abbrev pub refusal_of : {A : Type 0} → Result A Refusal → ℕ
refusal_of (Ok x) = 0
refusal_of (Err r) = number_of r
