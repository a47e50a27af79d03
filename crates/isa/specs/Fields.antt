-- Fields of one parcel, sections 1.6.1 and 3.3 (Table 3-2): where they stand and what they say.
use Rattle.std.specs.Prelude.{ℕ, ◌+◌, ◌*◌, ◌/◌, ◌%◌}
use Rattle.word.specs.Widths.{sign_extend_of}
use Rattle.isa.specs.declared.FieldMode.{FieldMode}
use Rattle.isa.specs.declared.FieldMode.TheVariants.{Absent, Imm5, Uimm5, Wai5, Stk5, Istk5, Imm10, Pcrel10, Stk8, Fill8}

-- the parcel: a 0 bit, a five-bit opcode, ten operand bits
abbrev pub short_opcode : ℕ → ℕ
short_opcode p = p / 1024 % 32

abbrev pub short_operands : ℕ → ℕ
short_operands p = p % 1024

-- the source field: five bits before the destination's five, or the low eight, or all ten
abbrev pub source_field : FieldMode → ℕ → ℕ
source_field Absent p = 0
source_field Imm5 p = p / 32 % 32
source_field Uimm5 p = p / 32 % 32
source_field Wai5 p = p / 32 % 32
source_field Stk5 p = p / 32 % 32
source_field Istk5 p = p / 32 % 32
source_field Imm10 p = short_operands p
source_field Pcrel10 p = short_operands p
source_field Stk8 p = p % 256
source_field Fill8 p = p % 256

-- the destination field: the low five bits
abbrev pub destination_field : ℕ → ℕ
destination_field p = p % 32

-- what a field stands for: immediates are sign extended, offsets are scaled, ENTER's is filled with ones
abbrev pub field_value : FieldMode → ℕ → ℕ
field_value Absent f = 0
field_value Imm5 f = sign_extend_of 5 f
field_value Uimm5 f = f
field_value Wai5 f = f * 4
field_value Stk5 f = f * 4
field_value Istk5 f = f * 4
field_value Imm10 f = f * 4
field_value Pcrel10 f = sign_extend_of 11 (f * 2)
field_value Stk8 f = f * 16
field_value Fill8 f = f * 16 + 0xFFFF_F000
