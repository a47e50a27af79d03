-- The exceptions (Table 1-26), by their numbers.
-- Assumes nothing.
use Rattle.std.specs.Prelude.{ℕ}

abbrev pub zero_divide : ℕ
zero_divide = 0x1

abbrev pub trace_exception : ℕ
trace_exception = 0x2

abbrev pub illegal_instruction : ℕ
illegal_instruction = 0x3

abbrev pub alignment_fault : ℕ
alignment_fault = 0x4

abbrev pub privilege_violation : ℕ
privilege_violation = 0x5

abbrev pub unimplemented_register : ℕ
unimplemented_register = 0x6

abbrev pub fetch_fault : ℕ
fetch_fault = 0x7

abbrev pub read_fault : ℕ
read_fault = 0x8

abbrev pub write_fault : ℕ
write_fault = 0x9

-- HOUSE: "a physical address past its end gives exception 0xA, and 0xB during a table walk"
abbrev pub bus_fault : ℕ
bus_fault = 0xA

abbrev pub walk_fault : ℕ
walk_fault = 0xB
