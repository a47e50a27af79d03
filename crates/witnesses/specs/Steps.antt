-- Wrong answers of a step, each on a small board on which the definition answers otherwise.
-- Assumes nothing.
use Rattle.std.specs.Prelude.{ℕ, Bool, List, [], ◌∷◌, replicate, T}
use Rattle.word.specs.Sums.{add_of, sub_of}
use Rattle.memory.specs.Bytes.{Memory, load, store_answer, store_memory}
use Rattle.isa.specs.Decode.{decode_short, decode_dyadic, decode_monadic, decode_three, decode_wide, decode_prefixed, decode_bare, decode_of}
use Rattle.mmu.specs.Walk.{segment_of, segment, nonpaged_of, page_of, walk_from, walk, route, marked, fresh, recorded}
use Rattle.access_spec.specs.Access.{touch, follow, access}
use Rattle.access_spec.specs.Program.{interpret, after}
use Rattle.machine.specs.Registers.{good_bank, isp, msp, pc, psw, shad, sp, trace_due}
use Rattle.machine.specs.Status.{with}
use Rattle.datapath.specs.Data.{read_memory, read_data, write_memory, write_data, read_frame, write_frame, check_store}
use Rattle.datapath.specs.Parts.{onward, ◌>>=◌, request, parcel_request, frame_request}
use Rattle.datapath.specs.Text.{fetch_parcel, fetch_parcels, fetch_after, fetch_prefixed, fetch_text}
use Rattle.exec_spec.specs.Operands.{located, locate, read_place, read_operand, write_register, write_place, write_accumulator, check_registers}
use Rattle.exec_spec.specs.Dyadic.{check_divisor, compute, accumulate, interlock, move, perform, dyadic}
use Rattle.exec_spec.specs.Control.{read_word32, jump, call, call_to, read_through}
use Rattle.exec_spec.specs.Stack.{stack_target, enter_plain, enter_at, enter}
use Rattle.exec_spec.specs.EventFrames.{push_pair, push_frame, through_vector, kcall, exception_sequence, store_pc, unimplemented_sequence}
use Rattle.exec_spec.specs.Execute.{execute_monadic, execute_niladic, execute_normal, execute}
use Rattle.step_spec.specs.Timers.{counted}
use Rattle.step_spec.specs.Step.{fetch_instruction, act, attempt, exception_step, finish, instruction_step, step}
use Rattle.run_spec.specs.Run.{RunResult, turn, act_confined, confined_attempt, confined_turn, advance, refusal, run}
use Rattle.witnesses.specs.Boards.{is, all, page, word, text, kernel, user, segmented, runs, confined, register, memory_word}

-- ---- instructions, at kernel level: the stack is the interrupt stack at 0x800

-- "MOV 5, 16(CSP)", with a KCALL vector
abbrev pub moved : RunResult
moved = runs 1 kernel (word 0x400 0x300 (text 0x100 (0x70A4 ∷ []) page))

-- "SUB *0x200, *0x204": 7 less 5
abbrev pub subtracted : RunResult
subtracted =
    runs 1 kernel (word 0x200 5 (word 0x204 7 (text 0x100 (0xE0CC ∷ 0 ∷ 0x200 ∷ 0 ∷ 0x204 ∷ []) page)))

-- "ADD3 3, *0x200", which holds 7
abbrev pub accumulated : RunResult
accumulated = runs 1 kernel (word 0x200 7 (text 0x100 (0xF3FC ∷ 0 ∷ 3 ∷ 0 ∷ 0x200 ∷ []) page))

-- "ADDI 3, *0x200" and "ADDI 3, R4", each of which holds 7
abbrev pub interlocked : RunResult
interlocked = runs 1 kernel (word 0x200 7 (text 0x100 (0xC3FC ∷ 0 ∷ 3 ∷ 0 ∷ 0x200 ∷ []) page))

abbrev pub interlocked_at_r4 : RunResult
interlocked_at_r4 = runs 1 kernel (word 0x804 7 (text 0x100 (0xC3FD ∷ 0 ∷ 3 ∷ 0 ∷ 4 ∷ []) page))

-- "CALL *+0x20"
abbrev pub called : RunResult
called = runs 1 kernel (text 0x100 (0x0410 ∷ []) page)

-- "CALL 0x200" in three parcels, the same after a prefix, and "CPU KCALL 4"
abbrev pub called_long : RunResult
called_long = runs 1 kernel (text 0x100 (0x80F1 ∷ 0 ∷ 0x200 ∷ []) page)

abbrev pub called_prefixed : RunResult
called_prefixed = runs 1 kernel (text 0x100 (0x2C00 ∷ 0x80F1 ∷ 0 ∷ 0x200 ∷ []) page)

abbrev pub kernel_called : RunResult
kernel_called = runs 1 kernel (text 0x100 (0x2C00 ∷ 0x80F0 ∷ 0 ∷ 4 ∷ []) page)

-- "CPU MOV 5, 16(CSP)" in three and in five parcels
abbrev pub moved_three : RunResult
moved_three = runs 1 kernel (text 0x100 (0x2C00 ∷ 0x86FD ∷ 5 ∷ 0x10 ∷ []) page)

abbrev pub moved_five : RunResult
moved_five = runs 1 kernel (text 0x100 (0x2C00 ∷ 0xC6FD ∷ 0 ∷ 5 ∷ 0 ∷ 0x10 ∷ []) page)

-- NOP at the last virtual address, which leads to the third page: the entries of the last segment and of its last page
abbrev pub wrapped : RunResult
wrapped =
    runs 1 (with (with kernel psw 0x1_0000) pc 0xFFFF_FFFE)
    (word 0xFFC 0x1001 (word 0x1FFC 0x2001 (text 0x2FFE (0x2C02 ∷ []) (replicate 12288 0))))

-- "ENTER 0x608", with a PSW
abbrev pub entered : ℕ → RunResult
entered p = runs 1 (with kernel psw p) (text 0x100 (0x80F9 ∷ 0 ∷ 0x608 ∷ []) page)

-- the niladic 0x200, with the vectors of both unimplemented kinds
abbrev pub trapped : RunResult
trapped = runs 1 kernel (word 0x408 0x308 (word 0x40C 0x30C (text 0x100 (0x2E00 ∷ []) page)))

-- "CPU MOV v, REGISTER", by the register's number of Table 1-24
abbrev pub register_moved : ℕ → ℕ → List ℕ
register_moved v n = 0x2C00 ∷ 0xC6F7 ∷ 0 ∷ v ∷ 0 ∷ n ∷ []

-- "CPU MOV 0x500, SP", with a PSW
abbrev pub stack_moved : ℕ → RunResult
stack_moved p = runs 1 (with kernel psw p) (text 0x100 (register_moved 0x500 3) page)

unfoldable pub instructions : List Bool
instructions =
    -- a step that moves nothing, or takes an event sequence though nothing is due
    is (register moved pc) 0x102 0x100
    ∷ is (register moved pc) 0x102 0x300
    ∷ is (memory_word moved 0x810) 5 0
    -- the destination read in the place of the source
    ∷ is (memory_word subtracted 0x204) 2 0
    -- the accumulator at the stack pointer: it is the word above
    ∷ is (memory_word accumulated 0x804) 10 0
    ∷ is (memory_word accumulated 0x800) 0 10
    -- ADDI leaving the source in the accumulator
    ∷ is (memory_word interlocked 0x200) 10 7
    ∷ is (memory_word interlocked 0x804) 7 3
    -- "letting ADDI change R4 when R4 is its destination"
    ∷ is (memory_word interlocked_at_r4 0x804) 7 10
    -- CALL saving its own PC
    ∷ is (register called pc) 0x120 0x102
    ∷ is (memory_word called 0x800) 0x102 0x100
    -- CALL saving PC plus the form's length where a prefix stands before it, or counting one where there is none; KCALL
    ∷ is (memory_word called_prefixed 0x800) 0x108 0x106
    ∷ is (memory_word called_long 0x800) 0x106 0x108
    ∷ is (memory_word kernel_called 0x7F8) 0x108 0x106
    -- a prefixed instruction going on at PC plus the form's length
    ∷ is (register moved_three pc) 0x108 0x106
    ∷ is (register moved_five pc) 0x10C 0x10A
    -- the next address in line past 2^32
    ∷ is (register wrapped pc) 0 0x1_0000_0000
    -- ENTER keeping bit 3 of its target
    ∷ is (register (entered 0) isp) 0x600 0x608
    -- ENTER traced as a jump: bit 8 of PSW does not trace it, bit 7 does
    ∷ is (register (entered 0x100) trace_due) 0 1
    ∷ is (register (entered 0x80) trace_due) 1 0
    -- a trapped niladic through the vector of an unimplemented instruction
    ∷ is (register trapped pc) 0x308 0x30C
    -- a write of SP that sets no MSP, or SHAD though the interrupt stack is current, or none where SP is
    ∷ is (register (stack_moved 0) sp) 0x500 0x600
    ∷ is (register (stack_moved 0) msp) 0x500 0x600
    ∷ is (register (stack_moved 0) shad) 0x800 0x500
    ∷ is (register (stack_moved 0x200) shad) 0x500 0x800
    ∷ []

-- ---- exceptions, confined: nothing is mapped from 0x1000 on

-- "ADD *0x2, *0x5000": the source is not aligned, the destination not mapped
abbrev pub two_faults : RunResult
two_faults = confined 1 user (segmented (text 0x100 (0xE3CC ∷ 0 ∷ 2 ∷ 0 ∷ 0x5000 ∷ []) page))

-- "CPU MOV 0" to a register at user level
abbrev pub register_written : ℕ → RunResult
register_written n = confined 1 user (segmented (text 0x100 (register_moved 0 n) page))

-- the same to number 13, which no register has, at kernel level: the exception's number is in its frame
abbrev pub no_register : RunResult
no_register = runs 1 kernel (text 0x100 (register_moved 0 13) page)

-- "CALL 0x5000", whose target can't be fetched, and the step after it: confined, and with its event sequence
abbrev pub calling_away : Memory
calling_away = segmented (text 0x100 (0x80F1 ∷ 0 ∷ 0x5000 ∷ []) page)

abbrev pub called_away : RunResult
called_away = confined 2 user calling_away

abbrev pub saved_away : RunResult
saved_away = runs 2 user calling_away

-- "MOV *0x5002, *0x200": neither aligned nor mapped
abbrev pub unaligned : RunResult
unaligned = confined 1 user (segmented (text 0x100 (0xC6CC ∷ 0 ∷ 0x5002 ∷ 0 ∷ 0x200 ∷ []) page))

unfoldable pub exceptions : List Bool
exceptions =
    -- the destination before the source
    is two_faults.code 0x4 0x8
    -- translation before alignment
    ∷ is unaligned.code 0x4 0x8
    -- a register at user level refused only as a source
    ∷ is (register_written 3).stop 2 0
    ∷ is (register_written 3).code 0x5 0
    -- 0x6 before 0x5
    ∷ is (register_written 13).code 0x5 0x6
    ∷ is (memory_word no_register 0x7F4) 0x6 0x5
    -- "saving a CALL's own PC when its target can't be fetched": the CALL is done, and the fetch fault of the next step
    -- reports its target, and saves it in the frame
    ∷ is called_away.steps 1 0
    ∷ is called_away.code 0x7 0x9
    ∷ is (register called_away pc) 0x5000 0x100
    ∷ is (memory_word saved_away 0x7F4) 0x7 0
    ∷ is (memory_word saved_away 0x7F8) 0x5000 0x100
    ∷ []

pub instructions_checked : T (all instructions)
unfolding instructions execute_niladic kcall push_frame push_pair segment_of segment page_of walk_from walk marked fresh recorded decode_prefixed write_register run refusal good_bank advance turn step instruction_step attempt act finish fetch_instruction counted execute_monadic execute_normal execute unimplemented_sequence store_pc through_vector add_of sub_of check_divisor compute accumulate interlock move perform dyadic located locate read_place read_operand write_place write_accumulator check_registers read_word32 jump call stack_target enter_plain enter_at enter check_store fetch_parcel fetch_parcels fetch_after fetch_prefixed fetch_text onward ◌>>=◌ request parcel_request frame_request read_memory read_data write_memory write_data read_frame write_frame interpret after touch follow access route decode_short decode_dyadic decode_monadic decode_three decode_wide decode_bare decode_of load store_answer store_memory call_to read_through
instructions_checked = tt

pub exceptions_checked : T (all exceptions)
unfolding exceptions run refusal good_bank advance turn step instruction_step attempt act finish exception_step exception_sequence push_frame push_pair through_vector frame_request read_frame write_frame confined_turn confined_attempt act_confined fetch_instruction counted execute_monadic execute_normal execute compute move perform dyadic located locate read_place read_operand write_register write_place check_registers read_word32 call fetch_parcel fetch_parcels fetch_after fetch_prefixed fetch_text onward ◌>>=◌ request parcel_request read_memory read_data write_memory write_data interpret after touch follow access segment_of segment nonpaged_of page_of walk_from walk route marked fresh recorded decode_short decode_dyadic decode_monadic decode_three decode_wide decode_prefixed decode_bare decode_of load store_answer store_memory call_to read_through
exceptions_checked = tt
