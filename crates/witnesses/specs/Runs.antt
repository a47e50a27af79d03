-- Wrong answers of a run, each on a small board on which the definition answers otherwise.
-- Assumes nothing.
use Rattle.std.specs.Prelude.{ℕ, zero, suc, Bool, true, false, List, [], ◌∷◌, replicate, length, T}
use Rattle.word.specs.Sums.{add_of}
use Rattle.memory.specs.Bytes.{Memory, load, store_answer, store_memory}
use Rattle.isa.specs.Decode.{decode_short, decode_dyadic, decode_monadic, decode_three, decode_wide, decode_prefixed, decode_bare, decode_of}
use Rattle.mmu.specs.Walk.{segment_of, segment, nonpaged_of, page_of, walk_from, walk, route, marked, fresh, recorded}
use Rattle.access_spec.specs.Access.{touch, follow, access}
use Rattle.access_spec.specs.Program.{interpret, after}
use Rattle.machine.specs.Registers.{good_bank, config, fault, msp, pc, psw, sp, timer2, trace_due, timer2_due, nmi_taken}
use Rattle.machine.specs.Status.{Cpu, reg, with}
use Rattle.datapath.specs.Data.{read_memory, read_data, write_memory, write_data, read_frame, write_frame, check_store}
use Rattle.datapath.specs.Moves.{flush}
use Rattle.datapath.specs.Parts.{onward, ◌>>=◌, request, parcel_request, frame_request}
use Rattle.datapath.specs.Text.{fetch_parcel, fetch_parcels, fetch_after, fetch_prefixed, fetch_text}
use Rattle.exec_spec.specs.Operands.{located, locate, read_place, read_operand, write_register, write_place, write_accumulator, check_registers}
use Rattle.exec_spec.specs.Dyadic.{interlock, move, perform, dyadic}
use Rattle.exec_spec.specs.Control.{read_word32, read_through}
use Rattle.exec_spec.specs.EventFrames.{push_pair, push_frame, through_vector, kcall}
use Rattle.exec_spec.specs.Stack.{stack_target, check_msp, enter_offset, enter_at, enter, enter_clipped}
use Rattle.exec_spec.specs.Execute.{execute_monadic, execute_normal, execute}
use Rattle.step_spec.specs.Timers.{counted}
use Rattle.step_spec.specs.Step.{fetch_instruction, act, attempt, finish, instruction_step, step}
use Rattle.run_spec.specs.Run.{Board, board, RunResult, turn, act_confined, confined_attempt, confined_turn, advance, refusal, run}
use Rattle.isolation.specs.Execution.{execution, passed as passed_of}
use Rattle.witnesses.specs.Boards.{is, all, page, pages, word, text, kernel, user, segmented, runs, confined, register, memory_word}

-- ---- refusals: memory of a byte less than a page, a reserved bit of PSW, level 8, kernel level

abbrev pub odd_page : Memory
odd_page = replicate 4095 0

abbrev pub reserved : Cpu → Cpu
reserved c = with c psw 8

abbrev pub code_of : Bool → ℕ → Cpu → Memory → ℕ
code_of confined level c m = (run confined 1 level (board c m)).code

unfoldable pub refusals : List Bool
refusals =
    -- a run taken in spite of number 1, 2, 3 or 9, each alone, or refused though nothing stands against it
    is (code_of false 7 kernel odd_page) 1 0
    ∷ is (code_of false 7 (reserved kernel) page) 2 0
    ∷ is (code_of false 8 kernel page) 3 0
    ∷ is (code_of true 7 kernel page) 9 0
    ∷ is (code_of false 7 kernel page) 0 9
    ∷ is (run true 1 7 (board user (segmented page))).stop 2 1
    -- budget 0 looked at before the refusals
    ∷ is (run false 0 8 (board kernel page)).code 3 0
    -- tested in another order than 1, 2, 3, 9
    ∷ is (code_of true 8 (reserved kernel) odd_page) 1 2
    ∷ is (code_of true 8 (reserved kernel) page) 2 3
    ∷ is (code_of true 8 kernel page) 3 9
    -- a confined run at user level without translation, and with it at kernel level
    ∷ is (code_of true 7 (with user psw 0x600) page) 9 0
    ∷ is (code_of true 7 (with user psw 0x1_0200) page) 9 0
    -- a refused run that changes something: the mark of input 0, which a look at level 7 would clear
    ∷ is (register (run true 1 7 (board (with kernel nmi_taken 1) page)) nmi_taken) 1 0
    -- MSP out of its range
    ∷ is (code_of false 7 (with kernel msp 0x710) page) 2 0
    ∷ is (code_of false 7 (with kernel msp 0x5F0) page) 2 0
    ∷ []

-- ---- steps: "MOV 5, 16(CSP)", "MOV 6, 20(CSP)" and "MOV 7, 24(CSP)"

abbrev pub moving : Memory
moving = text 0x100 (0x70A4 ∷ 0x70C5 ∷ 0x70E6 ∷ []) page

-- "MOV 5, 16(CSP)", then "CPU MOV 0x710, MSP", which loses the stack; and the latter alone
abbrev pub losing : RunResult
losing = runs 3 kernel (text 0x100 (0x70A4 ∷ 0x2C00 ∷ 0xC6F7 ∷ 0 ∷ 0x710 ∷ 0 ∷ 1 ∷ []) page)

abbrev pub losing_first : Memory
losing_first = text 0x100 (0x2C00 ∷ 0xC6F7 ∷ 0 ∷ 0x710 ∷ 0 ∷ 1 ∷ []) page

-- "ENTER -32(SP)" at SP and MSP 0x10: the new SP is above MSP
abbrev pub wrapping : RunResult
wrapping =
    runs 1 (with (with (with (with kernel config 0x4_0000) psw 0x200) sp 0x10) msp 0x10)
    (text 0x100 (0x80D9 ∷ 0xFFFF ∷ 0xFFE0 ∷ []) page)

-- "CPU MOV 0x04000000, CONFIG": Timer2 then counts an event that is not in Table 1-2
abbrev pub configured : RunResult
configured = runs 1 kernel (text 0x100 (0x2C00 ∷ 0xC6F7 ∷ 0x400 ∷ 0 ∷ 0 ∷ 4 ∷ []) page)

unfoldable pub steps : List Bool
steps =
    -- a budget that is looked at after an event: level 0 is due
    is (run false 0 0 (board kernel moving)).steps 0 1
    ∷ is (register (run false 0 0 (board kernel moving)) pc) 0x100 0
    -- a run making its whole effect in step one
    ∷ is (register (runs 1 kernel moving) pc) 0x102 0x106
    ∷ is (memory_word (runs 1 kernel moving) 0x810) 5 0
    ∷ is (memory_word (runs 1 kernel moving) 0x814) 0 6
    ∷ is (memory_word (runs 2 kernel moving) 0x814) 6 0
    ∷ is (memory_word (runs 2 kernel moving) 0x818) 0 7
    -- printing invented steps
    ∷ is (runs 1 kernel moving).steps 1 2
    ∷ is (runs 2 kernel moving).steps 2 1
    -- a step that loses its stack kept, or counted, or the run going on after it
    ∷ is losing.stop 1 0
    ∷ is losing.code 4 0
    ∷ is losing.steps 1 2
    ∷ is (register losing pc) 0x102 0x10E
    ∷ is (register losing msp) 0x600 0x710
    ∷ is (register (runs 1 (with kernel nmi_taken 1) losing_first) nmi_taken) 1 0
    ∷ is wrapping.code 4 0
    ∷ is (register wrapping sp) 0x10 0xFFFF_FFF0
    -- timers counted by the CONFIG that the step leaves
    ∷ is (register configured timer2) 1 0
    -- a traced instruction that makes no trace due
    ∷ is (register (runs 1 (with kernel psw 0x80) moving) trace_due) 1 0
    ∷ []

-- ---- confined runs: the segment at 0 has one page, and nothing is mapped from 0x1000 on

-- a text, with the vector 0x300 of an unimplemented instruction
abbrev pub trying : List ℕ → Memory → Memory
trying ps m = word 0x40C 0x300 (segmented (text 0x100 ps m))

-- "MOV *0x5000, *0x200"
abbrev pub unread : RunResult
unread = confined 1 user (trying (0xC6CC ∷ 0 ∷ 0x5000 ∷ 0 ∷ 0x200 ∷ []) page)

-- "ADDI 3, *0x200", which holds 7, with the accumulator at 0x1004
abbrev pub half_done : RunResult
half_done = confined 1 (with (with user sp 0x1000) msp 0x1000) (word 0x200 7 (trying (0xC3FC ∷ 0 ∷ 3 ∷ 0 ∷ 0x200 ∷ []) page))

-- "KCALL *0x5000"
abbrev pub asking : RunResult
asking = confined 1 user (trying (0x80C0 ∷ 0 ∷ 0x5000 ∷ []) page)

-- the one-parcel opcode 8, which is unimplemented
abbrev pub unimplemented : RunResult
unimplemented = confined 1 user (trying (0x2000 ∷ []) page)

-- five parcels of which two lie in the page that is not mapped
abbrev pub crossing : RunResult
crossing = confined 1 (with user pc 0xFFA) (segmented (text 0xFFA (0xC6FC ∷ 0 ∷ 5 ∷ 0 ∷ 0x200 ∷ []) pages))

-- "MOV 5, *0x200" by a page entry at 0x1000 that has Referenced and not Modified
abbrev pub modifying : RunResult
modifying = confined 1 user (word 0x1000 0x0F (word 0 0x1001 (text 0x100 (0xC6FC ∷ 0 ∷ 5 ∷ 0 ∷ 0x200 ∷ []) pages)))

-- one step at an interrupt level
abbrev pub pausing : ℕ → Cpu → RunResult
pausing level c = run true 1 level (board c (segmented moving))

unfoldable pub confined_runs : List Bool
confined_runs =
    -- an event reported before the first step
    is (confined 1 user (segmented moving)).steps 1 0
    ∷ is (confined 1 user (segmented moving)).stop 0 2
    -- what a faulting attempt leaves in the registers dropped
    ∷ is unread.code 0x8 0
    ∷ is (register unread fault) 0x5000 0
    ∷ is unread.steps 0 1
    -- the stores of a faulting attempt dropped
    ∷ is half_done.code 0x9 0
    ∷ is (memory_word half_done 0x200) 10 7
    -- the operand of a KCALL read
    ∷ is asking.code 0x20 0x8
    ∷ is (register asking pc) 0x100 0x300
    -- the event sequence of an unimplemented instruction begun
    ∷ is unimplemented.code 0x21 0
    ∷ is (register unimplemented pc) 0x100 0x300
    ∷ is (memory_word unimplemented 0x600) 0 0x100
    -- an interrupt taken: it is reported, and nothing is done
    ∷ is (pausing 0 user).code 0x10 0
    ∷ is (register (pausing 0 user) nmi_taken) 0 1
    -- a stop that reports another event than the one due: level 3, Timer2, a trace; and level 3 at priority 3, which is none
    ∷ is (pausing 3 (with user psw 0x1_7600)).code 0x13 0x3
    ∷ is (pausing 7 (with (with user psw 0x1_7600) timer2_due 1)).code 0x18 0x17
    ∷ is (pausing 7 (with user trace_due 1)).code 0x2 0
    ∷ is (pausing 3 (with user psw 0x1_3600)).steps 1 0
    -- one walk for a text that goes on in a page that is not mapped
    ∷ is crossing.code 0x7 0
    ∷ is (memory_word crossing 0x200) 0 5
    -- a store that leaves Modified as it was
    ∷ is (memory_word modifying 0x200) 5 0
    ∷ is (memory_word modifying 0x1000) 0x1F 0x0F
    ∷ []

-- ---- the boards that a confined run passes: "MOV 5, *0x200", then "MOV *0x5000, *0x200", which faults

abbrev pub passing : ℕ → ℕ → List Board
passing budget level =
    execution (record { budget = budget; level = level })
    (board user (trying (0xC6FC ∷ 0 ∷ 5 ∷ 0 ∷ 0x200 ∷ 0xC6CC ∷ 0 ∷ 0x5000 ∷ 0 ∷ 0x200 ∷ []) page))

-- a register of the board i that is passed
abbrev pub passed : List Board → ℕ → ℕ → ℕ
passed (s ∷ l) zero k = reg s.cpu k
passed (s ∷ l) (suc i) k = passed l i k
passed [] i k = 0

unfoldable pub executions : List Bool
executions =
    -- the board of a faulting attempt left out of an execution
    is (length (passing 2 7)) 2 1
    ∷ is (passed (passing 2 7) 0 pc) 0x10A 0x100
    ∷ is (passed (passing 2 7) 1 fault) 0x5000 0
    -- an execution beyond the budget, or of a run that is refused
    ∷ is (length (passing 1 7)) 1 2
    ∷ is (length (passing 2 8)) 0 2
    ∷ []

pub refusals_checked : T (all refusals)
unfolding refusals run refusal good_bank advance turn step instruction_step attempt act finish fetch_instruction confined_turn confined_attempt act_confined counted execute_monadic execute_normal execute kcall push_frame push_pair through_vector read_word32 fetch_parcel fetch_parcels fetch_after fetch_text onward ◌>>=◌ parcel_request frame_request read_frame write_frame interpret after touch follow access segment_of segment nonpaged_of walk_from walk route decode_short decode_bare decode_of load store_answer store_memory read_through
refusals_checked = tt

pub steps_checked : T (all steps)
unfolding steps run refusal good_bank advance turn step instruction_step attempt act finish fetch_instruction counted execute_monadic execute_normal execute move perform dyadic located locate read_place read_operand write_register write_place check_registers stack_target check_msp enter_offset enter_at enter flush check_store fetch_parcel fetch_parcels fetch_after fetch_prefixed fetch_text onward ◌>>=◌ request parcel_request write_memory write_data interpret after touch follow access route decode_short decode_dyadic decode_monadic decode_three decode_wide decode_prefixed decode_bare decode_of load store_answer store_memory enter_clipped
steps_checked = tt

pub confined_runs_checked : T (all confined_runs)
unfolding confined_runs run refusal good_bank advance confined_turn confined_attempt act_confined fetch_instruction counted execute_normal execute add_of interlock move perform dyadic located locate read_place read_operand write_place write_accumulator check_registers fetch_parcel fetch_parcels fetch_after fetch_text onward ◌>>=◌ request parcel_request read_memory read_data write_memory write_data interpret after touch follow access segment_of segment nonpaged_of page_of walk_from walk route marked fresh recorded decode_short decode_dyadic decode_monadic decode_three decode_wide decode_bare decode_of load store_answer store_memory
confined_runs_checked = tt

pub executions_checked : T (all executions)
unfolding executions execution passed_of refusal good_bank confined_turn confined_attempt act_confined fetch_instruction counted execute_normal execute move perform dyadic located locate read_place read_operand write_place check_registers fetch_parcel fetch_parcels fetch_after fetch_text onward ◌>>=◌ request parcel_request read_memory read_data write_memory write_data interpret after touch follow access segment_of segment nonpaged_of walk_from walk route decode_dyadic decode_wide decode_bare decode_of load store_answer store_memory
executions_checked = tt
