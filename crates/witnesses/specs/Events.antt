-- Wrong answers of event sequences, of the reset, of KRET and CRET, each on a small board on which the definition answers
-- otherwise.
-- Assumes nothing.
use Rattle.std.specs.Prelude.{ℕ, Bool, true, false, List, [], ◌∷◌, T}
use Rattle.memory.specs.Bytes.{Memory, load, store_answer, store_memory}
use Rattle.isa.specs.Decode.{decode_short, decode_bare, decode_of}
use Rattle.mmu.specs.Walk.{segment_of, segment, nonpaged_of, walk_from, walk, route}
use Rattle.access_spec.specs.Access.{touch, follow, access}
use Rattle.access_spec.specs.Program.{interpret, after}
use Rattle.machine.specs.Registers.{good_bank, config, fault, isp, msp, pc, psw, shad, sp, timer2, vb, trace_due, timer1_due, timer2_due, nmi_taken}
use Rattle.machine.specs.Status.{Cpu, with}
use Rattle.datapath.specs.Data.{read_frame, write_frame}
use Rattle.datapath.specs.Moves.{fill_word, fill_quad, fill}
use Rattle.datapath.specs.Parts.{onward, ◌>>=◌, request, parcel_request, frame_request}
use Rattle.datapath.specs.Text.{fetch_parcel, fetch_parcels, fetch_after, fetch_text}
use Rattle.exec_spec.specs.Stack.{check_msp, catch_to}
use Rattle.exec_spec.specs.EventFrames.{push_pair, push_frame, through_vector, interrupt_sequence, exception_sequence, privileged, kret, cret_fill, cret, reset, cret_after, cret_caught, cret_from}
use Rattle.exec_spec.specs.Execute.{execute_niladic, execute_normal, execute}
use Rattle.step_spec.specs.Events.{take}
use Rattle.step_spec.specs.Timers.{counted}
use Rattle.step_spec.specs.Step.{fetch_instruction, act, attempt, event_step, exception_step, finish, instruction_step, step}
use Rattle.run_spec.specs.Run.{board, RunResult, turn, act_confined, confined_attempt, confined_turn, advance, refusal, run}
use Rattle.witnesses.specs.Boards.{is, all, page, word, text, kernel, user, segmented, runs, confined, register, memory_word, cache_word}

-- ---- events at kernel level: the vector at VB + 4 * i is 0x300 + 16 * i, for those that are used; NOP at 0x340

abbrev pub vectors : Memory
vectors =
    word 0x404 0x310 (word 0x410 0x340 (word 0x41C 0x370 (word 0x428 0x3A0 (word 0x42C 0x3B0 (word 0x430 0x3C0
    (text 0x340 (0x2C02 ∷ []) page))))))

-- steps at an interrupt level, with all levels admitted
abbrev pub taking : ℕ → ℕ → Cpu → RunResult
taking budget level c = run false budget level (board (with c psw 0x7000) vectors)

-- a confined step at an interrupt level, with all levels admitted: what it reports
abbrev pub reported : ℕ → Cpu → ℕ
reported level c = (run true 1 level (board (with c psw 0x1_7600) (segmented page))).code

abbrev pub timers_due : Cpu → Cpu
timers_due c = with (with c timer1_due 1) timer2_due 1

unfoldable pub interrupts : List Bool
interrupts =
    -- input 0 taken without its mark
    is (register (taking 1 0 kernel) nmi_taken) 1 0
    -- input 0 taken again though no look found another level
    ∷ is (register (taking 2 0 kernel) pc) 0x342 0x340
    ∷ is (register (taking 2 0 kernel) isp) 0x7F0 0x7E0
    ∷ is (register (taking 2 0 kernel) nmi_taken) 1 0
    -- the mark kept by a look that finds another level
    ∷ is (register (taking 1 3 (with kernel nmi_taken 1)) nmi_taken) 0 1
    -- an interrupt through the vector of another level, or of a timer
    ∷ is (register (taking 1 0 kernel) pc) 0x340 0x310
    ∷ is (register (taking 1 3 kernel) pc) 0x370 0x3A0
    ∷ is (register (taking 1 6 kernel) pc) 0x3A0 0x3B0
    ∷ is (register (taking 1 7 (with kernel timer1_due 1)) pc) 0x3B0 0x3C0
    ∷ is (register (taking 1 7 (with kernel timer2_due 1)) pc) 0x3C0 0x3B0
    -- an interrupt reported by another code
    ∷ is (reported 0 user) 0x10 0x11
    ∷ is (reported 1 user) 0x11 0x1
    ∷ is (reported 6 user) 0x16 0x17
    ∷ is (reported 7 (with user timer1_due 1)) 0x17 0x18
    -- an interrupt's frame with a third word, as an exception's
    ∷ is (memory_word (taking 1 3 kernel) 0x7F4) 0 0x13
    ∷ is (memory_word (taking 1 7 (with kernel trace_due 1)) 0x7F4) 2 0
    -- Timer2 before Timer1, Timer1 before an external level 1, level 2 before a timer, a trace before an interrupt
    ∷ is (reported 7 (timers_due user)) 0x17 0x18
    ∷ is (reported 1 (timers_due user)) 0x11 0x17
    ∷ is (reported 2 (with user timer2_due 1)) 0x18 0x12
    ∷ is (reported 2 (with user trace_due 1)) 0x12 0x2
    -- what was taken still due, or the other timer no longer
    ∷ is (register (taking 1 7 (timers_due kernel)) timer1_due) 0 1
    ∷ is (register (taking 1 7 (timers_due kernel)) timer2_due) 1 0
    ∷ is (register (taking 1 7 (with kernel trace_due 1)) trace_due) 0 1
    ∷ []

-- level 0 while Timer2 counts completed instructions
abbrev pub interrupted : RunResult
interrupted = run false 1 0 (board (with kernel config 0x0200_0000) page)

-- level 0 with the interrupt stack past memory, and everything due
abbrev pub resetting : Cpu
resetting = with (with (with (with (with kernel psw 0x7000) isp 0x8000) shad 0x8000) config 0x4_0000) fault 7

abbrev pub reset_by : RunResult
reset_by = run false 1 0 (board (with (timers_due resetting) trace_due 1) page)

unfoldable pub resets : List Bool
resets =
    -- an event sequence counted as a completed instruction
    is interrupted.steps 1 0
    ∷ is (register interrupted timer2) 0 1
    -- a fault on the interrupt stack without a reset
    ∷ is (register reset_by pc) 0 0x100
    ∷ is (register reset_by shad) 0x7000 0x8000
    -- a reset that leaves PSW, CONFIG, a trace or a timer
    ∷ is (register reset_by psw) 0 0x7000
    ∷ is (register reset_by config) 0 0x4_0000
    ∷ is (register reset_by trace_due) 0 1
    ∷ is (register reset_by timer1_due) 0 1
    ∷ is (register reset_by timer2_due) 0 1
    -- a reset that clears VB, the stack pointers, FAULT or the mark of input 0
    ∷ is (register reset_by vb) 0x400 0
    ∷ is (register reset_by sp) 0x600 0
    ∷ is (register reset_by msp) 0x600 0
    ∷ is (register reset_by isp) 0x8000 0
    ∷ is (register reset_by fault) 7 0
    ∷ is (register reset_by nmi_taken) 1 0
    ∷ []

-- ---- KRET and CRET: the frame of four words at ISP, with an SP, an MSP, PC 0x305 and a PSW

abbrev pub framed : ℕ → ℕ → ℕ → Memory → Memory
framed s m p t = word 0x800 s (word 0x804 m (word 0x808 0x305 (word 0x80C p t)))

-- "KRET" to a PSW with all bits set
abbrev pub kernel_returned : RunResult
kernel_returned = runs 1 kernel (framed 0x640 0x660 0xFFFF_FFFF (text 0x100 (0x2C01 ∷ []) page))

-- "CRET" with the stack cache on, to SP 0x640 and MSP 0x660 at kernel level; 0x654 holds 9
abbrev pub context_returned : RunResult
context_returned =
    runs 1 (with kernel config 0x4_0000) (framed 0x64F 0x66F 0x200 (word 0x654 9 (text 0x100 (0x2C05 ∷ []) page)))

-- "CRET" from physical addresses to a user's stack in the second segment, which leads to the same page, for the kernel alone
abbrev pub context_filled : RunResult
context_filled =
    runs 1 (with kernel config 0x4_0000)
    (word 4 0x0B (segmented (framed 0x40_0640 0x40_0660 0x1_0600 (text 0x100 (0x2C05 ∷ []) page))))

unfoldable pub returns : List Bool
returns =
    -- KRET with PC and PSW in each other's place, or an odd PC
    is (register kernel_returned pc) 0x304 0xFFFF_FFFE
    ∷ is (register kernel_returned pc) 0x304 0x305
    -- KRET that keeps reserved bits of PSW
    ∷ is (register kernel_returned psw) 0x1_FFF0 0xFFFF_FFFF
    -- KRET that leaves its frame on the stack, or restores SP, or SHAD from the stack that is no longer current
    ∷ is (register kernel_returned isp) 0x810 0x800
    ∷ is (register kernel_returned sp) 0x600 0x640
    ∷ is (register kernel_returned shad) 0x600 0x810
    -- KRET and CRET at user level
    ∷ is (confined 1 user (segmented (text 0x100 (0x2C01 ∷ []) page))).code 0x5 0
    ∷ is (confined 1 user (segmented (text 0x100 (0x2C05 ∷ []) page))).code 0x5 0
    -- CRET as KRET, with low bits of SP, or with MSP at SP
    ∷ is (register context_returned pc) 0x304 0x100
    ∷ is (register context_returned sp) 0x640 0x600
    ∷ is (register context_returned sp) 0x640 0x64F
    ∷ is (register context_returned msp) 0x660 0x640
    ∷ is (register context_returned isp) 0x810 0x800
    ∷ is (register context_returned shad) 0x640 0x810
    ∷ is (register context_returned psw) 0x200 0
    -- CRET that fills nothing, or quad-words counted from SP
    ∷ is (cache_word context_returned 5 1) 9 0
    ∷ is (cache_word context_returned 1 1) 0 9
    -- CRET's fill by the addressing of before, or at the level that it restores
    ∷ is (register context_filled msp) 0x40_0660 0x40_0640
    ∷ is (register context_filled pc) 0x304 0
    ∷ []

pub interrupts_checked : T (all interrupts)
unfolding interrupts run refusal good_bank advance turn confined_turn step event_step take instruction_step attempt act finish fetch_instruction execute_niladic execute_normal execute interrupt_sequence exception_sequence push_frame push_pair through_vector counted fetch_parcel fetch_parcels fetch_after fetch_text onward ◌>>=◌ parcel_request frame_request read_frame write_frame interpret after touch follow access route decode_short decode_bare decode_of load store_answer store_memory
interrupts_checked = tt

pub resets_checked : T (all resets)
unfolding resets run refusal good_bank advance turn step event_step take interrupt_sequence push_pair through_vector reset counted onward ◌>>=◌ frame_request read_frame write_frame interpret after touch follow access route load store_answer store_memory
resets_checked = tt

pub returns_checked : T (all returns)
unfolding returns run refusal good_bank advance turn confined_turn confined_attempt act_confined step instruction_step attempt act finish exception_step fetch_instruction counted execute_niladic execute_normal execute privileged kret cret_fill cret catch_to check_msp fill_word fill_quad fill exception_sequence push_frame push_pair through_vector fetch_parcel fetch_parcels fetch_after fetch_text onward ◌>>=◌ request parcel_request frame_request read_frame write_frame interpret after touch follow access segment_of segment nonpaged_of walk_from walk route decode_short decode_bare decode_of load store_answer store_memory cret_after cret_from cret_caught
returns_checked = tt
