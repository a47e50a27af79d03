-- Wrong codes of a run, each on a small board on which the definition stops otherwise; and for each code on the list a run that stops
-- with it.
-- Assumes nothing.
use Rattle.std.specs.Prelude.{ℕ, ◌≡◌, refl, Bool, true, false, List, [], ◌∷◌, T}
use Rattle.std.proofs.lemmas.Bool.{false≢true}
use Rattle.word.specs.Lists.{contains}
use Rattle.word.proofs.ListLaws.{Each, no_others, ◌also◌, contains_each}
use Rattle.memory.specs.Bytes.{Memory, load, store_answer, store_memory}
use Rattle.isa.specs.Decode.{decode_short, decode_dyadic, decode_wide, decode_prefixed, decode_bare, decode_of}
use Rattle.mmu.specs.Walk.{segment_of, segment, nonpaged_of, walk_from, walk, route}
use Rattle.access_spec.specs.Access.{touch, follow, access}
use Rattle.access_spec.specs.Program.{interpret, after}
use Rattle.machine.specs.Registers.{good_bank, config, msp, pc, psw, sp, stb, timer1_due, timer2_due, trace_due}
use Rattle.machine.specs.Status.{Cpu, with}
use Rattle.datapath.specs.Data.{read_memory, read_data, write_memory, write_data, read_frame, write_frame}
use Rattle.datapath.specs.Parts.{onward, ◌>>=◌, request, parcel_request, frame_request}
use Rattle.datapath.specs.Text.{fetch_parcel, fetch_parcels, fetch_after, fetch_prefixed, fetch_text}
use Rattle.exec_spec.specs.Alu.{bit_digit}
use Rattle.exec_spec.specs.Operands.{located, locate, read_place, read_operand, write_register, write_place, check_registers}
use Rattle.exec_spec.specs.Dyadic.{check_divisor, compute, move, perform, dyadic}
use Rattle.exec_spec.specs.Control.{released}
use Rattle.exec_spec.specs.EventFrames.{push_pair, push_frame, through_vector, exception_sequence}
use Rattle.exec_spec.specs.Execute.{execute_monadic, execute_niladic, execute_normal, execute}
use Rattle.step_spec.specs.Timers.{counted}
use Rattle.step_spec.specs.Step.{fetch_instruction, act, attempt, finish, exception_step, instruction_step, step}
use Rattle.run_spec.specs.Run.{board, budget_spent, refused, event_due, turn, act_confined, confined_attempt, confined_turn, advance, refusal, run}
use Rattle.hex_digits.specs.Digits.{digit_of, digit_byte, number_at, digits}
use Rattle.board_lines.specs.Lines.{frame_of}
use Rattle.board_lines.specs.Answers.{code_place}
use Rattle.board_conversation.specs.Conversation.{frame_answer, line_answer}
use Rattle.invariants.specs.StopCodes.{refusal_codes, event_codes, codes_at, confined_code, RunStops, EveryCode}
use Rattle.invariants.proofs.StopCodes.{by_stop}
use Rattle.witnesses.specs.Boards.{is, all, page, text, word, kernel, user, segmented, runs, confined, memory_word}
use Rattle.witnesses.specs.Runs.{odd_page, reserved}

-- ---- a register that is missing: "CPU MOV register 0, *0x200" and "CPU MOV 5, register n"

abbrev pub read_missing : Memory
read_missing = text 0x100 (0x2C00 ∷ 0xC67C ∷ 0 ∷ 0 ∷ 0 ∷ 0x200 ∷ []) page

abbrev pub write_missing : ℕ → Memory
write_missing n = text 0x100 (0x2C00 ∷ 0xC6F7 ∷ 0 ∷ 5 ∷ 0 ∷ n ∷ []) page

-- the code that frame 04 shows for one step
abbrev pub shown_code : Cpu → Memory → ℕ
shown_code c m = number_at 2 (line_answer 1 (digits 12 0x0400_0000_0107) (board c m)).printed code_place

unfoldable pub answered_codes : List Bool
answered_codes =
    -- 5 and 6 exchanged where registers are checked: at user level, in the run's answer and in the line that frame 04 prints
    is (confined 1 user (segmented read_missing)).code 5 6
    ∷ is (confined 1 user (segmented (write_missing 0))).code 5 6
    ∷ is (confined 1 user (segmented (write_missing 13))).code 5 6
    ∷ is (confined 1 user (segmented (write_missing 14))).code 5 6
    ∷ is (confined 1 user (segmented (write_missing 15))).code 5 6
    ∷ is (shown_code user (segmented read_missing)) 5 6
    -- the exception lost for the kernel, or reported by frame 03: its number is in the event frame, and the step is one of the run
    ∷ is (memory_word (runs 1 kernel read_missing) 0x7F4) 6 5
    ∷ is (runs 1 kernel read_missing).stop 0 2
    ∷ is (runs 1 kernel read_missing).steps 1 0
    -- 6 on the list in the place of 5, or beside it; 0 at stop 02, and at stop 01; 6 and not 9 among the refusals
    ∷ is (bit_digit (confined_code event_due 5)) 1 0
    ∷ is (bit_digit (confined_code event_due 6)) 0 1
    ∷ is (bit_digit (confined_code event_due 0)) 0 1
    ∷ is (bit_digit (confined_code refused 0)) 0 1
    ∷ is (bit_digit (confined_code refused 6)) 0 1
    ∷ is (bit_digit (confined_code refused 9)) 1 0
    -- a run of frame 03 that stops for an event, or is refused with 9
    ∷ is (bit_digit (contains (codes_at false event_due) 5)) 0 1
    ∷ is (bit_digit (contains (codes_at false refused) 9)) 0 1
    ∷ []

-- ---- each code on the list: a run of one step, at an interrupt level, that is answered so

abbrev pub comes : (confined : Bool) (level : ℕ) (c : Cpu) (m : Memory)
    → RunStops confined (run confined 1 level (board c m)).stop (run confined 1 level (board c m)).code
comes confined level c m = record { budget = 1; level = level; start = board c m; stop_is = refl; code_is = refl }

-- at user level, a text in the one page that is mapped
abbrev pub mapped_text : List ℕ → Memory
mapped_text ps = segmented (text 0x100 ps page)

-- "NOP"
abbrev pub idle : Memory
idle = mapped_text (0x2C02 ∷ [])

-- a priority that lets every interrupt in
abbrev pub interruptible : Cpu
interruptible = with user psw 0x1_7600

-- "POPN 16" with SP and MSP in the last quad-word: SP passes 2^32, and MSP does not follow it down
abbrev pub topmost : Cpu → Cpu
topmost c = with (with (with c config 0x4_0000) sp 0xFFFF_FFF0) msp 0xFFFF_FFF0

refusals_come : (confined : Bool) → Each (RunStops confined refused) (refusal_codes confined)
unfolding run refusal good_bank advance confined_turn confined_attempt act_confined turn step instruction_step attempt act finish fetch_instruction counted execute_monadic execute_normal execute released fetch_parcel fetch_parcels fetch_after fetch_text onward ◌>>=◌ parcel_request interpret after touch follow access segment_of segment nonpaged_of walk_from walk route decode_short decode_bare decode_of load
refusals_come true =
    comes true 7 user odd_page
    also comes true 7 (reserved user) idle
    also comes true 8 user idle
    also comes true 7 (topmost user) (mapped_text (0x0B01 ∷ []))
    also comes true 7 kernel idle
    also no_others
refusals_come false =
    comes false 7 kernel odd_page
    also comes false 7 (reserved kernel) page
    also comes false 8 kernel page
    also comes false 7 (topmost (with kernel psw 0x200)) (text 0x100 (0x0B01 ∷ []) page)
    also no_others

-- frame 03 reports none
events_come : (confined : Bool) → Each (RunStops confined event_due) (event_codes confined)
unfolding run refusal good_bank advance confined_turn confined_attempt act_confined fetch_instruction execute_normal execute check_divisor compute move perform dyadic located locate read_place read_operand write_place check_registers fetch_parcel fetch_parcels fetch_after fetch_prefixed fetch_text onward ◌>>=◌ request parcel_request read_memory read_data write_memory write_data interpret after touch follow access segment_of segment nonpaged_of walk_from walk route decode_short decode_dyadic decode_wide decode_prefixed decode_bare decode_of load store_answer store_memory
events_come false = no_others
events_come true =
    -- "DIV 0, *0x200"; a trace; a prefix before one parcel; "MOV *0x201, *0x200"; "CPU MOV register 0, *0x200"
    comes true 7 user (mapped_text (0xE7FC ∷ 0 ∷ 0 ∷ 0 ∷ 0x200 ∷ []))
    also comes true 7 (with user trace_due 1) idle
    also comes true 7 user (mapped_text (0x2C00 ∷ 0x2C02 ∷ []))
    also comes true 7 user (mapped_text (0xC6CC ∷ 0 ∷ 0x201 ∷ 0 ∷ 0x200 ∷ []))
    also comes true 7 user (segmented read_missing)
    -- PC where nothing is mapped; "MOV *0x5000, *0x200"; "MOV 5, *0x5000"
    also comes true 7 (with user pc 0x5000) idle
    also comes true 7 user (mapped_text (0xC6CC ∷ 0 ∷ 0x5000 ∷ 0 ∷ 0x200 ∷ []))
    also comes true 7 user (mapped_text (0xC6FC ∷ 0 ∷ 5 ∷ 0 ∷ 0x5000 ∷ []))
    -- PC in a page that is mapped past memory; a segment table past it
    also comes true 7 (with user pc 0x1000) (word 0 0x100F page)
    also comes true 7 (with user stb 0x1000) idle
    -- interrupts 0 to 6, the timers
    also comes true 0 interruptible idle
    also comes true 1 interruptible idle
    also comes true 2 interruptible idle
    also comes true 3 interruptible idle
    also comes true 4 interruptible idle
    also comes true 5 interruptible idle
    also comes true 6 interruptible idle
    also comes true 7 (with interruptible timer1_due 1) idle
    also comes true 7 (with interruptible timer2_due 1) idle
    -- "KCALL 0"; the one-parcel opcode 8, which is unimplemented
    also comes true 7 user (mapped_text (0 ∷ []))
    also comes true 7 user (mapped_text (0x2000 ∷ []))
    also no_others

spent_comes : (confined : Bool) → Each (RunStops confined budget_spent) (0 ∷ [])
unfolding run refusal good_bank advance confined_turn confined_attempt act_confined turn step instruction_step attempt act finish fetch_instruction counted execute_niladic execute_normal execute fetch_parcel fetch_parcels fetch_after fetch_text onward ◌>>=◌ parcel_request interpret after touch follow access segment_of segment nonpaged_of walk_from walk route decode_short decode_bare decode_of load
spent_comes true = comes true 7 user idle also no_others
spent_comes false = comes false 7 kernel idle also no_others

pub every_code : EveryCode
every_code confined stop code =
    by_stop (λ r l. (code : ℕ) → contains l code ≡ true → RunStops confined r code) confined
    (contains_each (RunStops confined budget_spent) (0 ∷ []) (spent_comes confined))
    (contains_each (RunStops confined refused) (refusal_codes confined) (refusals_come confined))
    (contains_each (RunStops confined event_due) (event_codes confined) (events_come confined)) (λ r code h. absurd (false≢true h)) stop code

pub answered_codes_checked : T (all answered_codes)
unfolding answered_codes run refusal good_bank advance turn step instruction_step attempt act finish exception_step exception_sequence push_frame push_pair through_vector frame_request read_frame write_frame confined_turn confined_attempt act_confined fetch_instruction counted execute_normal execute move perform dyadic located locate read_place read_operand write_register write_place check_registers fetch_parcel fetch_parcels fetch_after fetch_prefixed fetch_text onward ◌>>=◌ request parcel_request write_memory write_data interpret after touch follow access segment_of segment nonpaged_of walk_from walk route decode_dyadic decode_wide decode_prefixed decode_of load store_answer store_memory digit_of digit_byte frame_of frame_answer
answered_codes_checked = tt
