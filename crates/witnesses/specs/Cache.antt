-- Wrong answers of the stack cache and its moves, each on a small board on which the definition answers otherwise.
-- Assumes nothing.
use Rattle.std.specs.Prelude.{ℕ, Bool, List, [], ◌∷◌, T}
use Rattle.memory.specs.Bytes.{Memory, load, store_answer, store_memory}
use Rattle.isa.specs.Decode.{decode_short, decode_dyadic, decode_monadic, decode_three, decode_wide, decode_bare, decode_of}
use Rattle.mmu.specs.Walk.{segment_of, segment, nonpaged_of, page_of, walk_from, walk, route, marked, fresh, recorded}
use Rattle.access_spec.specs.Access.{touch, follow, access}
use Rattle.access_spec.specs.Program.{interpret, after}
use Rattle.machine.specs.Registers.{good_bank, config, fault, msp, psw, sp}
use Rattle.machine.specs.Cache.{cache_read, cache_write}
use Rattle.machine.specs.Status.{Cpu, with}
use Rattle.datapath.specs.Data.{read_cached, read_memory, read_data, write_cached, write_memory, write_data, check_store}
use Rattle.datapath.specs.Moves.{flush_word, flush_quad, flush, fill_word, fill_quad, fill}
use Rattle.datapath.specs.Parts.{onward, ◌>>=◌, request, parcel_request}
use Rattle.datapath.specs.Text.{fetch_parcel, fetch_parcels, fetch_after, fetch_text}
use Rattle.exec_spec.specs.Operands.{located, locate, read_place, read_operand, write_place, check_registers}
use Rattle.exec_spec.specs.Dyadic.{move, perform, dyadic}
use Rattle.exec_spec.specs.Control.{released}
use Rattle.exec_spec.specs.Stack.{stack_target, check_msp, enter_empty, enter_at, enter, catch_to, catch_current, catch}
use Rattle.exec_spec.specs.Execute.{execute_monadic, execute_normal, execute}
use Rattle.step_spec.specs.Timers.{counted}
use Rattle.step_spec.specs.Step.{fetch_instruction, act, attempt, finish, instruction_step, step}
use Rattle.run_spec.specs.Run.{RunResult, turn, act_confined, confined_attempt, confined_turn, advance, refusal, run}
use Rattle.witnesses.specs.Boards.{is, all, page, pages, word, text, kernel, user, segmented, runs, confined, register, memory_word, cache_word}

-- the stack cache on, SP current, with an SP and an MSP
abbrev pub cached : Cpu → ℕ → ℕ → ℕ → Cpu
cached c p s m = with (with (with (with c config 0x4_0000) psw p) sp s) msp m

-- ---- at kernel level without translation

-- "MOV *a, *0x200", where memory holds 9 at 0x67C and at 0x680, and the cache 0
abbrev pub moved_from : ℕ → RunResult
moved_from a =
    runs 1 (cached kernel 0x200 0x600 0x680)
    (word 0x67C 9 (word 0x680 9 (text 0x100 (0xC6CC ∷ 0 ∷ a ∷ 0 ∷ 0x200 ∷ []) page)))

-- "MOV 5, 20(SP)" at SP 0x6F0: the word at 0x704, in the quad-word 0
abbrev pub moved_to : RunResult
moved_to = runs 1 (cached kernel 0x200 0x6F0 0x7F0) (text 0x100 (0x70A5 ∷ []) page)

-- "POPN 16"
abbrev pub popped : RunResult
popped = runs 1 (cached kernel 0x200 0x600 0x680) (text 0x100 (0x0B01 ∷ []) page)

-- "CATCH 288" with the cache full
abbrev pub caught : RunResult
caught = runs 1 (cached kernel 0x200 0x600 0x700) (text 0x100 (0x0912 ∷ []) page)

-- ---- confined: ENTER flushes the one quad-word that is held

-- "ENTER 0x500", with the entry of the second segment
abbrev pub flushed_to : ℕ → RunResult
flushed_to e =
    confined 1 (cached user 0x1_0600 0x40_0600 0x40_0610) (word 4 e (segmented (text 0x100 (0x80F9 ∷ 0 ∷ 0x500 ∷ []) page)))

-- the page table at 0x1000: the page of the text, none, and the table itself, all for users and writable
abbrev pub own_table : Memory
own_table = word 0x1008 0x1007 (word 0x1000 0x07 (word 0 0x1001 (text 0x100 (0x80F9 ∷ 0 ∷ 0x500 ∷ []) pages)))

-- a quad-word of zeros over the table's first four words
abbrev pub flushed_on_table : RunResult
flushed_on_table = confined 1 (cached user 0x1_0600 0x2000 0x2010) own_table

unfoldable pub moves : List Bool
moves =
    -- the address MSP itself in the cache, and the word below it in memory
    is (memory_word (moved_from 0x680) 0x200) 9 0
    ∷ is (memory_word (moved_from 0x67C) 0x200) 0 9
    -- the quad-word counted from SP, or the words in another order; nothing goes to memory
    ∷ is (cache_word moved_to 0 1) 5 0
    ∷ is (cache_word moved_to 1 1) 0 5
    ∷ is (cache_word moved_to 0 2) 0 5
    ∷ is (memory_word moved_to 0x704) 0 5
    -- MSP following a stack pointer that has not passed it
    ∷ is (register popped sp) 0x610 0x600
    ∷ is (register popped msp) 0x680 0x610
    -- a quad-word more filled into a full cache
    ∷ is caught.stop 0 1
    ∷ is (register caught msp) 0x700 0x710
    -- "checking protection at the access but not at the later flush": a segment that is not the user's, and one that is
    ∷ is (flushed_to 0x0B).code 0x9 0
    ∷ is (flushed_to 0x0F).stop 0 2
    -- a flush without translation: 0x400600 is past memory
    ∷ is (flushed_to 0x0F).code 0 0xA
    -- the address of the first word in FAULT: the third word takes the entry away, so the fourth faults
    ∷ is flushed_on_table.code 0x9 0
    ∷ is (register flushed_on_table fault) 0x200C 0x2000
    ∷ is (memory_word flushed_on_table 0x1008) 0 0x1007
    ∷ []

pub moves_checked : T (all moves)
unfolding moves run refusal good_bank advance turn confined_turn confined_attempt act_confined step instruction_step attempt act finish fetch_instruction counted execute_monadic execute_normal execute released move perform dyadic located locate read_place read_operand write_place check_registers stack_target check_msp enter_empty enter_at enter catch_to catch_current catch flush_word flush_quad flush fill_word fill_quad fill check_store fetch_parcel fetch_parcels fetch_after fetch_text onward ◌>>=◌ request parcel_request read_cached read_memory read_data write_cached write_memory write_data cache_read cache_write interpret after touch follow access segment_of segment nonpaged_of page_of walk_from walk route marked fresh recorded decode_short decode_dyadic decode_monadic decode_three decode_wide decode_bare decode_of load store_answer store_memory
moves_checked = tt
