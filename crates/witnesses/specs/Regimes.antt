-- Wrong answers on how an access goes: level, translation, byte order and recording, each on a small board on which the
-- definition answers otherwise.
-- Assumes nothing.
use Rattle.std.specs.Prelude.{ℕ, Bool, List, [], ◌∷◌, T}
use Rattle.memory.specs.Bytes.{Memory, load, store_answer, store_memory}
use Rattle.isa.specs.Decode.{decode_dyadic, decode_monadic, decode_three, decode_wide, decode_bare, decode_of}
use Rattle.mmu.specs.Walk.{segment_of, segment, nonpaged_of, page_of, walk_from, walk, route, marked, fresh, recorded}
use Rattle.access_spec.specs.Access.{touch, follow, access}
use Rattle.access_spec.specs.Program.{interpret, after}
use Rattle.machine.specs.Registers.{good_bank, config, isp, pc, psw, vb}
use Rattle.machine.specs.Status.{Cpu, with}
use Rattle.datapath.specs.Data.{read_memory, read_data, write_memory, write_data, read_frame, write_frame}
use Rattle.datapath.specs.Parts.{onward, ◌>>=◌, request, parcel_request, frame_request}
use Rattle.datapath.specs.Text.{fetch_parcel, fetch_parcels, fetch_after, fetch_text}
use Rattle.exec_spec.specs.Operands.{located, locate, read_place, read_operand, write_place, check_registers}
use Rattle.exec_spec.specs.Dyadic.{move, perform, dyadic}
use Rattle.exec_spec.specs.Control.{read_word32, jump, read_through}
use Rattle.exec_spec.specs.EventFrames.{push_pair, push_frame, through_vector, kcall, exception_sequence, reset}
use Rattle.exec_spec.specs.Execute.{execute_monadic, execute_normal, execute}
use Rattle.step_spec.specs.Timers.{counted}
use Rattle.step_spec.specs.Step.{fetch_instruction, act, attempt, exception_step, finish, instruction_step, step}
use Rattle.run_spec.specs.Run.{RunResult, turn, act_confined, confined_attempt, confined_turn, advance, refusal, run}
use Rattle.witnesses.specs.Boards.{is, all, page, pages, word, text, kernel, user, segmented, runs, confined, register, memory_word}

-- ---- level and translation: both segments lead to the one page there is, the second, from 0x400000 on, by the entry e

-- entries of the second segment: the user's, the kernel's, and the kernel's to read only
abbrev pub users : ℕ
users = 0x0F

abbrev pub kernels : ℕ
kernels = 0x0B

abbrev pub read_only : ℕ
read_only = 0x09

-- "MOV *0x400200, *0x300", where 0x200 holds 9
abbrev pub reading : ℕ → Memory
reading e = word 0x200 9 (word 4 e (segmented (text 0x100 (0xC6CC ∷ 0x40 ∷ 0x200 ∷ 0 ∷ 0x300 ∷ []) page)))

-- "MOV 5, *0x400200"
abbrev pub writing : ℕ → Memory
writing e = word 4 e (segmented (text 0x100 (0xC6FC ∷ 0 ∷ 5 ∷ 0x40 ∷ 0x200 ∷ []) page))

-- the same text, at PC 0x400100
abbrev pub fetching : Cpu → Cpu
fetching c = with c pc 0x40_0100

-- at kernel level with translation
abbrev pub virtual : Cpu
virtual = with kernel psw 0x1_0000

-- the number of the exception that was taken, in its frame
abbrev pub exception_in : RunResult → ℕ
exception_in e = memory_word e 0x7F4

-- "KCALL 7" at user level, with the interrupt stack and the vectors in the second segment
abbrev pub kernel_called : RunResult
kernel_called =
    runs 1 (with (with user isp 0x40_0800) vb 0x40_0400)
    (word 0x400 0x300 (word 4 kernels (segmented (text 0x100 (0x80F0 ∷ 0 ∷ 7 ∷ []) page))))

unfoldable pub regimes : List Bool
regimes =
    -- a read at user level through a kernel page, a write, and a fetch
    is (confined 1 user (reading kernels)).code 0x8 0
    ∷ is (confined 1 user (writing kernels)).code 0x9 0
    ∷ is (confined 1 (fetching user) (writing kernels)).code 0x7 0x9
    -- a read at user level without translation, a write, and a fetch: 0x400000 is past memory
    ∷ is (memory_word (confined 1 user (reading users)) 0x300) 9 0
    ∷ is (memory_word (confined 1 user (writing users)) 0x200) 5 0
    ∷ is (confined 1 (fetching user) (writing users)).steps 1 0
    -- a read at kernel level that asks for the user bit, a write, and a fetch
    ∷ is (memory_word (runs 1 virtual (reading kernels)) 0x300) 9 0
    ∷ is (memory_word (runs 1 virtual (writing kernels)) 0x200) 5 0
    ∷ is (register (runs 1 (fetching virtual) (writing kernels)) pc) 0x40_010A 0
    -- a write at kernel level to a page that is only to be read
    ∷ is (exception_in (runs 1 virtual (writing read_only))) 0x9 0
    ∷ is (memory_word (runs 1 virtual (writing read_only)) 0x200) 0 5
    -- a read translated though PSW bit 16 is 0, a write, and a fetch
    ∷ is (exception_in (runs 1 kernel (reading users))) 0xA 0
    ∷ is (exception_in (runs 1 kernel (writing users))) 0xA 0
    ∷ is (exception_in (runs 1 (fetching kernel) (writing users))) 0xA 0
    -- the frame and the vector of a KCALL at user level
    ∷ is (register kernel_called pc) 0x300 0
    ∷ is (memory_word kernel_called 0x7F8) 0x106 0
    ∷ []

-- ---- byte order

-- "MOV 5, *0x201" of a byte
abbrev pub byte_stored : Memory
byte_stored = segmented (text 0x100 (0xC6F0 ∷ 0 ∷ 5 ∷ 0 ∷ 0x201 ∷ []) page)

-- "MOV 0x01020304, *0x200", and "JMP *0x200" through that word, in little-endian order at kernel level
abbrev pub word_stored : RunResult
word_stored = runs 1 (with kernel config 0x1_0000) (text 0x100 (0xC6FC ∷ 0x0102 ∷ 0x0304 ∷ 0 ∷ 0x200 ∷ []) page)

abbrev pub word_loaded : RunResult
word_loaded = runs 1 (with kernel config 0x1_0000) (word 0x200 0x0102_0304 (text 0x100 (0x80C3 ∷ 0 ∷ 0x200 ∷ []) page))

abbrev pub in_order : ℕ
in_order = 0x0005_0000

abbrev pub renumbered : ℕ
renumbered = 0x0000_0500

unfoldable pub orders : List Bool
orders =
    -- the order of user level by CONFIG bit 16, that of kernel level by PSW bit 15
    is (memory_word (confined 1 (with user psw 0x1_8600) byte_stored) 0x200) renumbered in_order
    ∷ is (memory_word (confined 1 (with user config 0x1_0000) byte_stored) 0x200) in_order renumbered
    ∷ is (memory_word (runs 1 (with kernel config 0x1_0000) byte_stored) 0x200) renumbered in_order
    ∷ is (memory_word (runs 1 (with kernel psw 0x8000) byte_stored) 0x200) in_order renumbered
    -- "swapping a word's bytes in little-endian mode", at a store and at a load
    ∷ is (memory_word word_stored 0x200) 0x0102_0304 0x0403_0201
    ∷ is (register word_loaded pc) 0x0102_0304 0x0403_0200
    ∷ []

-- ---- recording

-- "MOV *0x1200, *0x300", where virtual pages 0 and 1 lead to page 0 and their entries are at 0x1000 and 0x1004
abbrev pub recording : RunResult
recording =
    confined 1 user
    (word 0x1004 0x07 (word 0x1000 0x07 (word 0 0x1001 (text 0x100 (0xC6CC ∷ 0 ∷ 0x1200 ∷ 0 ∷ 0x300 ∷ []) pages))))

unfoldable pub recordings : List Bool
recordings =
    -- bits recorded in the entry of the other page: page 0 is fetched from and written, page 1 is read
    is (memory_word recording 0x1000) 0x1F 0x0F
    ∷ is (memory_word recording 0x1004) 0x0F 0x1F
    ∷ is (memory_word recording 0x1004) 0x0F 0x07
    -- bits recorded in the segment entry
    ∷ is (memory_word recording 0) 0x1001 0x1009
    ∷ []

pub regimes_checked : T (all regimes)
unfolding regimes run refusal good_bank advance turn confined_turn confined_attempt act_confined step instruction_step attempt act finish exception_step fetch_instruction counted execute_monadic execute_normal execute kcall push_frame push_pair through_vector exception_sequence reset move perform dyadic located locate read_place read_operand write_place check_registers read_word32 fetch_parcel fetch_parcels fetch_after fetch_text onward ◌>>=◌ request parcel_request frame_request read_memory read_data write_memory write_data read_frame write_frame interpret after touch follow access segment_of segment nonpaged_of walk_from walk route decode_dyadic decode_monadic decode_three decode_wide decode_bare decode_of load store_answer store_memory read_through
regimes_checked = tt

pub orders_checked : T (all orders)
unfolding orders run refusal good_bank advance turn confined_turn confined_attempt act_confined step instruction_step attempt act finish fetch_instruction counted execute_monadic execute_normal execute jump read_word32 read_memory read_data move perform dyadic located locate read_place read_operand write_place check_registers fetch_parcel fetch_parcels fetch_after fetch_text onward ◌>>=◌ request parcel_request write_memory write_data interpret after touch follow access segment_of segment nonpaged_of walk_from walk route decode_dyadic decode_monadic decode_three decode_wide decode_bare decode_of load store_answer store_memory read_through
orders_checked = tt

pub recordings_checked : T (all recordings)
unfolding recordings run refusal good_bank advance confined_turn confined_attempt act_confined fetch_instruction counted execute_normal execute move perform dyadic located locate read_place read_operand write_place check_registers fetch_parcel fetch_parcels fetch_after fetch_text onward ◌>>=◌ request parcel_request read_memory read_data write_memory write_data interpret after touch follow access segment_of segment page_of walk_from walk route marked fresh recorded decode_dyadic decode_wide decode_bare decode_of load store_answer store_memory
recordings_checked = tt
