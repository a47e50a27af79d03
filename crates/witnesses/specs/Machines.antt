-- Wrong answers of a setter, of memory and of a walk, each at an input at which the definition answers otherwise.
-- Assumes nothing.
use Rattle.std.specs.Prelude.{ℕ, ◌+◌, Bool, true, false, not, List, [], ◌∷◌, T}
use Rattle.word.specs.declared.Width.TheVariants.{Byte, Half, Word}
use Rattle.memory.specs.Answers.{Answer, good, raised}
use Rattle.memory.specs.Bytes.{number, load, store_answer, store_memory, place_of, whole_pages, byte_at}
use Rattle.mmu.specs.declared.AccessKind.TheVariants.{Fetch, Read, Write}
use Rattle.mmu.specs.declared.Walk.{Walk}
use Rattle.mmu.specs.declared.Walk.TheVariants.{Fault, Direct, Paged}
use Rattle.mmu.specs.Walk.{segment_of, segment, nonpaged_of, page_of, walk_from, walk, marked, fresh, recorded}
use Rattle.machine.specs.Registers.{set_register, start_bank, unreserved, config, psw, msp}
use Rattle.machine.specs.Registers as registers
use Rattle.machine.specs.Record.{reading_of}
use Rattle.hobbit.specs.Blocks.{word_of}
use Rattle.witnesses.specs.Boards.{is, all, page, word}

-- ---- registers

-- start values but SP 0x600 and MSP 0x600
abbrev pub stacked : List ℕ
stacked = (set_register start_bank 9 0x600).bank

unfoldable pub settings : List Bool
settings =
    -- a setter refusing every register: each of the thirteen takes 0, save MSP, which takes SP
    is (set_register stacked 1 0).refusal 0 2
    ∷ is (set_register stacked 2 0).refusal 0 2
    ∷ is (set_register stacked 3 0).refusal 0 2
    ∷ is (set_register stacked 4 0).refusal 0 2
    ∷ is (set_register stacked 5 0x600).refusal 0 2
    ∷ is (set_register stacked 6 0).refusal 0 2
    ∷ is (set_register stacked 7 0).refusal 0 2
    ∷ is (set_register stacked 8 0).refusal 0 2
    ∷ is (set_register stacked 9 0).refusal 0 2
    ∷ is (set_register stacked 10 0).refusal 0 2
    ∷ is (set_register stacked 11 0).refusal 0 2
    ∷ is (set_register stacked 12 0).refusal 0 2
    ∷ is (set_register stacked 13 0).refusal 0 2
    -- unknown registers taken
    ∷ is (set_register stacked 0 0).refusal 2 0
    ∷ is (set_register stacked 14 0).refusal 2 0
    -- "MSP at SP + 256 is taken, at SP + 272 is refused", and below SP too
    ∷ is (set_register stacked 5 0x700).refusal 0 2
    ∷ is (set_register stacked 5 0x710).refusal 2 0
    ∷ is (set_register stacked 5 0x5F0).refusal 2 0
    -- SP setting no MSP
    ∷ is (registers.word stacked msp) 0x600 0
    -- PSW with the reserved bit 3 taken, and kept by a register write
    ∷ is (set_register stacked 7 8).refusal 2 0
    ∷ is (unreserved psw 0x1_FFFF) 0x1_FFF0 0x1_FFF8
    -- ID written
    ∷ is (registers.word (set_register stacked 3 7).bank registers.id) 0x3B 7
    -- another register set than the one named
    ∷ is (registers.word (set_register stacked 1 0x1_0000).bank config) 0x1_0000 0
    ∷ is (registers.word (set_register stacked 1 0x1_0000).bank psw) 0 0x1_0000
    -- another register read than the one named, and an unknown one
    ∷ is (word_of (reading_of stacked 3)).value 0x3B 0
    ∷ is (word_of (reading_of stacked 9)).value 0x600 0x3B
    ∷ is (word_of (reading_of stacked 14)).refusal 2 0
    ∷ []

-- ---- memory

-- a value, or 256 and the exception
abbrev pub answer_number : Answer → ℕ
answer_number (good v) = v
answer_number (raised e) = 256 + e

unfoldable pub memories : List Bool
memories =
    -- bytes in another order: the most significant byte first
    is (answer_number (load 4 (1 ∷ 2 ∷ 3 ∷ 4 ∷ []) 0)) 0x0102_0304 0x0102_0403
    -- a word renumbered in little-endian order: it stays where it is; a half-word's bit 1, a byte's bits 1 and 0 flip
    ∷ is (place_of true Word 0x10) 0x10 0x13
    ∷ is (place_of true Half 0x10) 0x12 0x13
    ∷ is (place_of true Byte 0x10) 0x13 0x10
    ∷ is (place_of false Byte 0x10) 0x10 0x13
    -- a store that reaches past the end by a byte
    ∷ is (answer_number (store_answer 4 (1 ∷ 2 ∷ 3 ∷ []) 0)) (256 + 0xA) 0
    ∷ is (number 3 (store_memory 4 (1 ∷ 2 ∷ 3 ∷ []) 0 0x0506_0708) 0) 0x01_0203 0x05_0607
    -- boards of no page, of a part of a page, of one page and of 4,097
    ∷ not (whole_pages 0)
    ∷ not (whole_pages 4095)
    ∷ whole_pages 4096
    ∷ not (whole_pages 0x100_1000)
    ∷ []

-- ---- walks, of the first segment

-- a segment entry, nonpaged and valid; one with its page table at 0
abbrev pub nonpaged : ℕ → List ℕ
nonpaged e = word 0 e page

-- the page entry e of the page 1, which stands at 4
abbrev pub paged : ℕ → List ℕ
paged e = word 4 e (word 0 0x01 page)

-- the exception, or 256 and the place of the page entry that is recorded in; 0x1000 for none
abbrev pub walk_number : Walk → ℕ
walk_number (Fault c) = c
walk_number (Direct pa) = 0x1000
walk_number (Paged p pa) = 256 + p

unfoldable pub walks : List Bool
walks =
    -- "Bounds: the number of the last page": one page is bound 0, and the second page faults
    is (walk_number (walk true 0 Read 0xFFC (nonpaged 0x0F))) 0x1000 0x8
    ∷ is (walk_number (walk true 0 Read 0x1000 (nonpaged 0x0F))) 0x8 0x1000
    -- the user bit ignored: a user read of a kernel page
    ∷ is (walk_number (walk true 0 Read 0 (nonpaged 0x0B))) 0x8 0x1000
    ∷ is (walk_number (walk false 0 Read 0 (nonpaged 0x0B))) 0x1000 0x8
    -- the writable bit ignored at kernel level
    ∷ is (walk_number (walk false 0 Write 0 (nonpaged 0x0D))) 0x9 0x1000
    -- bits recorded in a segment entry: there are none
    ∷ is (walk_number (walk true 0 Write 0 (nonpaged 0x0F))) 0x1000 256
    -- the page entry of an address, and one that is not valid
    ∷ is (walk_number (walk true 0 Write 0x1000 (paged 0x07))) (256 + 4) 256
    ∷ is (walk_number (walk true 0 Fetch 0x1000 (paged 0x06))) 0x7 (256 + 4)
    -- a table past memory, during the walk
    ∷ is (walk_number (walk true 0x1000 Read 0 page)) 0xB 0xA
    -- a write without Modified, a read with it
    ∷ is (byte_at (recorded Write 4 (paged 0x07)) 7) 0x1F 0x0F
    ∷ is (byte_at (recorded Read 4 (paged 0x07)) 7) 0x0F 0x1F
    ∷ []

pub settings_checked : T (all settings)
unfolding settings set_register reading_of
settings_checked = tt

pub memories_checked : T (all memories)
unfolding memories load store_answer store_memory
memories_checked = tt

pub walks_checked : T (all walks)
unfolding walks segment_of segment nonpaged_of page_of walk_from walk marked fresh recorded
walks_checked = tt
