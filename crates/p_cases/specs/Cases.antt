-- The P cases of document 01 ("Checked by hand"), each played as one step: one table, with one proof by computation.
-- Assumes nothing.
use Rattle.std.specs.Prelude.{ℕ, ◌+◌, ◌*◌, ◌/◌, ◌%◌, ◌^◌, Bool, true, ◌&&◌, List, [], ◌∷◌, ◌++◌, replicate, T, eqb}
use Rattle.word.specs.Sums.{add_of, sub_of}
use Rattle.word.specs.Tags.{tagged_add_of}
use Rattle.isa.specs.Decode.{decode_dyadic, decode_wide, decode_bare, decode_of}
use Rattle.memory.specs.Bytes.{Memory, number, load, store_answer, store_memory}
use Rattle.mmu.specs.Walk.{route, walk, walk_from, segment, segment_of, nonpaged_of}
use Rattle.access_spec.specs.Access.{Response, touch, follow, access}
use Rattle.access_spec.specs.Program.{interpret, after, plain}
use Rattle.machine.specs.Registers.{Bank, isp, psw}
use Rattle.machine.specs.Status.{cpu, reg}
use Rattle.machine.specs.Record.{zero_cache}
use Rattle.datapath.specs.Parts.{onward, ◌>>=◌, request, parcel_request, frame_request}
use Rattle.datapath.specs.Data.{read_memory, read_data, write_memory, write_data, read_frame, write_frame}
use Rattle.datapath.specs.Text.{fetch_parcel, fetch_parcels, fetch_after, fetch_text}
use Rattle.exec_spec.specs.Operands.{located, locate, read_place, read_operand, write_place, check_registers}
use Rattle.exec_spec.specs.Dyadic.{check_divisor, compute, compute_tagged, write_tagged, perform, dyadic}
use Rattle.exec_spec.specs.EventFrames.{interrupt_sequence, push_pair, through_vector}
use Rattle.exec_spec.specs.Execute.{execute_normal, execute}
use Rattle.step_spec.specs.Events.{take}
use Rattle.step_spec.specs.Step.{Stepped, fetch_instruction, act, attempt, event_step, finish, instruction_step, step}

-- one step at an interrupt level: what it leaves of registers and memory
abbrev pub played : ℕ → Bank → Memory → Response Memory Stepped
played level b m = interpret plain (step level (cpu b zero_cache)) m

abbrev pub register_left : Response Memory Stepped → ℕ → ℕ
register_left g k = reg g.out.cpu k

abbrev pub word_left : Response Memory Stepped → ℕ → ℕ
word_left g a = number 4 g.world a

-- ---- an instruction of two operands

-- document 01, "Parcels": 1, then 1 for five parcels, a 6-bit opcode, a 4-bit source mode and a 4-bit destination mode
abbrev pub first_parcel : ℕ → ℕ → ℕ → ℕ
first_parcel opcode source destination = 0xC000 + opcode * 2 ^ 8 + source * 2 ^ 4 + destination

-- Table 1-21: 0xC is a word at an absolute address, 0x1 an unsigned byte
abbrev pub on_words : ℕ → ℕ
on_words opcode = first_parcel opcode 0xC 0xC

abbrev pub word_to_byte : ℕ → ℕ
word_to_byte opcode = first_parcel opcode 0xC 0x1

abbrev pub byte_to_byte : ℕ → ℕ
byte_to_byte opcode = first_parcel opcode 0x1 0x1

-- opcodes of section 3.3
abbrev pub add : ℕ
add = 0x23

abbrev pub sub : ℕ
sub = 0x20

abbrev pub tadd : ℕ
tadd = 0x0C

abbrev pub ushr : ℕ
ushr = 0x2D

abbrev pub word_bytes : ℕ → List ℕ
word_bytes w = w / 2 ^ 24 ∷ w / 2 ^ 16 % 256 ∷ w / 2 ^ 8 % 256 ∷ w % 256 ∷ []

-- the instruction from 0 on, its source at 12, its destination at 16, and bytes 0xEE between and after them
abbrev pub operands_at : ℕ → ℕ → ℕ → Memory
operands_at first d s =
    (first / 2 ^ 8 ∷ first % 2 ^ 8 ∷ []) ++ (word_bytes 12 ++ (word_bytes 16
    ++ (0xEE ∷ 0xEE ∷ (word_bytes s ++ (word_bytes d ++ word_bytes 0xEEEE_EEEE)))))

abbrev pub size : ℕ
size = 24

-- Table 1-8: flag 4, carry 5, overflow 6
abbrev pub flags : ℕ → ℕ → ℕ → ℕ
flags f c v = f * 2 ^ 4 + c * 2 ^ 5 + v * 2 ^ 6

-- PC 0 and a PSW
abbrev pub at_start : ℕ → Bank
at_start p = 0 ∷ 0 ∷ 0x3B ∷ 0 ∷ 0 ∷ 0 ∷ p ∷ 0 ∷ 0 ∷ 0 ∷ 0 ∷ 0 ∷ 0 ∷ 0 ∷ 0 ∷ 0 ∷ 0 ∷ []

-- after one step of the instruction the destination is `value`, every other byte of memory as it was, and PSW `left`
abbrev pub becomes_at : ℕ → ℕ → ℕ → ℕ → ℕ → ℕ → Bool
becomes_at first d s value before left =
    eqb (number size (played 7 (at_start before) (operands_at first d s)).world 0) (number size (operands_at first value s) 0)
    && eqb (register_left (played 7 (at_start before) (operands_at first d s)) psw) left

-- the same at every F, C and V before, with bits 7 to 14 of PSW all 0 and all 1, which stay
abbrev pub either : (ℕ → Bool) → Bool
either test = test 0 && test 1

abbrev pub becomes : ℕ → ℕ → ℕ → ℕ → (ℕ → ℕ → ℕ → ℕ) → Bool
becomes first d s value left =
    either (λ o. either (λ f. either (λ c. either (λ v.
    becomes_at first d s value (o * 0x7F80 + flags f c v) (o * 0x7F80 + left f c v)))))

-- ---- an interrupt

-- a page whose first word is a segment entry, nonpaged, valid, writable and of one page; its other bytes are 0xEE
abbrev pub one_page : Memory
one_page = 0 ∷ 0 ∷ 0 ∷ 0x0F ∷ replicate 4092 0xEE

-- PC 0x100, ISP and SHAD 0x1000, and a PSW; every other register 0
abbrev pub interrupted : ℕ → Bank
interrupted p = 0 ∷ 0 ∷ 0x3B ∷ 0x1000 ∷ 0 ∷ 0x100 ∷ p ∷ 0x1000 ∷ 0 ∷ 0 ∷ 0 ∷ 0 ∷ 0 ∷ 0 ∷ 0 ∷ 0 ∷ 0 ∷ []

abbrev pub interrupt : ℕ → Response Memory Stepped
interrupt p = played 0 (interrupted p) one_page

-- ---- the table

abbrev pub all : List Bool → Bool
all [] = true
all (t ∷ ts) = t && all ts

-- a row of an instruction: destination and source before, the destination after, and the flags after by those before
unfoldable pub cases : List Bool
cases =
    -- "ADD 0x7FFFFFFF + 1: 0x80000000, C 0, V 1."; either operand as the destination
    becomes (on_words add) 0x7FFF_FFFF 1 0x8000_0000 (λ f c v. flags f 0 1)
    ∷ becomes (on_words add) 1 0x7FFF_FFFF 0x8000_0000 (λ f c v. flags f 0 1)
    -- "0xFFFFFFFF + 1: 0, C 1, V 0."; either operand as the destination
    ∷ becomes (on_words add) 0xFFFF_FFFF 1 0 (λ f c v. flags f 1 0)
    ∷ becomes (on_words add) 1 0xFFFF_FFFF 0 (λ f c v. flags f 1 0)
    -- "0x80000000 twice: 0, C 1, V 1."
    ∷ becomes (on_words add) 0x8000_0000 0x8000_0000 0 (λ f c v. flags f 1 1)
    -- "SUB 0 - 1: 0xFFFFFFFF, C 1, V 0."
    ∷ becomes (on_words sub) 0 1 0xFFFF_FFFF (λ f c v. flags f 1 0)
    -- "0x80000000 - 1: 0x7FFFFFFF, C 0, V 1."
    ∷ becomes (on_words sub) 0x8000_0000 1 0x7FFF_FFFF (λ f c v. flags f 0 1)
    -- "unsigned byte 0xFF + 1 to a byte: 0, C 0, V 0."; 0xFF as the destination, and as the source
    ∷ becomes (word_to_byte add) 0xFFEE_EEEE 1 0x00EE_EEEE (λ f c v. flags f 0 0)
    ∷ becomes (byte_to_byte add) 0x01EE_EEEE 0xFFEE_EEEE 0x00EE_EEEE (λ f c v. flags f 0 0)
    -- "TADD 4 and 1: F 1, destination, C and V kept."; the bad tag in either operand
    ∷ becomes (on_words tadd) 4 1 4 (λ f c v. flags 1 c v)
    ∷ becomes (on_words tadd) 1 4 1 (λ f c v. flags 1 c v)
    -- "TADD 0x7FFFFFFC and 4: V 1, F 1, destination kept."; either operand as the destination; C is the sum's
    ∷ becomes (on_words tadd) 0x7FFF_FFFC 4 0x7FFF_FFFC (λ f c v. flags 1 0 1)
    ∷ becomes (on_words tadd) 4 0x7FFF_FFFC 4 (λ f c v. flags 1 0 1)
    -- "USHR 0x80000000 by 32: unchanged; by 33: 0x40000000."
    ∷ becomes (on_words ushr) 0x8000_0000 32 0x8000_0000 (λ f c v. flags f c v)
    ∷ becomes (on_words ushr) 0x8000_0000 33 0x4000_0000 (λ f c v. flags f c v)
    -- "interrupt with PSW 0x00017630 leaves 0x00010000."
    ∷ eqb (register_left (interrupt 0x1_7630) psw) 0x1_0000
    -- "interrupt with PSW 0, ISP and SHAD 0x1000 stores PC at 0xFF8, PSW at 0xFFC and leaves ISP 0xFF0."
    ∷ eqb (word_left (interrupt 0) 0xFF8) 0x100
    ∷ eqb (word_left (interrupt 0) 0xFFC) 0
    ∷ eqb (register_left (interrupt 0) isp) 0xFF0
    ∷ []

pub checked : T (all cases)
unfolding cases step instruction_step attempt act finish fetch_instruction execute execute_normal add_of sub_of tagged_add_of check_divisor compute write_tagged compute_tagged perform dyadic located locate read_place read_operand write_place check_registers event_step take interrupt_sequence push_pair through_vector fetch_parcel fetch_parcels fetch_after fetch_text onward ◌>>=◌ request parcel_request frame_request read_memory read_data write_memory write_data read_frame write_frame interpret after access follow touch load store_answer store_memory route walk walk_from segment segment_of nonpaged_of decode_dyadic decode_wide decode_bare decode_of
checked = tt
