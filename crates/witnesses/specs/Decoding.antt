-- Wrong answers of a decoder and an encoder, each at a text or an instruction at which the definition answers otherwise.
-- Assumes nothing.
use Rattle.std.specs.Prelude.{ℕ, Bool, true, false, List, [], ◌∷◌, T, Ok, Err}
use Rattle.isa.specs.declared.ShortRow.{ShortRow}
use Rattle.isa.specs.declared.ShortRow.TheVariants as short
use Rattle.isa.specs.declared.DyadicRow.{DyadicRow}
use Rattle.isa.specs.declared.DyadicRow.TheVariants as wide
use Rattle.isa.specs.declared.Mode.TheVariants.{AbsoluteUbyte, StackWord, Immediate}
use Rattle.isa.specs.declared.Operand.{Operand}
use Rattle.isa.specs.declared.Operand.TheVariants.{General}
use Rattle.isa.specs.declared.Wide.{Wide}
use Rattle.isa.specs.declared.Wide.TheVariants.{Three, Five}
use Rattle.isa.specs.declared.Instruction.{Instruction}
use Rattle.isa.specs.declared.Instruction.TheVariants.{Short, Dyadic, Monadic}
use Rattle.isa.specs.declared.Undecoded.TheVariants as answer
use Rattle.isa.specs.Answers.{unimplemented_code, DecodedNumbers, decoded_to, decoded_exception, decoded_event, decoded_refusal, decoded_numbers, Decoded}
use Rattle.isa.specs.Answers.{EncodedNumbers, encoded_to, encoded_refusal, encoded_numbers}
use Rattle.isa.specs.Encodings.{dyadic_listed}
use Rattle.isa.specs.Decode.{decode_short, decode_dyadic, decode_monadic, decode_three, decode_wide, decode_prefixed, decode_bare, decode_of, text_of}
use Rattle.isa.specs.Encode.{mode_code, encode_short, encode_dyadic, encode_monadic, encode_of}
use Rattle.memory.specs.Exceptions.{illegal_instruction}
use Rattle.fast_decode.specs.declared.Plan.{Plan}
use Rattle.fast_decode.specs.declared.Plan.TheVariants as plan
use Rattle.fast_decode.specs.Plans.{plan_of, plan_length}
use Rattle.witnesses.specs.Boards.{is, all}

-- ---- an answer as a number

abbrev pub instruction_found : ℕ
instruction_found = 0

abbrev pub illegal : ℕ
illegal = 0x3

-- the number of document 01: the exception, the event or the refusal; 0 for an instruction
abbrev pub number_in : DecodedNumbers → ℕ
number_in (decoded_to i n) = instruction_found
number_in (decoded_exception e) = e
number_in (decoded_event e v) = e
number_in (decoded_refusal r) = r

abbrev pub answer_number : Decoded → ℕ
answer_number a = number_in (decoded_numbers a)

-- no length, and no vector
abbrev pub none_carried : ℕ
none_carried = 0xFF

-- the length that an answer carries
abbrev pub length_in : Decoded → ℕ
length_in (Ok (i, n)) = n
length_in (Err answer.Illegal) = none_carried
length_in (Err (answer.Unimplemented v)) = none_carried
length_in (Err answer.Truncated) = none_carried

-- the offset of the vector that an answer carries
abbrev pub vector_in : Decoded → ℕ
vector_in (Ok (i, n)) = none_carried
vector_in (Err answer.Illegal) = none_carried
vector_in (Err (answer.Unimplemented v)) = v
vector_in (Err answer.Truncated) = none_carried

-- the opcode of a dyadic's row by the encodings lists; 0x40 for any other answer
abbrev pub opcode_in : Decoded → ℕ
opcode_in (Ok (Short i, n)) = 0x40
opcode_in (Ok (Dyadic i, n)) = (dyadic_listed i.row).opcode
opcode_in (Ok (Monadic i, n)) = 0x40
opcode_in (Err answer.Illegal) = 0x40
opcode_in (Err (answer.Unimplemented v)) = 0x40
opcode_in (Err answer.Truncated) = 0x40

-- the source of a one-parcel instruction; 0 for any other answer
abbrev pub source_in : Decoded → ℕ
source_in (Ok (Short i, n)) = i.source
source_in (Ok (Dyadic i, n)) = 0
source_in (Ok (Monadic i, n)) = 0
source_in (Err answer.Illegal) = 0
source_in (Err (answer.Unimplemented v)) = 0
source_in (Err answer.Truncated) = 0

abbrev pub decoded : List ℕ → Decoded
decoded ps = decode_of (text_of ps)

-- the mode of a plan's source; 0x10 where there is none
abbrev pub source_mode : Plan → ℕ
source_mode (plan.Two l w t a s b d) = mode_code a
source_mode (plan.One l o m v) = 0x10
source_mode plan.Other = 0x10

-- the first parcel, or the refusal
abbrev pub first_in : EncodedNumbers → ℕ
first_in (encoded_to t) = t.p0
first_in (encoded_refusal n) = n

-- of an instruction encoded at a length
abbrev pub first_parcel : Instruction → ℕ → ℕ
first_parcel i n = first_in (encoded_numbers (encode_of i n))

abbrev pub short_as : ShortRow → ℕ → ℕ → Instruction
short_as r s d = Short (record { row = r; source = s; destination = d })

abbrev pub wide_as : Wide → DyadicRow → Bool → Operand → Operand → Instruction
wide_as w r p s d = Dyadic (record { row = r; wide = w; prefix = p; source = s; destination = d })

-- "MOV 1, 4(CSP)" in three or five parcels, with a prefix or without
abbrev pub mov_as : Wide → Bool → Instruction
mov_as w p = wide_as w wide.Mov p (General Immediate 1) (General StackWord 4)

unfoldable pub decodings : List Bool
decodings =
    -- a decoder saying illegal always: NOP
    is (answer_number (decoded (0x2C02 ∷ []))) instruction_found illegal
    -- SUB3 and OR3 in each other's place of Table 1-18
    ∷ is (opcode_in (decoded (0xB0FD ∷ 1 ∷ 4 ∷ []))) 0x30 0x31
    ∷ is (opcode_in (decoded (0xB1FD ∷ 1 ∷ 4 ∷ []))) 0x31 0x30
    -- the source's five bits taken one bit off: "MOV 5, 16(CSP)"
    ∷ is (source_in (decoded (0x70A4 ∷ []))) 5 10
    -- five parcels decoded with one missing, and a prefix alone: cut text
    ∷ is (answer_number (decoded (0xE3FD ∷ 0 ∷ 1 ∷ 0 ∷ []))) 6 instruction_found
    ∷ is (answer_number (decoded (0x2C00 ∷ []))) 6 illegal
    -- a negative offset of POPN and of RETURN taken as legal
    ∷ is (answer_number (decoded (0x80DF ∷ 0xFFFF ∷ 0xFFF0 ∷ []))) illegal instruction_found
    ∷ is (answer_number (decoded (0x80D2 ∷ 0xFFFF ∷ 0xFFF0 ∷ []))) illegal instruction_found
    -- a trapped niladic through vector 12, and FLUSHD through vector 8
    ∷ is (vector_in (decoded (0x2E00 ∷ []))) 8 12
    ∷ is (vector_in (decoded (0x2C06 ∷ []))) 12 8
    -- a trapped niladic, or FLUSHD, taken as an instruction or as illegal
    ∷ is (answer_number (decoded (0x2E00 ∷ []))) 0x21 instruction_found
    ∷ is (answer_number (decoded (0x2E00 ∷ []))) 0x21 illegal
    ∷ is (answer_number (decoded (0x2C06 ∷ []))) 0x21 instruction_found
    -- another exception than a step's for what is illegal, another event than a confined run's for what is unimplemented
    ∷ is (answer_number (decoded (0x2C00 ∷ 0x2C02 ∷ []))) illegal_instruction unimplemented_code
    ∷ is (answer_number (decoded (0x2C06 ∷ []))) unimplemented_code illegal_instruction
    -- a prefix before a one-parcel instruction taken
    ∷ is (answer_number (decoded (0x2C00 ∷ 0x2C02 ∷ []))) illegal instruction_found
    -- a prefixed instruction's length without its prefix
    ∷ is (length_in (decoded (0x2C00 ∷ 0x86FD ∷ 1 ∷ 4 ∷ []))) 4 3
    ∷ is (length_in (decoded (0x2C00 ∷ 0x80F1 ∷ 0 ∷ 0x200 ∷ []))) 4 3
    ∷ is (length_in (decoded (0x2C00 ∷ 0xC6FD ∷ 0 ∷ 1 ∷ 0 ∷ 4 ∷ []))) 6 5
    -- a prefix counted where there is none, and parcels that follow
    ∷ is (length_in (decoded (0x2C02 ∷ []))) 1 2
    ∷ is (length_in (decoded (0x86FD ∷ 1 ∷ 4 ∷ []))) 3 4
    ∷ is (length_in (decoded (0xC6FD ∷ 0 ∷ 1 ∷ 0 ∷ 4 ∷ []))) 5 6
    ∷ is (length_in (decoded (0x2C02 ∷ 0x2C02 ∷ 0x2C02 ∷ []))) 1 3
    -- a trap with a length
    ∷ is (length_in (decoded (0x2E00 ∷ []))) none_carried 1
    -- an illegal or unimplemented instruction with a length, and a cut text
    ∷ is (length_in (decoded (0x80DF ∷ 0xFFFF ∷ 0xFFF0 ∷ []))) none_carried 3
    ∷ is (length_in (decoded (0x2C00 ∷ 0x2C02 ∷ []))) none_carried 2
    ∷ is (length_in (decoded (0x2C06 ∷ []))) none_carried 1
    ∷ is (length_in (decoded (0xC6FD ∷ 0 ∷ []))) none_carried 5
    -- operands of one parcel planned in each other's modes
    ∷ is (source_mode (plan_of (decoded (0x70A4 ∷ [])))) (mode_code Immediate) (mode_code StackWord)
    -- a plan of the form's length
    ∷ is (plan_length (plan_of (decoded (0x2C00 ∷ 0xC6FD ∷ 0 ∷ 1 ∷ 0 ∷ 4 ∷ [])))) 6 5
    ∷ is (plan_length (plan_of (decoded (0x2C00 ∷ 0x80F1 ∷ 0 ∷ 0x200 ∷ [])))) 4 3
    -- XOR encoded by REM's opcode
    ∷ is (first_parcel (wide_as Five wide.Xor false (General Immediate 1) (General StackWord 4)) 5) 0xE4FD 0xE5FD
    -- wai5 of 128, which six bits would carry, encoded
    ∷ is (first_parcel (short_as short.MovWaiStk 128 0) 1) 5 0x2800
    -- a byte mode after a prefix encoded
    ∷ is (first_parcel (wide_as Five wide.Mov true (General AbsoluteUbyte 1) (General StackWord 4)) 6) 5 0x2C00
    -- an encoder that ignores the length: of one parcel, of five without and with a prefix, of three with one
    ∷ is (first_parcel (short_as short.Nop 0 0) 3) 5 0x2C02
    ∷ is (first_parcel (mov_as Five false) 5) 0xC6FD 5
    ∷ is (first_parcel (mov_as Five false) 3) 5 0xC6FD
    ∷ is (first_parcel (mov_as Five true) 6) 0x2C00 5
    ∷ is (first_parcel (mov_as Five true) 5) 5 0x2C00
    ∷ is (first_parcel (mov_as Three true) 3) 5 0x2C00
    ∷ []

pub decodings_checked : T (all decodings)
unfolding decodings decode_short decode_dyadic decode_monadic decode_three decode_wide decode_prefixed decode_bare decode_of encode_short encode_dyadic encode_monadic encode_of
decodings_checked = tt
