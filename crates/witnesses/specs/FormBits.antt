-- Wrong lists of what sets three and five parcels apart, and wrong answers of a decoder that looks at the form.
-- Assumes nothing.
use Rattle.std.specs.Prelude.{ℕ, zero, suc, ◌+◌, ◌*◌, ◌^◌, Bool, true, false, cond, ◌&&◌, List, [], ◌∷◌, T, length, Ok, Err}
use Rattle.isa.specs.declared.Instruction.TheVariants.{Short, Dyadic, Monadic}
use Rattle.isa.specs.declared.Undecoded.TheVariants as answer
use Rattle.isa.specs.Decode.{decode_short, decode_dyadic, decode_monadic, decode_three, decode_wide, decode_prefixed, decode_bare, decode_of}
use Rattle.isa.specs.Encode.{operand_raw}
use Rattle.exec_spec.specs.Alu.{bit_digit}
use Rattle.form_bit.specs.SetApart.{set_apart, is_set_apart, by_sign}
use Rattle.witnesses.specs.Boards.{is, all}
use Rattle.witnesses.specs.Decoding.{instruction_found, illegal, answer_number, decoded}
use Rattle.isa.specs.Answers.{Decoded}

-- ---- the list, sixteen parcels at a time

-- a number whose bit k says whether f holds at k
abbrev pub mask_of : (ℕ → Bool) → ℕ → ℕ
mask_of f zero = 0
mask_of f (suc n) = mask_of f n + cond (f n) (2 ^ n) 0

-- the parcels with a high digit: bit k is the low digit k
abbrev pub row_of : Bool → ℕ → ℕ
row_of pre h = mask_of (λ k. is_set_apart pre (h * 16 + k)) 16

-- a row that several high digits have
abbrev pub rows : Bool → List ℕ → ℕ → ℕ → Bool
rows pre [] right wrong = true
rows pre (h ∷ hs) right wrong = is (row_of pre h) right wrong && rows pre hs right wrong

-- ---- the value of a dyadic's source, a register's number too; 0 of any other answer

abbrev pub source_value : Decoded → ℕ
source_value (Ok (Short i, n)) = 0
source_value (Ok (Dyadic i, n)) = operand_raw i.source
source_value (Ok (Monadic i, n)) = 0
source_value (Err answer.Illegal) = 0
source_value (Err (answer.Unimplemented v)) = 0
source_value (Err answer.Truncated) = 0

unfoldable pub form_bits : List Bool
form_bits =
    -- a parcel taken off the list after a prefix: in mode 7 the subcode 0xC, in 0xC JMPTY, in 0xD RETURN or ENTER, in 0xE and 0xF JMPFN
    is (row_of true 0x7) 0xF000 0xE000
    ∷ is (row_of true 0xC) 0x9F8B 0x9F0B
    ∷ is (row_of true 0xD) 0x9F8F 0x9F8B
    ∷ is (row_of true 0xD) 0x9F8F 0x9D8F
    ∷ rows true (0xE ∷ 0xF ∷ []) 0x9FFB 0x9FEB
    -- a parcel put on it: CALL in a byte mode
    ∷ rows true (0x0 ∷ 0x1 ∷ 0x2 ∷ 0x3 ∷ 0x4 ∷ 0x5 ∷ 0x6 ∷ 0x8 ∷ 0x9 ∷ 0xA ∷ 0xB ∷ []) 0 0x2
    -- without a prefix, CALL in a byte mode taken off, FLUSHDCE put on it
    ∷ rows false (0x0 ∷ 0x1 ∷ 0x2 ∷ 0x3 ∷ 0x4 ∷ 0x5 ∷ 0x6 ∷ 0x7 ∷ 0x8 ∷ 0x9 ∷ 0xA ∷ 0xB ∷ []) 0xFFFF 0xFFFD
    ∷ rows false (0xC ∷ 0xD ∷ 0xE ∷ 0xF ∷ []) 0x9FFF 0xBFFF
    -- a parcel twice on it
    ∷ is (length (set_apart true)) 51 52
    ∷ is (length (set_apart false)) 248 249
    -- the list with or without a prefix for the other
    ∷ is (bit_digit (is_set_apart false 0x00)) 1 0
    ∷ is (bit_digit (is_set_apart true 0x00)) 0 1
    -- a parcel of another opcode on it
    ∷ is (bit_digit (is_set_apart false 0x1FD)) 0 1
    -- RETURN set apart by no sign, and ENTER by RETURN's
    ∷ is (bit_digit (by_sign true 0xD2 0xFFFF_FFF0)) 1 0
    ∷ is (bit_digit (by_sign true 0xD9 0xFFFF_FFF0)) 0 1
    ∷ is (answer_number (decoded (0x2C00 ∷ 0x80D2 ∷ 0xFFFF ∷ 0xFFF0 ∷ []))) illegal instruction_found
    ∷ is (answer_number (decoded (0x2C00 ∷ 0xC0D2 ∷ 0xFFFF ∷ 0xFFFF ∷ 0xFFFF ∷ 0xFFF0 ∷ []))) illegal instruction_found
    -- a legality rule that looks at the form: MOVA of an immediate, DQM from a byte, two registers read
    ∷ is (answer_number (decoded (0x84FD ∷ 5 ∷ 4 ∷ []))) illegal instruction_found
    ∷ is (answer_number (decoded (0xC4FD ∷ 0 ∷ 5 ∷ 0 ∷ 4 ∷ []))) illegal instruction_found
    ∷ is (answer_number (decoded (0x870D ∷ 5 ∷ 4 ∷ []))) illegal instruction_found
    ∷ is (answer_number (decoded (0xC70D ∷ 0 ∷ 5 ∷ 0 ∷ 4 ∷ []))) illegal instruction_found
    ∷ is (answer_number (decoded (0x2C00 ∷ 0xA377 ∷ 1 ∷ 2 ∷ []))) illegal instruction_found
    ∷ is (answer_number (decoded (0x2C00 ∷ 0xE377 ∷ 0 ∷ 1 ∷ 0 ∷ 2 ∷ []))) illegal instruction_found
    -- an unimplemented opcode with two registers unimplemented in five and not in three
    ∷ is (answer_number (decoded (0x2C00 ∷ 0x8877 ∷ 1 ∷ 2 ∷ []))) illegal 0x21
    ∷ is (answer_number (decoded (0x2C00 ∷ 0xC877 ∷ 0 ∷ 1 ∷ 0 ∷ 2 ∷ []))) illegal 0x21
    -- an immediate of 16 bits extended by zeros, an absolute address by its sign, a register's number by all its bits
    ∷ is (source_value (decoded (0x86FD ∷ 0xFFFF ∷ 4 ∷ []))) 0xFFFF_FFFF 0xFFFF
    ∷ is (source_value (decoded (0x86CD ∷ 0xFFFF ∷ 4 ∷ []))) 0xFFFF 0xFFFF_FFFF
    ∷ is (source_value (decoded (0xC6FD ∷ 0 ∷ 0xFFFF ∷ 0 ∷ 4 ∷ []))) 0xFFFF 0xFFFF_FFFF
    ∷ is (source_value (decoded (0x2C00 ∷ 0xC67D ∷ 1 ∷ 0x13 ∷ 0 ∷ 4 ∷ []))) 0x3 0x13
    ∷ []

pub form_bits_checked : T (all form_bits)
unfolding form_bits decode_short decode_dyadic decode_monadic decode_three decode_wide decode_prefixed decode_bare decode_of
form_bits_checked = tt
