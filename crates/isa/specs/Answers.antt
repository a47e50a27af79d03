-- Document 01's numbers and values for what the decoder and the encoder answer: "When an answer is an enum, the promises use a
-- definition that gives this paper's number and values for each case of the enum".
use Rattle.std.specs.Prelude.{ℕ, Option, Some, None, Result, Ok, Err}
use Rattle.isa.specs.declared.Instruction.{Instruction}
use Rattle.isa.specs.declared.Text.{Text}
use Rattle.isa.specs.declared.Undecoded.{Undecoded}
use Rattle.isa.specs.declared.Undecoded.TheVariants.{Illegal, Unimplemented, Truncated}
use Rattle.isa.specs.Lengths.{length_of}

-- "Every opcode, subcode or mode not in the encodings lists is illegal (0x3)": the exception
abbrev pub illegal_number : ℕ
illegal_number = 0x3

-- "21 unimplemented": the event, and the code of a confined run that stops there
abbrev pub unimplemented_code : ℕ
unimplemented_code = 0x21

-- refusal 5, "no code": no encoding at the named length carries the instruction
abbrev pub no_encoding : ℕ
no_encoding = 5

-- refusal 6, "cut text": no parcel, or fewer than the first one, or the one after a prefix, calls for
abbrev pub truncated_text : ℕ
truncated_text = 6

-- Table 1-14: offsets of the vectors of an unimplemented instruction and of a trapped niladic, which is one too
abbrev pub unimplemented_vector : ℕ
unimplemented_vector = 12

abbrev pub niladic_trap_vector : ℕ
niladic_trap_vector = 8

-- ---- the decoder's: an instruction with its length in parcels; an exception; an event with its vector's offset; a refusal

abbrev pub Decoded : Type 0
Decoded = Result (Instruction × ℕ) Undecoded

pub data DecodedNumbers : Type 0 where
  decoded_to : Instruction → ℕ → DecodedNumbers
  decoded_exception : ℕ → DecodedNumbers
  decoded_event : ℕ → ℕ → DecodedNumbers
  decoded_refusal : ℕ → DecodedNumbers

abbrev pub decoded_numbers : Decoded → DecodedNumbers
decoded_numbers (Ok (i, n)) = decoded_to i n
decoded_numbers (Err Illegal) = decoded_exception illegal_number
decoded_numbers (Err (Unimplemented v)) = decoded_event unimplemented_code v
decoded_numbers (Err Truncated) = decoded_refusal truncated_text

-- an instruction carries its length, what is none carries none
abbrev pub with_length : Instruction → Decoded
with_length i = Ok (i, length_of i)

-- ---- the encoder's: parcels, as many as the text counts; a refusal

abbrev pub Encoded : Type 0
Encoded = Option Text

pub data EncodedNumbers : Type 0 where
  encoded_to : Text → EncodedNumbers
  encoded_refusal : ℕ → EncodedNumbers

abbrev pub encoded_numbers : Encoded → EncodedNumbers
encoded_numbers (Some t) = encoded_to t
encoded_numbers None = encoded_refusal no_encoding
