-- Decoding into a block and encoding from one, with numbers for what is no instruction.
-- Assumes nothing.
use Rattle.std.specs.Prelude.{ℕ, ◌+◌, List, [], ◌∷◌, Some, None, Ok, Err, Option}
use Rattle.isa.specs.declared.Instruction.{Instruction}
use Rattle.isa.specs.declared.Text.{Text}
use Rattle.isa.specs.declared.Undecoded.TheVariants as answer
use Rattle.isa.specs.Answers.{illegal_number, no_encoding, truncated_text, Decoded, Encoded}
use Rattle.isa.specs.Decode.{decode_of, text_of}
use Rattle.isa.specs.Encode.{encode_of}
use Rattle.hobbit_blocks.specs.Numbering.{block_of, instruction_in}

-- a number, and what a call left where it writes
pub record CallAnswer : Type 0 where
  pub number : ℕ
  pub words : List ℕ

abbrev pub call_answer : ℕ → List ℕ → CallAnswer
call_answer n l = record { number = n; words = l }

-- what is no instruction: 0x100, and an illegal one's exception or the offset of an unimplemented one's vector (1.11.4)
abbrev pub no_instruction : ℕ
no_instruction = 0x100

-- b is the block before: only an instruction changes it
abbrev pub decoded_as : Decoded → List ℕ → CallAnswer
decoded_as (Ok (i, n)) b = call_answer 0 (block_of i n)
decoded_as (Err answer.Illegal) b = call_answer (no_instruction + illegal_number) b
decoded_as (Err (answer.Unimplemented v)) b = call_answer (no_instruction + v) b
decoded_as (Err answer.Truncated) b = call_answer truncated_text b

abbrev pub decoded_into : List ℕ → List ℕ → CallAnswer
decoded_into ps b = decoded_as (decode_of (text_of ps)) b

-- six parcels: a text fills up with zeros
abbrev pub six_of : Text → List ℕ
six_of t = t.p0 ∷ t.p1 ∷ t.p2 ∷ t.p3 ∷ t.p4 ∷ t.p5 ∷ []

-- ps are the parcels before: only an encoding changes them
abbrev pub encoded_as : Encoded → List ℕ → CallAnswer
encoded_as (Some t) ps = call_answer 0 (six_of t)
encoded_as None ps = call_answer no_encoding ps

-- what names no instruction has no code
abbrev pub code_of : Option Instruction → ℕ → Encoded
code_of (Some i) n = encode_of i n
code_of None n = None

abbrev pub encoded_from : List ℕ → ℕ → List ℕ → CallAnswer
encoded_from b n ps = encoded_as (code_of (instruction_in b) n) ps
