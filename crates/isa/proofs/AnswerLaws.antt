-- Document 01's numbers tell the answers of the decoder and of the encoder apart.
-- Assumes nothing.
use mathlib.Core.Path.{◌≡◌, refl, sym, ap, ◌∙◌}
use Rattle.isa.specs.declared.Instruction.{Instruction}
use Rattle.isa.specs.declared.Undecoded.TheVariants.{Illegal, Unimplemented, Truncated}
use Rattle.isa.specs.Answers.{DecodedNumbers, decoded_to, decoded_exception, decoded_event, decoded_refusal, decoded_numbers, EncodedNumbers, encoded_to, encoded_refusal, encoded_numbers, with_length, Decoded, Encoded}
use Rattle.std.specs.Prelude.{Some, None, Ok, Err}

-- the answer with these numbers
abbrev decoded_by : DecodedNumbers → Decoded
decoded_by (decoded_to i n) = Ok (i, n)
decoded_by (decoded_exception e) = Err Illegal
decoded_by (decoded_event e v) = Err (Unimplemented v)
decoded_by (decoded_refusal n) = Err Truncated

decoded_back : (a : Decoded) → decoded_by (decoded_numbers a) ≡ a
decoded_back (Ok (i, n)) = refl
decoded_back (Err Illegal) = refl
decoded_back (Err (Unimplemented v)) = refl
decoded_back (Err Truncated) = refl

pub same_decoded : (a b : Decoded) → decoded_numbers a ≡ decoded_numbers b → a ≡ b
same_decoded a b e = sym (decoded_back a) ∙ ap decoded_by e ∙ decoded_back b

-- an answer carries one instruction; i of an answer that carries none
abbrev carried_or : Instruction → Decoded → Instruction
carried_or i (Ok (j, n)) = j
carried_or i (Err e) = i

pub same_instruction : (i j : Instruction) → with_length i ≡ with_length j → i ≡ j
same_instruction i j e = ap (carried_or i) e

abbrev encoded_by : EncodedNumbers → Encoded
encoded_by (encoded_to t) = Some t
encoded_by (encoded_refusal n) = None

encoded_back : (a : Encoded) → encoded_by (encoded_numbers a) ≡ a
encoded_back (Some t) = refl
encoded_back None = refl

pub same_encoded : (a b : Encoded) → encoded_numbers a ≡ encoded_numbers b → a ≡ b
same_encoded a b e = sym (encoded_back a) ∙ ap encoded_by e ∙ encoded_back b
