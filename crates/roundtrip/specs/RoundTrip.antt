-- The decoder and the encoder are each other's inverse (demand 2), and both hold to the length (request (g)); what the length is: isa/specs/Carried.antt.
use Rattle.std.specs.Prelude.{ℕ, ◌<◌, ◌≤◌, ◌≡◌, true, List, ◌++◌, length, get_or, take, Some, Ok}
use Rattle.isa.specs.declared.Instruction.{Instruction}
use Rattle.isa.specs.declared.Text.{Text}
use Rattle.isa.specs.Lengths.{length_of}
use Rattle.isa.specs.Answers.{no_encoding, encoded_refusal, encoded_numbers}
use Rattle.isa.specs.Decode.{decode_of, text_of}
use Rattle.isa.specs.Encode.{encode_of}
use Rattle.roundtrip.specs.Unused.{unused_zero, parcels_of}

-- "Each encoded instruction decodes to itself": with its length, whatever parcels follow
abbrev pub EncodeDecode : Type 0
EncodeDecode = (i : Instruction) (n : ℕ) (t : Text) (rest : List ℕ) → encode_of i n ≡ Some t → decode_of (text_of (parcels_of t ++ rest)) ≡ Ok (i, n)

-- "parcels that decode to an instruction, with unused bits zero, encode to themselves at their length": the first n of them, and there are n
abbrev pub DecodeEncode : Type 0
DecodeEncode =
    (ps : List ℕ) (j : Instruction) (n : ℕ) → ((k : ℕ) → get_or ps k 0 < 65536) → unused_zero (text_of ps) ≡ true → decode_of (text_of ps) ≡ Ok (j, n)
    → (n ≤ length ps) × (encode_of j n ≡ Some (text_of (take n ps)))

-- "A form, prefix and length that disagree are given number 5 too by the encoder"
abbrev pub Disagreeing : Type 0
Disagreeing = (i : Instruction) (n : ℕ) → (n ≡ length_of i → ⊥) → encoded_numbers (encode_of i n) ≡ encoded_refusal no_encoding
