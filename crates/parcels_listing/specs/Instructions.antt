-- Request (h): "each legal one-parcel encoding". Beside the CPU prefix the list is what the encoder gives at one parcel, and what the
-- decoder takes for an instruction of one parcel, whatever follows.
-- Assumes nothing.
use Rattle.std.specs.Prelude.{ℕ, ◌≡◌, true, List, ◌∷◌, Some, Ok}
use Rattle.isa.specs.declared.Instruction.{Instruction}
use Rattle.isa.specs.declared.Text.{Text}
use Rattle.isa.specs.Lengths.{short_length}
use Rattle.isa.specs.Decode.{cpu_prefix, decode_of, text_of}
use Rattle.isa.specs.Encode.{text1, encode_of}
use Rattle.parcels_listing.specs.Listing.{on_list}

-- the instruction that a parcel is
pub record OneParcel (p : ℕ) : Type 0 where
  pub instruction : Instruction
  pub decoded : (rest : List ℕ) → decode_of (text_of (p ∷ rest)) ≡ Ok (instruction, short_length)
  pub encoded : encode_of instruction short_length ≡ Some (text1 p)

pub record Instructions : Type 0 where
  pub listed : (p : ℕ) → on_list p ≡ true → (p ≡ cpu_prefix → ⊥) → OneParcel p
  -- whatever text begins with an instruction of one parcel
  pub decoded_listed : (t : Text) (i : Instruction) → decode_of t ≡ Ok (i, short_length) → on_list t.p0 ≡ true
  pub encoded_listed : (p : ℕ) (i : Instruction) → encode_of i short_length ≡ Some (text1 p) → on_list p ≡ true
