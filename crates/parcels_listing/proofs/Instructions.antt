-- The list beside the CPU prefix is the instructions of one parcel.
-- Assumes nothing.
use Prim.Native.Nat.{ℕ, zero, suc, ◌+◌, ◌<◌, ◌≤◌}
use mathlib.Core.Path.{◌≡◌, refl, sym, ◌∙◌}
use mathlib.Core.Bool.{true}
use mathlib.Core.List.{List, [], ◌∷◌}
use native.Mathlib.Omega.{arith}
use lib.ListN.{get_or}
use lib.Dec.{eqb, ltb}
use borrow.Author.Tests.{ltb-true, eqb-false, ne_eqb, lt-ltb}
use Rattle.word.proofs.CaseLaws.{by_test, not_both}
use Rattle.isa.specs.declared.ShortEntry.{ShortEntry}
use Rattle.isa.specs.declared.ShortEntry.TheVariants as entry
use Rattle.isa.specs.declared.Instruction.{Instruction}
use Rattle.isa.specs.declared.Instruction.TheVariants as instruction
use Rattle.isa.specs.declared.Text.{Text}
use Rattle.isa.specs.Lengths.{short_length, following}
use Rattle.isa.specs.Fields.{short_opcode}
use Rattle.isa.specs.Tables.{short_of}
use Rattle.isa.specs.Decode.{cpu_prefix, short_entry, short_instruction, short_answer, decode_short, decode_of, text_of}
use Rattle.isa.specs.Encode.{text1}
use Rattle.isa.specs.Carried.{called_for, Carried}
use Rattle.isa.proofs.Carried.{carried_length}
use Rattle.roundtrip.specs.Unused.{unused_zero}
use Rattle.roundtrip.proofs.RoundTrip.{short_text, encode_decode, decode_encode}
use Rattle.parcels_listing.specs.Listing.{is_legal, on_list}
use Rattle.parcels_listing.specs.Instructions.{OneParcel, Instructions}
use Rattle.parcels_listing.proofs.OneParcelList.{listed_below, listed_answer}
use Rattle.std.specs.Prelude.{Ok}
use Rattle.isa.specs.Answers.{Decoded}

-- a parcel whose top bit is 0 and that is no prefix is decoded by itself, whatever follows
decode_first : (t : Text) → 1 ≤ t.count → t.p0 < 0x8000 → (t.p0 ≡ cpu_prefix → ⊥) → decode_of t ≡ decode_short t.p0
decode_first t c h n = short_text t.count t.p0 t.p1 t.p2 t.p3 t.p4 t.p5 c h n

record OneParcelAnswer (d : Decoded) : Type 0 where
  found : Instruction
  is : d ≡ Ok (found, short_length)

short_legal : (e : ShortEntry) (p : ℕ) → is_legal (short_answer e p) ≡ true → OneParcelAnswer (short_answer e p)
short_legal (entry.Row r s d) p h = record { found = instruction.Short (short_instruction r s d p); is = refl }
short_legal entry.Stack p h = not_both h
short_legal entry.Niladic p h = not_both h
short_legal entry.Prefix p h = not_both h
short_legal entry.Unimplemented p h = not_both h
short_legal entry.Trap p h = not_both h
short_legal entry.Unlisted p h = not_both h

-- ---- listed, so an instruction

module _ (p : ℕ) (e : on_list p ≡ true) (n : p ≡ cpu_prefix → ⊥) where
  by_itself : (rest : List ℕ) → decode_of (text_of (p ∷ rest)) ≡ decode_short p
  by_itself rest = decode_first (text_of (p ∷ rest)) (omega arith) (listed_below p e) n

  short_listed_law : OneParcelAnswer (decode_short p)
  unfolding decode_short
  short_listed_law = short_legal (short_entry (short_of (short_opcode p)) p) p (rw (by_itself []) at (listed_answer p e))

  below : (k : ℕ) → get_or (p ∷ []) k 0 < 0x10000
  below zero = omega (arith, listed_below p e)
  below (suc k) = omega arith

  unused : unused_zero (text1 p) ≡ true
  unused = rw (ne_eqb p cpu_prefix n) refl

  one_parcel : OneParcel p
  one_parcel =
      record {
        instruction = short_listed_law.found;
        decoded = λ rest. by_itself rest ∙ short_listed_law.is;
        encoded = (decode_encode (p ∷ []) short_listed_law.found short_length below unused (by_itself [] ∙ short_listed_law.is)).1;
      }

-- ---- an instruction, so listed

-- a text of which one parcel is called for
record OneCalledFor (t : Text) : Type 0 where
  there : 1 ≤ t.count
  below : t.p0 < 0x8000
  no_prefix : t.p0 ≡ cpu_prefix → ⊥

first_only : (p : ℕ) → 1 ≡ 1 + following p → p < 0x8000
first_only p e =
    by_test (ltb p 0x8000)
    (λ h. ltb-true p 0x8000 h)
    (λ h. by_test (ltb p 0xC000) (λ g. absurd (omega (arith, rw (h, g) at e))) (λ g. absurd (omega (arith, rw (h, g) at e))))

one_called_for : (t : Text) → 1 ≡ called_for t → called_for t ≤ t.count → OneCalledFor t
one_called_for t e c =
    by_test (eqb t.p0 cpu_prefix)
    (λ h. absurd (omega (arith, rw h at e)))
    (λ h. record { there = omega arith; below = first_only t.p0 (rw h at e); no_prefix = eqb-false t.p0 cpu_prefix h })

decoded_listed_law : (t : Text) (i : Instruction) → decode_of t ≡ Ok (i, short_length) → on_list t.p0 ≡ true
unfolding on_list
decoded_listed_law t i e =
    let c : Carried (called_for t) t.count (Ok (i, short_length)) = rw e at (carried_length t) in
    let o = one_called_for t c.1 c.2 in
    let d : decode_of (text1 t.p0) ≡ Ok (i, short_length) =
    decode_first (text1 t.p0) (omega arith) o.below o.no_prefix ∙ sym (decode_first t o.there o.below o.no_prefix) ∙ e in
    rw (lt-ltb t.p0 0x8000 o.below, d) refl

pub instructions : Instructions
instructions =
    record {
      listed = one_parcel;
      decoded_listed = decoded_listed_law;
      encoded_listed = λ p i e. decoded_listed_law (text1 p) i (encode_decode i short_length (text1 p) [] e);
    }
