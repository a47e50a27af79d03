-- The round trip of the one-parcel instructions: encode_short and decode_short are each other's inverse.
-- Assumes nothing.
use Prim.Native.Nat.{ℕ, zero-le, ◌<◌}
use mathlib.Core.Path.{◌≡◌, refl, sym, ap, ap₂, subst, ◌∙◌}
use mathlib.Core.Bool.{Bool, true, false, ◌&&◌}
use native.Mathlib.Omega.{arith}
use lib.Dec.{eqb}
use borrow.Author.Tests.{eqb-true, ne_eqb, lt-ltb}
use Rattle.word.proofs.CaseLaws.{and_left, and_right}
use Rattle.word.proofs.EveryLaws.{every, holds}
use Rattle.isa.specs.declared.ShortInstruction.{ShortInstruction}
use Rattle.isa.specs.declared.ShortListed.{ShortListed}
use Rattle.isa.specs.declared.Instruction.TheVariants as instruction
use Rattle.isa.specs.declared.Text.{Text}
use Rattle.isa.specs.declared.Undecoded.TheVariants.{Illegal, Unimplemented, Truncated}
use Rattle.isa.specs.Answers.{with_length, Decoded}
use Rattle.isa.specs.Encodings.{short_listed}
use Rattle.isa.specs.Encode.{coded, text1, carries, short_parcel, encode_short}
use Rattle.isa.specs.Decode.{cpu_prefix, decode_short, decode_bare, decode_of}
use Rattle.roundtrip.proofs.RowLaws.{From, row}
use Rattle.std.specs.Prelude.{Some, Ok, Err}

-- ---- encode, then decode

record Made (a : Bool) (q : ℕ) (t : Text) : Type 0 where
  right : a ≡ true
  same : text1 q ≡ t

made : (a : Bool) (q : ℕ) (t : Text) → coded a (text1 q) ≡ Some t → Made a q t
made true q t e = record { right = refl; same = cc }
made false q t e = let z : ◌≡◌ {A = ℕ} 0 1 = cc in absurd (omega arith)

-- what decode_short takes for an instruction is no prefix
no_prefix : (q : ℕ) (i : ShortInstruction) → decode_short q ≡ with_length (instruction.Short i) → q ≡ cpu_prefix → ⊥
unfolding decode_short
no_prefix q i e f =
    let g : Err Illegal ≡ with_length (instruction.Short i) = sym (ap decode_short f) ∙ e in
    let z : ◌≡◌ {A = ℕ} 0 1 = cc in
    omega arith

decode_one : (q : ℕ) (i : ShortInstruction) → From q i → decode_of (text1 q) ≡ with_length (instruction.Short i)
unfolding decode_of decode_bare
decode_one q i f = simp (ne_eqb q cpu_prefix (no_prefix q i f.decoded), lt-ltb _ _ f.below) f.decoded

pub encode_decode : (i : ShortInstruction) (t : Text) → encode_short i ≡ Some t → decode_of t ≡ with_length (instruction.Short i)
unfolding encode_short
encode_decode i t e =
    let l = short_listed i.row in
    let a = carries l.source i.source in
    let b = carries l.destination i.destination in
    let m = made (a && b) (short_parcel l i.source i.destination) t e in
    ap decode_of (sym m.same)
    ∙ decode_one _ _ (row i.row i.source i.destination)
    ∙ ap₂ (λ (x y : ℕ). with_length (instruction.Short (record { row = i.row; source = x; destination = y })))
    (eqb-true _ _ (and_left a b m.right)) (eqb-true _ _ (and_right a b m.right))

-- ---- decode, then encode: computed at each of the 32,768 parcels

abbrev encodes_to : ShortListed → ℕ → ℕ → ℕ → Bool
encodes_to l u v p = carries l.source u && carries l.destination v && eqb (short_parcel l u v) p

abbrev back : Decoded → ℕ → Bool
back (Ok (instruction.Short i, n)) p = encodes_to (short_listed i.row) i.source i.destination p
back (Ok (instruction.Dyadic i, n)) p = true
back (Ok (instruction.Monadic i, n)) p = true
back (Err Illegal) p = true
back (Err (Unimplemented v)) p = true
back (Err Truncated) p = true

test : ℕ → Bool
test p = back (decode_short p) p

passes : every test 15 0 ≡ true
unfolding test decode_short
passes = refl

coded_again : (a : Bool) (q p : ℕ) → (a && eqb q p) ≡ true → coded a (text1 q) ≡ Some (text1 p)
coded_again true q p e = ap (λ (n : ℕ). Some (text1 n)) (eqb-true q p e)
coded_again false q p e = let z : ◌≡◌ {A = ℕ} 0 1 = cc in absurd (omega arith)

pub decode_encode : (p : ℕ) (i : ShortInstruction) → p < 0x8000 → decode_short p ≡ with_length (instruction.Short i) → encode_short i ≡ Some (text1 p)
unfolding test encode_short
decode_encode p i h e =
    let l = short_listed i.row in
    coded_again (carries l.source i.source && carries l.destination i.destination) (short_parcel l i.source i.destination) p
    (subst (λ (w : Decoded). back w p ≡ true) e (holds test 15 0 p zero-le h passes))
