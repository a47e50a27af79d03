-- The long forms as texts: prefix, first parcel and operand fields, with anything after them.
-- Assumes nothing.
use Prim.Native.Nat.{ℕ, ◌/◌, ◌%◌, ◌<◌}
use mathlib.Core.Path.{◌≡◌, refl, ap, ap₂, subst, ◌∙◌}
use mathlib.Core.Bool.{Bool, true, false}
use mathlib.Core.List.{List, ◌++◌}
use native.Mathlib.Omega.{arith}
use Rattle.isa.specs.declared.Wide.{Wide}
use Rattle.isa.specs.declared.Wide.TheVariants.{Three, Five}
use Rattle.isa.specs.declared.Text.{Text}
use Rattle.isa.specs.declared.DyadicInstruction.{DyadicInstruction}
use Rattle.isa.specs.declared.MonadicInstruction.{MonadicInstruction}
use Rattle.isa.specs.declared.Instruction.TheVariants as instruction
use Rattle.isa.specs.Answers.{with_length}
use Rattle.isa.specs.Decode.{decode_of, decode_dyadic, decode_monadic, joined, text_of}
use Rattle.isa.specs.Encodings.{dyadic_listed, monadic_listed}
use Rattle.isa.specs.Encode.{coded, with_prefix, text3, dyadic_text, operand_code, operand_raw, dyadic_has_code, encode_dyadic, monadic_code, takes, encode_monadic}
use Rattle.roundtrip.specs.Unused.{parcels_of}
use Rattle.roundtrip.proofs.LengthLaws.{bare_three, bare_five, prefixed_three, prefixed_five, three_dyadic, three_monadic}
use Rattle.isa.proofs.BoundLaws.{opcode_lt, subcode_lt, operand_lt, single_lt}
use Rattle.roundtrip.proofs.DyadicTableLaws.{field_of, opcode_pos}
use Rattle.roundtrip.proofs.DyadicLaws as dyadic
use Rattle.roundtrip.proofs.MonadicLaws as monadic
use Rattle.std.specs.Prelude.{Some}

-- what was encoded has a code, and is that text
pub record Given (b : Bool) (t u : Text) : Type 0 where
  pub holds : b ≡ true
  pub text : t ≡ u

pub given : (b : Bool) (t u : Text) → coded b t ≡ Some u → Given b t u
given true t u e = record { holds = refl; text = cc }
given false t u e = let z : ◌≡◌ {A = ℕ} 0 1 = cc in absurd (omega arith)

halves : (x : ℕ) → joined (x / 65536) (x % 65536) ≡ x
halves x = omega arith

module _ (o s d x y : ℕ) (ho : o < 64) (hp : 0 < o) (hs : s < 16) (hd : d < 16) (rest : List ℕ) where
  not_zero : dyadic.first_of Three o s d / 256 % 64 ≡ 0 → ⊥
  not_zero e = omega arith

  texted : (pre : Bool) (w : Wide)
      → decode_of (text_of (parcels_of (with_prefix pre (dyadic_text w o s d x y)) ++ rest))
      ≡ decode_dyadic w pre (dyadic.first_of w o s d) (field_of w x) (field_of w y)
  texted false Three =
      bare_three _ (dyadic.first_of Three o s d) (x % 65536) (y % 65536) _ _ _ (omega arith) (omega arith) (omega arith)
      ∙ three_dyadic false _ _ _ not_zero
  texted true Three =
      prefixed_three _ (dyadic.first_of Three o s d) (x % 65536) (y % 65536) _ _ 0 (omega arith) (omega arith) (omega arith)
      ∙ three_dyadic true _ _ _ not_zero
  texted false Five =
      bare_five _ (dyadic.first_of Five o s d) (x / 65536) (x % 65536) (y / 65536) (y % 65536) _ (omega arith) (omega arith)
      ∙ ap₂ (decode_dyadic Five false (dyadic.first_of Five o s d)) (halves x) (halves y)
  texted true Five =
      prefixed_five _ (dyadic.first_of Five o s d) (x / 65536) (x % 65536) (y / 65536) (y % 65536) 0 (omega arith) (omega arith)
      ∙ ap₂ (decode_dyadic Five true (dyadic.first_of Five o s d)) (halves x) (halves y)

-- dyadic_text with its first parcel named
pub dyadic_decodes : (i : DyadicInstruction) (t : Text) (rest : List ℕ) → encode_dyadic i ≡ Some t
    → decode_of (text_of (parcels_of t ++ rest)) ≡ with_length (instruction.Dyadic i)
unfolding encode_dyadic
dyadic_decodes i t rest e =
    let g = given (dyadic_has_code i) _ t e in
    subst (λ (u : Text). decode_of (text_of (parcels_of u ++ rest)) ≡ with_length (instruction.Dyadic i)) g.text
    (texted (dyadic_listed i.row).opcode (operand_code i.source) (operand_code i.destination) (operand_raw i.source) (operand_raw i.destination)
    (opcode_lt i.row) (opcode_pos i.row) (operand_lt i.source) (operand_lt i.destination) rest i.prefix i.wide
    ∙ dyadic.dyadic_back i g.holds)

module _ (k j v : ℕ) (hk : k < 16) (hj : j < 16) (rest : List ℕ) where
  zero : monadic.first_of k j / 256 % 64 ≡ 0
  zero = omega arith

  single : (pre : Bool)
      → decode_of (text_of (parcels_of (with_prefix pre (text3 (monadic.first_of k j) (v / 65536) (v % 65536))) ++ rest))
      ≡ decode_monadic pre (monadic.first_of k j) v
  single false =
      bare_three _ (monadic.first_of k j) (v / 65536) (v % 65536) _ _ _ (omega arith) (omega arith) (omega arith)
      ∙ three_monadic false _ _ _ zero ∙ ap (decode_monadic false (monadic.first_of k j)) (halves v)
  single true =
      prefixed_three _ (monadic.first_of k j) (v / 65536) (v % 65536) _ _ 0 (omega arith) (omega arith) (omega arith)
      ∙ three_monadic true _ _ _ zero ∙ ap (decode_monadic true (monadic.first_of k j)) (halves v)

pub monadic_decodes : (i : MonadicInstruction) (t : Text) (rest : List ℕ) → encode_monadic i ≡ Some t
    → decode_of (text_of (parcels_of t ++ rest)) ≡ with_length (instruction.Monadic i)
unfolding encode_monadic
monadic_decodes i t rest e =
    let g = given (takes (monadic_listed i.row).operand i.mode i.value) _ t e in
    subst (λ (u : Text). decode_of (text_of (parcels_of u ++ rest)) ≡ with_length (instruction.Monadic i)) g.text
    (single (monadic_code i.mode) (monadic_listed i.row).subcode i.value (single_lt i.mode) (subcode_lt i.row) rest i.prefix
    ∙ monadic.monadic_back i g.holds)
