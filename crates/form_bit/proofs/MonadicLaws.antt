-- Opcode 0, which in three parcels is the monadics': of every parcel with it, whether its two answers have one shape, by computation.
-- Assumes nothing.
use Prim.Native.Nat.{ℕ, zero-le, ◌+◌, ◌-◌, ◌/◌, ◌%◌, ◌<◌}
use mathlib.Core.Path.{◌≡◌, refl, sym, ap, ◌∙◌}
use mathlib.Core.Bool.{Bool, true, false, cond, not, ◌&&◌}
use native.Mathlib.Omega.{arith}
use lib.Dec.{ltb, eqb}
use borrow.Author.Tests.{eqb-true, eqb-false, le-ltb}
use Rattle.word.proofs.CaseLaws.{passed, missed}
use Rattle.word.proofs.EveryLaws.{every, holds}
use Rattle.isa.specs.declared.Wide.TheVariants.{Five}
use Rattle.isa.specs.declared.MonadicRow.{MonadicRow}
use Rattle.isa.specs.declared.MonadicRule.{MonadicRule}
use Rattle.isa.specs.declared.MonadicRule.TheVariants as rule
use Rattle.isa.specs.declared.MonadicMode.{MonadicMode}
use Rattle.isa.specs.declared.Entry.TheVariants as single
use Rattle.isa.specs.Tables.{monadic_of, monadic_mode_of, MonadicEntry}
use Rattle.isa.specs.Legal.{negative, monadic_legal_of}
use Rattle.isa.specs.Decode.{monadic_found, monadic_answer, decode_monadic, decode_dyadic}
use Rattle.form_bit.specs.Shapes.{Shape, short_shape, dyadic_shape, monadic_shape, illegal_shape, unimplemented_shape, truncated_shape, shape_of}
use Rattle.form_bit.specs.SetApart.{is_set_apart, by_sign}
use Rattle.form_bit.proofs.DyadicLaws.{of_choice, SameBits, shape_at, dyadic_shape_law}
use Rattle.std.specs.Prelude.{Option, Some, None}

-- ---- of an operand's value the sign alone counts

-- a value of each sign
abbrev signed : Bool → ℕ
signed true = 0x8000_0000
signed false = 0

sign_of : (b : Bool) → negative (signed b) ≡ b
sign_of true = refl
sign_of false = refl

legal_by_sign : (u : MonadicRule) (m : MonadicMode) (v : ℕ) → monadic_legal_of u m v ≡ monadic_legal_of u m (signed (negative v))
legal_by_sign rule.Word m v = refl
legal_by_sign rule.Flow m v = refl
legal_by_sign rule.Jump m v = refl
legal_by_sign rule.Stack m v = rw (sign_of (negative v)) refl
legal_by_sign rule.Enter m v = rw (sign_of (negative v)) refl

found_shape : (r : MonadicRow) (u : MonadicRule) (pre : Bool) (e : Option MonadicMode) (v : ℕ)
    → shape_of (monadic_found r u pre e v) ≡ shape_of (monadic_found r u pre e (signed (negative v)))
found_shape r u pre (Some m) v =
    rw (legal_by_sign u m v, of_choice shape_of (monadic_legal_of u m (signed (negative v))) _ _, of_choice shape_of (monadic_legal_of u m (signed (negative v))) _ _) refl
found_shape r u pre None v = refl

answer_shape : (e : MonadicEntry) (pre : Bool) (k v : ℕ) → shape_of (monadic_answer e pre k v) ≡ shape_of (monadic_answer e pre k (signed (negative v)))
answer_shape (single.Row r u) pre k v = found_shape r u pre (monadic_mode_of u k) v
answer_shape single.Unimplemented pre k v = refl
answer_shape single.Unlisted pre k v = refl

-- by the bits of the parcel below the form's, and the sign
abbrev shape_signed : Bool → ℕ → Bool → Shape
shape_signed pre q b = shape_of (monadic_answer (monadic_of (q % 16)) pre (q / 16 % 16) (signed b))

monadic_shape_law : (pre : Bool) (p q v : ℕ) → SameBits p q → shape_of (decode_monadic pre p v) ≡ shape_signed pre q (negative v)
unfolding decode_monadic
monadic_shape_law pre p q v (k, s, d) = rw (s, d) (answer_shape (monadic_of (q % 16)) pre (q / 16 % 16) v)

-- ---- every parcel

-- a number for each shape that is no instruction's, and 0 for those that are
abbrev pub shape_number : Shape → ℕ
shape_number (short_shape r) = 0
shape_number (dyadic_shape r pre a b) = 0
shape_number (monadic_shape r pre m) = 0
shape_number illegal_shape = 1
shape_number truncated_shape = 2
shape_number (unimplemented_shape v) = v + 3

abbrev numbered : ℕ → Shape
numbered n = cond (ltb n 3) (cond (eqb n 1) illegal_shape truncated_shape) (unimplemented_shape (n - 3))

number_back : (x : Shape) → (shape_number x ≡ 0 → ⊥) → numbered (shape_number x) ≡ x
number_back (short_shape r) h = absurd (h refl)
number_back (dyadic_shape r pre a b) h = absurd (h refl)
number_back (monadic_shape r pre m) h = absurd (h refl)
number_back illegal_shape h = refl
number_back truncated_shape h = refl
number_back (unimplemented_shape v) h = let e : v + 3 - 3 ≡ v = omega arith in simp (le-ltb (v + 3) 3 (omega arith), e)

same_number : (x y : Shape) → shape_number x ≡ shape_number y → (shape_number y ≡ 0 → ⊥) → x ≡ y
same_number x y e h = sym (number_back x (λ z. h (sym e ∙ z))) ∙ ap numbered e ∙ number_back y h

-- whether three parcels with an operand of this sign have another shape than five: as the list says, and by the tables
abbrev pub differs : Bool → ℕ → Bool → Bool
differs pre q b = is_set_apart pre q && not (by_sign pre q (signed b))

abbrev is_other : Bool → ℕ → Bool → Bool
is_other pre q b = not (eqb (shape_number (shape_signed pre q b)) (shape_number (shape_at pre q)))

abbrev agree : Bool → Bool → Bool
agree a b = cond a b (not b)

agreed : (a b : Bool) → agree a b ≡ true → a ≡ b
agreed true b e = sym e
agreed false b e = sym (missed b e)

is_none : Bool → ℕ → Bool
is_none pre q = not (eqb (shape_number (shape_at pre q)) 0)

is_as_listed : Bool → Bool → ℕ → Bool
is_as_listed pre b q = agree (differs pre q b) (is_other pre q b)

none_pass : (pre : Bool) → every (is_none pre) 8 0 ≡ true
unfolding is_none
none_pass true = refl
none_pass false = refl

listed_pass : (pre b : Bool) → every (is_as_listed pre b) 8 0 ≡ true
unfolding is_as_listed
listed_pass true true = refl
listed_pass true false = refl
listed_pass false true = refl
listed_pass false false = refl

-- p in three parcels with the operand v, r in five
module _ (pre : Bool) (p r q v x y : ℕ) (l : q < 0x100) (sp : SameBits p q) (sr : SameBits r q) where
  none : shape_number (shape_at pre q) ≡ 0 → ⊥
  unfolding is_none
  none = eqb-false (shape_number (shape_at pre q)) 0 (missed (eqb (shape_number (shape_at pre q)) 0) (holds (is_none pre) 8 0 q zero-le l (none_pass pre)))

  as_listed : differs pre q (negative v) ≡ is_other pre q (negative v)
  unfolding is_as_listed
  as_listed = agreed _ _ (holds (is_as_listed pre (negative v)) 8 0 q zero-le l (listed_pass pre (negative v)))

  three : shape_of (decode_monadic pre p v) ≡ shape_signed pre q (negative v)
  three = monadic_shape_law pre p q v sp

  five : shape_of (decode_dyadic Five pre r x y) ≡ shape_at pre q
  five = dyadic_shape_law Five pre r q x y sr

  pub five_none : shape_number (shape_of (decode_dyadic Five pre r x y)) ≡ 0 → ⊥
  five_none = rw five none

  pub same_shape : differs pre q (negative v) ≡ false → shape_of (decode_monadic pre p v) ≡ shape_of (decode_dyadic Five pre r x y)
  same_shape h = rw (three, five) (same_number _ _ (eqb-true _ _ (passed _ (sym as_listed ∙ h))) none)

  pub other_shape : differs pre q (negative v) ≡ true → shape_of (decode_monadic pre p v) ≡ shape_of (decode_dyadic Five pre r x y) → ⊥
  other_shape h e = eqb-false _ _ (missed _ (sym as_listed ∙ h)) (ap shape_number (sym three ∙ e ∙ five))

-- the sign alone of the operand is looked at
pub differs_by_sign : (pre : Bool) (q v : ℕ) → differs pre q (negative v) ≡ (is_set_apart pre q && not (by_sign pre q v))
differs_by_sign pre q v = rw (sign_of (negative v)) refl
