-- A law for each way out of a function.
-- Assumes nothing.
use Rattle.std.proofs.Common.{◌≡◌, ℕ, ◌+◌, ◌-◌, ◌*◌, ◌%◌, ◌^◌, ◌<◌, ◌≤◌, Bool, true, false, ◌&&◌, eqb, ltb, sym, refl, ap, ◌∙◌, add-zero, arith}
use native.Mathlib.Nat.{div-zero, mod-zero, mod-mod}
use Rattle.word.specs.declared.Sum.{Sum}
use Rattle.word.specs.declared.Quotient.{Quotient}
use Rattle.word.specs.declared.Tagged.{Tagged}
use Rattle.word.specs.Signed.{negative_of, magnitude_of, with_sign, differ_of, limit_of}
use Rattle.word.specs.Sums.{plus_of, minus_of, add_of, sub_of}
use Rattle.word.specs.Products.{mul_of, udiv_of, urem_of, div_of}
use Rattle.word.specs.Shifts.{shl_of, ushr_of, shr_of}
use Rattle.word.specs.declared.Width.{Width}
use Rattle.word.specs.declared.Width.TheVariants.{Byte, Half, Word}
use Rattle.word.specs.Widths.{bits_of, sign_extend_of}
use Rattle.word.proofs.WidthLaws.{bits_le, sign_extend_by_shifts}
use Rattle.word.proofs.WordLaws.{shr_lt}
use Rattle.word.proofs.FlagLaws.{wrapped_below, sum_overflow, difference_overflow}
use Rattle.word.specs.Tags.{bad_tag_of, checked_of, tagged_of}

-- sums and differences: v has wrapped, x and y tell which signs differ
pub added : (b a v : ℕ) (c x y : Bool) → b < 2 ^ 32 → a < 2 ^ 32 → v ≡ plus_of b a → c ≡ ltb v b → x ≡ differ_of b v → y ≡ differ_of a v
    → ◌≡◌ {A = Sum} (record { value = v; carry = c; overflow = x && y }) (add_of b a)
unfolding add_of
added b a v c x y h g e f i j = rw (f, i, j, e, wrapped_below b a h g, sum_overflow b a h g)

pub subtracted : (b a v : ℕ) (c x y : Bool) → b < 2 ^ 32 → a < 2 ^ 32 → v ≡ minus_of b a → c ≡ ltb b a → x ≡ differ_of b a → y ≡ differ_of b v
    → ◌≡◌ {A = Sum} (record { value = v; carry = c; overflow = x && y }) (sub_of b a)
unfolding sub_of
subtracted b a v c x y h g e f i j = rw (f, i, j, e, difference_overflow b a h g)

-- p is the unsigned product, x and y the magnitudes, q their product, l the limit of its sign d
pub multiplied : (b a v p x y q l : ℕ) (c d o : Bool) → v ≡ p % 2 ^ 32 → c ≡ ltb 0xFFFF_FFFF p → o ≡ ltb l q → p ≡ b * a → l ≡ limit_of d
    → d ≡ differ_of b a → q ≡ x * y → x ≡ magnitude_of b → y ≡ magnitude_of a
    → ◌≡◌ {A = Sum} (record { value = v; carry = c; overflow = o }) (mul_of b a)
unfolding mul_of
multiplied b a v p x y q l c d o e f g h i j k m n = cc

-- x and y are the magnitudes, q and r their quotient and remainder, with the signs d and s
pub divided : (b a x y q r v t : ℕ) (d s o : Bool) → v ≡ with_sign d q → t ≡ with_sign s r → o ≡ (eqb b 0x8000_0000 && eqb a 0xFFFF_FFFF)
    → d ≡ differ_of b a → s ≡ negative_of b → q ≡ udiv_of x y → r ≡ urem_of x y → x ≡ magnitude_of b → y ≡ magnitude_of a
    → ◌≡◌ {A = Quotient} (record { value = v; rest = t; overflow = o }) (div_of b a)
unfolding div_of
divided b a x y q r v t d s o e f g h i j k m n = cc

-- a divisor of 0
pub by_zero : (b a : ℕ) → a ≡ 0 → 0 ≡ udiv_of b a
by_zero b a e = rw (e, div-zero)

pub rest_by_zero : (b a : ℕ) → a ≡ 0 → b ≡ urem_of b a
rest_by_zero b a e = rw (e, mod-zero)

-- p is the sign bit, u the shifted word, o the shifted ones
pub shr_negative : (b a u o : ℕ) (p : Bool) → p ≡ negative_of b → p ≡ true → u ≡ ushr_of b a → o ≡ ushr_of 0xFFFF_FFFF a
    → u + (0xFFFF_FFFF - o) ≡ shr_of b a
shr_negative b a u o p n t e f = simp (sym n, t, e, f)

pub shr_positive : (b a u : ℕ) (p : Bool) → p ≡ negative_of b → p ≡ false → u ≡ ushr_of b a → u ≡ shr_of b a
shr_positive b a u p n t e = simp (sym n, t, e) (sym (add-zero (ushr_of b a)))

-- p tells a bad tag
pub tagged_bad : (b a : ℕ) (c v : Bool) (s : Sum) (p : Bool) → p ≡ bad_tag_of b a → p ≡ true
    → ◌≡◌ {A = Tagged} (record { value = b; stored = false; carry = c; overflow = v; flag = true }) (tagged_of b a c v s)
tagged_bad b a c v s p e t = simp (sym e, t)

pub tagged_good : (b a : ℕ) (c v : Bool) (s : Sum) (p : Bool) (r : Tagged) → p ≡ bad_tag_of b a → p ≡ false → r ≡ checked_of b s
    → r ≡ tagged_of b a c v s
tagged_good b a c v s p r e t h = simp (sym e, t, h)

-- the sum of a negative word's shift fits a word
pub shr_fits : (b a u o : ℕ) (p : Bool) → b < 2 ^ 32 → p ≡ negative_of b → p ≡ true → u ≡ ushr_of b a → o ≡ ushr_of 0xFFFF_FFFF a
    → u + (0xFFFF_FFFF - o) < 2 ^ 32
shr_fits b a u o p h n t e f = rw (shr_negative b a u o p n t e f) (shr_lt b a h)

-- every width is of at most 32 bits
pub shifts_fit : (w : Width) (k : ℕ) → k ≡ bits_of w → k ≤ 32
shifts_fit w k e = rw e (bits_le w)

-- the low bits by shifts to the top of a word and back by any n, signed
pub extended : (n x y r : ℕ) → y ≡ shl_of x n → r ≡ shr_of y n → r ≡ sign_extend_of (32 - n % 32) x
extended n x y r e f =
    let k : 32 - (32 - n % 32) ≡ n % 32 = omega arith in
    f ∙ rw e (simp (k, mod-mod) at (sign_extend_by_shifts (32 - n % 32) x (omega arith) (omega arith)))

pub width_extended : (w : Width) (x k r : ℕ) → k ≡ bits_of w → r ≡ sign_extend_of (32 - (32 - k) % 32) x → r ≡ sign_extend_of (bits_of w) x
width_extended w x k r e f = f ∙ rw e (ap (λ (n : ℕ). sign_extend_of n x) (back w))
  where
    back : (w : Width) → 32 - (32 - bits_of w) % 32 ≡ bits_of w
    back Byte = refl
    back Half = refl
    back Word = refl
