-- Laws of packed results.
-- Assumes nothing.
use mathlib.Core.Path.{◌≡◌, refl, ap, ◌∙◌}
use mathlib.Core.Bool.{Bool, true, false}
use Prim.Native.Nat.{ℕ, ◌+◌, ◌*◌, ◌/◌, ◌%◌, ◌^◌, ◌<◌}
use native.Mathlib.Omega.{arith}
use borrow.Author.Tests.{ne_eqb}
use lib.Bits.{bit_and, and_mask}
use lib.Dec.{eqb}
use Rattle.word.specs.declared.Sum.{Sum}
use Rattle.word.specs.declared.Quotient.{Quotient}
use Rattle.word.specs.declared.Tagged.{Tagged}
use Rattle.exec_spec.specs.declared.Operation.{Operation}
use Rattle.exec_spec.specs.declared.Relation.{Relation}
use Rattle.word.specs.Tags.{tagged_add_of, tagged_sub_of}
use Rattle.word.specs.Fields.{bit_of}
use Rattle.machine.specs.Bits.{carry_bit, overflow_bit, flag_bit}
use Rattle.exec_spec.specs.Alu.{stays, gets, bit_digit, flagged, with_bit_as, operate, related}
use Rattle.exec_alu.specs.Results.{flag_from, result_of, unpacked, laid_over}
use Rattle.exec_spec.specs.Dyadic.{tagged_with, tagged_over}

low_code : (c o : ℕ) → c < 4 → (c + o * 4) % 4 ≡ c
low_code c o h = omega arith

high_code : (c o : ℕ) → c < 4 → o < 4 → (c + o * 4) / 4 % 4 ≡ o
high_code c o h g = omega arith

pub packed_apart : (v c o : ℕ) → v < 2 ^ 32 → c < 4 → o < 4 → unpacked (v + (c + o * 4) * 0x1_0000_0000) ≡ result_of v (flag_from c) (flag_from o)
unfolding unpacked
packed_apart v c o h g k =
    let a : (v + (c + o * 4) * 0x1_0000_0000) % 2 ^ 32 ≡ v = omega arith in
    let q : (v + (c + o * 4) * 0x1_0000_0000) / 2 ^ 32 ≡ c + o * 4 = omega arith in
    (λ i. result_of (a i) (flag_from ((ap (λ (n : ℕ). n % 4) q ∙ low_code c o g) i)) (flag_from ((ap (λ (n : ℕ). n / 4 % 4) q ∙ high_code c o g k) i)))

pub digit_lt : (b : Bool) (n : ℕ) → n ≡ bit_digit b → n < 4
digit_lt true n e = omega arith
digit_lt false n e = omega arith

digit_gets : (b : Bool) → flag_from (bit_digit b) ≡ gets b
digit_gets true = refl
digit_gets false = refl

pub both_set : (v r x y : ℕ) (c o : Bool) → x ≡ bit_digit c → y ≡ bit_digit o → unpacked r ≡ result_of v (flag_from x) (flag_from y)
    → unpacked r ≡ result_of v (gets c) (gets o)
both_set v r x y c o e f g = g ∙ rw (e, f, digit_gets c, digit_gets o)

pub overflow_set : (v r y : ℕ) (o : Bool) → y ≡ bit_digit o → unpacked r ≡ result_of v (flag_from 2) (flag_from y)
    → unpacked r ≡ result_of v stays (gets o)
overflow_set v r y o f g = g ∙ rw (f, digit_gets o)

pub value_unpacked : (w : ℕ) → bit_and w 0xFFFF_FFFF ≡ (unpacked w).value
unfolding unpacked
value_unpacked w = and_mask w 32

-- a flag that stays, and one that gets a value
pub code_stays : (n k x : ℕ) → k ≡ 2 → x ≡ flagged n (flag_from k) x
code_stays n k x e = rw e

pub code_gets : (n k x r : ℕ) → (k ≡ 2 → ⊥) → r ≡ with_bit_as n (eqb k 1) x → r ≡ flagged n (flag_from k) x
code_gets n k x r h e = simp (ne_eqb k 2 h) e

pub both_laid : (w x y r : ℕ) → y ≡ flagged carry_bit (flag_from (bit_and (w / 0x1_0000_0000) 3)) x
    → r ≡ flagged overflow_bit (flag_from (bit_and (w / 0x1_0000_0000 / 4) 3)) y → r ≡ laid_over (unpacked w) x
unfolding unpacked
both_laid w x y r e f = f ∙ rw (e, and_mask (w / 0x1_0000_0000) 2, and_mask (w / 0x1_0000_0000 / 4) 2) refl

-- a sum, a difference or a product
pub summed : (t u : Sum) (r : ℕ) → t ≡ u → unpacked r ≡ result_of t.value (gets t.carry) (gets t.overflow)
    → unpacked r ≡ result_of u.value (gets u.carry) (gets u.overflow)
summed t u r e f = f ∙ rw e refl

-- a quotient or its remainder
pub divided : (t u : Quotient) (r : ℕ) → t ≡ u → unpacked r ≡ result_of t.value stays (gets t.overflow)
    → unpacked r ≡ result_of u.value stays (gets u.overflow)
divided t u r e f = f ∙ rw e refl

pub left_over : (t u : Quotient) (r : ℕ) → t ≡ u → unpacked r ≡ result_of t.rest stays (gets false)
    → unpacked r ≡ result_of u.rest stays (gets false)
left_over t u r e f = f ∙ rw e refl

-- a value alone
pub carry_free : (v x r : ℕ) → v ≡ x → unpacked r ≡ result_of v (gets false) stays → unpacked r ≡ result_of x (gets false) stays
carry_free v x r e f = f ∙ rw e refl

pub value_alone : (v x r : ℕ) → v ≡ x → unpacked r ≡ result_of v stays stays → unpacked r ≡ result_of x stays stays
value_alone v x r e f = f ∙ rw e refl

-- an arm of the operation
pub operated : (op j : Operation) (d s r : ℕ) → op ≡ j → unpacked r ≡ operate j d s → unpacked r ≡ operate op d s
operated op j d s r e f = rw e f

pub relates : (p q : Relation) (s d : ℕ) (t : Bool) → p ≡ q → t ≡ related q s d → t ≡ related p s d
relates p q s d t e f = rw e f

-- by the flags p and q of a PSW
pub tagged_minus : (m p q : Bool) (x d s : ℕ) (t : Tagged) → m ≡ true → p ≡ bit_of x carry_bit → q ≡ bit_of x overflow_bit
    → t ≡ tagged_sub_of d s p q → t ≡ tagged_with m x d s
tagged_minus m p q x d s t e f g h = rw (e, h, f, g)

pub tagged_plus : (m p q : Bool) (x d s : ℕ) (t : Tagged) → m ≡ false → p ≡ bit_of x carry_bit → q ≡ bit_of x overflow_bit
    → t ≡ tagged_add_of d s p q → t ≡ tagged_with m x d s
tagged_plus m p q x d s t e f g h = rw (e, h, f, g)

pub tagged_laid : (t : Tagged) (x y z r : ℕ) → y ≡ with_bit_as carry_bit t.carry x → z ≡ with_bit_as overflow_bit t.overflow y
    → r ≡ with_bit_as flag_bit t.flag z → r ≡ tagged_over t x
tagged_laid t x y z r e f g = rw (g, f, e)
