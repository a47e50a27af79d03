-- Splitting on a test, and on the parts of a conjunction, a disjunction and a choice.
-- Assumes nothing.
use Rattle.std.proofs.Common.{◌≡◌, Bool, true, false, cond, not, ◌&&◌, ◌||◌, refl, true≢false}
use mathlib.Core.Bool.{false≢true}

-- by the two values of a test, each with its equation
pub by_test : {P : Type 0} (b : Bool) → (b ≡ true → P) → (b ≡ false → P) → P
by_test true f g = f refl
by_test false f g = g refl

pub not_both : {A : Type 0} → ◌≡◌ {A = Bool} false true → A
not_both h = absurd (false≢true h)

pub and_left : (a b : Bool) → (a && b) ≡ true → a ≡ true
and_left true b e = refl
and_left false b e = e

pub and_right : (a b : Bool) → (a && b) ≡ true → b ≡ true
and_right true b e = e
and_right false b e = not_both e

pub and_both : (a b : Bool) → (a && b) ≡ true → (a ≡ true) × (b ≡ true)
and_both a b e = (and_left a b e, and_right a b e)

-- both parts of a disjunction that does not hold
pub or_left : (a b : Bool) → (a || b) ≡ false → a ≡ false
or_left true b e = e
or_left false b e = refl

pub or_right : (a b : Bool) → (a || b) ≡ false → b ≡ false
or_right true b e = absurd (true≢false e)
or_right false b e = e

-- tests that the code turns round
pub passed : (b : Bool) → not b ≡ false → b ≡ true
passed true e = refl
passed false e = absurd (true≢false e)

pub missed : (b : Bool) → not b ≡ true → b ≡ false
missed true e = not_both e
missed false e = refl

-- what a choice leaves
pub either : {A : Type 0} (P : A → Type 0) (b : Bool) (x y : A) → P x → P y → P (cond b x y)
either P true x y p q = p
either P false x y p q = q
