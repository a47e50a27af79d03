-- A choice by a test of the definitions, from the test of the code.
-- Assumes nothing.
use mathlib.Core.Path.{◌≡◌}
use mathlib.Core.Bool.{Bool, true, false, cond, ◌&&◌}

pub test_held : {A : Type 0} (t x : Bool) (a b c : A) → t ≡ x → t ≡ true → c ≡ a → c ≡ cond x a b
test_held t x a b c e h g = rw (← e, h) g

pub test_failed : {A : Type 0} (t x : Bool) (a b c : A) → t ≡ x → t ≡ false → c ≡ b → c ≡ cond x a b
test_failed t x a b c e h g = rw (← e, h) g

pub both : (t x s y : Bool) → t ≡ x → s ≡ y → (t && s) ≡ (x && y)
both t x s y e g = rw (e, g)
