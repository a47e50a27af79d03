-- Frame 01: the ways out of setting a register; a refusal leaves the bank as it was.
-- Assumes nothing.
use mathlib.Core.Path.{◌≡◌, refl}
use mathlib.Core.Bool.{Bool, true, false, ◌&&◌}
use Prim.Native.Nat.{ℕ, ◌-◌, ◌≤◌}
use borrow.Author.Tests.{le-leb}
use Rattle.word.proofs.CaseLaws.{by_test}
use Rattle.machine.specs.Registers.{Bank, is_register_place, settable, assigned, setting, set_register}

module _ (p : ℕ) where
  pub is_register_law : 1 ≤ p → p ≤ 13 → is_register_place p ≡ true
  is_register_law g h = rw (le-leb 1 p g, le-leb p 13 h) refl

module _ (b : Bank) (p v : ℕ) where
  pub no_register : is_register_place p ≡ false → setting 2 b ≡ set_register b p v
  unfolding set_register
  no_register e = rw e refl

  pub word_refused : (t : Bool) → is_register_place p ≡ true → t ≡ settable b (p - 1) v → t ≡ false → setting 2 b ≡ set_register b p v
  unfolding set_register
  word_refused t e g h = rw (e, ← g, h) refl

  pub register_set : (t : Bool) (d : Bank) → is_register_place p ≡ true → t ≡ settable b (p - 1) v → t ≡ true
      → d ≡ assigned b (p - 1) v → setting 0 d ≡ set_register b p v
  unfolding set_register
  register_set t d e g h f = rw (e, ← g, h, f) refl

  -- a refusal leaves the bank as it was
  pub set_refused : ((set_register b p v).refusal ≡ 0 → ⊥) → (set_register b p v).bank ≡ b
  unfolding set_register
  set_refused n =
      by_test (is_register_place p && settable b (p - 1) v)
      (λ e. absurd (n (simp e)))
      (λ e. simp e)
