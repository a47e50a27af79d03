-- Laws of registers written under a prefix: one for each way out.
-- Assumes nothing.
use mathlib.Core.Path.{◌≡◌, refl, sym, ap, ◌∙◌}
use Prim.Native.Nat.{ℕ, ◌≤◌}
use native.Mathlib.Omega.{arith}
use lib.ListN.{length, set}
use lib.Seq.{set_out}
use borrow.Author.Tests.{ne_eqb, eq-eqb}
use Rattle.machine.specs.Registers.{Bank, unreserved, id, isp, msp, shad, sp}
use Rattle.machine.specs.Cache.{Cache}
use Rattle.machine.specs.Status.{cpu, with, csp}
use Rattle.exec_spec.specs.Operands.{shadowed, write_register}

pub put_none : (b : Bank) (q : Cache) (k v : ℕ) → length b ≡ 17 → 17 ≤ k → cpu b q ≡ with (cpu b q) k v
put_none b q k v e h = ap (λ (n : Bank). cpu n q) (sym (set_out b k v (omega arith)))

module _ (b : Bank) (q : Cache) (k v j : ℕ) (e : j ≡ csp b) where
  pub shadow_follows : k ≡ j → cpu (set b shad v) q ≡ shadowed (cpu b q) k v
  shadow_follows h = simp (eq-eqb k (csp b) (h ∙ e))

  pub shadow_stays : (k ≡ j → ⊥) → cpu b q ≡ shadowed (cpu b q) k v
  shadow_stays h = simp (ne_eqb k (csp b) (λ f. h (f ∙ sym e)))

module _ (b n : Bank) (q : Cache) (k v x : ℕ) where
  pub sp_written : (k ≡ id → ⊥) → k ≡ sp → x ≡ unreserved sp v → ((p : Cache) → cpu n p ≡ shadowed (with (with (cpu b p) sp x) msp x) sp x)
      → cpu n q ≡ write_register (cpu b q) k v
  unfolding write_register
  sp_written g h e w = w q ∙ rw (h, e) refl

  pub isp_written : (k ≡ id → ⊥) → (k ≡ sp → ⊥) → k ≡ isp → x ≡ unreserved isp v
      → ((p : Cache) → cpu n p ≡ shadowed (with (cpu b p) isp x) isp x) → cpu n q ≡ write_register (cpu b q) k v
  unfolding write_register
  isp_written g h i e w = w q ∙ rw (i, e) refl

  pub other_written : (k ≡ id → ⊥) → (k ≡ sp → ⊥) → (k ≡ isp → ⊥) → x ≡ unreserved k v → ((p : Cache) → cpu n p ≡ with (cpu b p) k x)
      → cpu n q ≡ write_register (cpu b q) k v
  unfolding write_register
  other_written g h i e w = w q ∙ simp (ne_eqb k id g, ne_eqb k sp h, ne_eqb k isp i, e)

pub id_ignored : (b : Bank) (q : Cache) (k v : ℕ) → k ≡ id → cpu b q ≡ write_register (cpu b q) k v
unfolding write_register
id_ignored b q k v h = rw h
