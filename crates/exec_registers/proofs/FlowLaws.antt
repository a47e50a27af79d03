-- Laws of PC and the current stack pointer: one for each way out.
-- Assumes nothing.
use mathlib.Core.Path.{◌≡◌, sym, ap, ◌∙◌}
use mathlib.Core.Bool.{Bool, true, false, cond, not, ◌&&◌, ◌||◌}
use mathlib.Core.List.{[]}
use Prim.Native.Nat.{ℕ, ◌*◌, ◌/◌}
use lib.Dec.{ltb}
use lib.ListN.{set}
use Rattle.word.specs.Sums.{plus_of}
use Rattle.machine.specs.Registers.{Bank, word, isp, msp, pc, shad, sp}
use Rattle.machine.specs.Cache.{Cache}
use Rattle.machine.specs.Status.{Cpu, cpu, reg, with, sp_current, cache_on}
use Rattle.machine.proofs.TestLaws.{test_held, test_failed}
use Rattle.exec_spec.specs.Operands.{stack_address}
use Rattle.exec_spec.specs.Control.{next_pc, pc_advanced, with_csp, released}
use Rattle.exec_spec.specs.EventFrames.{restored_csp}

pub advances : (b : Bank) (q : Cache) (n v : ℕ) → v ≡ next_pc (cpu b []) n → cpu (set b pc v) q ≡ pc_advanced (cpu b q) n
advances b q n v e = rw e

-- t: SP is current
module _ (b : Bank) (q : Cache) (v : ℕ) (t : Bool) (e : t ≡ sp_current b) where
  pub csp_is_sp : t ≡ true → cpu (set (set b sp v) shad v) q ≡ with_csp (cpu b q) v
  csp_is_sp h = simp (sym e, h)

  pub csp_is_isp : t ≡ false → cpu (set (set b isp v) shad v) q ≡ with_csp (cpu b q) v
  csp_is_isp h = simp (sym e, h)

module _ (b : Bank) (v : ℕ) (t : Bool) (e : t ≡ sp_current b) where
  pub address_by_sp : (r : ℕ) → t ≡ true → r ≡ plus_of (word b sp) v → r ≡ stack_address (cpu b []) v
  address_by_sp r h f = f ∙ simp (sym e, h)

  pub address_by_isp : (r : ℕ) → t ≡ false → r ≡ plus_of (word b isp) v → r ≡ stack_address (cpu b []) v
  address_by_isp r h f = f ∙ simp (sym e, h)

module _ (b : Bank) (q : Cache) (t : Bool) (e : t ≡ sp_current b) where
  pub sp_restored : t ≡ true → cpu (set b sp (word b shad)) q ≡ restored_csp (cpu b q)
  sp_restored h = simp (sym e, h)

  pub isp_restored : t ≡ false → cpu (set b isp (word b shad)) q ≡ restored_csp (cpu b q)
  isp_restored h = simp (sym e, h)

-- the stack pointer at a, and MSP with it where it must
abbrev released_to : Cpu → ℕ → Cpu
released_to c a =
    cond (sp_current c.bank && (not (cache_on c.bank) || ltb (reg c msp) a)) (with (with_csp c a) msp a) (with_csp c a)

released_at : (b : Bank) (q : Cache) (v x a : ℕ) → x ≡ stack_address (cpu b []) v → a ≡ x / 16 * 16 → released_to (cpu b q) a ≡ released (cpu b q) v
unfolding released
released_at b q v x a e i = ap (released_to (cpu b q)) i ∙ ap (λ (y : ℕ). released_to (cpu b q) (y / 16 * 16)) e

-- x is the address, a its quad-word, t and u that SP is current and the cache on, n the bank with the stack pointer at it
module _ (b n : Bank) (q : Cache) (v x a : ℕ) (t u : Bool) (e : x ≡ stack_address (cpu b []) v) (i : a ≡ x / 16 * 16) (f : t ≡ sp_current b) (g : u ≡ cache_on b)
    (w : (p : Cache) → cpu n p ≡ with_csp (cpu b p) a) where
  same : (t && (not u || ltb (word b msp) a)) ≡ (sp_current b && (not (cache_on b) || ltb (word b msp) a))
  same = rw (f, g)

  pub msp_follows : (t && (not u || ltb (word b msp) a)) ≡ true → cpu (set n msp a) q ≡ released (cpu b q) v
  msp_follows h = test_held _ _ _ _ _ same h (ap (λ (d : Cpu). with d msp a) (w q)) ∙ released_at b q v x a e i

  pub msp_stays : (t && (not u || ltb (word b msp) a)) ≡ false → cpu n q ≡ released (cpu b q) v
  msp_stays h = test_failed _ _ _ _ _ same h (w q) ∙ released_at b q v x a e i
