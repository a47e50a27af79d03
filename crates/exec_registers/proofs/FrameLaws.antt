-- Laws of registers that are stored to: the PSW, and those of event sequences.
-- Assumes nothing.
use mathlib.Core.Path.{◌≡◌, refl, sym, ◌∙◌}
use mathlib.Core.Bool.{Bool, true, false}
use Prim.Native.Nat.{ℕ, ◌*◌, ◌/◌}
use lib.ListN.{set}
use Rattle.word.specs.Sums.{plus_of}
use Rattle.machine.specs.Registers.{Bank, word, unreserved, isp, pc, psw, shad, sp, config, trace_due, timer1_due, timer2_due}
use Rattle.machine.specs.Cache.{Cache}
use Rattle.machine.specs.Status.{Cpu, cpu, with, csp, sp_current}
use Rattle.exec_spec.specs.EventFrames.{returned, reset}

-- one register
pub stored : (b : Bank) (q : Cache) (k v x : ℕ) → v ≡ x → cpu (set b k v) q ≡ cpu (set b k x) q
stored b q k v x e = rw e

-- two registers, by a value each
pub stored_both : (b : Bank) (q : Cache) (j k u v x y : ℕ) → u ≡ x → v ≡ y → cpu (set (set b j u) k v) q ≡ cpu (set (set b j x) k y) q
stored_both b q j k u v x y e f = rw (e, f)

-- the bank before SHAD follows: d is PC, i the interrupt stack pointer, w the PSW
abbrev pub left : Bank → ℕ → ℕ → ℕ → Bank
left b d i w = set (set (set b pc d) psw w) isp i

-- SHAD as the current stack pointer
abbrev follows : Cache → Bank → Cpu
follows q n = with (cpu n q) shad (word n (csp n))

module _ (n : Bank) (q : Cache) (t : Bool) (e : t ≡ sp_current n) where
  follows_sp : t ≡ true → cpu (set n shad (word n sp)) q ≡ follows q n
  follows_sp h = simp (sym e, h)

  follows_isp : t ≡ false → cpu (set n shad (word n isp)) q ≡ follows q n
  follows_isp h = simp (sym e, h)

module _ (b : Bank) (q : Cache) (a p d i w : ℕ) (t : Bool) (j : d ≡ a / 2 * 2) (e : i ≡ plus_of (word b isp) 16) (f : w ≡ unreserved psw p) (g : t ≡ sp_current (left b d i w)) where
  restores : follows q (left b d i w) ≡ returned (cpu b q) a p
  restores = λ k. follows q (left b (j k) (e k) (f k))

  pub returned_to_sp : t ≡ true → cpu (set (left b d i w) shad (word (left b d i w) sp)) q ≡ returned (cpu b q) a p
  returned_to_sp h = follows_sp (left b d i w) q t g h ∙ restores

  pub returned_to_isp : t ≡ false → cpu (set (left b d i w) shad (word (left b d i w) isp)) q ≡ returned (cpu b q) a p
  returned_to_isp h = follows_isp (left b d i w) q t g h ∙ restores

pub resets_bank : (b : Bank) (q : Cache)
    → cpu (set (set (set (set (set (set (set b shad (word b psw)) psw 0) config 0) pc 0) trace_due 0) timer1_due 0) timer2_due 0) q ≡ reset (cpu b q)
unfolding reset
resets_bank b q = refl
