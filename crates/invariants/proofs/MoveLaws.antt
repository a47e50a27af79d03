-- Quad-words between the stack cache and memory: four accesses each.
-- Assumes nothing.
use Prim.Native.Nat.{ℕ, zero, suc, ◌*◌}
use mathlib.Core.Path.{◌≡◌, refl}
use mathlib.Core.Bool.{Bool}
use native.Mathlib.Omega.{arith}
use Rattle.word.specs.declared.Width.TheVariants.{Word}
use Rattle.word.specs.Sums.{plus_of, minus_of}
use Rattle.mmu.specs.declared.Regime.{Regime}
use Rattle.access_spec.specs.Access.{Access, read, write, regime_of}
use Rattle.machine.specs.Registers.{msp}
use Rattle.machine.specs.Cache.{cache_word}
use Rattle.machine.specs.Status.{Cpu, reg, regime}
use Rattle.datapath.specs.Moves.{flush_word, flush_quad, may_flush, flush, fill_word, fill_quad, may_fill, fill}
use Rattle.invariants.proofs.AccessLaws.{plus_value, minus_value, request_part}
use Rattle.access_spec.proofs.BoundedLaws.{Any}
use Rattle.invariants.proofs.RuleLaws.{Rules, Value, Part, bind, more, gives, either, some}

module _ (k : Rules) where
  flush_word_law : (c : Cpu) (a : ℕ) → k.Holds c → Value k a → Part k Any 1 (flush_word c a)
  unfolding flush_word
  flush_word_law c a h v = some (request_part k c (write (regime c.bank) Word a (cache_word c.cache a)) a h (k.asks c _ h refl) v)

  flush_quad_law : (c : Cpu) (a : ℕ) → k.Holds c → Value k a → Part k k.Holds 4 (flush_quad c a)
  unfolding flush_quad
  flush_quad_law c a h v =
      bind (flush_word_law c a h v) λ _ _.
      bind (flush_word_law c (plus_of a 4) h (plus_value k a 4)) λ _ _.
      bind (flush_word_law c (plus_of a 8) h (plus_value k a 8)) λ _ _.
      bind (flush_word_law c (plus_of a 12) h (plus_value k a 12)) λ _ _. gives {n = 0} (k.plain c msp a tt h v)

  pub flush_part : (all : Bool) (target n : ℕ) (c : Cpu) → k.Holds c → Part k k.Holds (n * 4) (flush all target n c)
  unfolding flush
  flush_part all target zero c h = gives h
  flush_part all target (suc n) c h =
      either (may_flush all target c.bank)
      (λ _. more (suc n * 4) (omega arith)
      (bind (flush_quad_law c (minus_of (reg c msp) 16) h (minus_value k (reg c msp) 16)) λ d g. flush_part all target n d g))
      (λ _. gives h)

  -- a regime in which accesses are allowed
  abbrev pub Allows : Regime → Type 0
  Allows r = (q : Access) → regime_of q ≡ r → k.Asks q

  fill_word_law : (c : Cpu) (r : Regime) (a : ℕ) → Allows r → k.Holds c → Value k a → Part k (Value k) 1 (fill_word c r a)
  unfolding fill_word
  fill_word_law c r a f h v = request_part k c (read r Word a) a h (f _ refl) v

  fill_quad_law : (c : Cpu) (r : Regime) (a : ℕ) → Allows r → k.Holds c → Value k a → Part k k.Holds 4 (fill_quad c r a)
  unfolding fill_quad
  fill_quad_law c r a f h v =
      bind (fill_word_law c r a f h v) λ w gw.
      bind (fill_word_law c r (plus_of a 4) f h (plus_value k a 4)) λ x gx.
      bind (fill_word_law c r (plus_of a 8) f h (plus_value k a 8)) λ y gy.
      bind (fill_word_law c r (plus_of a 12) f h (plus_value k a 12)) λ z gz.
      gives {n = 0} (k.plain _ msp (plus_of a 16) tt (k.filled c a w x y z h (λ t. (gw t, gx t, gy t, gz t))) (plus_value k a 16))

  pub fill_part : (r : Regime) (target n : ℕ) (c : Cpu) → Allows r → k.Holds c → Part k k.Holds (n * 4) (fill r target n c)
  unfolding fill
  fill_part r target zero c f h = gives h
  fill_part r target (suc n) c f h =
      either (may_fill target c.bank)
      (λ _. more (suc n * 4) (omega arith)
      (bind (fill_quad_law c r (reg c msp) f h (k.words c msp h)) λ d g. fill_part r target n d f g))
      (λ _. gives h)
