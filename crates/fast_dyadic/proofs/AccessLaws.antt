-- Data accesses that neither fault nor set a bit.
-- Assumes nothing.
use Prim.Native.Nat.{ℕ, ◌%◌, ◌^◌, ◌<◌, ◌≤◌}
use mathlib.Core.Path.{◌≡◌, refl, sym, ap, ◌∙◌}
use mathlib.Core.Bool.{Bool, true, false, cond}
use native.Mathlib.Omega.{arith}
use Rattle.word.specs.declared.Width.{Width}
use Rattle.word.specs.Widths.{bytes_of}
use Rattle.memory.specs.Answers.{Answer, good, raised, answer_of}
use Rattle.memory.specs.Bytes.{Memory, place_of, holds, stored, load, store_answer, store_memory, Effect, effect as stored_with, store_of}
use Rattle.memory.proofs.AnswerLaws.{answer_got, answer_high}
use Rattle.mmu.specs.declared.AccessKind.TheVariants.{Read, Write}
use Rattle.access_spec.specs.Access.{Access, read, write, response, access}
use Rattle.access_spec.specs.Program.{interpret}
use Rattle.machine.specs.Registers.{Bank, word, stb}
use Rattle.machine.specs.Cache.{Cache, cache_read, cache_write}
use Rattle.machine.specs.Status.{Cpu, cpu, cached, is_little, is_user, is_virtual, regime}
use Rattle.access.specs.Followed.{regime_for, fits_width}
use Rattle.access.specs.EffectFree.{effect_free_place}
use Rattle.access.proofs.EffectFreeLaws.{read_effect_free, write_effect_free, place_effect_free}
use Rattle.datapath.specs.Parts.{ok, done, request}
use Rattle.datapath.proofs.DataLaws.{fits_aligned}
use Rattle.datapath.specs.Data.{read_cached, read_memory, read_data, write_cached, write_memory, write_data}
use Rattle.fast_dyadic.specs.Fast.{gives}
use Rattle.fast_dyadic.proofs.GiveLaws.{gives_then, gives_done}

-- ---- in memory: x is the place that was found

pub regime_is : (b : Bank) (s : ℕ) (u t : Bool) → u ≡ is_user b → t ≡ is_virtual b → s ≡ word b stb → regime_for s u t ≡ regime b
regime_is b s u t eu et es =
    ap (λ (n : ℕ). regime_for n u t) es ∙ ap (λ (z : Bool). regime_for (word b stb) z t) eu ∙ ap (λ (z : Bool). regime_for (word b stb) (is_user b) z) et

pub uncached_kept : (w : Width) (m n : Memory) (a v y : ℕ) → stored_with (answer_of y) n ≡ store_of (bytes_of w) m a v → 2 ^ 32 ≤ y → n ≡ m
unfolding store_of store_answer store_memory
uncached_kept w m n a v y e l = ap (λ (z : Effect). z.memory) e ∙ go (holds m a (bytes_of w)) (sym (answer_high y l) ∙ ap (λ (z : Effect). z.answer) e)
  where
    go : (t : Bool) → raised (y % 2 ^ 32) ≡ cond t (good 0) (raised 0xA) → cond t (stored (bytes_of w) m a v) m ≡ m
    go true f = let z : ◌≡◌ {A = ℕ} 0 1 = cc in absurd (omega arith)
    go false f = refl

module _ (b : Bank) (s : ℕ) (u t : Bool) (eu : u ≡ is_user b) (et : t ≡ is_virtual b) (es : s ≡ word b stb) (m : Memory) (w : Width) (p : ℕ) (hp : p < 2 ^ 32) (f : Bool) (ef : f ≡ fits_width w p) (hf : f ≡ true) (x : ℕ) (hx : x < 2 ^ 32)
    (a : ℕ) (ea : a ≡ x % 2 ^ 32) (y : ℕ) (hy : y < 2 ^ 32) where
  at_place : a ≡ x
  at_place = let same : x % 2 ^ 32 ≡ x = omega arith in ea ∙ same

  pub uncached_read : x ≡ effect_free_place (regime_for s u t) Read p m → answer_of y ≡ load (bytes_of w) m a → access (read (regime b) w p) m ≡ response (good y) m
  uncached_read k e =
      read_effect_free (regime b) m x w p hp (sym ef ∙ hf) (place_effect_free (regime b) Read p m x (rw (← regime_is b s u t eu et es) k) hx)
      ∙ ap (λ (z : Answer). response z m) (ap (λ (n : ℕ). load (bytes_of w) m n) (sym at_place) ∙ sym e ∙ answer_got y hy)

  -- n is the memory after the store, y its answer
  pub uncached_stored : x ≡ effect_free_place (regime_for s u t) Write p m → (v : ℕ) (n : Memory) → stored_with (answer_of y) n ≡ store_of (bytes_of w) m a v → access (write (regime b) w p v) m ≡ response (good 0) n
  unfolding store_of store_answer
  uncached_stored k v n e =
      write_effect_free (regime b) m x w p v hp (sym ef ∙ hf) (place_effect_free (regime b) Write p m x (rw (← regime_is b s u t eu et es) k) hx)
      ∙ ap (λ (z : ℕ). response (store_answer (bytes_of w) m z) (store_memory (bytes_of w) m z v)) (sym at_place)
      ∙ ap (λ (z : Memory). response (store_answer (bytes_of w) m a) z) (sym (ap (λ (z : Effect). z.memory) e))
      ∙ ap (λ (z : Answer). response z n) (go (holds m a (bytes_of w)) (sym (answer_got y hy) ∙ ap (λ (z : Effect). z.answer) e))
    where
      go : (i : Bool) → good y ≡ cond i (good 0) (raised 0xA) → cond i (good 0) (raised 0xA) ≡ good 0
      go true j = refl
      go false j = let z : ◌≡◌ {A = ℕ} 0 1 = cc in absurd (omega arith)

-- a part that is one access
requested : (c : Cpu) (q : Access) (a : ℕ) (m n : Memory) (x : ℕ) → access q m ≡ response (good x) n → gives (request c q a) m x n
unfolding request interpret
requested c q a m n x e = rw e refl

-- ---- the cache or memory: p is the place of an operand at a

module _ (b : Bank) (q : Cache) (w : Width) (a : ℕ) (l : Bool) (el : l ≡ is_little b) (p : ℕ) (ep : p ≡ place_of l w a) (m : Memory) (f : Bool) (ef : f ≡ cached b a) where
  place_is : p ≡ place_of (is_little b) w a
  place_is = ep ∙ ap (λ (z : Bool). place_of z w a) el

  module _ (h : Bool) (eh : h ≡ fits_width w a) (fit : h ≡ true) (near : f ≡ true) where
    pub cached_read : (v x : ℕ) → v ≡ cache_read (bytes_of w) q p → answer_of x ≡ good v → x < 2 ^ 32 → gives (read_data (cpu b q) w a) m x m
    unfolding read_data read_cached interpret
    cached_read v x ev ex lx = rw (sym ef ∙ near, sym (fits_aligned w a) ∙ sym eh ∙ fit, ← place_is, ← ev) (ap (λ (z : ℕ). response (ok z) m) same)
      where
        same : v ≡ x
        same = let z : good x ≡ good v = sym (answer_got x lx) ∙ ex in cc

    pub cached_stored : (v : ℕ) (s : Cache) → s ≡ cache_write (bytes_of w) q p v → gives (write_data (cpu b q) w a v) m (cpu b s) m
    unfolding write_data write_cached interpret
    cached_stored v s es = rw (sym ef ∙ near, sym (fits_aligned w a) ∙ sym eh ∙ fit, ← place_is, ← es) refl

  module _ (far : f ≡ false) where
    pub read_far : (x : ℕ) → access (read (regime b) w p) m ≡ response (good x) m → gives (read_data (cpu b q) w a) m x m
    unfolding read_data read_memory request interpret
    read_far x e = rw (sym ef ∙ far, ← place_is, e) refl

    pub stored_uncached : (v : ℕ) (n : Memory) → access (write (regime b) w p v) m ≡ response (good 0) n → gives (write_data (cpu b q) w a v) m (cpu b q) n
    unfolding write_data write_memory
    stored_uncached v n e =
        rw (sym ef ∙ far, ← place_is) (gives_then (request (cpu b q) (write (regime b) w p v) a) (λ z. done (cpu b q)) m n n 0 (cpu b q) asked (gives_done (done (cpu b q)) (cpu b q) refl n))
      where
        asked : gives (request (cpu b q) (write (regime b) w p v) a) m 0 n
        asked = requested (cpu b q) (write (regime b) w p v) a m n 0 e
