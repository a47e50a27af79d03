-- The ways out of data, text and frame accesses.
-- Assumes nothing.
use Prim.Native.Nat.{ℕ, ◌%◌}
use mathlib.Core.Path.{◌≡◌, refl, sym, ap, ◌∙◌}
use mathlib.Core.Bool.{Bool, true, false, cond}
use mathlib.Core.List.{[]}
use native.Mathlib.Omega.{arith}
use lib.ListN.{get_or}
use borrow.Author.Tests.{eq-eqb}
use Rattle.word.specs.declared.Width.{Width}
use Rattle.word.specs.declared.Width.TheVariants.{Byte, Half, Word}
use Rattle.word.specs.Widths.{bytes_of}
use Rattle.memory.specs.Answers.{Answer, good, raised}
use Rattle.memory.specs.Bytes.{Memory, place_of}
use Rattle.memory.specs.Exceptions.{alignment_fault}
use Rattle.access_spec.specs.Access.{read, write, probe, fetch, Response, response}
use Rattle.access_spec.specs.Program.{ret, interpret, after}
use Rattle.access_spec.specs.Journal.{Journal, Journaled, journaled, logging}
use Rattle.machine.specs.Registers.{Bank}
use Rattle.machine.specs.Cache.{Cache, cache_read, cache_write}
use Rattle.machine.specs.Status.{Cpu, cpu, cached, is_little, is_user, is_virtual, regime, kernel_regime}
use Rattle.access.specs.Followed.{regime_for, fits_width, only_memory}
use Rattle.datapath.specs.Parts.{Out, stop, onward, ◌>>=◌, done, replied, request}
use Rattle.datapath.specs.Data.{is_aligned, read_cached, read_memory, read_data, write_cached, write_memory, write_data}
use Rattle.datapath.specs.Code.{write_out}

-- the code's test of alignment
pub fits_aligned : (w : Width) (a : ℕ) → fits_width w a ≡ is_aligned w a
fits_aligned Byte a = sym (eq-eqb (a % 1) 0 (omega arith))
fits_aligned Half a = refl
fits_aligned Word a = refl

module _ (b : Bank) (q : Cache) (w : Width) (a : ℕ) where
  -- ---- in the cache

  pub cached_read : (h l : Bool) (p v : ℕ) (x : Answer) → h ≡ fits_width w a → h ≡ true → l ≡ is_little b → p ≡ place_of l w a → v ≡ cache_read (bytes_of w) q p → x ≡ good v
      → response (replied (cpu b q) a x) (only_memory []) ≡ interpret logging (read_cached (cpu b q) w a) (only_memory [])
  unfolding read_cached interpret
  cached_read h l p v x e t el ep ev ex = rw (sym (fits_aligned w a) ∙ sym e ∙ t, ex, ev, ep, el) refl

  pub cached_odd : (h : Bool) (x : Answer) → h ≡ fits_width w a → h ≡ false → x ≡ raised 4
      → response (replied (cpu b q) a x) (only_memory []) ≡ interpret logging (read_cached (cpu b q) w a) (only_memory [])
  unfolding read_cached interpret
  cached_odd h x e t ex = rw (sym (fits_aligned w a) ∙ sym e ∙ t, ex) refl

  cached_any : (o : Out ℕ) (t : Journaled) → response o (only_memory []) ≡ interpret logging (read_cached (cpu b q) w a) (only_memory []) → response o t ≡ interpret logging (read_cached (cpu b q) w a) t
  unfolding read_cached interpret
  cached_any o t e = go (is_aligned w a) e
    where
      value : ℕ
      value = cache_read (bytes_of w) q (place_of (is_little b) w a)

      go : (c : Bool) → response o (only_memory []) ≡ interpret logging (cond c (done value) (ret (stop alignment_fault (cpu b q)))) (only_memory [])
          → response o t ≡ interpret logging (cond c (done value) (ret (stop alignment_fault (cpu b q)))) t
      go true f = ap (λ (g : Response Journaled (Out ℕ)). response g.out t) f
      go false f = ap (λ (g : Response Journaled (Out ℕ)). response g.out t) f

  module _ (v : ℕ) where
    pub cached_write : (h l : Bool) (p : ℕ) (x : Answer) (s : Cache) → h ≡ fits_width w a → h ≡ true → l ≡ is_little b → p ≡ place_of l w a → s ≡ cache_write (bytes_of w) q p v → x ≡ good 0
        → response (write_out (cpu b s) a x) (only_memory []) ≡ interpret logging (write_cached (cpu b q) w a v) (only_memory [])
    unfolding write_cached interpret
    cached_write h l p x s e t el ep es ex = rw (sym (fits_aligned w a) ∙ sym e ∙ t, ex, es, ep, el) refl

    pub cached_write_odd : (h : Bool) (x : Answer) → h ≡ fits_width w a → h ≡ false → x ≡ raised 4
        → response (write_out (cpu b q) a x) (only_memory []) ≡ interpret logging (write_cached (cpu b q) w a v) (only_memory [])
    unfolding write_cached interpret
    cached_write_odd h x e t ex = rw (sym (fits_aligned w a) ∙ sym e ∙ t, ex) refl

    cached_write_any : (o : Out Cpu) (t : Journaled) → response o (only_memory []) ≡ interpret logging (write_cached (cpu b q) w a v) (only_memory []) → response o t ≡ interpret logging (write_cached (cpu b q) w a v) t
    unfolding write_cached interpret
    cached_write_any o t e = go (is_aligned w a) e
      where
        after_it : Cpu
        after_it = cpu b (cache_write (bytes_of w) q (place_of (is_little b) w a) v)

        go : (c : Bool) → response o (only_memory []) ≡ interpret logging (cond c (done after_it) (ret (stop alignment_fault (cpu b q)))) (only_memory [])
            → response o t ≡ interpret logging (cond c (done after_it) (ret (stop alignment_fault (cpu b q)))) t
        go true f = ap (λ (g : Response Journaled (Out Cpu)). response g.out t) f
        go false f = ap (λ (g : Response Journaled (Out Cpu)). response g.out t) f

  -- ---- the cache or memory

  module _ (m : Memory) (i : Journal) where
    pub data_cached : (h : Bool) (x : Answer) → h ≡ cached b a → h ≡ true
        → response (replied (cpu b q) a x) (only_memory []) ≡ interpret logging (read_cached (cpu b q) w a) (only_memory [])
        → response (replied (cpu b q) a x) (journaled m i) ≡ interpret logging (read_data (cpu b q) w a) (journaled m i)
    unfolding read_data
    data_cached h x e t f = rw (sym e ∙ t) (cached_any (replied (cpu b q) a x) (journaled m i) f)

    pub data_memory : (h l u v : Bool) (p : ℕ) (x : Answer) (n : Memory) (j : Journal) → h ≡ cached b a → h ≡ false → l ≡ is_little b → p ≡ place_of l w a
        → u ≡ is_user b → v ≡ is_virtual b → response x (journaled n j) ≡ logging (read (regime_for (get_or b 9 0) u v) w p) (journaled m i)
        → response (replied (cpu b q) a x) (journaled n j) ≡ interpret logging (read_data (cpu b q) w a) (journaled m i)
    unfolding read_data read_memory request interpret
    data_memory h l u v p x n j e t el ep eu ev f =
        rw (sym e ∙ t, ← el, ← ep, ← eu, ← ev) (ap (λ (g : Response Journaled Answer). response (replied (cpu b q) a g.out) g.world) f)

    pub stored_cached : (y : ℕ) (h : Bool) (x : Answer) (s : Cache) → h ≡ cached b a → h ≡ true
        → response (write_out (cpu b s) a x) (only_memory []) ≡ interpret logging (write_cached (cpu b q) w a y) (only_memory [])
        → response (write_out (cpu b s) a x) (journaled m i) ≡ interpret logging (write_data (cpu b q) w a y) (journaled m i)
    unfolding write_data
    stored_cached y h x s e t f = rw (sym e ∙ t) (cached_write_any y (write_out (cpu b s) a x) (journaled m i) f)

    pub stored_memory : (y : ℕ) (h l u v : Bool) (p : ℕ) (x : Answer) (n : Memory) (j : Journal) → h ≡ cached b a → h ≡ false → l ≡ is_little b → p ≡ place_of l w a
        → u ≡ is_user b → v ≡ is_virtual b → response x (journaled n j) ≡ logging (write (regime_for (get_or b 9 0) u v) w p y) (journaled m i)
        → response (write_out (cpu b q) a x) (journaled n j) ≡ interpret logging (write_data (cpu b q) w a y) (journaled m i)
    unfolding write_data write_memory request interpret ◌>>=◌ after onward
    stored_memory y h l u v p x n j e t el ep eu ev f =
        rw (sym e ∙ t, ← el, ← ep, ← eu, ← ev) (wrote_is x (journaled n j) ∙ ap (λ (g : Response Journaled Answer). interpret logging (onward (λ _. done (cpu b q)) (replied (cpu b q) a g.out)) g.world) f)
      where
        wrote_is : (z : Answer) (u : Journaled) → response (write_out (cpu b q) a z) u ≡ interpret logging (onward (λ _. done (cpu b q)) (replied (cpu b q) a z)) u
        wrote_is (good y) u = refl
        wrote_is (raised y) u = refl

-- ---- text, frames, checks: the regime by its numbers

pub text_memory : (b : Bank) (a : ℕ) (t : Journaled) (u v : Bool) (g : Response Journaled Answer) → u ≡ is_user b → v ≡ is_virtual b
    → g ≡ logging (fetch (regime_for (get_or b 9 0) u v) a) t → g ≡ logging (fetch (regime b) a) t
text_memory b a t u v g eu ev f = f ∙ rw (eu, ev) refl

pub frame_read : (b : Bank) (a : ℕ) (t : Journaled) (v : Bool) (g : Response Journaled Answer) → v ≡ is_virtual b
    → g ≡ logging (read (regime_for (get_or b 9 0) false v) Word a) t → g ≡ logging (read (kernel_regime b) Word a) t
frame_read b a t v g ev f = f ∙ rw ev refl

pub frame_write : (b : Bank) (a y : ℕ) (t : Journaled) (v : Bool) (g : Response Journaled Answer) → v ≡ is_virtual b
    → g ≡ logging (write (regime_for (get_or b 9 0) false v) Word a y) t → g ≡ logging (write (kernel_regime b) Word a y) t
frame_write b a y t v g ev f = f ∙ rw ev refl

pub store_check : (b : Bank) (a : ℕ) (t : Journaled) (u v : Bool) (g : Response Journaled Answer) → u ≡ is_user b → v ≡ is_virtual b
    → g ≡ logging (probe (regime_for (get_or b 9 0) u v) a) t → g ≡ logging (probe (regime b) a) t
store_check b a t u v g eu ev f = f ∙ rw (eu, ev) refl
