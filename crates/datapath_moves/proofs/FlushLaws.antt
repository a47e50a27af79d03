-- The ways out of flushing a word, a quad-word, and the quad-words from MSP down.
-- Assumes nothing.
use Prim.Native.Nat.{ℕ, suc, ◌+◌, ◌-◌, ◌^◌, ◌<◌, ◌≤◌}
use mathlib.Core.Path.{◌≡◌, refl, sym, ◌∙◌}
use mathlib.Core.Bool.{Bool, true, false}
use native.Mathlib.Omega.{arith}
use lib.ListN.{get_or, set, length}
use Rattle.word.specs.declared.Width.TheVariants.{Word}
use Rattle.word.specs.Sums.{plus_of, minus_of}
use Rattle.memory.specs.Answers.{Answer, answer_of}
use Rattle.memory.specs.Bytes.{Memory}
use Rattle.memory.proofs.AnswerLaws.{answer_low, answer_high}
use Rattle.access_spec.specs.Access.{write, Response, response}
use Rattle.access_spec.specs.Program.{Program, interpret}
use Rattle.access_spec.specs.Journal.{Journal, Journaled, journaled, logging}
use Rattle.machine.specs.Registers.{Bank, msp}
use Rattle.machine.specs.Cache.{Cache, cache_word}
use Rattle.machine.specs.Status.{Cpu, cpu, with, is_user, is_virtual, regime}
use Rattle.access.specs.Followed.{regime_for}
use Rattle.access.specs.Quads.{Quad}
use Rattle.mmu.specs.declared.AccessKind.TheVariants.{Write}
use Rattle.mmu.specs.declared.Regime.{Regime}
use Rattle.datapath.specs.Parts.{Out, ok, onward, ◌>>=◌, done, replied}
use Rattle.datapath.specs.Code.{cpu_out}
use Rattle.datapath.specs.Moves.{flush_word, flush_quad, may_flush, flush}
use Rattle.datapath.proofs.BindLaws.{bind, requested, bind_low, bind_high}
use Rattle.datapath.proofs.PartLaws.{fault_bank, stopped}

pub flushed_word : (b : Bank) (q : Cache) (a y : ℕ) (u v : Bool) (x : Answer) (t s : Journaled) → y ≡ cache_word q a → u ≡ is_user b → v ≡ is_virtual b
    → response x s ≡ logging (write (regime_for (get_or b 9 0) u v) Word a y) t → response (replied (cpu b q) a x) s ≡ interpret logging (flush_word (cpu b q) a) t
unfolding flush_word
flushed_word b q a y u v x t s ey eu ev e =
    sym (requested (cpu b q) x t s (write (regime b) Word a (cache_word q a)) a (e ∙ rw (ey, eu, ev) refl))

-- ---- a quad-word: word by word

module _ (b : Bank) (q : Cache) (a : ℕ) where
  -- what follows the third word, the second, and the first
  abbrev after_third : ℕ → ℕ → Program (Out Cpu)
  after_third d _ = flush_word (cpu b q) d >>= (λ _. done (with (cpu b q) msp a))

  abbrev after_second : ℕ → ℕ → ℕ → Program (Out Cpu)
  after_second c d _ = flush_word (cpu b q) c >>= after_third d

  abbrev after_first : ℕ → ℕ → ℕ → ℕ → Program (Out Cpu)
  after_first y c d _ = flush_word (cpu b q) y >>= after_second c d

  module _ (t : Journaled) (x0 : ℕ) (t0 : Journaled) (e0 : response (replied (cpu b q) a (answer_of x0)) t0 ≡ interpret logging (flush_word (cpu b q) a) t) (s : Bank) where
    pub quad_first : 2 ^ 32 ≤ x0 → s ≡ fault_bank b x0 a → response (cpu_out (answer_of x0) s q) t0 ≡ interpret logging (flush_quad (cpu b q) a) t
    unfolding flush_quad
    quad_first h es = stopped b s q x0 a t0 h es ∙ sym (bind_high (cpu b q) a x0 (flush_word (cpu b q) a) (after_first (plus_of a 4) (plus_of a 8) (plus_of a 12)) t t0 e0 h)

    module _ (h0 : x0 < 2 ^ 32) (y : ℕ) (ey : y ≡ plus_of a 4) (x1 : ℕ) (t1 : Journaled) (e1 : response (replied (cpu b q) y (answer_of x1)) t1 ≡ interpret logging (flush_word (cpu b q) y) t0) where
      first_gone : interpret logging (flush_quad (cpu b q) a) t ≡ interpret logging (after_first y (plus_of a 8) (plus_of a 12) x0) t0
      unfolding flush_quad
      first_gone = rw ey (bind_low (cpu b q) a x0 (flush_word (cpu b q) a) (after_first (plus_of a 4) (plus_of a 8) (plus_of a 12)) t t0 e0 h0)

      pub quad_second : 2 ^ 32 ≤ x1 → s ≡ fault_bank b x1 y → response (cpu_out (answer_of x1) s q) t1 ≡ interpret logging (flush_quad (cpu b q) a) t
      quad_second h es = stopped b s q x1 y t1 h es ∙ sym (first_gone ∙ bind_high (cpu b q) y x1 (flush_word (cpu b q) y) (after_second (plus_of a 8) (plus_of a 12)) t0 t1 e1 h)

      module _ (h1 : x1 < 2 ^ 32) (c : ℕ) (ec : c ≡ plus_of a 8) (x2 : ℕ) (t2 : Journaled) (e2 : response (replied (cpu b q) c (answer_of x2)) t2 ≡ interpret logging (flush_word (cpu b q) c) t1) where
        second_gone : interpret logging (flush_quad (cpu b q) a) t ≡ interpret logging (after_second c (plus_of a 12) x1) t1
        second_gone = first_gone ∙ rw ec (bind_low (cpu b q) y x1 (flush_word (cpu b q) y) (after_second (plus_of a 8) (plus_of a 12)) t0 t1 e1 h1)

        pub quad_third : 2 ^ 32 ≤ x2 → s ≡ fault_bank b x2 c → response (cpu_out (answer_of x2) s q) t2 ≡ interpret logging (flush_quad (cpu b q) a) t
        quad_third h es = stopped b s q x2 c t2 h es ∙ sym (second_gone ∙ bind_high (cpu b q) c x2 (flush_word (cpu b q) c) (after_third (plus_of a 12)) t1 t2 e2 h)

        module _ (h2 : x2 < 2 ^ 32) (d : ℕ) (ed : d ≡ plus_of a 12) (x3 : ℕ) (t3 : Journaled) (e3 : response (replied (cpu b q) d (answer_of x3)) t3 ≡ interpret logging (flush_word (cpu b q) d) t2) where
          third_gone : interpret logging (flush_quad (cpu b q) a) t ≡ interpret logging (after_third d x2) t2
          third_gone = second_gone ∙ rw ed (bind_low (cpu b q) c x2 (flush_word (cpu b q) c) (after_third (plus_of a 12)) t1 t2 e2 h2)

          pub quad_fourth : 2 ^ 32 ≤ x3 → s ≡ fault_bank b x3 d → response (cpu_out (answer_of x3) s q) t3 ≡ interpret logging (flush_quad (cpu b q) a) t
          quad_fourth h es = stopped b s q x3 d t3 h es ∙ sym (third_gone ∙ bind_high (cpu b q) d x3 (flush_word (cpu b q) d) (λ _. done (with (cpu b q) msp a)) t2 t3 e3 h)

          pub quad_flushed : x3 < 2 ^ 32 → s ≡ set b 4 a → response (cpu_out (answer_of x3) s q) t3 ≡ interpret logging (flush_quad (cpu b q) a) t
          unfolding interpret
          quad_flushed h es = rw (answer_low x3 h, es) (sym (third_gone ∙ bind_low (cpu b q) d x3 (flush_word (cpu b q) d) (λ _. done (with (cpu b q) msp a)) t2 t3 e3 h))

-- all four words stored by one walk
module _ (b : Bank) (q : Cache) (g : Regime) (regime_is : regime b ≡ g) where
  word_gone : (a d y x : ℕ) (t s : Journaled) → d ≡ a → y ≡ cache_word q a → response (answer_of x) s ≡ logging (write g Word d y) t → response (replied (cpu b q) a (answer_of x)) s ≡ interpret logging (flush_word (cpu b q) a) t
  unfolding flush_word
  word_gone a d y x t s ed ey e = sym (requested (cpu b q) (answer_of x) t s (write (regime b) Word a (cache_word q a)) a (e ∙ rw (regime_is, ed, ey) refl))

pub found_flushed : (q : Cache) (user : Bool) (stb a pa : ℕ) (m : Memory) → Quad user stb Write a m pa → a < 2 ^ 32 → (x0 x1 x2 x3 v0 v1 v2 v3 c1 c2 c3 : ℕ) (t t0 t1 t2 t3 : Journaled)
    → v0 ≡ cache_word q a → response (answer_of x0) t0 ≡ logging (write (regime_for stb user true) Word (a + 0) v0) t → x0 < 2 ^ 32
    → c1 ≡ plus_of a 4 → v1 ≡ cache_word q c1 → response (answer_of x1) t1 ≡ logging (write (regime_for stb user true) Word (a + 4) v1) t0 → x1 < 2 ^ 32
    → c2 ≡ plus_of a 8 → v2 ≡ cache_word q c2 → response (answer_of x2) t2 ≡ logging (write (regime_for stb user true) Word (a + 8) v2) t1 → x2 < 2 ^ 32
    → c3 ≡ plus_of a 12 → v3 ≡ cache_word q c3 → response (answer_of x3) t3 ≡ logging (write (regime_for stb user true) Word (a + 12) v3) t2 → x3 < 2 ^ 32
    → (b : Bank) → regime b ≡ regime_for stb user true → response (cpu_out (answer_of x3) (set b 4 a) q) t3 ≡ interpret logging (flush_quad (cpu b q) a) t
found_flushed q user stb a pa m k l x0 x1 x2 x3 v0 v1 v2 v3 c1 c2 c3 t t0 t1 t2 t3 f0 e0 h0 d1 f1 e1 h1 d2 f2 e2 h2 d3 f3 e3 h3 b r =
    let start = k.start in
    quad_flushed b q a t x0 t0 (word_gone b q (regime_for stb user true) r a (a + 0) v0 x0 t t0 (omega arith) f0 e0) (set b 4 a) h0 c1 d1 x1 t1
    (word_gone b q (regime_for stb user true) r c1 (a + 4) v1 x1 t0 t1 (omega arith) f1 e1) h1 c2 d2 x2 t2 (word_gone b q (regime_for stb user true) r c2 (a + 8) v2 x2 t1 t2 (omega arith) f2 e2)
    h2 c3 d3 x3 t3 (word_gone b q (regime_for stb user true) r c3 (a + 12) v3 x3 t2 t3 (omega arith) f3 e3) h3 refl

pub regime_found : (b : Bank) (stb : ℕ) (user translated : Bool) → stb ≡ get_or b 9 0 → user ≡ is_user b → translated ≡ is_virtual b → translated ≡ true → regime b ≡ regime_for stb user true
regime_found b stb user translated es eu ev t = rw (es, eu, sym ev ∙ t) refl

-- ---- the quad-words from MSP down

-- where the loop stands: what is left of the flush gives what the whole gives
pub record Flushing (q : Cache) (all : Bool) (target : ℕ) (m₀ : Memory) (i₀ : Journal) (b₀ : Bank) (m : Memory) (i : Journal) (b : Bank) (x n : ℕ) : Type 0 where
  pub low : x < 2 ^ 32
  pub few : n ≤ 16
  pub long : length m ≡ length m₀
  pub rest : interpret logging (flush all target n (cpu b q)) (journaled m i) ≡ interpret logging (flush all target 16 (cpu b₀ q)) (journaled m₀ i₀)

module _ (q : Cache) (all : Bool) (target : ℕ) (m₀ : Memory) (i₀ : Journal) (b₀ : Bank) where
  pub flushing_begun : Flushing q all target m₀ i₀ b₀ m₀ i₀ b₀ 0 16
  flushing_begun = record { low = omega arith; few = omega arith; long = refl; rest = refl }

  module _ (m : Memory) (i : Journal) (b : Bank) (x n : ℕ) (g : Flushing q all target m₀ i₀ b₀ m i b x n) where
    abbrev whole : Response Journaled (Out Cpu)
    whole = interpret logging (flush all target 16 (cpu b₀ q)) (journaled m₀ i₀)

    pub flushing_end : n ≤ 0 → response (cpu_out (answer_of x) b q) (journaled m i) ≡ whole
    unfolding flush interpret
    flushing_end h = let k : n ≡ 0 = omega arith in rw (answer_low x g.low) (rw k at g.rest)

    module _ (more : 0 < n) (y : Bool) (ey : y ≡ may_flush all target b) where
      down : n ≡ suc (n - 1)
      down = omega arith

      pub flushing_enough : y ≡ false → response (cpu_out (answer_of x) b q) (journaled m i) ≡ whole
      unfolding flush interpret
      flushing_enough f = rw (answer_low x g.low) (go (n - 1) down ∙ g.rest)
        where
          go : (j : ℕ) → n ≡ suc j → response (ok (cpu b q)) (journaled m i) ≡ interpret logging (flush all target n (cpu b q)) (journaled m i)
          go j k = rw (k, sym ey ∙ f) refl

      module _ (held : y ≡ true) (a : ℕ) (ea : a ≡ minus_of (get_or b 4 0) 16) (z : ℕ) (m₁ : Memory) (i₁ : Journal) (b₁ : Bank)
          (e : response (cpu_out (answer_of z) b₁ q) (journaled m₁ i₁) ≡ interpret logging (flush_quad (cpu b q) a) (journaled m i)) where
        once : (j : ℕ) → n ≡ suc j → interpret logging (onward (λ d. flush all target j d) (cpu_out (answer_of z) b₁ q)) (journaled m₁ i₁) ≡ interpret logging (flush all target n (cpu b q)) (journaled m i)
        unfolding flush
        once j k = rw (k, sym ey ∙ held, ← ea, bind (flush_quad (cpu b q) a) (λ d. flush all target j d) (journaled m i), ← e) refl

        pub flushing_more : z < 2 ^ 32 → length m₁ ≡ length m → Flushing q all target m₀ i₀ b₀ m₁ i₁ b₁ z (n - 1)
        unfolding onward
        flushing_more h l =
            record { low = h; few = omega (arith, g.few); long = l ∙ g.long; rest = rw (answer_low z h) at (once (n - 1) down) ∙ g.rest }

        pub flushing_fault : 2 ^ 32 ≤ z → response (cpu_out (answer_of z) b₁ q) (journaled m₁ i₁) ≡ whole
        unfolding onward interpret
        flushing_fault h = rw (answer_high z h) (rw (answer_high z h) at (once (n - 1) down) ∙ g.rest)
