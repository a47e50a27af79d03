-- The ways out of filling a quad-word, and the quad-words from MSP up.
-- Assumes nothing.
use Prim.Native.Nat.{ℕ, suc, ◌+◌, ◌-◌, ◌/◌, ◌%◌, ◌^◌, ◌<◌, ◌≤◌}
use mathlib.Core.Path.{◌≡◌, refl, sym, ◌∙◌}
use mathlib.Core.Bool.{Bool, true, false}
use mathlib.Core.List.{[], ◌∷◌}
use native.Mathlib.Nat.{add-zero}
use native.Mathlib.Omega.{arith}
use lib.ListN.{get_or, set, length}
use lib.Dec.{ltb}
use borrow.Author.Tests.{lt-ltb, le-ltb, ltb-true, ltb-false}
use Rattle.word.specs.declared.Width.TheVariants.{Word}
use Rattle.word.specs.Sums.{plus_of}
use Rattle.memory.specs.Answers.{answer_of}
use Rattle.memory.specs.Bytes.{Memory}
use Rattle.memory.proofs.AnswerLaws.{answer_low, answer_high}
use Rattle.mmu.specs.declared.AccessKind.{AccessKind}
use Rattle.mmu.specs.declared.AccessKind.TheVariants.{Read}
use Rattle.mmu.specs.declared.Regime.{Regime}
use Rattle.access.specs.Followed.{regime_for}
use Rattle.access.specs.Quads.{quad_place, Quad}
use Rattle.access.proofs.QuadLaws.{place_quad}
use Rattle.access_spec.specs.Access.{read, Response, response}
use Rattle.access_spec.specs.Program.{Program, interpret}
use Rattle.access_spec.specs.Journal.{Journal, Journaled, journaled, logging}
use Rattle.machine.specs.Registers.{Bank}
use Rattle.machine.specs.Cache.{Cache}
use Rattle.machine.specs.Status.{Cpu, cpu}
use Rattle.datapath.specs.Parts.{Out, ok, onward, ◌>>=◌, done, replied}
use Rattle.datapath.specs.Code.{cpu_out}
use Rattle.datapath.specs.Moves.{fill_word, filled, fill_quad, may_fill, fill}
use Rattle.datapath_moves.specs.declared.filling.QuadWords.{QuadWords}
use Rattle.datapath_moves.specs.Words.{quad_out}
use Rattle.datapath.proofs.BindLaws.{bind, requested, bind_low, bind_high}
use Rattle.datapath.proofs.PartLaws.{fault_bank, stopped}

-- ---- a quad-word: word by word

module _ (b : Bank) (q : Cache) (g : Regime) (a : ℕ) where
  -- what follows the third word, the second, and the first
  abbrev after_third : ℕ → ℕ → ℕ → ℕ → Program (Out Cpu)
  after_third d v w x = fill_word (cpu b q) g d >>= (λ z. done (filled (cpu b q) a v w x z))

  abbrev after_second : ℕ → ℕ → ℕ → ℕ → Program (Out Cpu)
  after_second c d v w = fill_word (cpu b q) g c >>= after_third d v w

  abbrev after_first : ℕ → ℕ → ℕ → ℕ → Program (Out Cpu)
  after_first y c d v = fill_word (cpu b q) g y >>= after_second c d v

  word_filled : (d x : ℕ) (s u : Journaled) → response (answer_of x) u ≡ logging (read g Word d) s → response (replied (cpu b q) d (answer_of x)) u ≡ interpret logging (fill_word (cpu b q) g d) s
  unfolding fill_word
  word_filled d x s u e = sym (requested (cpu b q) (answer_of x) s u (read g Word d) d e)

  module _ (t : Journaled) (x0 : ℕ) (t0 : Journaled) (e0 : response (answer_of x0) t0 ≡ logging (read g Word a) t) (s : Bank) where
    pub fill_first : 2 ^ 32 ≤ x0 → s ≡ fault_bank b x0 a → response (cpu_out (answer_of x0) s q) t0 ≡ interpret logging (fill_quad (cpu b q) g a) t
    unfolding fill_quad
    fill_first h es =
        stopped b s q x0 a t0 h es
        ∙ sym (bind_high (cpu b q) a x0 (fill_word (cpu b q) g a) (after_first (plus_of a 4) (plus_of a 8) (plus_of a 12)) t t0 (word_filled a x0 t t0 e0) h)

    module _ (h0 : x0 < 2 ^ 32) (y : ℕ) (ey : y ≡ plus_of a 4) (x1 : ℕ) (t1 : Journaled) (e1 : response (answer_of x1) t1 ≡ logging (read g Word y) t0) where
      first_read : interpret logging (fill_quad (cpu b q) g a) t ≡ interpret logging (after_first y (plus_of a 8) (plus_of a 12) (x0 % 2 ^ 32)) t0
      unfolding fill_quad
      first_read =
          rw ey (bind_low (cpu b q) a x0 (fill_word (cpu b q) g a) (after_first (plus_of a 4) (plus_of a 8) (plus_of a 12)) t t0 (word_filled a x0 t t0 e0) h0)

      pub fill_second : 2 ^ 32 ≤ x1 → s ≡ fault_bank b x1 y → response (cpu_out (answer_of x1) s q) t1 ≡ interpret logging (fill_quad (cpu b q) g a) t
      fill_second h es =
          stopped b s q x1 y t1 h es
          ∙ sym (first_read ∙ bind_high (cpu b q) y x1 (fill_word (cpu b q) g y) (after_second (plus_of a 8) (plus_of a 12) (x0 % 2 ^ 32)) t0 t1 (word_filled y x1 t0 t1 e1) h)

      module _ (h1 : x1 < 2 ^ 32) (c : ℕ) (ec : c ≡ plus_of a 8) (x2 : ℕ) (t2 : Journaled) (e2 : response (answer_of x2) t2 ≡ logging (read g Word c) t1) where
        second_read : interpret logging (fill_quad (cpu b q) g a) t ≡ interpret logging (after_second c (plus_of a 12) (x0 % 2 ^ 32) (x1 % 2 ^ 32)) t1
        second_read =
            first_read
            ∙ rw ec (bind_low (cpu b q) y x1 (fill_word (cpu b q) g y) (after_second (plus_of a 8) (plus_of a 12) (x0 % 2 ^ 32)) t0 t1 (word_filled y x1 t0 t1 e1) h1)

        pub fill_third : 2 ^ 32 ≤ x2 → s ≡ fault_bank b x2 c → response (cpu_out (answer_of x2) s q) t2 ≡ interpret logging (fill_quad (cpu b q) g a) t
        fill_third h es =
            stopped b s q x2 c t2 h es
            ∙ sym (second_read ∙ bind_high (cpu b q) c x2 (fill_word (cpu b q) g c) (after_third (plus_of a 12) (x0 % 2 ^ 32) (x1 % 2 ^ 32)) t1 t2 (word_filled c x2 t1 t2 e2) h)

        module _ (h2 : x2 < 2 ^ 32) (d : ℕ) (ed : d ≡ plus_of a 12) (x3 : ℕ) (t3 : Journaled) (e3 : response (answer_of x3) t3 ≡ logging (read g Word d) t2) where
          third_read : interpret logging (fill_quad (cpu b q) g a) t ≡ interpret logging (after_third d (x0 % 2 ^ 32) (x1 % 2 ^ 32) (x2 % 2 ^ 32)) t2
          third_read =
              second_read
              ∙ rw ed (bind_low (cpu b q) c x2 (fill_word (cpu b q) g c) (after_third (plus_of a 12) (x0 % 2 ^ 32) (x1 % 2 ^ 32)) t1 t2 (word_filled c x2 t1 t2 e2) h2)

          abbrev last : ℕ → Program (Out Cpu)
          last z = done (filled (cpu b q) a (x0 % 2 ^ 32) (x1 % 2 ^ 32) (x2 % 2 ^ 32) z)

          pub fill_fourth : 2 ^ 32 ≤ x3 → s ≡ fault_bank b x3 d → response (cpu_out (answer_of x3) s q) t3 ≡ interpret logging (fill_quad (cpu b q) g a) t
          fill_fourth h es =
              stopped b s q x3 d t3 h es ∙ sym (third_read ∙ bind_high (cpu b q) d x3 (fill_word (cpu b q) g d) last t2 t3 (word_filled d x3 t2 t3 e3) h)

          pub quad_filled : x3 < 2 ^ 32 → (v0 v1 v2 v3 p i : ℕ) → v0 ≡ x0 % 2 ^ 32 → v1 ≡ x1 % 2 ^ 32 → v2 ≡ x2 % 2 ^ 32 → v3 ≡ x3 % 2 ^ 32 → p ≡ plus_of a 16 → s ≡ set b 4 p → i ≡ a / 16 % 16
              → response (cpu_out (answer_of x3) s (set q i (v0 ∷ v1 ∷ v2 ∷ v3 ∷ []))) t3 ≡ interpret logging (fill_quad (cpu b q) g a) t
          unfolding interpret
          quad_filled h v0 v1 v2 v3 p i ev0 ev1 ev2 ev3 ep es ei =
              rw (answer_low x3 h, es, ei, ev0, ev1, ev2, ev3, ep)
              (sym (third_read ∙ bind_low (cpu b q) d x3 (fill_word (cpu b q) g d) last t2 t3 (word_filled d x3 t2 t3 e3) h))

-- an answer is a value or an exception
pub by_answer : (P : Type 0) (n : ℕ) → (n < 2 ^ 32 → P) → (2 ^ 32 ≤ n → P) → P
by_answer P n f g = go (ltb n (2 ^ 32)) refl
  where
    go : (t : Bool) → ltb n (2 ^ 32) ≡ t → P
    go true e = f (ltb-true n (2 ^ 32) e)
    go false e = g (ltb-false n (2 ^ 32) e)

pub quad_as : (c : Cpu) (a : ℕ) (u : Journaled) (x k : QuadWords) (R : Response Journaled (Out Cpu)) → x ≡ k → response (quad_out c a k) u ≡ R → response (quad_out c a x) u ≡ R
quad_as c a u x k R e h = rw e h

-- the words read, as the code answers them: n is the last answer, e the address of its word
module _ (b : Bank) (q : Cache) (a n e w0 w1 w2 : ℕ) (u : Journaled) (R : Response Journaled (Out Cpu)) where
  abbrev answered : Out Cpu
  answered = quad_out (cpu b q) a (record { answer = n; at = e; w0 = w0; w1 = w1; w2 = w2 })

  -- MSP up to p, the quad-word with v for its last word
  abbrev placed : ℕ → ℕ → Out Cpu
  placed p v = cpu_out (answer_of n) (set b 4 p) (set q (a / 16 % 16) (w0 ∷ w1 ∷ w2 ∷ v ∷ []))

  pub read_stopped : 2 ^ 32 ≤ n → response (cpu_out (answer_of n) (fault_bank b n e) q) u ≡ R → response answered u ≡ R
  read_stopped h f = rw (le-ltb n (2 ^ 32) h) (sym (stopped b (fault_bank b n e) q n e u h refl) ∙ f)

  pub read_whole : n < 2 ^ 32 → response (placed (plus_of a 16) (n % 2 ^ 32)) u ≡ R → response answered u ≡ R
  read_whole h f = rw (lt-ltb n (2 ^ 32) h) (rw (answer_low n h) at f)

  pub words_stopped : response answered u ≡ R → 2 ^ 32 ≤ n → (s : Bank) → s ≡ fault_bank b n e → response (cpu_out (answer_of n) s q) u ≡ R
  words_stopped f h s es = stopped b s q n e u h es ∙ (rw (le-ltb n (2 ^ 32) h) at f)

  pub words_filled : response answered u ≡ R → n < 2 ^ 32 → (p v i : ℕ) → p ≡ plus_of a 16 → v ≡ n % 2 ^ 32 → i ≡ a / 16 % 16
      → response (cpu_out (answer_of n) (set b 4 p) (set q i (w0 ∷ w1 ∷ w2 ∷ v ∷ []))) u ≡ R
  words_filled f h p v i ep ev ei = rw (ep, ev, ei, answer_low n h) (rw (lt-ltb n (2 ^ 32) h) at f)

-- all four words found by one walk
pub found_filled : (b : Bank) (q : Cache) (user : Bool) (stb a pa : ℕ) (m : Memory) → Quad user stb Read a m pa → a < 2 ^ 32 → (x0 x1 x2 x3 v0 v1 v2 v3 p i : ℕ)
    → ((o : Journal) → response (answer_of x0) (journaled m o) ≡ logging (read (regime_for stb user true) Word (a + 0)) (journaled m o)) → x0 < 2 ^ 32
    → ((o : Journal) → response (answer_of x1) (journaled m o) ≡ logging (read (regime_for stb user true) Word (a + 4)) (journaled m o)) → x1 < 2 ^ 32
    → ((o : Journal) → response (answer_of x2) (journaled m o) ≡ logging (read (regime_for stb user true) Word (a + 8)) (journaled m o)) → x2 < 2 ^ 32
    → ((o : Journal) → response (answer_of x3) (journaled m o) ≡ logging (read (regime_for stb user true) Word (a + 12)) (journaled m o)) → x3 < 2 ^ 32
    → v0 ≡ x0 % 2 ^ 32 → v1 ≡ x1 % 2 ^ 32 → v2 ≡ x2 % 2 ^ 32 → v3 ≡ x3 % 2 ^ 32 → p ≡ plus_of a 16 → i ≡ a / 16 % 16 → (o : Journal)
    → response (cpu_out (answer_of x3) (set b 4 p) (set q i (v0 ∷ v1 ∷ v2 ∷ v3 ∷ []))) (journaled m o) ≡ interpret logging (fill_quad (cpu b q) (regime_for stb user true) a) (journaled m o)
found_filled b q user stb a pa m k l x0 x1 x2 x3 v0 v1 v2 v3 p i e0 h0 e1 h1 e2 h2 e3 h3 f0 f1 f2 f3 ep ei o =
    let start = k.start in
    quad_filled b q (regime_for stb user true) a (journaled m o) x0 (journaled m o) (rw add-zero at (e0 o)) (set b 4 p) h0 (a + 4) (omega arith) x1 (journaled m o) (e1 o)
    h1 (a + 8) (omega arith) x2 (journaled m o) (e2 o) h2 (a + 12) (omega arith) x3 (journaled m o) (e3 o) h3 v0 v1 v2 v3 p i f0 f1 f2 f3 ep refl ei

-- the place that low32 takes from the answer of a search
pub quad_at : (user : Bool) (stb : ℕ) (k : AccessKind) (a : ℕ) (m : Memory) (x p : ℕ) → x ≡ quad_place user stb k a m → x < 2 ^ 32 → p ≡ x % 2 ^ 32 → Quad user stb k a m p
quad_at user stb k a m x p f h e = let d : p ≡ x = omega arith in rw d (place_quad user stb k a m x f h)

-- ---- the quad-words from MSP up

-- where the loop stands: what is left of the fill gives what the whole gives
pub record Filling (g : Regime) (target : ℕ) (m₀ : Memory) (i₀ : Journal) (q₀ : Cache) (b₀ : Bank) (m : Memory) (i : Journal) (q : Cache) (b : Bank) (x n : ℕ) : Type 0 where
  pub low : x < 2 ^ 32
  pub few : n ≤ 16
  pub long : length m ≡ length m₀
  pub rest : interpret logging (fill g target n (cpu b q)) (journaled m i) ≡ interpret logging (fill g target 16 (cpu b₀ q₀)) (journaled m₀ i₀)

module _ (g : Regime) (target : ℕ) (m₀ : Memory) (i₀ : Journal) (q₀ : Cache) (b₀ : Bank) where
  pub filling_begun : Filling g target m₀ i₀ q₀ b₀ m₀ i₀ q₀ b₀ 0 16
  filling_begun = record { low = omega arith; few = omega arith; long = refl; rest = refl }

  module _ (m : Memory) (i : Journal) (q : Cache) (b : Bank) (x n : ℕ) (f : Filling g target m₀ i₀ q₀ b₀ m i q b x n) where
    abbrev whole : Response Journaled (Out Cpu)
    whole = interpret logging (fill g target 16 (cpu b₀ q₀)) (journaled m₀ i₀)

    pub filling_end : n ≤ 0 → response (cpu_out (answer_of x) b q) (journaled m i) ≡ whole
    unfolding fill interpret
    filling_end h = let k : n ≡ 0 = omega arith in rw (answer_low x f.low) (rw k at f.rest)

    module _ (more : 0 < n) (y : Bool) (ey : y ≡ may_fill target b) where
      down : n ≡ suc (n - 1)
      down = omega arith

      pub filling_enough : y ≡ false → response (cpu_out (answer_of x) b q) (journaled m i) ≡ whole
      unfolding fill interpret
      filling_enough z = rw (answer_low x f.low) (go (n - 1) down ∙ f.rest)
        where
          go : (j : ℕ) → n ≡ suc j → response (ok (cpu b q)) (journaled m i) ≡ interpret logging (fill g target n (cpu b q)) (journaled m i)
          go j k = rw (k, sym ey ∙ z) refl

      module _ (room : y ≡ true) (z : ℕ) (m₁ : Memory) (i₁ : Journal) (q₁ : Cache) (b₁ : Bank)
          (e : response (cpu_out (answer_of z) b₁ q₁) (journaled m₁ i₁) ≡ interpret logging (fill_quad (cpu b q) g (get_or b 4 0)) (journaled m i)) where
        once : (j : ℕ) → n ≡ suc j → interpret logging (onward (λ d. fill g target j d) (cpu_out (answer_of z) b₁ q₁)) (journaled m₁ i₁) ≡ interpret logging (fill g target n (cpu b q)) (journaled m i)
        unfolding fill
        once j k = rw (k, sym ey ∙ room, bind (fill_quad (cpu b q) g (get_or b 4 0)) (λ d. fill g target j d) (journaled m i), ← e) refl

        pub filling_more : z < 2 ^ 32 → length m₁ ≡ length m → Filling g target m₀ i₀ q₀ b₀ m₁ i₁ q₁ b₁ z (n - 1)
        unfolding onward
        filling_more h l =
            record { low = h; few = omega (arith, f.few); long = l ∙ f.long; rest = rw (answer_low z h) at (once (n - 1) down) ∙ f.rest }

        pub filling_fault : 2 ^ 32 ≤ z → response (cpu_out (answer_of z) b₁ q₁) (journaled m₁ i₁) ≡ whole
        unfolding onward interpret
        filling_fault h = rw (answer_high z h) (rw (answer_high z h) at (once (n - 1) down) ∙ f.rest)
