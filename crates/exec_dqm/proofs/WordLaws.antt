-- Words in a row, in pairs: the definitions' recursion as the code runs it.
-- Assumes nothing.
use Prim.Native.Nat.{ℕ, zero, suc, ◌%◌, ◌<◌, ◌≤◌, ◌^◌}
use mathlib.Core.Path.{◌≡◌, refl, sym, ap, ◌∙◌}
use mathlib.Core.List.{List, [], ◌∷◌}
use Rattle.word.specs.declared.Width.TheVariants.{Word}
use Rattle.word.specs.Sums.{plus_of}
use Rattle.memory.specs.Answers.{Answer, good, raised, answer_of}
use Rattle.memory.proofs.AnswerLaws.{answer_low, answer_high}
use Rattle.access_spec.specs.Access.{Response, response}
use Rattle.access_spec.specs.Program.{Program, interpret, after}
use Rattle.access_spec.specs.Journal.{Journaled, logging}
use Rattle.machine.specs.Registers.{Bank}
use Rattle.machine.specs.Cache.{Cache}
use Rattle.machine.specs.Status.{Cpu, cpu}
use Rattle.datapath.specs.Parts.{Out, ok, stop, onward, done, ◌>>=◌}
use Rattle.datapath.specs.Data.{read_data}
use Rattle.datapath.specs.Code.{cpu_out, value_out}
use Rattle.datapath.proofs.BindLaws.{bind}
use Rattle.datapath.proofs.PartLaws.{goes, stops}
use Rattle.exec_spec.specs.Dyadic.{read_words}
use Rattle.exec_operands.specs.Code.{resumed}
use Rattle.exec_dqm.specs.Words.{continued, loading}
use Rattle.exec_operands.proofs.RestLaws.{resumed_stop, resumed_part}

-- ---- parts after parts

module _ {A B : Type 0} (p : Program (Out A)) (g h : A → Program (Out B)) where
  pub same_rest : ((x : A) (u : Journaled) → interpret logging (g x) u ≡ interpret logging (h x) u) → (t : Journaled)
      → interpret logging (p >>= g) t ≡ interpret logging (p >>= h) t
  unfolding onward interpret
  same_rest e t = bind p g t ∙ go (interpret logging p t).out (interpret logging p t).world ∙ sym (bind p h t)
    where
      go : (o : Out A) (u : Journaled) → interpret logging (onward g o) u ≡ interpret logging (onward h o) u
      go (ok x) u = e x u
      go (stop n c) u = refl

module _ {A B D : Type 0} (p : Program (Out A)) (g : A → Program (Out B)) (f : B → Program (Out D)) where
  pub regrouped : (t : Journaled) → interpret logging ((p >>= g) >>= f) t ≡ interpret logging (p >>= (λ x. g x >>= f)) t
  unfolding onward interpret
  regrouped t =
      bind (p >>= g) f t
      ∙ ap (λ (w : Response Journaled (Out B)). interpret logging (onward f w.out) w.world) (bind p g t)
      ∙ go (interpret logging p t).out (interpret logging p t).world
      ∙ sym (bind p (λ x. g x >>= f) t)
    where
      go : (o : Out A) (u : Journaled)
          → interpret logging (onward f (interpret logging (onward g o) u).out) (interpret logging (onward g o) u).world
          ≡ interpret logging (onward (λ x. g x >>= f) o) u
      go (ok x) u = sym (bind (g x) f u)
      go (stop n c) u = refl

-- ---- words read

module _ (c : Cpu) where
  word_more : (a n : ℕ) (f : List ℕ → Program (Out Cpu)) (t : Journaled)
      → interpret logging (read_words c a (suc n) >>= f) t
      ≡ interpret logging (read_data c Word a >>= (λ x. read_words c (plus_of a 4) n >>= (λ xs. f (x ∷ xs)))) t
  unfolding read_words ◌>>=◌ after onward
  word_more a n f t =
      regrouped (read_data c Word a) (λ x. read_words c (plus_of a 4) n >>= (λ xs. done (x ∷ xs))) f t
      ∙ same_rest (read_data c Word a) (λ x. (read_words c (plus_of a 4) n >>= (λ xs. done (x ∷ xs))) >>= f)
      (λ x. read_words c (plus_of a 4) n >>= (λ xs. f (x ∷ xs)))
      (λ x u. regrouped (read_words c (plus_of a 4) n) (λ xs. done (x ∷ xs)) f u) t

  no_more : (a : ℕ) (f : List ℕ → Program (Out Cpu)) (t : Journaled) → interpret logging (read_words c a zero >>= f) t ≡ interpret logging (f []) t
  unfolding read_words ◌>>=◌ after onward
  no_more a f t = refl

  two_more : (a n : ℕ) (f : List ℕ → Program (Out Cpu)) (t : Journaled)
      → interpret logging (read_words c a (suc (suc n)) >>= f) t
      ≡ interpret logging (loading c a (λ x y. read_words c (plus_of (plus_of a 4) 4) n >>= (λ xs. f (x ∷ y ∷ xs)))) t
  two_more a n f t =
      word_more a (suc n) f t
      ∙ same_rest (read_data c Word a) (λ x. read_words c (plus_of a 4) (suc n) >>= (λ xs. f (x ∷ xs)))
      (λ x. read_data c Word (plus_of a 4) >>= (λ y. read_words c (plus_of (plus_of a 4) 4) n >>= (λ xs. f (x ∷ y ∷ xs))))
      (λ x u. word_more (plus_of a 4) n (λ xs. f (x ∷ xs)) u) t

  same_pair : (a : ℕ) (g h : ℕ → ℕ → Program (Out Cpu)) → ((x y : ℕ) (u : Journaled) → interpret logging (g x y) u ≡ interpret logging (h x y) u)
      → (t : Journaled) → interpret logging (loading c a g) t ≡ interpret logging (loading c a h) t
  same_pair a g h e t =
      same_rest (read_data c Word a) (λ x. read_data c Word (plus_of a 4) >>= g x) (λ x. read_data c Word (plus_of a 4) >>= h x)
      (λ x u. same_rest (read_data c Word (plus_of a 4)) (g x) (h x) (e x) u) t

  pub two_words : (a : ℕ) (f : List ℕ → Program (Out Cpu)) (t : Journaled)
      → interpret logging (read_words c a 2 >>= f) t ≡ interpret logging (loading c a (λ x y. f (x ∷ y ∷ []))) t
  two_words a f t =
      two_more a 0 f t
      ∙ same_pair a (λ x y. read_words c (plus_of (plus_of a 4) 4) 0 >>= (λ xs. f (x ∷ y ∷ xs))) (λ x y. f (x ∷ y ∷ []))
      (λ x y u. no_more (plus_of (plus_of a 4) 4) (λ xs. f (x ∷ y ∷ xs)) u) t

  pub four_words : (a : ℕ) (f : List ℕ → Program (Out Cpu)) (t : Journaled)
      → interpret logging (read_words c a 4 >>= f) t
      ≡ interpret logging (loading c a (λ x y. loading c (plus_of (plus_of a 4) 4) (λ u v. f (x ∷ y ∷ u ∷ v ∷ [])))) t
  four_words a f t =
      two_more a 2 f t
      ∙ same_pair a (λ x y. read_words c (plus_of (plus_of a 4) 4) 2 >>= (λ xs. f (x ∷ y ∷ xs)))
      (λ x y. loading c (plus_of (plus_of a 4) 4) (λ u v. f (x ∷ y ∷ u ∷ v ∷ [])))
      (λ x y u. two_words (plus_of (plus_of a 4) 4) (λ xs. f (x ∷ y ∷ xs)) u) t

-- ---- a pair read

module _ (b s : Bank) (q : Cache) (a x : ℕ) (t u : Journaled) (e : response (value_out (answer_of x) s q) u ≡ interpret logging (read_data (cpu b q) Word a) t)
    (f : ℕ → ℕ → Program (Out Cpu)) where
  abbrev next : ℕ → Program (Out Cpu)
  next y = read_data (cpu b q) Word (plus_of a 4) >>= f y

  pub pair_fault : (g : ℕ → Program (Out Cpu)) → 2 ^ 32 ≤ x → interpret logging (resumed g (answer_of x) s q) u ≡ interpret logging (loading (cpu b q) a f) t
  pair_fault g h = resumed_stop g s q x u h ∙ sym (stops (λ v. v) s q x (read_data (cpu b q) Word a) next t u e h)

  pub pair_loaded : x < 2 ^ 32 → s ≡ b → (l : ℕ) → l ≡ x % 2 ^ 32 → (n : ℕ) → n ≡ plus_of a 4 → (y : ℕ) (r : Bank) (v : Journaled)
      → response (value_out (answer_of y) r q) v ≡ interpret logging (read_data (cpu s q) Word n) u
      → interpret logging (resumed (λ z. f l z) (answer_of y) r q) v ≡ interpret logging (loading (cpu b q) a f) t
  pair_loaded h es l el n en y r v k =
      resumed_part (λ z. z) (f l) r q y (read_data (cpu b q) Word (plus_of a 4)) u v
      (k ∙ ap (λ (z : Bank). interpret logging (read_data (cpu z q) Word n) u) es ∙ ap (λ (z : ℕ). interpret logging (read_data (cpu b q) Word z) u) en)
      ∙ ap (λ (z : ℕ). interpret logging (next z) u) el
      ∙ sym (goes (λ v. v) s q x (read_data (cpu b q) Word a) next t u e h)

pub pair_at : (c : Cpu) (n m : ℕ) → n ≡ m → (f : ℕ → ℕ → Program (Out Cpu)) (u : Journaled) (R : Response Journaled (Out Cpu))
    → R ≡ interpret logging (loading c n f) u → R ≡ interpret logging (loading c m f) u
pair_at c n m e f u R k = k ∙ ap (λ (y : ℕ). interpret logging (loading c y f) u) e

-- ---- a pair written

module _ (f : Cpu → Program (Out Cpu)) (s : Bank) (k : Cache) (x : ℕ) (u : Journaled) where
  followed_onward : (z : Answer) → interpret logging (continued f z s k) u ≡ interpret logging (onward f (cpu_out z s k)) u
  unfolding onward interpret
  followed_onward (good v) = refl
  followed_onward (raised v) = refl

  pub followed_part : (p : Program (Out Cpu)) (t : Journaled) → response (cpu_out (answer_of x) s k) u ≡ interpret logging p t
      → interpret logging (continued f (answer_of x) s k) u ≡ interpret logging (p >>= f) t
  followed_part p t e =
      followed_onward (answer_of x)
      ∙ ap (λ (w : Response Journaled (Out Cpu)). interpret logging (onward f w.out) w.world) e
      ∙ sym (bind p f t)

pub followed_done : (s : Bank) (k : Cache) (u : Journaled) (z : Answer) → response (cpu_out z s k) u ≡ interpret logging (continued (λ c. done c) z s k) u
unfolding interpret
followed_done s k u (good v) = refl
followed_done s k u (raised v) = refl

module _ (f : Cpu → Program (Out Cpu)) (s : Bank) (k : Cache) (x : ℕ) (u : Journaled) where
  pub followed_stop : 2 ^ 32 ≤ x → interpret logging (continued f (answer_of x) s k) u ≡ response (stop (x % 2 ^ 32) (cpu s k)) u
  unfolding interpret
  followed_stop h = rw (answer_high x h) refl

  pub followed_ends : 2 ^ 32 ≤ x → response (cpu_out (answer_of x) s k) u ≡ interpret logging (continued f (answer_of x) s k) u
  unfolding interpret
  followed_ends h = rw (answer_high x h) refl

  pub followed_goes : x < 2 ^ 32 → interpret logging (continued f (answer_of x) s k) u ≡ interpret logging (f (cpu s k)) u
  followed_goes h = rw (answer_low x h) refl
