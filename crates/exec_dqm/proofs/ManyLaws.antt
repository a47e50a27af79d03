-- The ways out of DQM.
-- Assumes nothing.
use Prim.Native.Nat.{ℕ, ◌*◌, ◌%◌, ◌<◌, ◌≤◌, ◌^◌}
use mathlib.Core.Path.{◌≡◌, refl, sym, ap, ◌∙◌}
use mathlib.Core.Bool.{Bool, true, false, cond, not, true≢false}
use mathlib.Core.List.{List, [], ◌∷◌}
use lib.Dec.{eqb}
use borrow.Author.Tests.{not-true, not-false}
use Rattle.word.specs.declared.Width.TheVariants.{Word}
use Rattle.word.specs.Sums.{plus_of}
use Rattle.isa.specs.declared.Mode.{Mode}
use Rattle.isa.specs.declared.Operand.{Operand}
use Rattle.isa.specs.declared.Operand.TheVariants.{General, Register}
use Rattle.isa.specs.declared.Wide.{Wide}
use Rattle.memory.specs.Answers.{good, raised, answer_of}
use Rattle.memory.specs.Exceptions.{alignment_fault}
use Rattle.access_spec.specs.Access.{Response, response}
use Rattle.access_spec.specs.Program.{Program, ret, interpret, after}
use Rattle.access_spec.specs.Journal.{Journaled, logging}
use Rattle.machine.specs.Registers.{Bank, word, register_of}
use Rattle.machine.specs.Cache.{Cache}
use Rattle.machine.specs.Status.{Cpu, cpu}
use Rattle.datapath.specs.Parts.{Out, stop, onward, done, ◌>>=◌}
use Rattle.datapath.specs.Data.{write_data}
use Rattle.datapath.specs.Code.{cpu_out}
use Rattle.datapath.proofs.PartLaws.{ended_goes}
use Rattle.exec_spec.specs.Operands.{Place, mode_kind}
use Rattle.exec_spec.specs.Dyadic.{copies, read_words, read_many, write_words, write_many}
use Rattle.exec_operands.specs.Code.{is_constant, place_at}
use Rattle.exec_operands.specs.Code.{resumed}
use Rattle.exec_dqm.specs.Words.{continued, loading, storing, words_for, count_for, aligned_to, is_scalar, scalar_of, copy_words}
use Rattle.exec_operands.proofs.RestLaws.{finished}
use Rattle.exec_dqm.proofs.WordLaws.{two_words, four_words, followed_part, followed_done, followed_stop, followed_ends, followed_goes}

pub scalar_general : (o : Operand) (m : Mode) (v : ℕ) (k : Bool) → o ≡ General m v → k ≡ is_constant (mode_kind m) → k ≡ is_scalar o
scalar_general o m v k h e = rw h e

pub scalar_register : (b : Bank) (o : Operand) (n k x : ℕ) → o ≡ Register n → k ≡ register_of n → x ≡ word b k → x ≡ scalar_of b o
scalar_register b o n k x h e f = rw h (f ∙ ap (λ (y : ℕ). word b y) e)

pub aligned_by : (k j : Bool) (a : ℕ) → k ≡ j → eqb (a % (count_for j * 4)) 0 ≡ aligned_to k a
aligned_by k j a e = rw e refl

stored_words : (c : Cpu) (a x y : ℕ) (t : Journaled) → interpret logging (storing c a x y (λ d. done d)) t ≡ interpret logging (write_words c a (x ∷ y ∷ [])) t
unfolding write_words
stored_words c a x y t = refl

-- ---- a pair written

module _ (b s : Bank) (q k : Cache) (a x y z : ℕ) (t u : Journaled) (e : response (cpu_out (answer_of z) s k) u ≡ interpret logging (write_data (cpu b q) Word a x) t)
    (f : Cpu → Program (Out Cpu)) where
  abbrev second : Cpu → Program (Out Cpu)
  second c = write_data c Word (plus_of a 4) y >>= f

  pub store_stopped : 2 ^ 32 ≤ z → interpret logging (continued f (answer_of z) s k) u ≡ interpret logging (storing (cpu b q) a x y f) t
  store_stopped h = followed_stop f s k z u h ∙ sym (followed_stop second s k z u h) ∙ followed_part second s k z u (write_data (cpu b q) Word a x) t e

  pub pair_stored : z < 2 ^ 32 → (n : ℕ) → n ≡ plus_of a 4 → (w : ℕ) (r : Bank) (j : Cache) (v : Journaled)
      → response (cpu_out (answer_of w) r j) v ≡ interpret logging (write_data (cpu s k) Word n y) u
      → interpret logging (continued f (answer_of w) r j) v ≡ interpret logging (storing (cpu b q) a x y f) t
  pair_stored h n en w r j v g =
      followed_part f r j w v (write_data (cpu s k) Word (plus_of a 4) y) u (g ∙ ap (λ (m : ℕ). interpret logging (write_data (cpu s k) Word m y) u) en)
      ∙ sym (ended_goes s k z (write_data (cpu b q) Word a x) second t u e h)

module _ (b s : Bank) (q k : Cache) (a w0 w1 w2 y z : ℕ) (t u : Journaled)
    (e : (f : Cpu → Program (Out Cpu)) → interpret logging (continued f (answer_of z) s k) u ≡ interpret logging (storing (cpu b q) a w0 w1 f) t) where
  abbrev others : Cpu → Program (Out Cpu)
  others c = write_words c (plus_of (plus_of a 4) 4) (w2 ∷ y ∷ [])

  whole : interpret logging (continued others (answer_of z) s k) u ≡ interpret logging (write_words (cpu b q) a (w0 ∷ w1 ∷ w2 ∷ y ∷ [])) t
  unfolding write_words
  whole = e others

  pub four_stopped : 2 ^ 32 ≤ z → response (cpu_out (answer_of z) s k) u ≡ interpret logging (write_words (cpu b q) a (w0 ∷ w1 ∷ w2 ∷ y ∷ [])) t
  four_stopped h = followed_ends others s k z u h ∙ whole

  pub four_stored : z < 2 ^ 32 → (n : ℕ) → n ≡ plus_of (plus_of a 4) 4 → (w : ℕ) (r : Bank) (j : Cache) (v : Journaled)
      → ((f : Cpu → Program (Out Cpu)) → interpret logging (continued f (answer_of w) r j) v ≡ interpret logging (storing (cpu s k) n w2 y f) u)
      → response (cpu_out (answer_of w) r j) v ≡ interpret logging (write_words (cpu b q) a (w0 ∷ w1 ∷ w2 ∷ y ∷ [])) t
  four_stored h n en w r j v g =
      followed_done r j v (answer_of w) ∙ g (λ c. done c) ∙ ap (λ (m : ℕ). interpret logging (storing (cpu s k) m w2 y (λ c. done c)) u) en
      ∙ last ∙ sym (followed_goes others s k z u h) ∙ whole
    where
      last : interpret logging (storing (cpu s k) (plus_of (plus_of a 4) 4) w2 y (λ c. done c)) u ≡ interpret logging (others (cpu s k)) u
      last = stored_words (cpu s k) (plus_of (plus_of a 4) 4) w2 y u

-- ---- an operand that is not in memory, and one that is

scalar_read : (c : Cpu) (n a : ℕ) (o : Operand) → is_scalar o ≡ true → read_many c n (place_at o a) ≡ done (copies n (scalar_of c.bank o))
unfolding read_many
scalar_read c n a (General m v) h = rw h refl
scalar_read c n a (Register r) h = refl

scalar_written : (c : Cpu) (n a : ℕ) (xs : List ℕ) (o : Operand) → is_scalar o ≡ true → write_many c n (place_at o a) xs ≡ done c
unfolding write_many
scalar_written c n a xs (General m v) h = rw h refl
scalar_written c n a xs (Register r) h = refl

memory_read : (c : Cpu) (n a : ℕ) (o : Operand) → is_scalar o ≡ false
    → read_many c n (place_at o a) ≡ cond (eqb (a % (n * 4)) 0) (read_words c a n) (ret (stop alignment_fault c))
unfolding read_many
memory_read c n a (General m v) h = rw h refl
memory_read c n a (Register r) h = absurd (true≢false h)

memory_written : (c : Cpu) (n a : ℕ) (xs : List ℕ) (o : Operand) → is_scalar o ≡ false
    → write_many c n (place_at o a) xs ≡ cond (eqb (a % (n * 4)) 0) (write_words c a xs) (ret (stop alignment_fault c))
unfolding write_many
memory_written c n a xs (General m v) h = rw h refl
memory_written c n a xs (Register r) h = absurd (true≢false h)

-- ---- words read

module _ (b : Bank) (q : Cache) (o : Operand) (a : ℕ) (i : Bool) (ei : i ≡ is_scalar o) (k : Bool) (t : Journaled) (f : List ℕ → Program (Out Cpu)) where
  abbrev read_then : Program (Out (List ℕ)) → Response Journaled (Out Cpu)
  read_then p = interpret logging (p >>= f) t

  pub many_scalar : i ≡ true → (v z : ℕ) → v ≡ scalar_of b o → answer_of z ≡ good v
      → interpret logging (resumed (λ y. f (words_for k v v v y)) (answer_of z) b q) t ≡ interpret logging (read_many (cpu b q) (count_for k) (place_at o a) >>= f) t
  unfolding ◌>>=◌ after onward
  many_scalar h v z ev ez =
      rw ez
      (ap (λ (xs : List ℕ). interpret logging (f xs) t) (same k) ∙ ap (λ (y : ℕ). interpret logging (f (copies (count_for k) y)) t) ev
      ∙ sym (ap read_then (scalar_read (cpu b q) (count_for k) a o (sym ei ∙ h))))
    where
      same : (j : Bool) → words_for j v v v v ≡ copies (count_for j) v
      same true = refl
      same false = refl

  pub many_odd : i ≡ false → (l : Bool) → l ≡ aligned_to k a → not l ≡ true → (g : ℕ → Program (Out Cpu)) (z : ℕ) → answer_of z ≡ raised 4
      → interpret logging (resumed g (answer_of z) b q) t ≡ interpret logging (read_many (cpu b q) (count_for k) (place_at o a) >>= f) t
  unfolding ◌>>=◌ after onward interpret
  many_odd h l el n g z ez =
      rw ez
      (sym (ap read_then (memory_read (cpu b q) (count_for k) a o (sym ei ∙ h)
      ∙ ap (λ (y : Bool). cond y (read_words (cpu b q) a (count_for k)) (ret (stop alignment_fault (cpu b q)))) (sym el ∙ not-true l n))))

  aligned : (j : Bool) → i ≡ false → aligned_to j a ≡ true → read_many (cpu b q) (count_for j) (place_at o a) ≡ read_words (cpu b q) a (count_for j)
  aligned j h n =
      memory_read (cpu b q) (count_for j) a o (sym ei ∙ h)
      ∙ ap (λ (y : Bool). cond y (read_words (cpu b q) a (count_for j)) (ret (stop alignment_fault (cpu b q)))) n

  module _ (s : Bank) (x w0 w1 w2 : ℕ) (u : Journaled) where
    pub many_double : i ≡ false → (l : Bool) → l ≡ aligned_to k a → not l ≡ false → k ≡ true
        → ((g : ℕ → ℕ → Program (Out Cpu)) → interpret logging (resumed (λ y. g w0 y) (answer_of x) s q) u ≡ interpret logging (loading (cpu b q) a g) t)
        → interpret logging (resumed (λ y. f (words_for k w0 w1 w2 y)) (answer_of x) s q) u ≡ interpret logging (read_many (cpu b q) (count_for k) (place_at o a) >>= f) t
    many_double h l el n e g = go k e (sym el ∙ not-false l n)
      where
        go : (j : Bool) → j ≡ true → aligned_to j a ≡ true → interpret logging (resumed (λ y. f (words_for j w0 w1 w2 y)) (answer_of x) s q) u ≡ interpret logging (read_many (cpu b q) (count_for j) (place_at o a) >>= f) t
        go true d w = g (λ x y. f (x ∷ y ∷ [])) ∙ sym (two_words (cpu b q) a f t) ∙ sym (ap read_then (aligned true h w))
        go false d w = absurd (true≢false (sym d))

    pub many_quad : i ≡ false → (l : Bool) → l ≡ aligned_to k a → not l ≡ false → k ≡ false
        → ((g : ℕ → ℕ → ℕ → ℕ → Program (Out Cpu)) → interpret logging (resumed (λ y. g w0 w1 w2 y) (answer_of x) s q) u
        ≡ interpret logging (loading (cpu b q) a (λ x y. loading (cpu b q) (plus_of (plus_of a 4) 4) (λ m n. g x y m n))) t)
        → interpret logging (resumed (λ y. f (words_for k w0 w1 w2 y)) (answer_of x) s q) u ≡ interpret logging (read_many (cpu b q) (count_for k) (place_at o a) >>= f) t
    many_quad h l el n e g = go k e (sym el ∙ not-false l n)
      where
        go : (j : Bool) → j ≡ false → aligned_to j a ≡ true → interpret logging (resumed (λ y. f (words_for j w0 w1 w2 y)) (answer_of x) s q) u ≡ interpret logging (read_many (cpu b q) (count_for j) (place_at o a) >>= f) t
        go false d w = g (λ x y m n. f (x ∷ y ∷ m ∷ n ∷ [])) ∙ sym (four_words (cpu b q) a f t) ∙ sym (ap read_then (aligned false h w))
        go true d w = absurd (true≢false d)

-- ---- words written

module _ (b : Bank) (q : Cache) (o : Operand) (a : ℕ) (i : Bool) (ei : i ≡ is_scalar o) (k : Bool) (w0 w1 w2 y : ℕ) (t : Journaled) where
  abbrev writing : Bool → Program (Out Cpu)
  writing j = write_many (cpu b q) (count_for j) (place_at o a) (words_for j w0 w1 w2 y)

  pub put_nowhere : i ≡ true → (z : ℕ) → answer_of z ≡ good 0 → response (cpu_out (answer_of z) b q) t ≡ interpret logging (writing k) t
  put_nowhere h z ez =
      finished b q z t (cpu b q) ez refl
      ∙ sym (ap (λ (p : Program (Out Cpu)). interpret logging p t) (scalar_written (cpu b q) (count_for k) a (words_for k w0 w1 w2 y) o (sym ei ∙ h)))

  pub put_odd : i ≡ false → (l : Bool) → l ≡ aligned_to k a → not l ≡ true → (z : ℕ) → answer_of z ≡ raised 4 → response (cpu_out (answer_of z) b q) t ≡ interpret logging (writing k) t
  unfolding interpret
  put_odd h l el n z ez =
      rw ez
      (sym (ap (λ (p : Program (Out Cpu)). interpret logging p t) (memory_written (cpu b q) (count_for k) a (words_for k w0 w1 w2 y) o (sym ei ∙ h)
      ∙ ap (λ (v : Bool). cond v (write_words (cpu b q) a (words_for k w0 w1 w2 y)) (ret (stop alignment_fault (cpu b q)))) (sym el ∙ not-true l n))))

  put_aligned : (j : Bool) → i ≡ false → aligned_to j a ≡ true → writing j ≡ write_words (cpu b q) a (words_for j w0 w1 w2 y)
  put_aligned j h n =
      memory_written (cpu b q) (count_for j) a (words_for j w0 w1 w2 y) o (sym ei ∙ h)
      ∙ ap (λ (v : Bool). cond v (write_words (cpu b q) a (words_for j w0 w1 w2 y)) (ret (stop alignment_fault (cpu b q)))) n

  module _ (s : Bank) (c : Cache) (z : ℕ) (u : Journaled) where
    pub put_double : i ≡ false → (l : Bool) → l ≡ aligned_to k a → not l ≡ false → k ≡ true
        → ((f : Cpu → Program (Out Cpu)) → interpret logging (continued f (answer_of z) s c) u ≡ interpret logging (storing (cpu b q) a w0 y f) t)
        → response (cpu_out (answer_of z) s c) u ≡ interpret logging (writing k) t
    put_double h l el n e g = go k e (sym el ∙ not-false l n)
      where
        go : (j : Bool) → j ≡ true → aligned_to j a ≡ true → response (cpu_out (answer_of z) s c) u ≡ interpret logging (writing j) t
        go true d w =
            followed_done s c u (answer_of z) ∙ g (λ d. done d) ∙ stored_words (cpu b q) a w0 y t
            ∙ sym (ap (λ (p : Program (Out Cpu)). interpret logging p t) (put_aligned true h w))
        go false d w = absurd (true≢false (sym d))

    pub put_quad : i ≡ false → (l : Bool) → l ≡ aligned_to k a → not l ≡ false → k ≡ false
        → response (cpu_out (answer_of z) s c) u ≡ interpret logging (write_words (cpu b q) a (w0 ∷ w1 ∷ w2 ∷ y ∷ [])) t
        → response (cpu_out (answer_of z) s c) u ≡ interpret logging (writing k) t
    put_quad h l el n e g = go k e (sym el ∙ not-false l n)
      where
        go : (j : Bool) → j ≡ false → aligned_to j a ≡ true → response (cpu_out (answer_of z) s c) u ≡ interpret logging (writing j) t
        go false d w = g ∙ sym (ap (λ (p : Program (Out Cpu)). interpret logging p t) (put_aligned false h w))
        go true d w = absurd (true≢false d)

-- ---- DQM, by whether the words are two

pub words_by : (c : Cpu) (k j : Bool) (w : Wide) (d : Operand) (p : Place) (u : Journaled) → k ≡ j → (R : Response Journaled (Out Cpu))
    → R ≡ interpret logging (copy_words c k w d p) u → R ≡ interpret logging (copy_words c j w d p) u
words_by c k j w d p u e R f = f ∙ ap (λ (y : Bool). interpret logging (copy_words c y w d p) u) e
