-- The ways out of frames pushed and vectors taken.
-- Assumes nothing.
use Prim.Native.Nat.{ℕ, ◌*◌, ◌/◌, ◌%◌, ◌^◌, ◌<◌, ◌≤◌}
use mathlib.Core.Path.{◌≡◌, sym, ap, ◌∙◌}
use Rattle.word.specs.declared.Width.TheVariants.{Word}
use Rattle.word.specs.Sums.{plus_of, minus_of}
use Rattle.memory.specs.Answers.{answer_of}
use Rattle.access_spec.specs.Access.{read, write, Response, response}
use Rattle.access_spec.specs.Program.{Program, interpret}
use Rattle.access_spec.specs.Journal.{Journaled, logging}
use Rattle.machine.specs.Registers.{Bank, word, isp, psw, shad, vb}
use Rattle.machine.specs.Cache.{Cache}
use Rattle.machine.specs.Status.{Cpu, cpu, with, kernel_regime}
use Rattle.datapath.specs.Parts.{Out, ◌>>=◌, done}
use Rattle.datapath.specs.Data.{write_frame}
use Rattle.datapath.specs.Code.{cpu_out}
use Rattle.exec_spec.specs.Control.{jumped}
use Rattle.exec_spec.specs.EventFrames.{push_pair, push_frame, through_vector}
use Rattle.exec_flow.proofs.EndLaws.{finished, loaded_on, load_stopped, stored_on, store_stopped}
use Rattle.machine.proofs.BankLaws.{Made}

-- ---- PC and PSW

-- the interrupt stack pointer of b down by a quad-word
abbrev pub lowered : Bank → Cpu → Cpu
lowered b c = with (with c isp (minus_of (word b isp) 16)) shad (minus_of (word b isp) 16)

module _ (b : Bank) (q : Cache) (a i : ℕ) (ei : i ≡ minus_of (word b isp) 8) (x : ℕ) (t u : Journaled) (e : response (answer_of x) u ≡ logging (write (kernel_regime b) Word i a) t) where
  abbrev then_lowered : ℕ → Program (Out Cpu)
  then_lowered _ = done (lowered b (cpu b q))

  abbrev then_psw : ℕ → ℕ → Program (Out Cpu)
  then_psw j _ = write_frame (cpu b q) j (word b psw) >>= then_lowered

  pub pair_first : 2 ^ 32 ≤ x → response (cpu_out (answer_of (2 ^ 32)) b q) u ≡ interpret logging (push_pair (cpu b q) a) t
  unfolding push_pair
  pair_first h = rw (← ei) (store_stopped b q x i t u a (then_psw (minus_of (word b isp) 4)) e h)

  module _ (h : x < 2 ^ 32) (j : ℕ) (ej : j ≡ minus_of (word b isp) 4) (y : ℕ) (w : Journaled) (f : response (answer_of y) w ≡ logging (write (kernel_regime b) Word j (word b psw)) u) where
    first_stored : interpret logging (push_pair (cpu b q) a) t ≡ interpret logging (then_psw j (x % 2 ^ 32)) u
    unfolding push_pair
    first_stored = rw (← ei, ← ej) (stored_on b q x i t u a (then_psw j) e h)

    pub pair_second : 2 ^ 32 ≤ y → response (cpu_out (answer_of (2 ^ 32)) b q) w ≡ interpret logging (push_pair (cpu b q) a) t
    pair_second k = store_stopped b q y j u w (word b psw) then_lowered f k ∙ sym first_stored

    pub pair_pushed : y < 2 ^ 32 → (d : Bank) → Made b d (lowered b) → response (cpu_out (answer_of y) d q) w ≡ interpret logging (push_pair (cpu b q) a) t
    unfolding interpret
    pair_pushed k d g = finished y d q (lowered b (cpu b q)) w k (g q) ∙ sym (first_stored ∙ stored_on b q y j u w (word b psw) then_lowered f k)

-- ---- a third word

module _ (b : Bank) (q : Cache) (v a i : ℕ) (ei : i ≡ minus_of (word b isp) 12) (x : ℕ) (t u : Journaled) (e : response (answer_of x) u ≡ logging (write (kernel_regime b) Word i v) t) where
  abbrev then_pair : ℕ → Program (Out Cpu)
  then_pair _ = push_pair (cpu b q) a

  pub third_stopped : 2 ^ 32 ≤ x → response (cpu_out (answer_of (2 ^ 32)) b q) u ≡ interpret logging (push_frame (cpu b q) v a) t
  unfolding push_frame
  third_stopped h = rw (← ei) (store_stopped b q x i t u v then_pair e h)

  pub third_pushed : x < 2 ^ 32 → (g : Response Journaled (Out Cpu)) → g ≡ interpret logging (push_pair (cpu b q) a) u → g ≡ interpret logging (push_frame (cpu b q) v a) t
  unfolding push_frame
  third_pushed h g f = rw (← ei) (f ∙ sym (stored_on b q x i t u v then_pair e h))

-- ---- the vector

-- PC at a, and the PSW of b for a handler
abbrev pub handled : Bank → ℕ → Cpu → Cpu
handled b a c = with (jumped c a) psw (word b psw / 2 ^ 16 * 2 ^ 16)

module _ (b : Bank) (q : Cache) (o i : ℕ) (ei : i ≡ plus_of (word b vb) o) (x : ℕ) (t u : Journaled) (e : response (answer_of x) u ≡ logging (read (kernel_regime b) Word i) t) where
  abbrev then_handled : ℕ → Program (Out Cpu)
  then_handled a = done (handled b a (cpu b q))

  pub vector_stopped : 2 ^ 32 ≤ x → response (cpu_out (answer_of (2 ^ 32)) b q) u ≡ interpret logging (through_vector (cpu b q) o) t
  unfolding through_vector
  vector_stopped h = rw (← ei) (load_stopped b q x i t u then_handled e h)

  pub vector_taken : x < 2 ^ 32 → (a : ℕ) → a ≡ x % 2 ^ 32 → (d : Bank) → Made b d (handled b a) → response (cpu_out (answer_of x) d q) u ≡ interpret logging (through_vector (cpu b q) o) t
  unfolding through_vector interpret
  vector_taken h a ea d f =
      rw (← ei)
      (finished x d q (handled b (x % 2 ^ 32) (cpu b q)) u h (f q ∙ ap (λ (n : ℕ). handled b n (cpu b q)) ea) ∙ sym (loaded_on b q x i t u then_handled e h))
