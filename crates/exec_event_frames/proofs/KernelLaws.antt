-- The ways out of KCALL and KRET.
-- Assumes nothing.
use Prim.Native.Nat.{ℕ, ◌%◌, ◌^◌, ◌<◌, ◌≤◌}
use mathlib.Core.Path.{◌≡◌, refl, sym, ◌∙◌}
use mathlib.Core.List.{[]}
use Rattle.word.specs.declared.Width.TheVariants.{Word}
use Rattle.word.specs.Sums.{plus_of}
use Rattle.isa.specs.declared.MonadicMode.{MonadicMode}
use Rattle.memory.specs.Answers.{answer_of}
use Rattle.access_spec.specs.Access.{read, Response, response}
use Rattle.access_spec.specs.Program.{Program, interpret}
use Rattle.access_spec.specs.Journal.{Journaled, logging}
use Rattle.machine.specs.Registers.{Bank, word, isp}
use Rattle.machine.specs.Cache.{Cache}
use Rattle.machine.specs.Status.{Cpu, cpu, kernel_regime}
use Rattle.datapath.specs.Parts.{Out, ◌>>=◌, done}
use Rattle.datapath.specs.Data.{read_frame}
use Rattle.datapath.specs.Code.{cpu_out}
use Rattle.datapath.proofs.PartLaws.{goes, stops_ended, ended_goes, ended_stops}
use Rattle.exec_spec.specs.Control.{read_word32, next_pc}
use Rattle.exec_spec.specs.EventFrames.{push_frame, through_vector, kcall_vector, kcall, returned, kret}
use Rattle.exec_flow.proofs.EndLaws.{finished, loaded_on, load_stopped}
use Rattle.exec_flow.proofs.WordLaws.{Valued}
use Rattle.machine.proofs.BankLaws.{Made}

-- ---- KCALL

module _ (b : Bank) (q : Cache) (k : MonadicMode) (v n x : ℕ) (s : Bank) (t u : Journaled) (e : Valued b q x s (read_word32 (cpu b q) k v) t u) where
  abbrev then_vector : Cpu → Program (Out Cpu)
  then_vector c = through_vector c kcall_vector

  abbrev then_push : ℕ → Program (Out Cpu)
  then_push a = push_frame (cpu b q) a (next_pc (cpu b q) n) >>= then_vector

  pub kcall_first : 2 ^ 32 ≤ x → response (cpu_out (answer_of x) s q) u ≡ interpret logging (kcall (cpu b q) k v n) t
  unfolding kcall
  kcall_first h = stops_ended (λ v. v) s q x (read_word32 (cpu b q) k v) then_push t u e.0 h

  module _ (h : x < 2 ^ 32) (a p : ℕ) (ea : a ≡ x % 2 ^ 32) (ep : p ≡ next_pc (cpu s []) n) (y : ℕ) (d : Bank) (w : Journaled)
      (f : response (cpu_out (answer_of y) d q) w ≡ interpret logging (push_frame (cpu s q) a p) u) where
    kept : s ≡ b
    kept = e.1 h

    same : interpret logging (push_frame (cpu s q) a p >>= then_vector) u ≡ interpret logging (then_push (x % 2 ^ 32)) u
    same = rw (ep, kept, ea) refl

    operand : interpret logging (kcall (cpu b q) k v n) t ≡ interpret logging (push_frame (cpu s q) a p >>= then_vector) u
    unfolding kcall
    operand = goes (λ v. v) s q x (read_word32 (cpu b q) k v) then_push t u e.0 h ∙ sym same

    pub kcall_second : 2 ^ 32 ≤ y → response (cpu_out (answer_of y) d q) w ≡ interpret logging (kcall (cpu b q) k v n) t
    kcall_second l = ended_stops d q y (push_frame (cpu s q) a p) then_vector u w f l ∙ sym operand

    pub kcall_taken : y < 2 ^ 32 → (g : Response Journaled (Out Cpu)) → g ≡ interpret logging (through_vector (cpu d q) kcall_vector) w → g ≡ interpret logging (kcall (cpu b q) k v n) t
    kcall_taken l g z = z ∙ sym (operand ∙ ended_goes d q y (push_frame (cpu s q) a p) then_vector u w f l)

-- ---- KRET

module _ (b : Bank) (q : Cache) (i : ℕ) (ei : i ≡ plus_of (word b isp) 8) (x : ℕ) (t u : Journaled) (e : response (answer_of x) u ≡ logging (read (kernel_regime b) Word i) t) where
  abbrev then_return : ℕ → ℕ → Program (Out Cpu)
  then_return a p = done (returned (cpu b q) a p)

  abbrev then_psw : ℕ → ℕ → Program (Out Cpu)
  then_psw j a = read_frame (cpu b q) j >>= then_return a

  pub kret_first : 2 ^ 32 ≤ x → response (cpu_out (answer_of (2 ^ 32)) b q) u ≡ interpret logging (kret (cpu b q)) t
  unfolding kret
  kret_first h = rw (← ei) (load_stopped b q x i t u (then_psw (plus_of (word b isp) 12)) e h)

  module _ (h : x < 2 ^ 32) (j : ℕ) (ej : j ≡ plus_of (word b isp) 12) (y : ℕ) (w : Journaled) (f : response (answer_of y) w ≡ logging (read (kernel_regime b) Word j) u) where
    first_loaded : interpret logging (kret (cpu b q)) t ≡ interpret logging (then_psw j (x % 2 ^ 32)) u
    unfolding kret
    first_loaded = rw (← ei, ← ej) (loaded_on b q x i t u (then_psw j) e h)

    pub kret_second : 2 ^ 32 ≤ y → response (cpu_out (answer_of (2 ^ 32)) b q) w ≡ interpret logging (kret (cpu b q)) t
    kret_second k = load_stopped b q y j u w (then_return (x % 2 ^ 32)) f k ∙ sym first_loaded

    pub kret_done : y < 2 ^ 32 → (a p : ℕ) → a ≡ x % 2 ^ 32 → p ≡ y % 2 ^ 32 → (d : Bank) → Made b d (λ c. returned c a p) → response (cpu_out (answer_of y) d q) w ≡ interpret logging (kret (cpu b q)) t
    unfolding interpret
    kret_done k a p ea ep d g =
        finished y d q (returned (cpu b q) (x % 2 ^ 32) (y % 2 ^ 32)) w k (g q ∙ same)
        ∙ sym (first_loaded ∙ loaded_on b q y j u w (then_return (x % 2 ^ 32)) f k)
      where
        same : returned (cpu b q) a p ≡ returned (cpu b q) (x % 2 ^ 32) (y % 2 ^ 32)
        same = rw (ea, ep) refl
