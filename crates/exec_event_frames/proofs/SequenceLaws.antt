-- The ways out of event sequences.
-- Assumes nothing.
use Prim.Native.Nat.{ℕ, ◌%◌, ◌^◌, ◌<◌, ◌≤◌}
use mathlib.Core.Path.{◌≡◌, refl, sym, ap, ◌∙◌}
use mathlib.Core.Bool.{Bool, true, false, cond}
use Rattle.word.specs.declared.Width.TheVariants.{Word}
use Rattle.word.specs.Sums.{plus_of}
use Rattle.memory.specs.Answers.{answer_of}
use Rattle.access_spec.specs.Access.{read, write, Response, response}
use Rattle.access_spec.specs.Program.{Program, interpret}
use Rattle.access_spec.specs.Journal.{Journaled, logging}
use Rattle.machine.specs.Registers.{Bank, word, isp, pc, sp, vb}
use Rattle.machine.specs.Cache.{Cache}
use Rattle.machine.specs.Status.{Cpu, cpu, kernel_regime, sp_current}
use Rattle.datapath.specs.Parts.{Out, ◌>>=◌, done}
use Rattle.datapath.specs.Data.{read_frame, write_data}
use Rattle.datapath.specs.Code.{cpu_out}
use Rattle.datapath.proofs.PartLaws.{ended_goes, ended_stops}
use Rattle.exec_spec.specs.Control.{jumped}
use Rattle.exec_spec.specs.EventFrames.{push_pair, push_frame, through_vector, restored_csp, exception_vector, interrupt_sequence, exception_sequence, store_pc, unimplemented_sequence}
use Rattle.exec_flow.proofs.EndLaws.{finished, loaded_on, load_stopped, stored_on, store_stopped}
use Rattle.machine.proofs.BankLaws.{Made}

-- ---- interrupts and exceptions: s is the bank with the stack pointer restored

module _ (b : Bank) (q : Cache) (s : Bank) (es : Made b s restored_csp) where
  module _ (v x : ℕ) (d : Bank) (t u : Journaled) (e : response (cpu_out (answer_of x) d q) u ≡ interpret logging (push_pair (cpu s q) (word b pc)) t) where
    abbrev then_vector : Cpu → Program (Out Cpu)
    then_vector c = through_vector c v

    pushed : response (cpu_out (answer_of x) d q) u ≡ interpret logging (push_pair (restored_csp (cpu b q)) (word b pc)) t
    pushed = e ∙ ap (λ (c : Cpu). interpret logging (push_pair c (word b pc)) t) (es q)

    pub interrupt_stopped : 2 ^ 32 ≤ x → response (cpu_out (answer_of x) d q) u ≡ interpret logging (interrupt_sequence (cpu b q) v) t
    unfolding interrupt_sequence
    interrupt_stopped h = ended_stops d q x (push_pair (restored_csp (cpu b q)) (word b pc)) then_vector t u pushed h

    pub interrupt_taken : x < 2 ^ 32 → (g : Response Journaled (Out Cpu)) → g ≡ interpret logging (through_vector (cpu d q) v) u → g ≡ interpret logging (interrupt_sequence (cpu b q) v) t
    unfolding interrupt_sequence
    interrupt_taken h g f = f ∙ sym (ended_goes d q x (push_pair (restored_csp (cpu b q)) (word b pc)) then_vector t u pushed h)

  module _ (n x : ℕ) (d : Bank) (t u : Journaled) (e : response (cpu_out (answer_of x) d q) u ≡ interpret logging (push_frame (cpu s q) n (word b pc)) t) where
    abbrev then_handler : Cpu → Program (Out Cpu)
    then_handler c = through_vector c exception_vector

    pushed' : response (cpu_out (answer_of x) d q) u ≡ interpret logging (push_frame (restored_csp (cpu b q)) n (word b pc)) t
    pushed' = e ∙ ap (λ (c : Cpu). interpret logging (push_frame c n (word b pc)) t) (es q)

    pub exception_stopped : 2 ^ 32 ≤ x → response (cpu_out (answer_of x) d q) u ≡ interpret logging (exception_sequence (cpu b q) n) t
    unfolding exception_sequence
    exception_stopped h = ended_stops d q x (push_frame (restored_csp (cpu b q)) n (word b pc)) then_handler t u pushed' h

    pub exception_taken : x < 2 ^ 32 → (g : Response Journaled (Out Cpu)) → g ≡ interpret logging (through_vector (cpu d q) exception_vector) u → g ≡ interpret logging (exception_sequence (cpu b q) n) t
    unfolding exception_sequence
    exception_taken h g f = f ∙ sym (ended_goes d q x (push_frame (restored_csp (cpu b q)) n (word b pc)) then_handler t u pushed' h)

-- ---- PC at the current stack pointer

module _ (b : Bank) (q : Cache) (t : Journaled) where
  module _ (x : ℕ) (u : Journaled) (e : response (answer_of x) u ≡ logging (write (kernel_regime b) Word (word b isp) (word b pc)) t) where
    pub pc_stopped : 2 ^ 32 ≤ x → response (cpu_out (answer_of (2 ^ 32)) b q) u ≡ interpret logging (store_pc (cpu b q)) t
    unfolding store_pc
    pc_stopped h = store_stopped b q x (word b isp) t u (word b pc) (λ _. done (cpu b q)) e h

    pub pc_stored : x < 2 ^ 32 → response (cpu_out (answer_of x) b q) u ≡ interpret logging (store_pc (cpu b q)) t
    unfolding store_pc interpret
    pc_stored h = finished x b q (cpu b q) u h refl ∙ sym (stored_on b q x (word b isp) t u (word b pc) (λ _. done (cpu b q)) e h)

  abbrev pub save_pc : Program (Out Cpu)
  save_pc = cond (sp_current b) (write_data (cpu b q) Word (word b sp) (word b pc)) (store_pc (cpu b q))

  module _ (z : Bool) (ez : z ≡ sp_current b) (g : Response Journaled (Out Cpu)) where
    pub saved_data : z ≡ true → g ≡ interpret logging (write_data (cpu b q) Word (word b sp) (word b pc)) t → g ≡ interpret logging save_pc t
    saved_data h e = rw (sym ez ∙ h) e

    pub saved_frame : z ≡ false → g ≡ interpret logging (store_pc (cpu b q)) t → g ≡ interpret logging save_pc t
    saved_frame h e = rw (sym ez ∙ h) e

  -- ---- then the vector, with the bank and the cache after the store

  module _ (v x : ℕ) (s : Bank) (p : Cache) (u : Journaled) (e : response (cpu_out (answer_of x) s p) u ≡ interpret logging save_pc t) where
    abbrev then_go : Cpu → ℕ → Program (Out Cpu)
    then_go c a = done (jumped c a)

    abbrev then_read : Cpu → Program (Out Cpu)
    then_read c = read_frame c (plus_of (word c.bank vb) v) >>= then_go c

    pub save_stopped : 2 ^ 32 ≤ x → response (cpu_out (answer_of x) s p) u ≡ interpret logging (unimplemented_sequence (cpu b q) v) t
    unfolding unimplemented_sequence
    save_stopped h = ended_stops s p x save_pc then_read t u e h

    module _ (h : x < 2 ^ 32) (i : ℕ) (ei : i ≡ plus_of (word s vb) v) (y : ℕ) (w : Journaled) (f : response (answer_of y) w ≡ logging (read (kernel_regime s) Word i) u) where
      saved : interpret logging (unimplemented_sequence (cpu b q) v) t ≡ interpret logging (read_frame (cpu s p) i >>= then_go (cpu s p)) u
      unfolding unimplemented_sequence
      saved = rw ei (ended_goes s p x save_pc then_read t u e h)

      pub unimplemented_stopped : 2 ^ 32 ≤ y → response (cpu_out (answer_of (2 ^ 32)) s p) w ≡ interpret logging (unimplemented_sequence (cpu b q) v) t
      unimplemented_stopped k = load_stopped s p y i u w (then_go (cpu s p)) f k ∙ sym saved

      pub unimplemented_taken : y < 2 ^ 32 → (a : ℕ) → a ≡ y % 2 ^ 32 → (d : Bank) → Made s d (λ c. jumped c a) → response (cpu_out (answer_of y) d p) w ≡ interpret logging (unimplemented_sequence (cpu b q) v) t
      unfolding interpret
      unimplemented_taken k a ea d g =
          finished y d p (jumped (cpu s p) (y % 2 ^ 32)) w k (g p ∙ ap (λ (n : ℕ). jumped (cpu s p) n) ea)
          ∙ sym (saved ∙ loaded_on s p y i u w (then_go (cpu s p)) f k)
