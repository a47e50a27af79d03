-- A part that has ended, and a word of a frame with what follows it, by the number that the code answers.
-- Assumes nothing.
use Prim.Native.Nat.{ℕ, ◌%◌, ◌^◌, ◌<◌, ◌≤◌}
use mathlib.Core.Path.{◌≡◌, refl, sym, ap}
use native.Mathlib.Omega.{arith}
use Rattle.word.specs.declared.Width.TheVariants.{Word}
use Rattle.memory.specs.Answers.{answer_of}
use Rattle.memory.proofs.AnswerLaws.{answer_low, answer_high, answer_bad}
use Rattle.access_spec.specs.Access.{read, write, response}
use Rattle.access_spec.specs.Program.{Program, interpret}
use Rattle.access_spec.specs.Journal.{Journaled, logging}
use Rattle.machine.specs.Registers.{Bank}
use Rattle.machine.specs.Cache.{Cache}
use Rattle.machine.specs.Status.{Cpu, cpu, kernel_regime}
use Rattle.datapath.specs.Parts.{Out, ok, stop, onward, ◌>>=◌, frame_replied, resets}
use Rattle.datapath.specs.Data.{read_frame, write_frame}
use Rattle.datapath.specs.Code.{cpu_out}
use Rattle.datapath.proofs.BindLaws.{bind, frame_loaded, frame_stored}

-- a part that has gone to its end, with the machine that the registers' code made
pub finished : (x : ℕ) (d : Bank) (q : Cache) (c : Cpu) (u : Journaled) → x < 2 ^ 32 → cpu d q ≡ c → response (cpu_out (answer_of x) d q) u ≡ response (ok c) u
finished x d q c u h e = rw (answer_low x h) (ap (λ (n : Cpu). response (ok n) u) e)

-- the answer of a frame's fault
pub reset_asked : (b : Bank) (q : Cache) → cpu_out (answer_of (2 ^ 32)) b q ≡ stop resets (cpu b q)
reset_asked b q = rw (answer_bad 0 (omega arith)) refl

-- after a word of a frame: its fault resets
module _ {B : Type 0} (b : Bank) (q : Cache) (p : Program (Out ℕ)) (f : ℕ → Program (Out B)) (x : ℕ) (t u : Journaled) (e : interpret logging p t ≡ response (frame_replied (cpu b q) (answer_of x)) u) where
  pub frame_on : x < 2 ^ 32 → interpret logging (p >>= f) t ≡ interpret logging (f (x % 2 ^ 32)) u
  unfolding onward
  frame_on h = rw (bind p f t, e, answer_low x h) refl

  pub frame_stopped : 2 ^ 32 ≤ x → interpret logging (p >>= f) t ≡ response (stop resets (cpu b q)) u
  unfolding onward interpret
  frame_stopped h = rw (bind p f t, e, answer_high x h) refl

module _ (b : Bank) (q : Cache) (x a : ℕ) (t u : Journaled) where
  module _ (f : ℕ → Program (Out Cpu)) (e : response (answer_of x) u ≡ logging (read (kernel_regime b) Word a) t) where
    pub loaded_on : x < 2 ^ 32 → interpret logging (read_frame (cpu b q) a >>= f) t ≡ interpret logging (f (x % 2 ^ 32)) u
    loaded_on = frame_on b q (read_frame (cpu b q) a) f x t u (frame_loaded (cpu b q) (answer_of x) t u a e)

    pub load_stopped : 2 ^ 32 ≤ x → response (cpu_out (answer_of (2 ^ 32)) b q) u ≡ interpret logging (read_frame (cpu b q) a >>= f) t
    load_stopped h =
        rw (reset_asked b q) (sym (frame_stopped b q (read_frame (cpu b q) a) f x t u (frame_loaded (cpu b q) (answer_of x) t u a e) h))

  module _ (v : ℕ) (f : ℕ → Program (Out Cpu)) (e : response (answer_of x) u ≡ logging (write (kernel_regime b) Word a v) t) where
    pub stored_on : x < 2 ^ 32 → interpret logging (write_frame (cpu b q) a v >>= f) t ≡ interpret logging (f (x % 2 ^ 32)) u
    stored_on = frame_on b q (write_frame (cpu b q) a v) f x t u (frame_stored (cpu b q) (answer_of x) t u a v e)

    pub store_stopped : 2 ^ 32 ≤ x → response (cpu_out (answer_of (2 ^ 32)) b q) u ≡ interpret logging (write_frame (cpu b q) a v >>= f) t
    store_stopped h =
        rw (reset_asked b q) (sym (frame_stopped b q (write_frame (cpu b q) a v) f x t u (frame_stored (cpu b q) (answer_of x) t u a v e) h))
