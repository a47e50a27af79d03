-- The ways out of the operands of word modes.
-- Assumes nothing.
use Prim.Native.Nat.{ℕ, ◌%◌, ◌^◌, ◌<◌, ◌≤◌}
use mathlib.Core.Path.{◌≡◌, refl, sym, ◌∙◌}
use mathlib.Core.Bool.{Bool, true, false}
use mathlib.Core.List.{[]}
use native.Mathlib.Omega.{arith}
use Rattle.word.specs.declared.Width.TheVariants.{Word}
use Rattle.word.specs.Sums.{plus_of}
use Rattle.isa.specs.declared.MonadicMode.{MonadicMode}
use Rattle.isa.specs.declared.MonadicMode.TheVariants.{WordAbsolute, WordStack, WordIndirect, WordImmediate, FlowAbsoluteIndirect, FlowStackIndirect, FlowRelative, FlowAbsolute}
use Rattle.memory.specs.Answers.{good, answer_of}
use Rattle.access_spec.specs.Access.{response}
use Rattle.access_spec.specs.Program.{Program, interpret}
use Rattle.access_spec.specs.Journal.{Journaled, logging}
use Rattle.machine.specs.Registers.{Bank, word, isp, pc, sp}
use Rattle.machine.specs.Cache.{Cache}
use Rattle.machine.specs.Status.{cpu, csp, sp_current}
use Rattle.datapath.specs.Parts.{Out}
use Rattle.datapath.specs.Data.{read_data}
use Rattle.datapath.specs.Code.{value_out}
use Rattle.datapath.proofs.PartLaws.{goes, stops_giving}
use Rattle.exec_spec.specs.Operands.{stack_address}
use Rattle.exec_spec.specs.Control.{read_word32, read_through}

-- what a function that gives a value promises: what it gave, and that the bank stays unless it stopped
abbrev pub Valued : Bank → Cache → ℕ → Bank → Program (Out ℕ) → Journaled → Journaled → Type 0
Valued b q x s p t u = (response (value_out (answer_of x) s q) u ≡ interpret logging p t) × (x < 2 ^ 32 → s ≡ b)

-- the second word is read with the bank that the first one left
module _ (b : Bank) (q : Cache) (a x : ℕ) (s : Bank) (t u : Journaled) (e : Valued b q x s (read_data (cpu b q) Word a) t u) where
  abbrev second : ℕ → Program (Out ℕ)
  second w = read_data (cpu b q) Word w

  pub pointer_faulted : 2 ^ 32 ≤ x → Valued b q x s (read_through (cpu b q) a) t u
  unfolding read_through
  pointer_faulted h = (stops_giving (λ v. v) s q x (read_data (cpu b q) Word a) second t u e.0 (λ v. v) h, λ k. absurd (omega arith))

  pub pointer_followed : x < 2 ^ 32 → (v : ℕ) → v ≡ x % 2 ^ 32 → (y : ℕ) (d : Bank) (w : Journaled) → Valued s q y d (read_data (cpu s q) Word v) u w
      → Valued b q y d (read_through (cpu b q) a) t w
  unfolding read_through
  pointer_followed h v ev y d w f = (f.0 ∙ same ∙ sym (goes (λ v. v) s q x (read_data (cpu b q) Word a) second t u e.0 h), λ k. f.1 k ∙ e.1 h)
    where
      kept : s ≡ b
      kept = e.1 h

      same : interpret logging (read_data (cpu s q) Word v) u ≡ interpret logging (second (x % 2 ^ 32)) u
      same = rw (kept, ev) refl

-- ---- by the mode

module _ (b : Bank) (q : Cache) (k : MonadicMode) (v x : ℕ) (s : Bank) (t u : Journaled) where
  pub by_absolute : k ≡ WordAbsolute → Valued b q x s (read_data (cpu b q) Word v) t u → Valued b q x s (read_word32 (cpu b q) k v) t u
  unfolding read_word32 read_through
  by_absolute z e = rw z e

  pub by_absolute_indirect : k ≡ FlowAbsoluteIndirect → Valued b q x s (read_data (cpu b q) Word v) t u → Valued b q x s (read_word32 (cpu b q) k v) t u
  unfolding read_word32 read_through
  by_absolute_indirect z e = rw z e

  module _ (a : ℕ) (ea : a ≡ stack_address (cpu b []) v) where
    pub by_stack : k ≡ WordStack → Valued b q x s (read_data (cpu b q) Word a) t u → Valued b q x s (read_word32 (cpu b q) k v) t u
    unfolding read_word32 read_through
    by_stack z e = rw (z, ← ea) e

    pub by_indirect : k ≡ WordIndirect → Valued b q x s (read_through (cpu b q) a) t u → Valued b q x s (read_word32 (cpu b q) k v) t u
    unfolding read_word32 read_through
    by_indirect z e = rw (z, ← ea) e

    pub by_stack_indirect : k ≡ FlowStackIndirect → Valued b q x s (read_data (cpu b q) Word a) t u → Valued b q x s (read_word32 (cpu b q) k v) t u
    unfolding read_word32 read_through
    by_stack_indirect z e = rw (z, ← ea) e

module _ (b : Bank) (q : Cache) (k : MonadicMode) (v x : ℕ) (t : Journaled) where
  pub by_immediate : k ≡ WordImmediate → answer_of x ≡ good v → Valued b q x b (read_word32 (cpu b q) k v) t t
  unfolding read_word32 interpret read_through
  by_immediate z e = rw (z, e) (refl, λ h. refl)

  pub by_flow_absolute : k ≡ FlowAbsolute → answer_of x ≡ good v → Valued b q x b (read_word32 (cpu b q) k v) t t
  unfolding read_word32 interpret read_through
  by_flow_absolute z e = rw (z, e) (refl, λ h. refl)

  pub by_relative : k ≡ FlowRelative → (a : ℕ) → a ≡ plus_of (word b pc) v → answer_of x ≡ good a → Valued b q x b (read_word32 (cpu b q) k v) t t
  unfolding read_word32 interpret read_through
  by_relative z a ea e = rw (z, e, ea) (refl, λ h. refl)

-- ---- the current stack pointer

module _ (b : Bank) (z : Bool) (e : z ≡ sp_current b) where
  pub pointer_sp : z ≡ true → word b sp ≡ word b (csp b)
  pointer_sp h = simp (sym e, h)

  pub pointer_isp : z ≡ false → word b isp ≡ word b (csp b)
  pointer_isp h = simp (sym e, h)
