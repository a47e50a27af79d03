-- The ways out of targets and checks.
-- Assumes nothing.
use Prim.Native.Nat.{ℕ, ◌^◌, ◌<◌, ◌≤◌}
use mathlib.Core.Path.{◌≡◌, refl, sym, ap}
use mathlib.Core.Bool.{Bool, true, false, cond}
use mathlib.Core.List.{[]}
use lib.ListN.{get_or}
use borrow.Author.Tests.{eq-eqb, ne_eqb}
use Rattle.word.specs.declared.Width.TheVariants.{Word}
use Rattle.isa.specs.declared.MonadicMode.{MonadicMode}
use Rattle.isa.specs.declared.MonadicMode.TheVariants.{WordAbsolute, WordStack, WordIndirect, WordImmediate, FlowAbsoluteIndirect, FlowStackIndirect, FlowRelative, FlowAbsolute}
use Rattle.memory.specs.Answers.{Answer, good, raised, answer_of}
use Rattle.memory.specs.Bytes.{Memory}
use Rattle.mmu.specs.declared.Regime.{Regime}
use Rattle.mmu.specs.declared.Walk.{Walk}
use Rattle.mmu.specs.declared.Walk.TheVariants.{Fault, Direct, Paged}
use Rattle.mmu.specs.Walk.{route}
use Rattle.memory.specs.Exceptions.{alignment_fault}
use Rattle.access_spec.specs.Access.{probe, regime_of, access_kind_of, address_of, aligned, access, follow, touch, Response, response}
use Rattle.access_spec.specs.Program.{interpret}
use Rattle.access_spec.specs.Journal.{Journal, Journaled, journaled, logging, access_note, follow_note, touch_note, walk_note}
use Rattle.access.specs.Followed.{regime_for, only_memory}
use Rattle.machine.specs.Registers.{Bank}
use Rattle.machine.specs.Cache.{Cache}
use Rattle.machine.specs.Status.{cpu, is_user, is_virtual}
use Rattle.datapath.specs.Parts.{replied, request}
use Rattle.datapath.specs.Data.{read_data, check_store}
use Rattle.datapath.proofs.BindLaws.{requested}
use Rattle.datapath.proofs.PartLaws.{fault_bank, load_fault, load_done}
use Rattle.exec_spec.specs.Operands.{stack_address}
use Rattle.exec_spec.specs.Stack.{stack_target, check_msp}
use Rattle.exec_flow.proofs.WordLaws.{Valued}

-- ---- the target, by the mode

module _ (b : Bank) (q : Cache) (k : MonadicMode) (v x : ℕ) (s : Bank) (t u : Journaled) where
  pub target_absolute : k ≡ WordAbsolute → Valued b q x s (read_data (cpu b q) Word v) t u → Valued b q x s (stack_target (cpu b q) k v) t u
  unfolding stack_target
  target_absolute z e = rw z e

  pub target_indirect : (a : ℕ) → a ≡ stack_address (cpu b []) v → k ≡ WordIndirect → Valued b q x s (read_data (cpu b q) Word a) t u → Valued b q x s (stack_target (cpu b q) k v) t u
  unfolding stack_target
  target_indirect a ea z e = rw (z, ← ea) e

module _ (b : Bank) (q : Cache) (k : MonadicMode) (v x : ℕ) (t : Journaled) where
  pub target_stack : k ≡ WordStack → (a : ℕ) → a ≡ stack_address (cpu b []) v → answer_of x ≡ good a → Valued b q x b (stack_target (cpu b q) k v) t t
  unfolding stack_target interpret
  target_stack z a ea e = rw (z, e, ea) (refl, λ h. refl)

  module _ (e : answer_of x ≡ good v) where
    pub target_immediate : k ≡ WordImmediate → Valued b q x b (stack_target (cpu b q) k v) t t
    unfolding stack_target interpret
    target_immediate z = rw (z, e) (refl, λ h. refl)

    pub target_flow1 : k ≡ FlowAbsoluteIndirect → Valued b q x b (stack_target (cpu b q) k v) t t
    unfolding stack_target interpret
    target_flow1 z = rw (z, e) (refl, λ h. refl)

    pub target_flow2 : k ≡ FlowStackIndirect → Valued b q x b (stack_target (cpu b q) k v) t t
    unfolding stack_target interpret
    target_flow2 z = rw (z, e) (refl, λ h. refl)

    pub target_flow3 : k ≡ FlowRelative → Valued b q x b (stack_target (cpu b q) k v) t t
    unfolding stack_target interpret
    target_flow3 z = rw (z, e) (refl, λ h. refl)

    pub target_flow4 : k ≡ FlowAbsolute → Valued b q x b (stack_target (cpu b q) k v) t t
    unfolding stack_target interpret
    target_flow4 z = rw (z, e) (refl, λ h. refl)

-- ---- a probe leaves memory and journal

module _ (g : Regime) (a : ℕ) where
  follow_kept : (m : Memory) (w : Walk) → (follow (probe g a) m w).world ≡ m
  unfolding follow touch
  follow_kept m (Fault c) = refl
  follow_kept m (Direct pa) = refl
  follow_kept m (Paged p pa) = refl

  note_kept : (m : Memory) (w : Walk) (j : Journal) → follow_note (probe g a) m w j ≡ j
  unfolding follow_note touch_note walk_note
  note_kept m (Fault c) j = refl
  note_kept m (Direct pa) j = refl
  note_kept m (Paged p pa) j = refl

  abbrev walked : Memory → Walk
  walked m = route (regime_of (probe g a)) (access_kind_of (probe g a)) (address_of (probe g a)) m

  access_kept : (m : Memory) → (access (probe g a) m).world ≡ m
  unfolding access
  access_kept m = go (aligned (probe g a))
    where
      go : (z : Bool) → (cond z (follow (probe g a) m (walked m)) (response (raised alignment_fault) m)).world ≡ m
      go true = follow_kept m (walked m)
      go false = refl

  journal_kept : (m : Memory) (j : Journal) → access_note (probe g a) m j ≡ j
  unfolding access_note
  journal_kept m j = go (aligned (probe g a))
    where
      go : (z : Bool) → cond z (follow_note (probe g a) m (walked m) j) j ≡ j
      go true = note_kept m (walked m) j
      go false = refl

  pub probed : (x : Answer) (m : Memory) (i : Journal) → response x (only_memory m) ≡ logging (probe g a) (only_memory m) → response x (journaled m i) ≡ logging (probe g a) (journaled m i)
  unfolding logging
  probed x m i e =
      rw (access_kept m, journal_kept m (journaled m i).log) (ap (λ (y : Answer). response y (journaled m i)) (ap (λ (z : Response Journaled Answer). z.out) e))

-- ---- checks

module _ (b : Bank) (q : Cache) (g : Regime) (a x : ℕ) (m : Memory) (i : Journal) (e : response (answer_of x) (only_memory m) ≡ logging (probe g a) (only_memory m)) where
  asked : response (replied (cpu b q) a (answer_of x)) (journaled m i) ≡ interpret logging (request (cpu b q) (probe g a) a) (journaled m i)
  asked = sym (requested (cpu b q) (answer_of x) (journaled m i) (journaled m i) (probe g a) a (probed g a (answer_of x) m i e))

  pub check_faulted : (s : Bank) → 2 ^ 32 ≤ x → s ≡ fault_bank b x a → Valued b q x s (request (cpu b q) (probe g a) a) (journaled m i) (journaled m i)
  check_faulted s h es = load_fault b q x a (request (cpu b q) (probe g a) a) (journaled m i) (journaled m i) asked s h es

  pub checked : x < 2 ^ 32 → Valued b q x b (request (cpu b q) (probe g a) a) (journaled m i) (journaled m i)
  checked h = load_done b q x a (request (cpu b q) (probe g a) a) (journaled m i) (journaled m i) asked h

module _ (b : Bank) (q : Cache) (a x : ℕ) (s : Bank) (t u : Journaled) where
  pub target_checked : (y z : Bool) → y ≡ is_user b → z ≡ is_virtual b → Valued b q x s (request (cpu b q) (probe (regime_for (get_or b 9 0) y z) a) a) t u → Valued b q x s (check_store (cpu b q) a) t u
  unfolding check_store
  target_checked y z ey ez e = rw (← ey, ← ez) e

  pub msp_checked : (g : Regime) (old : ℕ) → (a ≡ old → ⊥) → Valued b q x s (request (cpu b q) (probe g a) a) t u → Valued b q x s (check_msp (cpu b q) g old a) t u
  unfolding check_msp
  msp_checked g old h e = rw (ne_eqb a old h) e

pub msp_unchecked : (b : Bank) (q : Cache) (g : Regime) (old a x : ℕ) (t : Journaled) → a ≡ old → answer_of x ≡ good 0 → Valued b q x b (check_msp (cpu b q) g old a) t t
unfolding check_msp interpret
msp_unchecked b q g old a x t h e = rw (eq-eqb a old h, e) (refl, λ h. refl)
