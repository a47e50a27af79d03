-- Memory of bytes answers reads by words, and stays memory of bytes; what it raises are exceptions of a confined run.
-- Assumes nothing.
use Prim.Native.Nat.{ℕ, ◌+◌, ◌*◌, ◌/◌, ◌%◌, ◌^◌, ◌<◌}
use mathlib.Core.Path.{refl}
use mathlib.Core.Bool.{Bool, true, false, cond, ◌&&◌}
use native.Mathlib.Omega.{arith}
use lib.Dec.{eqb, leb}
use Rattle.word.proofs.CaseLaws.{either}
use Rattle.word.specs.declared.Width.{Width}
use Rattle.word.specs.declared.Width.TheVariants.{Byte, Half, Word}
use Rattle.word.specs.Widths.{bytes_of}
use Rattle.memory.specs.Exceptions.{alignment_fault, bus_fault}
use Rattle.memory.specs.Answers.{Answer, good, raised}
use Rattle.memory.specs.Bytes.{Memory, number, stored, holds, load, store_answer, store_memory}
use Rattle.mmu.specs.declared.AccessKind.{AccessKind}
use Rattle.mmu.specs.declared.AccessKind.TheVariants.{Fetch, Read, Write}
use Rattle.mmu.specs.declared.Segment.{Segment}
use Rattle.mmu.specs.declared.Segment.TheVariants.{Outside, Invalid, Nonpaged, Table}
use Rattle.mmu.specs.declared.Regime.{Regime}
use Rattle.mmu.specs.declared.Walk.{Walk}
use Rattle.mmu.specs.declared.Walk.TheVariants.{Fault, Direct, Paged}
use Rattle.mmu.specs.Walk.{fault_of, valid, permits, segment, nonpaged_of, page_of, walk_from, walk, route}
use Rattle.access_spec.specs.Access.{Access, fetch, read, write, probe, regime_of, access_kind_of, address_of, aligned, Response, response, touch, noted, fault_as, follow, access}
use Rattle.access_spec.specs.Program.{Program, interpret, plain}
use Rattle.access_spec.proofs.ByteLaws.{Bytes, number_lt, stored_bytes, noted_bytes}
use Rattle.machine.specs.Status.{Cpu}
use Rattle.step_spec.specs.Step.{step}
use Rattle.run_spec.specs.Run.{confined_attempt}
use Rattle.access_spec.proofs.BoundedLaws.{Any, interpret_keeps}
use Rattle.invariants.proofs.StepLaws.{Leaves}
use Rattle.invariants.proofs.RuleLaws.{ConfinedException, AnswerIn}
use Rattle.invariants.proofs.WordLaws.{Worded, Answering, step_worded, confined_worded}

number_word : (w : Width) (m : Memory) (a : ℕ) → Bytes m → number (bytes_of w) m a < 2 ^ 32
number_word Byte m a b = omega (arith, number_lt 1 m a b)
number_word Half m a b = omega (arith, number_lt 2 m a b)
number_word Word m a b = number_lt 4 m a b

-- ---- faults of a walk

abbrev WalkFaults : Walk → Type 0
WalkFaults (Fault c) = ConfinedException c
WalkFaults (Direct pa) = Unit
WalkFaults (Paged p pa) = Unit

fault_of_law : (k : AccessKind) → ConfinedException (fault_of k)
fault_of_law Fetch = refl
fault_of_law Read = refl
fault_of_law Write = refl

segment_faults : (user : Bool) (k : AccessKind) (va : ℕ) (m : Memory) (s : Segment) → WalkFaults (walk_from user k va m s)
unfolding walk_from nonpaged_of page_of
segment_faults user k va m Outside = refl
segment_faults user k va m Invalid = fault_of_law k
segment_faults user k va m (Nonpaged e) =
    either WalkFaults (leb (va / 0x1000 % 0x400) (e / 0x1000 % 0x400) && permits user k e) (Direct (e / 0x40_0000 * 0x40_0000 + va % 0x40_0000))
    (Fault (fault_of k)) tt (fault_of_law k)
segment_faults user k va m (Table p) =
    either WalkFaults (valid (number 4 m p) && permits user k (number 4 m p)) (Paged p (number 4 m p / 0x1000 * 0x1000 + va % 0x1000))
    (Fault (fault_of k)) tt (fault_of_law k)

route_faults : (r : Regime) (k : AccessKind) (va : ℕ) (m : Memory) → WalkFaults (route r k va m)
unfolding route walk
route_faults r k va m = either WalkFaults r.translated _ (Direct va) (segment_faults r.user k va m (segment r.stb va m)) tt

-- a probe answers a write that would fault as a read
as_fault : (q : Access) (c : ℕ) → ConfinedException c → ConfinedException (fault_as q c)
as_fault (fetch r a) c h = h
as_fault (read r w a) c h = h
as_fault (write r w a v) c h = h
as_fault (probe r a) c h = either ConfinedException (eqb c (fault_of Write)) (fault_of Read) c refl h

-- ---- one access, to memory of bytes where B holds

module _ (B : Type 0) where
  abbrev Good : Access → Response Memory Answer → Type 0
  Good q g = AnswerIn B ConfinedException q g.out × (B → Bytes g.world)

  touch_good : (q : Access) (pa : ℕ) (m : Memory) → (B → Bytes m) → Good q (touch q pa m)
  unfolding touch load store_answer store_memory
  touch_good (fetch r a) pa m b = (go (holds m pa 2), b)
    where
      go : (x : Bool) → AnswerIn B ConfinedException (fetch r a) (cond x (good (number 2 m pa)) (raised bus_fault))
      go true = λ _. tt
      go false = refl
  touch_good (read r w a) pa m b = (go (holds m pa (bytes_of w)), b)
    where
      go : (x : Bool) → AnswerIn B ConfinedException (read r w a) (cond x (good (number (bytes_of w) m pa)) (raised bus_fault))
      go true = λ t. number_word w m pa (b t)
      go false = refl
  touch_good (write r w a v) pa m b = go (holds m pa (bytes_of w))
    where
      go : (x : Bool) → AnswerIn B ConfinedException (write r w a v) (cond x (good 0) (raised bus_fault)) × (B → Bytes (cond x (stored (bytes_of w) m pa v) m))
      go true = ((λ _. tt), λ t. stored_bytes (bytes_of w) m pa v (b t))
      go false = (refl, b)
  touch_good (probe r a) pa m b = ((λ _. tt), b)

  follow_good : (q : Access) (m : Memory) (w : Walk) → WalkFaults w → (B → Bytes m) → Good q (follow q m w)
  unfolding follow
  follow_good q m (Fault c) f b = (as_fault q c f, b)
  follow_good q m (Direct pa) f b = touch_good q pa m b
  follow_good q m (Paged p pa) f b = touch_good q pa (noted q p m) (λ t. noted_bytes q p m (b t))

  access_good : (q : Access) (m : Memory) → (B → Bytes m) → Good q (access q m)
  unfolding access
  access_good q m b =
      either (Good q) (aligned q) _ (response (raised alignment_fault) m)
      (follow_good q m _ (route_faults (regime_of q) (access_kind_of q) (address_of q) m) b) (refl, b)

-- whatever the memory
pub plain_raises : (q : Access) (m : Memory) → AnswerIn ⊥ ConfinedException q (plain q m).out
plain_raises q m = (access_good ⊥ q m (λ b. absurd b)).0

pub plain_answers : Answering plain Bytes
plain_answers q m b = (go (plain q m).out g.0, g.1 tt)
  where
    g : Good Unit q (plain q m)
    g = access_good Unit q m (λ _. b)

    go : (r : Answer) → AnswerIn Unit ConfinedException q r → AnswerIn Unit Any q r
    go (good v) h = h
    go (raised e) h = tt

-- ---- a step and an attempt in such a memory

pub plain_bytes : {A : Type 0} (p : Program A) (m : Memory) → Bytes m → Bytes (interpret plain p m).world
plain_bytes p m b = interpret_keeps plain Bytes p m (λ q m b. (plain_answers q m b).1) b

pub step_words : (level : ℕ) (c : Cpu) (m : Memory) → Bytes m → Worded c → Worded (interpret plain (step level c) m).out.cpu
step_words level c m b h = step_worded plain Bytes plain_answers m b level c h

pub confined_words : (c : Cpu) (m : Memory) → Bytes m → Worded c → Leaves Worded (interpret plain (confined_attempt c) m).out
confined_words c m b h = confined_worded plain Bytes plain_answers m b c h
