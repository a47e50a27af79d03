-- What is left of an instruction of two operands once its source is read.
-- Assumes nothing.
use Prim.Native.Nat.{ℕ, ◌%◌, ◌^◌, ◌<◌}
use mathlib.Core.Path.{◌≡◌, refl, sym, ap, ◌∙◌}
use mathlib.Core.Bool.{Bool, true, false, ◌&&◌}
use mathlib.Core.List.{[]}
use native.Mathlib.Omega.{arith}
use lib.Dec.{eqb}
use Rattle.word.specs.declared.Width.TheVariants.{Word}
use Rattle.isa.specs.declared.Mode.{Mode}
use Rattle.isa.specs.declared.Operand.TheVariants.{General}
use Rattle.isa.specs.declared.Wide.{Wide}
use Rattle.memory.specs.Bytes.{Memory}
use Rattle.machine.specs.Registers.{Bank}
use Rattle.machine.specs.Cache.{Cache}
use Rattle.machine.specs.Status.{Cpu, cpu}
use Rattle.datapath.specs.Parts.{done}
use Rattle.datapath.specs.Data.{write_data}
use Rattle.exec_spec.specs.declared.Operation.{Operation}
use Rattle.exec_spec.specs.declared.Relation.{Relation}
use Rattle.exec_spec.specs.declared.Task.{Task}
use Rattle.exec_spec.specs.declared.Task.TheVariants.{Compute, Accumulate, Compare, Move}
use Rattle.exec_spec.specs.Alu.{Result, operate, divides, related, with_flags, with_flag}
use Rattle.exec_spec.specs.Operands.{mode_kind, stack_address, Place, locate, read_place, write_place, write_accumulator}
use Rattle.exec_spec.specs.Dyadic.{check_divisor, put_result, accumulate_result, compute_with, accumulate_with}
use Rattle.exec_operands.specs.Code.{general_at, place_at}
use Rattle.exec_alu.specs.Results.{unpacked}
use Rattle.step_spec.specs.Step.{holds_stack}
use Rattle.fast_dyadic.specs.Fast.{gives, is_fast, compute_at, accumulate_at, compare_at, after_source}
use Rattle.fast_dyadic.proofs.GiveLaws.{gives_then, gives_done}

-- ---- with a destination at the place p, whose word is y

module _ (b : Bank) (q : Cache) (p : Place) (x y : ℕ) (m : Memory) (g : gives (read_place (cpu b q) p) m y m) (ly : y < 2 ^ 32) (l : ℕ) (el : l ≡ y % 2 ^ 32) where
  whole : l ≡ y
  whole = let i : y % 2 ^ 32 ≡ y = omega arith in el ∙ i

  pub compared : (r : Relation) (t : Bool) → t ≡ related r x l → (e : Bank) → ((s : Cache) → cpu e s ≡ with_flag (cpu b s) t) → gives (compare_at (cpu b q) r p x) m (cpu e q) m
  compared r t et e f =
      gives_then (read_place (cpu b q) p) (λ n. done (with_flag (cpu b q) (related r x n))) m m m y (cpu e q) g
      (gives_done (done (with_flag (cpu b q) (related r x y))) (cpu e q) (ap (λ (c : Cpu). done c) (ap (λ (n : ℕ). with_flag (cpu b q) (related r x n)) (sym whole) ∙ ap (with_flag (cpu b q)) (sym et) ∙ sym (f q))) m)

  module _ (op : Operation) (u : Bool) (eu : u ≡ divides op) (z : Bool) (ez : z ≡ (u && eqb x 0)) (h : z ≡ false) (n : ℕ) (en : unpacked n ≡ operate op l x) (v : ℕ) (ev : v ≡ (unpacked n).value) (k : Memory) (s : Cache)
      (e : Bank) (f : (j : Cache) → cpu e j ≡ with_flags (cpu b j) (unpacked n).carry (unpacked n).overflow) where
    checked : check_divisor (cpu b q) op x ≡ done (cpu b q)
    unfolding check_divisor
    checked = rw (ap (λ (j : Bool). j && eqb x 0) (sym eu) ∙ sym ez ∙ h) refl

    result_is : unpacked n ≡ operate op y x
    result_is = en ∙ ap (λ (j : ℕ). operate op j x) whole

    value_is : (operate op y x).value ≡ v
    value_is = ap (λ (r : Result). r.value) (sym result_is) ∙ sym ev

    flagged_as : gives (done (with_flags (cpu b s) (operate op y x).carry (operate op y x).overflow)) k (cpu e s) k
    flagged_as =
        gives_done (done (with_flags (cpu b s) (operate op y x).carry (operate op y x).overflow)) (cpu e s) (ap (λ (c : Cpu). done c) (ap (λ (r : Result). with_flags (cpu b s) r.carry r.overflow) (sym result_is) ∙ sym (f s))) k

    pub computed : gives (write_place (cpu b q) p v) m (cpu b s) k → gives (compute_at (cpu b q) op p x) m (cpu e s) k
    computed w =
        gives_then (read_place (cpu b q) p) (λ j. compute_with (cpu b q) op p x j) m m k y (cpu e s) g
        (gives_then (check_divisor (cpu b q) op x) (λ c. put_result c p (operate op y x)) m m k (cpu b q) (cpu e s) (gives_done (check_divisor (cpu b q) op x) (cpu b q) checked m)
        (gives_then (write_place (cpu b q) p (operate op y x).value) (λ c. done (with_flags c (operate op y x).carry (operate op y x).overflow)) m k k (cpu b s) (cpu e s) (rw value_is w) flagged_as))

    pub accumulated : (a : ℕ) → a ≡ stack_address (cpu b []) 4 → gives (write_data (cpu b q) Word a v) m (cpu b s) k → gives (accumulate_at (cpu b q) op p x) m (cpu e s) k
    unfolding write_accumulator
    accumulated a ea w =
        gives_then (read_place (cpu b q) p) (λ j. accumulate_with (cpu b q) op x j) m m k y (cpu e s) g
        (gives_then (check_divisor (cpu b q) op x) (λ c. accumulate_result c (operate op y x)) m m k (cpu b q) (cpu e s) (gives_done (check_divisor (cpu b q) op x) (cpu b q) checked m)
        (gives_then (write_accumulator (cpu b q) (operate op y x).value) (λ c. done (with_flags c (operate op y x).carry (operate op y x).overflow)) m k k (cpu b s) (cpu e s) (rw (value_is, ← ea) w) flagged_as))

-- ---- with a destination found at a

module _ (b e : Bank) (q s : Cache) (w : Wide) (mode : Mode) (d x : ℕ) (m n : Memory) (k : ℕ) (g : gives (locate (cpu b q) w (General mode d)) m (place_at (General mode d) k) m) (lk : k < 2 ^ 32) (a : ℕ) (ea : a ≡ k % 2 ^ 32)
    (t : Task) (hold : holds_stack (cpu e s) ≡ holds_stack (cpu b q)) where
  found : gives (locate (cpu b q) w (General mode d)) m (general_at (mode_kind mode) mode d a) m
  found = let i : k % 2 ^ 32 ≡ k = omega arith in rw (ea ∙ i) g

  abbrev InstructionDone : Type 0
  InstructionDone = (is_fast t ≡ true) × gives (after_source (cpu b q) w t (General mode d) x) m (cpu e s) n × (holds_stack (cpu e s) ≡ holds_stack (cpu b q))

  fast : (u : Task) → t ≡ u → is_fast u ≡ true → gives (after_source (cpu b q) w u (General mode d) x) m (cpu e s) n → InstructionDone
  fast u same h i = rw same (h, i, hold)

  pub computes : (op : Operation) → t ≡ Compute op → gives (compute_at (cpu b q) op (general_at (mode_kind mode) mode d a) x) m (cpu e s) n → InstructionDone
  computes op same h =
      fast (Compute op) same refl (gives_then (locate (cpu b q) w (General mode d)) (λ p. compute_at (cpu b q) op p x) m m n (general_at (mode_kind mode) mode d a) (cpu e s) found h)

  pub accumulates : (op : Operation) → t ≡ Accumulate op → gives (accumulate_at (cpu b q) op (general_at (mode_kind mode) mode d a) x) m (cpu e s) n → InstructionDone
  accumulates op same h =
      fast (Accumulate op) same refl (gives_then (locate (cpu b q) w (General mode d)) (λ p. accumulate_at (cpu b q) op p x) m m n (general_at (mode_kind mode) mode d a) (cpu e s) found h)

  pub compares : (r : Relation) → t ≡ Compare r → gives (compare_at (cpu b q) r (general_at (mode_kind mode) mode d a) x) m (cpu e s) n → InstructionDone
  compares r same h =
      fast (Compare r) same refl (gives_then (locate (cpu b q) w (General mode d)) (λ p. compare_at (cpu b q) r p x) m m n (general_at (mode_kind mode) mode d a) (cpu e s) found h)

  pub moves : t ≡ Move → gives (write_place (cpu b q) (general_at (mode_kind mode) mode d a) x) m (cpu e s) n → InstructionDone
  moves same h = fast Move same refl (gives_then (locate (cpu b q) w (General mode d)) (λ p. write_place (cpu b q) p x) m m n (general_at (mode_kind mode) mode d a) (cpu e s) found h)
