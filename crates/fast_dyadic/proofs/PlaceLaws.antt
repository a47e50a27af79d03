-- Operands that are no registers, where no access to them faults or sets a bit.
-- Assumes nothing.
use Prim.Native.Nat.{ℕ, ◌%◌, ◌^◌, ◌<◌}
use mathlib.Core.Path.{◌≡◌, refl, sym, ap, ◌∙◌}
use mathlib.Core.Bool.{Bool, true, false}
use mathlib.Core.List.{[]}
use native.Mathlib.Omega.{arith}
use Rattle.word.specs.declared.Width.{Width}
use Rattle.word.specs.declared.Width.TheVariants.{Word}
use Rattle.isa.specs.declared.Mode.{Mode}
use Rattle.isa.specs.declared.Operand.TheVariants.{General}
use Rattle.isa.specs.declared.Wide.{Wide}
use Rattle.memory.specs.Answers.{good, answer_of}
use Rattle.memory.specs.Bytes.{Memory}
use Rattle.access_spec.specs.Access.{response}
use Rattle.access_spec.specs.Program.{interpret}
use Rattle.machine.specs.Registers.{Bank, word, config, pc}
use Rattle.machine.specs.Cache.{Cache}
use Rattle.machine.specs.Status.{cpu}
use Rattle.datapath.specs.Parts.{ok, done}
use Rattle.datapath.specs.Data.{read_data, write_data}
use Rattle.exec_spec.specs.Operands.{ModeKind, absolute, offset, indirect, constant, mode_kind, width_of, expanded, stack_address, in_memory, located, locate, read_place, write_place, absolute_on}
use Rattle.exec_alu.specs.declared.OperandKind.{OperandKind}
use Rattle.exec_alu.specs.declared.OperandKind.TheVariants as kind
use Rattle.exec_alu.specs.Modes.{kind_from}
use Rattle.exec_operands.specs.Code.{is_constant, general_at, place_at}
use Rattle.fast_dyadic.specs.Fast.{gives}
use Rattle.fast_dyadic.proofs.GiveLaws.{gives_then, gives_done, good_is}

module _ (b : Bank) (q : Cache) (wide : Wide) (mode : Mode) (v : ℕ) (m : Memory) (k : OperandKind) (e : kind_from k ≡ mode_kind mode) (x : ℕ) (h : x < 2 ^ 32) where
  by_kind : (z : ModeKind) → mode_kind mode ≡ z → gives (located (cpu b q) wide z mode v) m (general_at z mode v x) m → gives (locate (cpu b q) wide (General mode v)) m (place_at (General mode v) x) m
  unfolding locate
  by_kind z f g = rw f g

  pub address_absolute : k ≡ kind.Absolute → (a : ℕ) → a ≡ absolute_on (word b config) (word b pc) wide v → answer_of x ≡ good a → gives (locate (cpu b q) wide (General mode v)) m (place_at (General mode v) x) m
  unfolding located interpret
  address_absolute f a ea ex =
      by_kind absolute (sym e ∙ ap kind_from f) (ap (λ (n : ℕ). response (ok (in_memory mode n)) m) (sym ea ∙ good_is x a ex h))

  pub address_offset : k ≡ kind.Offset → (a : ℕ) → a ≡ stack_address (cpu b []) v → answer_of x ≡ good a → gives (locate (cpu b q) wide (General mode v)) m (place_at (General mode v) x) m
  unfolding located interpret
  address_offset f a ea ex = by_kind offset (sym e ∙ ap kind_from f) (ap (λ (n : ℕ). response (ok (in_memory mode n)) m) (sym ea ∙ good_is x a ex h))

  pub address_indirect : k ≡ kind.Indirect → (a : ℕ) → a ≡ stack_address (cpu b []) v → gives (read_data (cpu b q) Word a) m x m → gives (locate (cpu b q) wide (General mode v)) m (place_at (General mode v) x) m
  unfolding located
  address_indirect f a ea g =
      by_kind indirect (sym e ∙ ap kind_from f)
      (gives_then (read_data (cpu b q) Word (stack_address (cpu b q) v)) (λ n. done (in_memory mode n)) m m m x (in_memory mode x) (rw (← ea) g) (gives_done (done (in_memory mode x)) (in_memory mode x) refl m))

  pub address_constant : k ≡ kind.Constant → gives (locate (cpu b q) wide (General mode v)) m (place_at (General mode v) x) m
  unfolding located interpret
  address_constant f = by_kind constant (sym e ∙ ap kind_from f) refl

module _ (b : Bank) (q : Cache) (mode : Mode) (v a : ℕ) (m : Memory) (t : Bool) (e : t ≡ is_constant (mode_kind mode)) where
  pub value_constant : t ≡ true → (x : ℕ) → answer_of x ≡ good v → x < 2 ^ 32 → gives (read_place (cpu b q) (general_at (mode_kind mode) mode v a)) m x m
  unfolding read_place interpret
  value_constant f x ex h = rw (sym e ∙ f) (ap (λ (n : ℕ). response (ok n) m) (good_is x v ex h))

  pub value_read : t ≡ false → (w : Width) → w ≡ width_of mode → (x : ℕ) → gives (read_data (cpu b q) w a) m x m → (l n y : ℕ) → l ≡ x % 2 ^ 32 → x < 2 ^ 32 → n ≡ expanded mode l → answer_of y ≡ good n → y < 2 ^ 32
      → gives (read_place (cpu b q) (general_at (mode_kind mode) mode v a)) m y m
  unfolding read_place
  value_read f w ew x g l n y el hx en ey hy =
      rw (sym e ∙ f) (gives_then (read_data (cpu b q) (width_of mode) a) (λ z. done (expanded mode z)) m m m x y (rw (← ew) g) (gives_done (done (expanded mode x)) y (ap (λ (z : ℕ). done z) same) m))
    where
      same : expanded mode x ≡ y
      same = let i : x % 2 ^ 32 ≡ x = omega arith in ap (expanded mode) (sym (el ∙ i)) ∙ sym en ∙ good_is y n ey hy

  pub put_constant : t ≡ true → (x : ℕ) → gives (write_place (cpu b q) (general_at (mode_kind mode) mode v a) x) m (cpu b q) m
  unfolding write_place interpret
  put_constant f x = rw (sym e ∙ f) refl

  pub put_stored : t ≡ false → (w : Width) → w ≡ width_of mode → (x : ℕ) (s : Cache) (n : Memory) → gives (write_data (cpu b q) w a x) m (cpu b s) n
      → gives (write_place (cpu b q) (general_at (mode_kind mode) mode v a) x) m (cpu b s) n
  unfolding write_place
  put_stored f w ew x s n g = rw (sym e ∙ f) (rw (← ew) g)
