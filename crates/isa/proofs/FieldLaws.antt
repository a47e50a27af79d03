-- The value of an operand field of one parcel, by its mode: it is a word, so a machine word holds it whole.
-- Assumes nothing.
use Prim.Native.Nat.{ℕ, ◌*◌, ◌%◌, ◌^◌, ◌<◌}
use mathlib.Core.Path.{◌≡◌, refl, ap, ◌∙◌}
use native.Mathlib.Nat.{mod-eq_of_lt}
use native.Mathlib.Omega.{arith}
use Rattle.word.proofs.WidthLaws.{sign_extend_lt}
use Rattle.isa.specs.declared.FieldMode.{FieldMode}
use Rattle.isa.specs.declared.FieldMode.TheVariants.{Absent, Imm5, Uimm5, Wai5, Stk5, Istk5, Imm10, Pcrel10, Stk8, Fill8}
use Rattle.isa.specs.Fields.{source_field, field_value}

-- every field of a mode is below this: five, eight or ten bits
abbrev field_size : FieldMode → ℕ
field_size Absent = 32
field_size Imm5 = 32
field_size Uimm5 = 32
field_size Wai5 = 32
field_size Stk5 = 32
field_size Istk5 = 32
field_size Imm10 = 1024
field_size Pcrel10 = 1024
field_size Stk8 = 256
field_size Fill8 = 256

source_small : (m : FieldMode) (p f : ℕ) → f ≡ source_field m p → f < field_size m
source_small Absent p f e = omega arith
source_small Imm5 p f e = omega arith
source_small Uimm5 p f e = omega arith
source_small Wai5 p f e = omega arith
source_small Stk5 p f e = omega arith
source_small Istk5 p f e = omega arith
source_small Imm10 p f e = omega arith
source_small Pcrel10 p f e = omega arith
source_small Stk8 p f e = omega arith
source_small Fill8 p f e = omega arith

-- ---- and their values are words

value_lt : (m : FieldMode) (f : ℕ) → f < field_size m → field_value m f < 2 ^ 32
value_lt Absent f h = omega arith
value_lt Imm5 f h = sign_extend_lt 5 f (omega arith)
value_lt Uimm5 f h = omega arith
value_lt Wai5 f h = omega arith
value_lt Stk5 f h = omega arith
value_lt Istk5 f h = omega arith
value_lt Imm10 f h = omega arith
value_lt Pcrel10 f h = sign_extend_lt 11 (f * 2) (omega arith)
value_lt Stk8 f h = omega arith
value_lt Fill8 f h = omega arith

-- the value of a field f, which is the field g
cut_value : (m : FieldMode) (f g r : ℕ) → f ≡ g → g < field_size m → r ≡ field_value m f % 2 ^ 32 → r ≡ field_value m g
cut_value m f g r e h k = k ∙ ap (λ (x : ℕ). field_value m x % 2 ^ 32) e ∙ mod-eq_of_lt {n = field_value m g} {m = 2 ^ 32} (value_lt m g h)

pub source_value_law : (m : FieldMode) (p f r : ℕ) → f ≡ source_field m p → r ≡ field_value m f % 2 ^ 32 → r ≡ field_value m (source_field m p)
source_value_law m p f r e k = cut_value m f (source_field m p) r e (source_small m p (source_field m p) refl) k
