-- The shape of a dyadic's answer depends on opcode, prefix and modes alone, and what five parcels say on the operands that three say.
-- Assumes nothing.
use Prim.Native.Nat.{ℕ, ◌/◌, ◌%◌}
use mathlib.Core.Path.{◌≡◌, refl, sym}
use mathlib.Core.Bool.{Bool, true, false, cond, not, ◌&&◌, ◌||◌}
use Rattle.isa.specs.declared.Mode.{Mode}
use Rattle.isa.specs.declared.ModeEntry.{ModeEntry}
use Rattle.isa.specs.declared.ModeEntry.TheVariants as mode
use Rattle.isa.specs.declared.Operand.{Operand}
use Rattle.isa.specs.declared.Operand.TheVariants as operand
use Rattle.isa.specs.declared.Wide.{Wide}
use Rattle.isa.specs.declared.Wide.TheVariants.{Three, Five}
use Rattle.isa.specs.declared.Rule.{Rule}
use Rattle.isa.specs.declared.Rule.TheVariants.{OneRegister, AnyTwo, Address, Multiple}
use Rattle.isa.specs.declared.Entry.TheVariants as entry
use Rattle.isa.specs.Answers.{unimplemented_vector, Decoded}
use Rattle.isa.specs.Tables.{dyadic_of, DyadicEntry}
use Rattle.isa.specs.Legal.{word_in_memory, constant, double_word, is_register, of_mode, legal_of}
use Rattle.isa.specs.Decode.{operand_found, mode_entry, dyadic_answer, both_found, decode_dyadic}
use Rattle.form_bit.specs.Shapes.{mode_of, Shape, dyadic_shape, illegal_shape, unimplemented_shape, shape_of, at_five, Extends}
use Rattle.std.specs.Prelude.{Option, Some, None}

-- ---- shapes

-- legality looks at modes, and not at values
abbrev is_register_mode : ModeEntry → Bool
is_register_mode (mode.General m) = false
is_register_mode mode.Register = true
is_register_mode mode.Unlisted = false

abbrev is_mode : (Mode → Bool) → ModeEntry → Bool
is_mode f (mode.General m) = f m
is_mode f mode.Register = false
is_mode f mode.Unlisted = false

abbrev legal_modes : Rule → ModeEntry → ModeEntry → Bool
legal_modes OneRegister a b = not (is_register_mode a && is_register_mode b)
legal_modes AnyTwo a b = true
legal_modes Address a b = is_mode word_in_memory a && not (is_register_mode b)
legal_modes Multiple a b = is_mode (λ m. word_in_memory m || constant m) a && is_mode (λ m. word_in_memory m || double_word m) b

register_mode_law : (s : Operand) → is_register s ≡ is_register_mode (mode_of s)
register_mode_law (operand.General m v) = refl
register_mode_law (operand.Register n) = refl

of_mode_law : (f : Mode → Bool) (s : Operand) → of_mode f s ≡ is_mode f (mode_of s)
of_mode_law f (operand.General m v) = refl
of_mode_law f (operand.Register n) = refl

legal_by_modes : (u : Rule) (s d : Operand) → legal_of u s d ≡ legal_modes u (mode_of s) (mode_of d)
legal_by_modes OneRegister s d = rw (register_mode_law s, register_mode_law d) refl
legal_by_modes AnyTwo s d = refl
legal_by_modes Address s d = rw (of_mode_law word_in_memory s, register_mode_law d) refl
legal_by_modes Multiple s d = rw (of_mode_law (λ m. word_in_memory m || constant m) s, of_mode_law (λ m. word_in_memory m || double_word m) d) refl

-- what is made of a choice is chosen from what is made of its two sides
pub of_choice : {A : Type 0} (f : Decoded → A) (c : Bool) (x y : Decoded) → f (cond c x y) ≡ cond c (f x) (f y)
of_choice f true x y = refl
of_choice f false x y = refl

-- the shape by the modes of both operands
abbrev shape_with : DyadicEntry → Bool → ModeEntry → ModeEntry → Shape
shape_with (entry.Row r u) pre a b = cond (legal_modes u a b) (dyadic_shape r pre a b) illegal_shape
shape_with entry.Unimplemented pre a b = cond (legal_modes OneRegister a b) (unimplemented_shape unimplemented_vector) illegal_shape
shape_with entry.Unlisted pre a b = illegal_shape

answer_shape : (e : DyadicEntry) (w : Wide) (pre : Bool) (s d : Operand) → shape_of (dyadic_answer e w pre s d) ≡ shape_with e pre (mode_of s) (mode_of d)
answer_shape (entry.Row r u) w pre s d = rw (legal_by_modes u s d) (of_choice shape_of (legal_modes u (mode_of s) (mode_of d)) _ _)
answer_shape entry.Unimplemented w pre s d = rw (legal_by_modes OneRegister s d) (of_choice shape_of (legal_modes OneRegister (mode_of s) (mode_of d)) _ _)
answer_shape entry.Unlisted w pre s d = refl

-- the shape by what both modes' numbers name: no form, no field
abbrev is_named : ModeEntry → Bool
is_named (mode.General m) = true
is_named mode.Register = true
is_named mode.Unlisted = false

abbrev shape_named : DyadicEntry → Bool → ModeEntry → ModeEntry → Shape
shape_named e pre a b = cond (is_named a && is_named b) (shape_with e pre a b) illegal_shape

both_shape : (e : DyadicEntry) (w : Wide) (pre : Bool) (a b : ModeEntry) (x y : ℕ)
    → shape_of (both_found e w pre (operand_found w a x) (operand_found w b y)) ≡ shape_named e pre a b
both_shape e w pre mode.Unlisted (mode.General n) x y = refl
both_shape e w pre mode.Unlisted mode.Register x y = refl
both_shape e w pre mode.Unlisted mode.Unlisted x y = refl
both_shape e w pre (mode.General m) (mode.General n) x y = answer_shape e w pre _ _
both_shape e w pre (mode.General m) mode.Register x y = answer_shape e w pre _ _
both_shape e w pre (mode.General m) mode.Unlisted x y = refl
both_shape e w pre mode.Register (mode.General n) x y = answer_shape e w pre _ _
both_shape e w pre mode.Register mode.Register x y = answer_shape e w pre _ _
both_shape e w pre mode.Register mode.Unlisted x y = refl

-- two parcels have the same opcode and the same two modes
abbrev pub SameBits : ℕ → ℕ → Type 0
SameBits p q = (p / 256 % 64 ≡ q / 256 % 64) × (p / 16 % 16 ≡ q / 16 % 16) × (p % 16 ≡ q % 16)

-- by the bits of the parcel p below the form's
abbrev pub shape_at : Bool → ℕ → Shape
shape_at pre q = shape_named (dyadic_of (q / 256 % 64)) pre (mode_entry pre (q / 16 % 16)) (mode_entry pre (q % 16))

pub dyadic_shape_law : (w : Wide) (pre : Bool) (p q x y : ℕ) → SameBits p q → shape_of (decode_dyadic w pre p x y) ≡ shape_at pre q
unfolding decode_dyadic
dyadic_shape_law w pre p q x y (k, s, d) = rw (k, s, d) (both_shape (dyadic_of (q / 256 % 64)) w pre (mode_entry pre (q / 16 % 16)) (mode_entry pre (q % 16)) x y)

-- ---- the same at five

found_extended : (a : ModeEntry) (x y : ℕ) → Extends a x y → operand_found Five a y ≡ operand_found Three a x
found_extended (mode.General m) x y e = rw e refl
found_extended mode.Register x y e = rw e refl
found_extended mode.Unlisted x y e = refl

answer_five_law : (e : DyadicEntry) (pre : Bool) (s d : Operand) → dyadic_answer e Five pre s d ≡ at_five (dyadic_answer e Three pre s d)
answer_five_law (entry.Row r u) pre s d = sym (of_choice at_five (legal_of u s d) _ _)
answer_five_law entry.Unimplemented pre s d = sym (of_choice at_five (legal_of OneRegister s d) _ _)
answer_five_law entry.Unlisted pre s d = refl

both_five : (e : DyadicEntry) (pre : Bool) (f g : Option Operand) → both_found e Five pre f g ≡ at_five (both_found e Three pre f g)
both_five e pre (Some s) (Some d) = answer_five_law e pre s d
both_five e pre (Some s) None = refl
both_five e pre None (Some d) = refl
both_five e pre None None = refl

-- p in three parcels with the fields x and y, r in five with v and z
pub dyadic_five : (pre : Bool) (p r q x y v z : ℕ) → SameBits p q → SameBits r q
    → Extends (mode_entry pre (q / 16 % 16)) x v → Extends (mode_entry pre (q % 16)) y z
    → decode_dyadic Five pre r v z ≡ at_five (decode_dyadic Three pre p x y)
unfolding decode_dyadic
dyadic_five pre p r q x y v z (k, s, d) (l, f, g) ev ez =
    let a = mode_entry pre (q / 16 % 16) in
    let b = mode_entry pre (q % 16) in
    rw (k, s, d, l, f, g, found_extended a x v ev, found_extended b y z ez)
    (both_five (dyadic_of (q / 256 % 64)) pre (operand_found Three a x) (operand_found Three b y))
