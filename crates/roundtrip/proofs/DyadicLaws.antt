-- Dyadics of three and five parcels: what the encoder gives decodes to the same instruction, and back.
-- Assumes nothing.
use Prim.Native.Nat.{ℕ, ◌+◌, ◌*◌, ◌/◌, ◌%◌, ◌<◌, ◌≤◌}
use mathlib.Core.Path.{◌≡◌, refl, sym, ap, subst, ◌∙◌}
use mathlib.Core.Bool.{Bool, true, ◌&&◌}
use native.Mathlib.Nat.{mod-eq_of_lt, mod-mod, div-div-eq-div-mul}
use native.Mathlib.Omega.{arith}
use borrow.Author.Tests.{ltb-true, lt-ltb, eq-eqb}
use lib.Dec.{ltb, eqb, lit≤}
use Rattle.word.proofs.CaseLaws.{by_test, and_left, and_right}
use Rattle.word.specs.Widths.{sign_extend_of}
use Rattle.word.proofs.WidthLaws.{truncate_sign_extend}
use Rattle.isa.specs.declared.Mode.{Mode}
use Rattle.isa.specs.declared.Mode.TheVariants.{AbsoluteByte, AbsoluteUbyte, AbsoluteHalf, AbsoluteUhalf, StackByte, StackUbyte, StackHalf, StackUhalf, IndirectByte, IndirectUbyte, IndirectHalf, IndirectUhalf, AbsoluteWord, StackWord, IndirectWord, Immediate}
use Rattle.isa.specs.declared.ModeEntry.{ModeEntry}
use Rattle.isa.specs.declared.ModeEntry.TheVariants as mode
use Rattle.isa.specs.declared.Operand.{Operand}
use Rattle.isa.specs.declared.Operand.TheVariants.{General, Register}
use Rattle.isa.specs.declared.Wide.{Wide}
use Rattle.isa.specs.declared.Wide.TheVariants.{Three, Five}
use Rattle.isa.specs.declared.Entry.TheVariants as entry
use Rattle.isa.specs.declared.DyadicInstruction.{DyadicInstruction}
use Rattle.isa.specs.declared.Instruction.{Instruction}
use Rattle.isa.specs.declared.Instruction.TheVariants as instruction
use Rattle.isa.specs.declared.Undecoded.TheVariants.{Illegal, Unimplemented}
use Rattle.isa.specs.declared.Text.{Text}
use Rattle.isa.specs.declared.Rule.TheVariants.{OneRegister}
use Rattle.isa.specs.Lengths.{wide_length, prefix_length, length_of}
use Rattle.isa.specs.Answers.{unimplemented_vector, with_length}
use Rattle.isa.proofs.AnswerLaws.{same_instruction}
use Rattle.isa.specs.Tables.{dyadic_of, DyadicEntry}
use Rattle.isa.specs.Legal.{legal_of}
use Rattle.isa.specs.Decode.{operand_value, operand_found, mode_entry, both_found, decode_dyadic}
use Rattle.isa.specs.Encodings.{dyadic_listed}
use Rattle.isa.specs.Encode.{with_prefix, operand_code, has_mode, fits, admits, operand_raw, dyadic_text, dyadic_has_code, encode_dyadic, encode_any}
use Rattle.roundtrip.specs.Unused.{register_clear}
use Rattle.isa.proofs.BoundLaws.{opcode_lt, operand_lt}
use Rattle.roundtrip.proofs.DyadicTableLaws.{field_of, operand_back, rule_of, same_rule, row_back, RowThere, row_there, ModeThere, mode_there}
use Rattle.std.specs.Prelude.{Option, Some, None, Err}

-- ---- the first parcel

abbrev pub top_of : Wide → ℕ
top_of Three = 0x8000
top_of Five = 0xC000

abbrev pub first_of : Wide → ℕ → ℕ → ℕ → ℕ
first_of w o s d = top_of w + o * 256 + s * 16 + d

record Cut (p o s d : ℕ) : Type 0 where
  opcode : p / 256 % 64 ≡ o
  source : p / 16 % 16 ≡ s
  destination : p % 16 ≡ d

cut : (w : Wide) (o s d : ℕ) → o < 64 → s < 16 → d < 16 → Cut (first_of w o s d) o s d
cut Three o s d ho hs hd = record { opcode = omega arith; source = omega arith; destination = omega arith }
cut Five o s d ho hs hd = record { opcode = omega arith; source = omega arith; destination = omega arith }

pub whole : (w : Wide) (p : ℕ) → top_of w ≤ p → p < top_of w + 0x4000 → first_of w (p / 256 % 64) (p / 16 % 16) (p % 16) ≡ p
whole Three p h k =
    let a : p / 256 ≡ 0x80 + p / 256 % 64 = omega arith in
    let b : p / 16 ≡ p / 256 * 16 + p / 16 % 16 = omega (arith, div-div-eq-div-mul p 16 16) in
    omega arith
whole Five p h k =
    let a : p / 256 ≡ 0xC0 + p / 256 % 64 = omega arith in
    let b : p / 16 ≡ p / 256 * 16 + p / 16 % 16 = omega (arith, div-div-eq-div-mul p 16 16) in
    omega arith

-- ---- encode, then decode

module _ (i : DyadicInstruction) (h : dyadic_has_code i ≡ true) where
  has_modes : (has_mode i.prefix i.source && has_mode i.prefix i.destination
      && fits i.wide i.source && fits i.wide i.destination) ≡ true
  has_modes = and_left _ (admits (dyadic_listed i.row).operands i.source i.destination) h

  is_legal_law : legal_of (rule_of (dyadic_listed i.row).operands) i.source i.destination ≡ true
  is_legal_law =
      sym (same_rule (dyadic_listed i.row).operands i.source i.destination)
      ∙ and_right (has_mode i.prefix i.source && has_mode i.prefix i.destination && fits i.wide i.source && fits i.wide i.destination) _ h

  pub dyadic_back : decode_dyadic i.wide i.prefix
      (first_of i.wide (dyadic_listed i.row).opcode (operand_code i.source) (operand_code i.destination))
      (field_of i.wide (operand_raw i.source)) (field_of i.wide (operand_raw i.destination))
      ≡ with_length (instruction.Dyadic i)
  unfolding decode_dyadic
  dyadic_back =
      let w = i.wide in
      let pre = i.prefix in
      let c : Cut _ _ _ _ = cut w (dyadic_listed i.row).opcode (operand_code i.source) (operand_code i.destination)
      (opcode_lt i.row) (operand_lt i.source) (operand_lt i.destination) in
      let three = and_left _ (fits w i.destination) has_modes in
      let two = and_left _ (fits w i.source) three in
      let s = operand_back pre w i.source (and_left _ (has_mode pre i.destination) two) (and_right (has_mode pre i.source && has_mode pre i.destination) _ three) in
      let d = operand_back pre w i.destination (and_right (has_mode pre i.source) _ two) (and_right (has_mode pre i.source && has_mode pre i.destination && fits w i.source) _ has_modes) in
      rw (c.opcode, c.source, c.destination, row_back i.row, s, d, is_legal_law) refl

-- ---- decode, then encode

abbrev pub limit_of : Wide → ℕ
limit_of Three = 0x1_0000
limit_of Five = 0x1_0000_0000

-- what an operand that was found says of its mode and its field
record Found (w : Wide) (pre : Bool) (q : Operand) (k x : ℕ) : Type 0 where
  code : operand_code q ≡ k
  mode : has_mode pre q ≡ true
  fit : fits w q ≡ true
  field : field_of w (operand_raw q) ≡ x

record Valued (w : Wide) (m : Mode) (x : ℕ) : Type 0 where
  fit : fits w (General m (operand_value w m x)) ≡ true
  field : field_of w (operand_value w m x) ≡ x

kept : (m : Mode) (x : ℕ) → x < 0x1_0000 → fits Three (General m x) ≡ ltb x 0x1_0000 → operand_value Three m x ≡ x → Valued Three m x
kept m x h e f =
    record {
      fit = ap (λ (n : ℕ). fits Three (General m n)) f ∙ e ∙ lt-ltb x 0x1_0000 h;
      field = ap (λ (n : ℕ). n % 65536) f ∙ mod-eq_of_lt {n = x} {m = 65536} h;
    }

extended_low : (x : ℕ) → x < 0x1_0000 → sign_extend_of 16 x % 65536 ≡ x
extended_low x h = truncate_sign_extend 16 x (lit≤ tt) ∙ mod-eq_of_lt {n = x} {m = 65536} h

grown : (m : Mode) (x : ℕ) → x < 0x1_0000 → ((n : ℕ) → fits Three (General m n) ≡ eqb (sign_extend_of 16 (n % 65536)) n) → operand_value Three m x ≡ sign_extend_of 16 x → Valued Three m x
grown m x h e f =
    record {
      fit = ap (λ (n : ℕ). fits Three (General m n)) f ∙ e (sign_extend_of 16 x) ∙ eq-eqb _ _ (ap (sign_extend_of 16) (extended_low x h));
      field = ap (λ (n : ℕ). n % 65536) f ∙ extended_low x h;
    }

valued : (w : Wide) (m : Mode) (x : ℕ) → x < limit_of w → Valued w m x
valued Three AbsoluteByte x h = kept AbsoluteByte x h refl refl
valued Three AbsoluteUbyte x h = kept AbsoluteUbyte x h refl refl
valued Three AbsoluteHalf x h = kept AbsoluteHalf x h refl refl
valued Three AbsoluteUhalf x h = kept AbsoluteUhalf x h refl refl
valued Three StackByte x h = grown StackByte x h (λ n. refl) refl
valued Three StackUbyte x h = grown StackUbyte x h (λ n. refl) refl
valued Three StackHalf x h = grown StackHalf x h (λ n. refl) refl
valued Three StackUhalf x h = grown StackUhalf x h (λ n. refl) refl
valued Three IndirectByte x h = grown IndirectByte x h (λ n. refl) refl
valued Three IndirectUbyte x h = grown IndirectUbyte x h (λ n. refl) refl
valued Three IndirectHalf x h = grown IndirectHalf x h (λ n. refl) refl
valued Three IndirectUhalf x h = grown IndirectUhalf x h (λ n. refl) refl
valued Three AbsoluteWord x h = kept AbsoluteWord x h refl refl
valued Three StackWord x h = grown StackWord x h (λ n. refl) refl
valued Three IndirectWord x h = grown IndirectWord x h (λ n. refl) refl
valued Three Immediate x h = grown Immediate x h (λ n. refl) refl
valued Five m x h = record { fit = refl; field = refl }

clear_register : (pre : Bool) (k x : ℕ) → pre ≡ true → 0x7 ≡ k → (pre ≡ true → register_clear k x ≡ true) → x < 16
clear_register pre k x e f h = ltb-true x 16 (sym (ap (λ (n : ℕ). register_clear n x) (sym f)) ∙ h e)

number_field : (w : Wide) (x : ℕ) → x < 16 → field_of w (x % 16) ≡ x
number_field Three x h = omega arith
number_field Five x h = omega arith

operand_there : (w : Wide) (pre : Bool) (e : ModeEntry) (k x : ℕ) (q : Operand) → ModeThere pre e k → x < limit_of w
    → (pre ≡ true → register_clear k x ≡ true) → operand_found w e x ≡ Some q → Found w pre q k x
operand_there w pre (mode.General m) k x q t l c e =
    let r : General m (operand_value w m x) ≡ q = cc in
    let v = valued w m x l in
    subst (λ (a : Operand). Found w pre a k x) r (record { code = t.0; mode = t.1 _; fit = v.fit; field = v.field })
operand_there w pre mode.Register k x q t l c e =
    let r : Register (x % 16) ≡ q = cc in
    let s = clear_register pre k x t.1 t.0 c in
    subst (λ (a : Operand). Found w pre a k x) r
    (record {
      code = t.0;
      mode = ap (λ (b : Bool). has_mode b (Register (x % 16))) t.1;
      fit = lt-ltb (x % 16) 16 (omega arith);
      field = number_field w x s;
    })
operand_there w pre mode.Unlisted k x q t l c e = let z : ◌≡◌ {A = ℕ} 0 1 = cc in absurd (omega arith)

same_text : (w : Wide) (o s d a b x y : ℕ) → field_of w a ≡ x → field_of w b ≡ y → dyadic_text w o s d a b ≡ dyadic_text w o s d x y
same_text Three o s d a b x y e f =
    let e' : a % 65536 ≡ x % 65536 = sym (mod-mod a 65536) ∙ ap (λ (n : ℕ). n % 65536) e in
    let f' : b % 65536 ≡ y % 65536 = sym (mod-mod b 65536) ∙ ap (λ (n : ℕ). n % 65536) f in
    rw (e', f') refl
same_text Five o s d a b x y e f = rw (e, f) refl

-- the encoding of what was decoded: the same opcode, modes and fields
pub record Encodes (w : Wide) (pre : Bool) (o s d x y : ℕ) (j : Instruction) : Type 0 where
  pub parcels : encode_any j ≡ Some (with_prefix pre (dyadic_text w o s d x y))
  pub length : length_of j ≡ wide_length w + prefix_length pre

module _ (w : Wide) (pre : Bool) (o s d x y : ℕ) where
  row_encodes : (i : DyadicInstruction) → i.wide ≡ w → i.prefix ≡ pre → (dyadic_listed i.row).opcode ≡ o
      → Found w pre i.source s x → Found w pre i.destination d y
      → admits (dyadic_listed i.row).operands i.source i.destination ≡ true → Encodes w pre o s d x y (instruction.Dyadic i)
  unfolding encode_dyadic
  row_encodes i ew ep eo fs fd ea =
      record {
        parcels =
            rw (ew, ep, fs.mode, fd.mode, fs.fit, fd.fit, ea, eo, fs.code, fd.code)
            (ap (λ (t : Text). Some (with_prefix pre t)) (same_text w o s d _ _ x y fs.field fd.field));
        length = rw (ew, ep) refl;
      }

  dyadic_there : (e : DyadicEntry) (fs fd : Option Operand) (j : Instruction) → RowThere e o
      → ((q : Operand) → fs ≡ Some q → Found w pre q s x) → ((q : Operand) → fd ≡ Some q → Found w pre q d y)
      → both_found e w pre fs fd ≡ with_length j → Encodes w pre o s d x y j
  dyadic_there (entry.Row r u) (Some a) (Some b) j t hs hd e =
      by_test (legal_of u a b)
      (λ l.
      let i : DyadicInstruction = record { row = r; wide = w; prefix = pre; source = a; destination = b } in
      let q : with_length (instruction.Dyadic i) ≡ with_length j = simp l at e in
      let k : instruction.Dyadic i ≡ j = same_instruction (instruction.Dyadic i) j q in
      subst (Encodes w pre o s d x y) k
      (row_encodes i refl refl t.0 (hs a refl) (hd b refl) (same_rule (dyadic_listed r).operands a b ∙ ap (λ v. legal_of v a b) t.1 ∙ l)))
      (λ l. let q : Err Illegal ≡ with_length j = simp l at e in let z : ◌≡◌ {A = ℕ} 0 1 = cc in absurd (omega arith))
  dyadic_there entry.Unimplemented (Some a) (Some b) j t hs hd e =
      by_test (legal_of OneRegister a b)
      (λ l. let q : Err (Unimplemented unimplemented_vector) ≡ with_length j = simp l at e in let z : ◌≡◌ {A = ℕ} 0 1 = cc in absurd (omega arith))
      (λ l. let q : Err Illegal ≡ with_length j = simp l at e in let z : ◌≡◌ {A = ℕ} 0 1 = cc in absurd (omega arith))
  dyadic_there f (Some a) None j t hs hd e = let z : ◌≡◌ {A = ℕ} 0 1 = cc in absurd (omega arith)
  dyadic_there f None (Some b) j t hs hd e = let z : ◌≡◌ {A = ℕ} 0 1 = cc in absurd (omega arith)
  dyadic_there f None None j t hs hd e = let z : ◌≡◌ {A = ℕ} 0 1 = cc in absurd (omega arith)
  dyadic_there entry.Unlisted (Some a) (Some b) j t hs hd e = let z : ◌≡◌ {A = ℕ} 0 1 = cc in absurd (omega arith)

pub dyadic_encodes : (w : Wide) (pre : Bool) (p x y : ℕ) (j : Instruction) → x < limit_of w → y < limit_of w
    → (pre ≡ true → register_clear (p / 16 % 16) x ≡ true) → (pre ≡ true → register_clear (p % 16) y ≡ true)
    → decode_dyadic w pre p x y ≡ with_length j → Encodes w pre (p / 256 % 64) (p / 16 % 16) (p % 16) x y j
unfolding decode_dyadic
dyadic_encodes w pre p x y j hx hy cx cy e =
    let s = p / 16 % 16 in
    let d = p % 16 in
    dyadic_there w pre (p / 256 % 64) s d x y (dyadic_of (p / 256 % 64))
    (operand_found w (mode_entry pre s) x) (operand_found w (mode_entry pre d) y) j
    (row_there (p / 256 % 64) (omega arith))
    (λ q f. operand_there w pre (mode_entry pre s) s x q (mode_there pre s (omega arith)) hx cx f)
    (λ q f. operand_there w pre (mode_entry pre d) d y q (mode_there pre d (omega arith)) hy cy f)
    e
