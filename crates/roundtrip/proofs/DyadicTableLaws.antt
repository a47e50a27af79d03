-- Dyadics: the decoder's tables of opcodes, modes and rules against the encoder's lists, place by place.
-- Assumes nothing.
use Prim.Native.Nat.{ℕ, zero-le, ◌%◌, ◌<◌}
use mathlib.Core.Path.{◌≡◌, refl, sym, ap, ap₂, ◌∙◌}
use mathlib.Core.Bool.{Bool, true, false, ◌&&◌, ◌||◌, and-true, and-false}
use native.Mathlib.Nat.{mod-eq_of_lt}
use native.Mathlib.Omega.{arith}
use borrow.Author.Tests.{ltb-true, eqb-true}
use lib.Dec.{leb, lit<}
use Rattle.word.proofs.CaseLaws.{not_both}
use Rattle.word.proofs.MatchLaws.{within}
use Rattle.word.specs.Widths.{sign_extend_of}
use Rattle.isa.specs.declared.Mode.{Mode}
use Rattle.isa.specs.declared.Mode.TheVariants.{AbsoluteByte, AbsoluteUbyte, AbsoluteHalf, AbsoluteUhalf, StackByte, StackUbyte, StackHalf, StackUhalf, IndirectByte, IndirectUbyte, IndirectHalf, IndirectUhalf, AbsoluteWord, StackWord, IndirectWord, Immediate}
use Rattle.isa.specs.declared.ModeEntry.{ModeEntry}
use Rattle.isa.specs.declared.ModeEntry.TheVariants as mode
use Rattle.isa.specs.declared.Operand.{Operand}
use Rattle.isa.specs.declared.Operand.TheVariants.{General, Register}
use Rattle.isa.specs.declared.Wide.{Wide}
use Rattle.isa.specs.declared.Wide.TheVariants.{Three, Five}
use Rattle.isa.specs.declared.Rule.{Rule}
use Rattle.isa.specs.declared.Rule.TheVariants.{OneRegister, AnyTwo, Address, Multiple}
use Rattle.isa.specs.declared.Operands.{Operands}
use Rattle.isa.specs.declared.Operands.TheVariants.{Gen, GenWritten, GenAddress, GenMoved}
use Rattle.isa.specs.declared.DyadicRow.{DyadicRow}
use Rattle.isa.specs.declared.DyadicRow.TheVariants as row
use Rattle.isa.specs.declared.Entry.TheVariants as entry
use Rattle.isa.specs.Tables.{dyadic_of, DyadicEntry}
use Rattle.isa.specs.Legal.{word_in_memory, constant, double_word, legal_of}
use Rattle.isa.specs.Decode.{operand_value, operand_found, mode_entry}
use Rattle.isa.specs.Encodings.{dyadic_listed}
use Rattle.isa.specs.Encode.{operand_code, has_mode, fits, moved_code, admits, operand_raw, mode_code, address_code}
use Rattle.std.specs.Prelude.{Some}

-- ---- modes and operands

pub mode_back : (pre : Bool) (m : Mode) (v : ℕ) → has_mode pre (General m v) ≡ true → mode_entry pre (mode_code m) ≡ mode.General m
mode_back false AbsoluteByte v h = refl
mode_back false AbsoluteUbyte v h = refl
mode_back false AbsoluteHalf v h = refl
mode_back false AbsoluteUhalf v h = refl
mode_back false StackByte v h = refl
mode_back false StackUbyte v h = refl
mode_back false StackHalf v h = refl
mode_back false StackUhalf v h = refl
mode_back false IndirectByte v h = refl
mode_back false IndirectUbyte v h = refl
mode_back false IndirectHalf v h = refl
mode_back false IndirectUhalf v h = refl
mode_back false AbsoluteWord v h = refl
mode_back false StackWord v h = refl
mode_back false IndirectWord v h = refl
mode_back false Immediate v h = refl
mode_back true AbsoluteByte v h = not_both h
mode_back true AbsoluteUbyte v h = not_both h
mode_back true AbsoluteHalf v h = not_both h
mode_back true AbsoluteUhalf v h = not_both h
mode_back true StackByte v h = not_both h
mode_back true StackUbyte v h = not_both h
mode_back true StackHalf v h = not_both h
mode_back true StackUhalf v h = not_both h
mode_back true IndirectByte v h = not_both h
mode_back true IndirectUbyte v h = not_both h
mode_back true IndirectHalf v h = not_both h
mode_back true IndirectUhalf v h = not_both h
mode_back true AbsoluteWord v h = refl
mode_back true StackWord v h = refl
mode_back true IndirectWord v h = refl
mode_back true Immediate v h = refl

-- what a field of the form's width holds of an operand
abbrev pub field_of : Wide → ℕ → ℕ
field_of Three x = x % 65536
field_of Five x = x

pub value_back : (w : Wide) (m : Mode) (v : ℕ) → fits w (General m v) ≡ true → operand_value w m (field_of w v) ≡ v
value_back Three AbsoluteByte v h = mod-eq_of_lt {n = v} {m = 65536} (ltb-true v 65536 h)
value_back Three AbsoluteUbyte v h = mod-eq_of_lt {n = v} {m = 65536} (ltb-true v 65536 h)
value_back Three AbsoluteHalf v h = mod-eq_of_lt {n = v} {m = 65536} (ltb-true v 65536 h)
value_back Three AbsoluteUhalf v h = mod-eq_of_lt {n = v} {m = 65536} (ltb-true v 65536 h)
value_back Three StackByte v h = eqb-true (sign_extend_of 16 (v % 65536)) v h
value_back Three StackUbyte v h = eqb-true (sign_extend_of 16 (v % 65536)) v h
value_back Three StackHalf v h = eqb-true (sign_extend_of 16 (v % 65536)) v h
value_back Three StackUhalf v h = eqb-true (sign_extend_of 16 (v % 65536)) v h
value_back Three IndirectByte v h = eqb-true (sign_extend_of 16 (v % 65536)) v h
value_back Three IndirectUbyte v h = eqb-true (sign_extend_of 16 (v % 65536)) v h
value_back Three IndirectHalf v h = eqb-true (sign_extend_of 16 (v % 65536)) v h
value_back Three IndirectUhalf v h = eqb-true (sign_extend_of 16 (v % 65536)) v h
value_back Three AbsoluteWord v h = mod-eq_of_lt {n = v} {m = 65536} (ltb-true v 65536 h)
value_back Three StackWord v h = eqb-true (sign_extend_of 16 (v % 65536)) v h
value_back Three IndirectWord v h = eqb-true (sign_extend_of 16 (v % 65536)) v h
value_back Three Immediate v h = eqb-true (sign_extend_of 16 (v % 65536)) v h
value_back Five m v h = refl

number_back : (w : Wide) (n : ℕ) → n < 16 → field_of w n % 16 ≡ n
number_back Three n h = omega arith
number_back Five n h = omega arith

pub operand_back : (pre : Bool) (w : Wide) (q : Operand) → has_mode pre q ≡ true → fits w q ≡ true
    → operand_found w (mode_entry pre (operand_code q)) (field_of w (operand_raw q)) ≡ Some q
operand_back pre w (General m v) h k =
    ap (λ (e : ModeEntry). operand_found w e (field_of w v)) (mode_back pre m v h) ∙ ap (λ (x : ℕ). Some (General m x)) (value_back w m v k)
operand_back true w (Register n) h k = ap (λ (x : ℕ). Some (Register x)) (number_back w n (ltb-true n 16 k))
operand_back false w (Register n) h k = not_both h

-- ---- legality: the decoder's rule of a row is the encoder's

abbrev pub rule_of : Operands → Rule
rule_of Gen = OneRegister
rule_of GenWritten = AnyTwo
rule_of GenAddress = Address
rule_of GenMoved = Multiple

address_code_law : (m : Mode) → address_code (mode_code m) ≡ word_in_memory m
address_code_law AbsoluteByte = refl
address_code_law AbsoluteUbyte = refl
address_code_law AbsoluteHalf = refl
address_code_law AbsoluteUhalf = refl
address_code_law StackByte = refl
address_code_law StackUbyte = refl
address_code_law StackHalf = refl
address_code_law StackUhalf = refl
address_code_law IndirectByte = refl
address_code_law IndirectUbyte = refl
address_code_law IndirectHalf = refl
address_code_law IndirectUhalf = refl
address_code_law AbsoluteWord = refl
address_code_law StackWord = refl
address_code_law IndirectWord = refl
address_code_law Immediate = refl

word_code : (m : Mode) → leb 0xC (mode_code m) ≡ (word_in_memory m || constant m)
word_code AbsoluteByte = refl
word_code AbsoluteUbyte = refl
word_code AbsoluteHalf = refl
word_code AbsoluteUhalf = refl
word_code StackByte = refl
word_code StackUbyte = refl
word_code StackHalf = refl
word_code StackUhalf = refl
word_code IndirectByte = refl
word_code IndirectUbyte = refl
word_code IndirectHalf = refl
word_code IndirectUhalf = refl
word_code AbsoluteWord = refl
word_code StackWord = refl
word_code IndirectWord = refl
word_code Immediate = refl

moved_code_law : (m : Mode) → moved_code (mode_code m) ≡ (word_in_memory m || double_word m)
moved_code_law AbsoluteByte = refl
moved_code_law AbsoluteUbyte = refl
moved_code_law AbsoluteHalf = refl
moved_code_law AbsoluteUhalf = refl
moved_code_law StackByte = refl
moved_code_law StackUbyte = refl
moved_code_law StackHalf = refl
moved_code_law StackUhalf = refl
moved_code_law IndirectByte = refl
moved_code_law IndirectUbyte = refl
moved_code_law IndirectHalf = refl
moved_code_law IndirectUhalf = refl
moved_code_law AbsoluteWord = refl
moved_code_law StackWord = refl
moved_code_law IndirectWord = refl
moved_code_law Immediate = refl

pub same_rule : (o : Operands) (s d : Operand) → admits o s d ≡ legal_of (rule_of o) s d
same_rule Gen (General m v) (General n w) = refl
same_rule Gen (General m v) (Register n) = refl
same_rule Gen (Register k) (General n w) = refl
same_rule Gen (Register k) (Register n) = refl
same_rule GenWritten s d = refl
same_rule GenAddress (General m v) (General n w) = address_code_law m ∙ sym (and-true (word_in_memory m))
same_rule GenAddress (General m v) (Register n) = sym (and-false (word_in_memory m))
same_rule GenAddress (Register k) (General n w) = refl
same_rule GenAddress (Register k) (Register n) = refl
same_rule GenMoved (General m v) (General n w) = ap₂ (λ (a b : Bool). a && b) (word_code m) (moved_code_law n)
same_rule GenMoved (General m v) (Register n) = sym (and-false (word_in_memory m || constant m))
same_rule GenMoved (Register k) (General n w) = refl
same_rule GenMoved (Register k) (Register n) = refl

-- ---- opcodes

pub row_back : (r : DyadicRow) → dyadic_of (dyadic_listed r).opcode ≡ entry.Row r (rule_of (dyadic_listed r).operands)
row_back row.Add = refl
row_back row.Add3 = refl
row_back row.Addi = refl
row_back row.And = refl
row_back row.And3 = refl
row_back row.Andi = refl
row_back row.Cmpgt = refl
row_back row.Cmphi = refl
row_back row.Cmpeq = refl
row_back row.Div = refl
row_back row.Div3 = refl
row_back row.Dqm = refl
row_back row.Mov = refl
row_back row.Mova = refl
row_back row.Mul = refl
row_back row.Mul3 = refl
row_back row.Or = refl
row_back row.Or3 = refl
row_back row.Ori = refl
row_back row.Rem = refl
row_back row.Rem3 = refl
row_back row.Shl = refl
row_back row.Shl3 = refl
row_back row.Shr = refl
row_back row.Shr3 = refl
row_back row.Sub = refl
row_back row.Sub3 = refl
row_back row.Tadd = refl
row_back row.Tsub = refl
row_back row.Udiv = refl
row_back row.Urem = refl
row_back row.Ushr = refl
row_back row.Ushr3 = refl
row_back row.Xor = refl
row_back row.Xor3 = refl

pub opcode_pos : (r : DyadicRow) → 0 < (dyadic_listed r).opcode
opcode_pos row.Add = lit< tt
opcode_pos row.Add3 = lit< tt
opcode_pos row.Addi = lit< tt
opcode_pos row.And = lit< tt
opcode_pos row.And3 = lit< tt
opcode_pos row.Andi = lit< tt
opcode_pos row.Cmpgt = lit< tt
opcode_pos row.Cmphi = lit< tt
opcode_pos row.Cmpeq = lit< tt
opcode_pos row.Div = lit< tt
opcode_pos row.Div3 = lit< tt
opcode_pos row.Dqm = lit< tt
opcode_pos row.Mov = lit< tt
opcode_pos row.Mova = lit< tt
opcode_pos row.Mul = lit< tt
opcode_pos row.Mul3 = lit< tt
opcode_pos row.Or = lit< tt
opcode_pos row.Or3 = lit< tt
opcode_pos row.Ori = lit< tt
opcode_pos row.Rem = lit< tt
opcode_pos row.Rem3 = lit< tt
opcode_pos row.Shl = lit< tt
opcode_pos row.Shl3 = lit< tt
opcode_pos row.Shr = lit< tt
opcode_pos row.Shr3 = lit< tt
opcode_pos row.Sub = lit< tt
opcode_pos row.Sub3 = lit< tt
opcode_pos row.Tadd = lit< tt
opcode_pos row.Tsub = lit< tt
opcode_pos row.Udiv = lit< tt
opcode_pos row.Urem = lit< tt
opcode_pos row.Ushr = lit< tt
opcode_pos row.Ushr3 = lit< tt
opcode_pos row.Xor = lit< tt
opcode_pos row.Xor3 = lit< tt

-- the opcodes of the table are those of the lists
abbrev pub RowThere : DyadicEntry → ℕ → Type 0
RowThere (entry.Row r u) k = ((dyadic_listed r).opcode ≡ k) × (rule_of (dyadic_listed r).operands ≡ u)
RowThere entry.Unimplemented k = Unit {0}
RowThere entry.Unlisted k = Unit {0}

pub row_there : (k : ℕ) → k < 64 → RowThere (dyadic_of k) k
row_there k h = within (λ n. RowThere (dyadic_of n) n) 0 64 ((((((((((((((((((((((((((((((((((((((((((((((((((((((((((((((((tt, tt), (refl, refl)), (refl, refl)), (refl, refl)), (refl, refl)), (refl, refl)), (refl, refl)), (refl, refl)), tt), tt), tt), tt), (refl, refl)), (refl, refl)), tt), tt), tt), tt), tt), tt), tt), tt), tt), tt), tt), tt), tt), tt), tt), (refl, refl)), (refl, refl)), (refl, refl)), (refl, refl)), (refl, refl)), (refl, refl)), (refl, refl)), (refl, refl)), (refl, refl)), (refl, refl)), (refl, refl)), tt), tt), tt), tt), (refl, refl)), (refl, refl)), (refl, refl)), (refl, refl)), (refl, refl)), (refl, refl)), (refl, refl)), (refl, refl)), (refl, refl)), (refl, refl)), (refl, refl)), (refl, refl)), tt), tt), tt), tt), (refl, refl)), (refl, refl)), (refl, refl)), tt) k zero-le h

-- the modes of Tables 1-21 and 1-22 are those of the encoder
abbrev pub ModeThere : Bool → ModeEntry → ℕ → Type 0
ModeThere pre (mode.General m) k = (mode_code m ≡ k) × ((v : ℕ) → has_mode pre (General m v) ≡ true)
ModeThere pre mode.Register k = (0x7 ≡ k) × (pre ≡ true)
ModeThere pre mode.Unlisted k = Unit {0}

pub mode_there : (pre : Bool) (k : ℕ) → k < 16 → ModeThere pre (mode_entry pre k) k
mode_there false k h = within (λ n. ModeThere false (mode_entry false n) n) 0 16 ((((((((((((((((tt, (refl, λ v. refl)), (refl, λ v. refl)), (refl, λ v. refl)), (refl, λ v. refl)), (refl, λ v. refl)), (refl, λ v. refl)), (refl, λ v. refl)), (refl, λ v. refl)), (refl, λ v. refl)), (refl, λ v. refl)), (refl, λ v. refl)), (refl, λ v. refl)), (refl, λ v. refl)), (refl, λ v. refl)), (refl, λ v. refl)), (refl, λ v. refl)) k zero-le h
mode_there true k h = within (λ n. ModeThere true (mode_entry true n) n) 0 16 ((((((((((((((((tt, tt), tt), tt), tt), tt), tt), tt), (refl, refl)), tt), tt), tt), tt), (refl, λ v. refl)), (refl, λ v. refl)), (refl, λ v. refl)), (refl, λ v. refl)) k zero-le h
