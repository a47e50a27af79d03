-- The constants of a decoded instruction are words, if its parcels have 16 bits.
-- Assumes nothing.
use Prim.Native.Nat.{ℕ, ◌-◌, ◌/◌, ◌%◌, ◌^◌, ◌<◌}
use mathlib.Core.Bool.{Bool, true, false, cond}
use native.Mathlib.Omega.{arith}
use lib.Dec.{ltb, eqb, lit<}
use Rattle.word.proofs.CaseLaws.{either}
use Rattle.word.proofs.WidthLaws.{sign_extend_lt}
use Rattle.isa.specs.declared.ShortRow.{ShortRow}
use Rattle.isa.specs.declared.ShortRow.TheVariants as short
use Rattle.isa.specs.declared.FieldMode.{FieldMode}
use Rattle.isa.specs.declared.FieldMode.TheVariants.{Absent, Imm5, Uimm5, Wai5, Stk5, Istk5, Imm10, Pcrel10, Stk8, Fill8}
use Rattle.isa.specs.declared.ShortEntry.{ShortEntry}
use Rattle.isa.specs.declared.ShortEntry.TheVariants as entry
use Rattle.isa.specs.declared.Mode.{Mode}
use Rattle.isa.specs.declared.Mode.TheVariants.{AbsoluteByte, AbsoluteUbyte, AbsoluteHalf, AbsoluteUhalf, StackByte, StackUbyte, StackHalf, StackUhalf, IndirectByte, IndirectUbyte, IndirectHalf, IndirectUhalf, AbsoluteWord, StackWord, IndirectWord, Immediate}
use Rattle.isa.specs.declared.ModeEntry.{ModeEntry}
use Rattle.isa.specs.declared.ModeEntry.TheVariants as mode
use Rattle.isa.specs.declared.Operand.{Operand}
use Rattle.isa.specs.declared.Wide.{Wide}
use Rattle.isa.specs.declared.Wide.TheVariants.{Three, Five}
use Rattle.isa.specs.declared.Rule.TheVariants.{OneRegister}
use Rattle.isa.specs.declared.Entry.TheVariants as place
use Rattle.isa.specs.declared.MonadicRow.{MonadicRow}
use Rattle.isa.specs.declared.MonadicRule.{MonadicRule}
use Rattle.isa.specs.declared.Text.{Text}
use Rattle.isa.specs.declared.Undecoded.TheVariants.{Illegal, Unimplemented, Truncated}
use Rattle.isa.specs.declared.MonadicMode.{MonadicMode}
use Rattle.isa.specs.Answers.{unimplemented_vector, Decoded}
use Rattle.isa.specs.Fields.{source_field, field_value}
use Rattle.isa.specs.Tables.{short_of, dyadic_of, monadic_of, monadic_mode_of, DyadicEntry, MonadicEntry}
use Rattle.isa.specs.Legal.{legal_of, monadic_legal_of}
use Rattle.isa.specs.Decode.{short_entry, short_answer, decode_short, extended, operand_found, mode_entry, dyadic_answer, both_found, decode_dyadic, monadic_found, monadic_answer, decode_monadic, joined, decode_three, decode_wide, cpu_prefix, decode_prefixed, decode_bare, decode_of}
use Rattle.exec_spec.specs.Operands.{ModeKind, absolute, offset, indirect, constant, mode_kind}
use Rattle.exec_spec.specs.Execute.{normal, short_normal}
use Rattle.invariants.proofs.TextLaws.{TextFits}
use Rattle.invariants.proofs.OperandLaws.{AddressFits, OperandFits}
use Rattle.invariants.proofs.ExecuteLaws.{NormalFits}
use Rattle.std.specs.Prelude.{Option, Some, None, Ok, Err}

abbrev pub AnswerFits : Decoded → Type 0
AnswerFits (Ok (i, n)) = NormalFits (normal i)
AnswerFits (Err Illegal) = Unit
AnswerFits (Err (Unimplemented v)) = Unit
AnswerFits (Err Truncated) = Unit

-- ---- one parcel

field_word : (m : FieldMode) (p : ℕ) → field_value m (source_field m p) < 2 ^ 32
field_word Absent p = lit< tt
field_word Imm5 p = sign_extend_lt 5 _ (omega arith)
field_word Uimm5 p = omega arith
field_word Wai5 p = omega arith
field_word Stk5 p = omega arith
field_word Istk5 p = omega arith
field_word Imm10 p = omega arith
field_word Pcrel10 p = sign_extend_lt 11 _ (omega arith)
field_word Stk8 p = omega arith
field_word Fill8 p = omega arith

short_fits : (r : ShortRow) (s d : ℕ) → s < 2 ^ 32 → NormalFits (short_normal r s d)
short_fits short.Kcall s d h = h
short_fits short.Call s d h = h
short_fits short.Jmp s d h = h
short_fits short.Jmpfn s d h = h
short_fits short.Jmpfy s d h = h
short_fits short.Jmptn s d h = h
short_fits short.Jmpty s d h = h
short_fits short.MovWaiStk s d h = (tt, tt)
short_fits short.Add3WaiStk s d h = (tt, tt)
short_fits short.And3ImmStk s d h = (tt, tt)
short_fits short.AndStkStk s d h = (tt, tt)
short_fits short.CmpeqImmStk s d h = (tt, tt)
short_fits short.CmpgtStkStk s d h = (tt, tt)
short_fits short.CmpgtImmStk s d h = (tt, tt)
short_fits short.CmpeqStkStk s d h = (tt, tt)
short_fits short.AddImmStk s d h = (tt, tt)
short_fits short.Add3ImmStk s d h = (tt, tt)
short_fits short.AddStkStk s d h = (tt, tt)
short_fits short.Add3StkStk s d h = (tt, tt)
short_fits short.MovStkStk s d h = (tt, tt)
short_fits short.MovIstkStk s d h = (tt, tt)
short_fits short.MovStkIstk s d h = (tt, tt)
short_fits short.MovIstkIstk s d h = (tt, tt)
short_fits short.MovImmStk s d h = (tt, tt)
short_fits short.MovaStkStk s d h = (tt, tt)
short_fits short.Shl3UimmStk s d h = (tt, tt)
short_fits short.Shr3UimmStk s d h = (tt, tt)
short_fits short.Enter s d h = h
short_fits short.Catch s d h = h
short_fits short.Return s d h = h
short_fits short.Popn s d h = h
short_fits short.Kret s d h = tt
short_fits short.Nop s d h = tt
short_fits short.Flushi s d h = tt
short_fits short.Flushp s d h = tt
short_fits short.Cret s d h = tt
short_fits short.Testv s d h = tt
short_fits short.Testc s d h = tt
short_fits short.Clre s d h = tt

short_answer_law : (e : ShortEntry) (p : ℕ) → AnswerFits (short_answer e p)
short_answer_law (entry.Row r s d) p = short_fits r _ _ (field_word s p)
short_answer_law entry.Stack p = tt
short_answer_law entry.Niladic p = tt
short_answer_law entry.Prefix p = tt
short_answer_law entry.Unimplemented p = tt
short_answer_law entry.Trap p = tt
short_answer_law entry.Unlisted p = tt

-- ---- dyadics

-- an operand field: 16 bits of three parcels, a word of five
abbrev FieldFits : Wide → ℕ → Type 0
FieldFits Three x = x < 2 ^ 16
FieldFits Five x = x < 2 ^ 32

three_fits : (m : Mode) (x : ℕ) → x < 2 ^ 16 → AddressFits Three (mode_kind m) (extended m x)
three_fits AbsoluteByte x h = h
three_fits AbsoluteUbyte x h = h
three_fits AbsoluteHalf x h = h
three_fits AbsoluteUhalf x h = h
three_fits StackByte x h = tt
three_fits StackUbyte x h = tt
three_fits StackHalf x h = tt
three_fits StackUhalf x h = tt
three_fits IndirectByte x h = tt
three_fits IndirectUbyte x h = tt
three_fits IndirectHalf x h = tt
three_fits IndirectUhalf x h = tt
three_fits AbsoluteWord x h = h
three_fits StackWord x h = tt
three_fits IndirectWord x h = tt
three_fits Immediate x h = tt

five_fits : (n : ModeKind) (x : ℕ) → x < 2 ^ 32 → AddressFits Five n x
five_fits absolute x h = h
five_fits offset x h = tt
five_fits indirect x h = tt
five_fits constant x h = tt

abbrev FoundFits : Wide → Option Operand → Type 0
FoundFits w (Some o) = OperandFits w o
FoundFits w None = Unit

found_fits : (w : Wide) (e : ModeEntry) (x : ℕ) → FieldFits w x → FoundFits w (operand_found w e x)
found_fits Three (mode.General m) x h = three_fits m x h
found_fits Five (mode.General m) x h = five_fits (mode_kind m) x h
found_fits w mode.Register x h = tt
found_fits w mode.Unlisted x h = tt

dyadic_answer_law : (e : DyadicEntry) (w : Wide) (pre : Bool) (s d : Operand) → OperandFits w s → OperandFits w d → AnswerFits (dyadic_answer e w pre s d)
dyadic_answer_law (place.Row r u) w pre s d f g = either AnswerFits (legal_of u s d) _ (Err Illegal) (f, g) tt
dyadic_answer_law place.Unimplemented w pre s d f g = either AnswerFits (legal_of OneRegister s d) (Err (Unimplemented unimplemented_vector)) (Err Illegal) tt tt
dyadic_answer_law place.Unlisted w pre s d f g = tt

both_answer : (e : DyadicEntry) (w : Wide) (pre : Bool) (s d : Option Operand) → FoundFits w s → FoundFits w d → AnswerFits (both_found e w pre s d)
both_answer e w pre (Some s) (Some d) f g = dyadic_answer_law e w pre s d f g
both_answer e w pre (Some s) None f g = tt
both_answer e w pre None (Some d) f g = tt
both_answer e w pre None None f g = tt

dyadic_fits : (w : Wide) (pre : Bool) (p x y : ℕ) → FieldFits w x → FieldFits w y → AnswerFits (decode_dyadic w pre p x y)
unfolding decode_dyadic
dyadic_fits w pre p x y f g =
    both_answer (dyadic_of (p / 256 % 64)) w pre
    (operand_found w (mode_entry pre (p / 16 % 16)) x) (operand_found w (mode_entry pre (p % 16)) y)
    (found_fits w (mode_entry pre (p / 16 % 16)) x f) (found_fits w (mode_entry pre (p % 16)) y g)

-- ---- monadics

monadic_found_law : (r : MonadicRow) (u : MonadicRule) (pre : Bool) (e : Option MonadicMode) (v : ℕ) → v < 2 ^ 32 → AnswerFits (monadic_found r u pre e v)
monadic_found_law r u pre (Some m) v h = either AnswerFits (monadic_legal_of u m v) _ (Err Illegal) h tt
monadic_found_law r u pre None v h = tt

monadic_answer_law : (e : MonadicEntry) (pre : Bool) (n v : ℕ) → v < 2 ^ 32 → AnswerFits (monadic_answer e pre n v)
monadic_answer_law (place.Row r u) pre n v h = monadic_found_law r u pre (monadic_mode_of u n) v h
monadic_answer_law place.Unimplemented pre n v h = either AnswerFits (ltb n 0xC) (Err Illegal) (Err (Unimplemented unimplemented_vector)) tt tt
monadic_answer_law place.Unlisted pre n v h = tt

-- ---- the length

joined_value : (a b : ℕ) → a < 2 ^ 16 → b < 2 ^ 16 → joined a b < 2 ^ 32
joined_value a b f g = omega arith

three : (pre : Bool) (p a b : ℕ) → a < 2 ^ 16 → b < 2 ^ 16 → AnswerFits (decode_three pre p a b)
unfolding decode_three decode_monadic
three pre p a b f g =
    either AnswerFits (eqb (p / 256 % 64) 0) (decode_monadic pre p (joined a b)) (decode_dyadic Three pre p a b)
    (monadic_answer_law (monadic_of (p % 16)) pre (p / 16 % 16) (joined a b) (joined_value a b f g)) (dyadic_fits Three pre p a b f g)

wide_fits : (pre : Bool) (n p a b c d : ℕ) → a < 2 ^ 16 → b < 2 ^ 16 → c < 2 ^ 16 → d < 2 ^ 16 → AnswerFits (decode_wide pre n p a b c d)
unfolding decode_wide
wide_fits pre n p a b c d fa fb fc fd =
    either AnswerFits (ltb p 0xC000) (cond (ltb n 2) (Err Truncated) (decode_three pre p a b))
    (cond (ltb n 4) (Err Truncated) (decode_dyadic Five pre p (joined a b) (joined c d)))
    (either AnswerFits (ltb n 2) (Err Truncated) (decode_three pre p a b) tt (three pre p a b fa fb))
    (either AnswerFits (ltb n 4) (Err Truncated) (decode_dyadic Five pre p (joined a b) (joined c d)) tt
    (dyadic_fits Five pre p (joined a b) (joined c d) (joined_value a b fa fb) (joined_value c d fc fd)))

prefixed_fits : (t : Text) → TextFits t → AnswerFits (decode_prefixed t)
unfolding decode_prefixed
prefixed_fits t f =
    either AnswerFits (ltb t.count 2) (Err Truncated) (cond (ltb t.p1 0x8000) (Err Illegal) after) tt
    (either AnswerFits (ltb t.p1 0x8000) (Err Illegal) after tt (wide_fits true (t.count - 2) t.p1 t.p2 t.p3 t.p4 t.p5 f.p2 f.p3 f.p4 f.p5))
  where
    after : Decoded
    after = decode_wide true (t.count - 2) t.p1 t.p2 t.p3 t.p4 t.p5

bare_fits : (t : Text) → TextFits t → AnswerFits (decode_bare t)
unfolding decode_bare decode_short
bare_fits t f =
    either AnswerFits (ltb t.p0 0x8000) (decode_short t.p0) (decode_wide false (t.count - 1) t.p0 t.p1 t.p2 t.p3 t.p4)
    (short_answer_law (short_entry (short_of (t.p0 / 1024 % 32)) t.p0) t.p0)
    (wide_fits false (t.count - 1) t.p0 t.p1 t.p2 t.p3 t.p4 f.p1 f.p2 f.p3 f.p4)

pub decode_fits : (t : Text) → TextFits t → AnswerFits (decode_of t)
unfolding decode_of
decode_fits t f =
    either AnswerFits (ltb t.count 1) (Err Truncated) (cond (eqb t.p0 cpu_prefix) (decode_prefixed t) (decode_bare t)) tt
    (either AnswerFits (eqb t.p0 cpu_prefix) (decode_prefixed t) (decode_bare t) (prefixed_fits t f) (bare_fits t f))
