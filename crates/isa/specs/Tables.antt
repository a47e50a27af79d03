-- Tables 1-15 to 1-23: what the decoder finds at each opcode, subcode and mode number.
use Rattle.std.specs.Prelude.{ℕ, ◌-◌, cond, List, [], ◌∷◌, get_or, ltb, Option, Some, None}
use Rattle.isa.specs.declared.ShortRow.TheVariants as short
use Rattle.isa.specs.declared.FieldMode.TheVariants.{Absent, Imm5, Uimm5, Wai5, Stk5, Istk5, Imm10, Pcrel10, Stk8, Fill8}
use Rattle.isa.specs.declared.ShortEntry.{ShortEntry}
use Rattle.isa.specs.declared.ShortEntry.TheVariants as entry
use Rattle.isa.specs.declared.DyadicRow.{DyadicRow}
use Rattle.isa.specs.declared.DyadicRow.TheVariants as dyadic
use Rattle.isa.specs.declared.Rule.{Rule}
use Rattle.isa.specs.declared.Rule.TheVariants.{OneRegister, AnyTwo, Address, Multiple}
use Rattle.isa.specs.declared.Entry.{Entry}
use Rattle.isa.specs.declared.Entry.TheVariants as place
use Rattle.isa.specs.declared.MonadicRow.{MonadicRow}
use Rattle.isa.specs.declared.MonadicRow.TheVariants as monadic
use Rattle.isa.specs.declared.MonadicRule.{MonadicRule}
use Rattle.isa.specs.declared.MonadicRule.TheVariants as rule
use Rattle.isa.specs.declared.Mode.TheVariants.{AbsoluteByte, AbsoluteUbyte, AbsoluteHalf, AbsoluteUhalf, StackByte, StackUbyte, StackHalf, StackUhalf, IndirectByte, IndirectUbyte, IndirectHalf, IndirectUhalf, AbsoluteWord, StackWord, IndirectWord, Immediate}
use Rattle.isa.specs.declared.ModeEntry.{ModeEntry}
use Rattle.isa.specs.declared.ModeEntry.TheVariants as mode
use Rattle.isa.specs.declared.MonadicMode.{MonadicMode}
use Rattle.isa.specs.declared.MonadicMode.TheVariants.{WordAbsolute, WordStack, WordIndirect, WordImmediate, FlowAbsoluteIndirect, FlowStackIndirect, FlowRelative, FlowAbsolute}

-- Table 1-15, opcodes 0 to 31. Its letters: C imm5 (uimm5 for the shifts), W wai5, S stk5, I istk5
abbrev pub short_table : List ShortEntry
short_table =
    entry.Row short.Kcall Imm10 Absent
    ∷ entry.Row short.Call Pcrel10 Absent
    ∷ entry.Stack
    ∷ entry.Row short.Jmp Pcrel10 Absent
    ∷ entry.Row short.Jmpfn Pcrel10 Absent
    ∷ entry.Row short.Jmpfy Pcrel10 Absent
    ∷ entry.Row short.Jmptn Pcrel10 Absent
    ∷ entry.Row short.Jmpty Pcrel10 Absent
    ∷ entry.Unimplemented
    ∷ entry.Unimplemented
    ∷ entry.Row short.MovWaiStk Wai5 Stk5
    ∷ entry.Niladic
    ∷ entry.Unimplemented
    ∷ entry.Row short.Add3WaiStk Wai5 Stk5
    ∷ entry.Row short.And3ImmStk Imm5 Stk5
    ∷ entry.Row short.AndStkStk Stk5 Stk5
    ∷ entry.Row short.CmpeqImmStk Imm5 Stk5
    ∷ entry.Row short.CmpgtStkStk Stk5 Stk5
    ∷ entry.Row short.CmpgtImmStk Imm5 Stk5
    ∷ entry.Row short.CmpeqStkStk Stk5 Stk5
    ∷ entry.Row short.AddImmStk Imm5 Stk5
    ∷ entry.Row short.Add3ImmStk Imm5 Stk5
    ∷ entry.Row short.AddStkStk Stk5 Stk5
    ∷ entry.Row short.Add3StkStk Stk5 Stk5
    ∷ entry.Row short.MovStkStk Stk5 Stk5
    ∷ entry.Row short.MovIstkStk Istk5 Stk5
    ∷ entry.Row short.MovStkIstk Stk5 Istk5
    ∷ entry.Row short.MovIstkIstk Istk5 Istk5
    ∷ entry.Row short.MovImmStk Imm5 Stk5
    ∷ entry.Row short.MovaStkStk Stk5 Stk5
    ∷ entry.Row short.Shl3UimmStk Uimm5 Stk5
    ∷ entry.Row short.Shr3UimmStk Uimm5 Stk5
    ∷ []

abbrev pub short_of : ℕ → ShortEntry
short_of k = get_or short_table k entry.Unlisted

-- Table 1-16, subcodes 0 to 3
abbrev pub stack_table : List ShortEntry
stack_table =
    entry.Row short.Enter Fill8 Absent
    ∷ entry.Row short.Catch Stk8 Absent
    ∷ entry.Row short.Return Stk8 Absent
    ∷ entry.Row short.Popn Stk8 Absent
    ∷ []

abbrev pub stack_of : ℕ → ShortEntry
stack_of k = get_or stack_table k entry.Unlisted

-- Table 1-17, subcodes 0 to 0x3FF: a bare prefix, ten niladics, FLUSHD unimplemented, the upper half trapped
abbrev pub niladic_table : List ShortEntry
niladic_table =
    entry.Prefix
    ∷ entry.Row short.Kret Absent Absent
    ∷ entry.Row short.Nop Absent Absent
    ∷ entry.Row short.Flushi Absent Absent
    ∷ entry.Row short.Flushp Absent Absent
    ∷ entry.Row short.Cret Absent Absent
    ∷ entry.Unimplemented
    ∷ entry.Unimplemented
    ∷ entry.Row short.Testv Absent Absent
    ∷ entry.Row short.Testc Absent Absent
    ∷ entry.Row short.Clre Absent Absent
    ∷ []

abbrev pub niladic_of : ℕ → ShortEntry
niladic_of k = get_or niladic_table k (cond (ltb k 0x200) entry.Unimplemented (cond (ltb k 0x400) entry.Trap entry.Unlisted))

-- what a place of Tables 1-18 and 1-20 may have, and of Table 1-19
abbrev pub DyadicEntry : Type 0
DyadicEntry = Entry DyadicRow Rule

abbrev pub MonadicEntry : Type 0
MonadicEntry = Entry MonadicRow MonadicRule

-- Tables 1-18 and 1-20, opcodes 0 to 63: they differ at 0 alone, which in three parcels is the monadics'
abbrev pub dyadic_table : List DyadicEntry
dyadic_table =
    place.Unimplemented
    ∷ place.Row dyadic.Ori OneRegister
    ∷ place.Row dyadic.Andi OneRegister
    ∷ place.Row dyadic.Addi OneRegister
    ∷ place.Row dyadic.Mova Address
    ∷ place.Row dyadic.Urem OneRegister
    ∷ place.Row dyadic.Mov AnyTwo
    ∷ place.Row dyadic.Dqm Multiple
    ∷ place.Unimplemented
    ∷ place.Unimplemented
    ∷ place.Unimplemented
    ∷ place.Unimplemented
    ∷ place.Row dyadic.Tadd OneRegister
    ∷ place.Row dyadic.Tsub OneRegister
    ∷ place.Unimplemented
    ∷ place.Unimplemented
    ∷ place.Unimplemented
    ∷ place.Unimplemented
    ∷ place.Unimplemented
    ∷ place.Unimplemented
    ∷ place.Unimplemented
    ∷ place.Unimplemented
    ∷ place.Unimplemented
    ∷ place.Unimplemented
    ∷ place.Unimplemented
    ∷ place.Unimplemented
    ∷ place.Unimplemented
    ∷ place.Unimplemented
    ∷ place.Unimplemented
    ∷ place.Row dyadic.Cmpgt OneRegister
    ∷ place.Row dyadic.Cmphi OneRegister
    ∷ place.Row dyadic.Cmpeq OneRegister
    ∷ place.Row dyadic.Sub OneRegister
    ∷ place.Row dyadic.Or OneRegister
    ∷ place.Row dyadic.And OneRegister
    ∷ place.Row dyadic.Add OneRegister
    ∷ place.Row dyadic.Xor OneRegister
    ∷ place.Row dyadic.Rem OneRegister
    ∷ place.Row dyadic.Mul OneRegister
    ∷ place.Row dyadic.Div OneRegister
    ∷ place.Unimplemented
    ∷ place.Unimplemented
    ∷ place.Unimplemented
    ∷ place.Unimplemented
    ∷ place.Row dyadic.Shr OneRegister
    ∷ place.Row dyadic.Ushr OneRegister
    ∷ place.Row dyadic.Shl OneRegister
    ∷ place.Row dyadic.Udiv OneRegister
    ∷ place.Row dyadic.Sub3 OneRegister
    ∷ place.Row dyadic.Or3 OneRegister
    ∷ place.Row dyadic.And3 OneRegister
    ∷ place.Row dyadic.Add3 OneRegister
    ∷ place.Row dyadic.Xor3 OneRegister
    ∷ place.Row dyadic.Rem3 OneRegister
    ∷ place.Row dyadic.Mul3 OneRegister
    ∷ place.Row dyadic.Div3 OneRegister
    ∷ place.Unimplemented
    ∷ place.Unimplemented
    ∷ place.Unimplemented
    ∷ place.Unimplemented
    ∷ place.Row dyadic.Shr3 OneRegister
    ∷ place.Row dyadic.Ushr3 OneRegister
    ∷ place.Row dyadic.Shl3 OneRegister
    ∷ place.Unimplemented
    ∷ []

abbrev pub dyadic_of : ℕ → DyadicEntry
dyadic_of k = get_or dyadic_table k place.Unlisted

-- Table 1-19, subcodes 0 to 15: FLUSHDCE (0xD) is unimplemented
abbrev pub monadic_table : List MonadicEntry
monadic_table =
    place.Row monadic.Kcall rule.Word
    ∷ place.Row monadic.Call rule.Flow
    ∷ place.Row monadic.Return rule.Stack
    ∷ place.Row monadic.Jmp rule.Flow
    ∷ place.Row monadic.Jmpfn rule.Jump
    ∷ place.Row monadic.Jmpfy rule.Jump
    ∷ place.Row monadic.Jmptn rule.Jump
    ∷ place.Row monadic.Jmpty rule.Jump
    ∷ place.Row monadic.Catch rule.Word
    ∷ place.Row monadic.Enter rule.Enter
    ∷ place.Row monadic.Ldraa rule.Flow
    ∷ place.Row monadic.Flushpte rule.Word
    ∷ place.Row monadic.Flushpbe rule.Word
    ∷ place.Unimplemented
    ∷ place.Unimplemented
    ∷ place.Row monadic.Popn rule.Stack
    ∷ []

abbrev pub monadic_of : ℕ → MonadicEntry
monadic_of k = get_or monadic_table k place.Unlisted

-- Table 1-21, modes 0 to 15
abbrev pub general_table : List ModeEntry
general_table =
    mode.General AbsoluteByte
    ∷ mode.General AbsoluteUbyte
    ∷ mode.General AbsoluteHalf
    ∷ mode.General AbsoluteUhalf
    ∷ mode.General StackByte
    ∷ mode.General StackUbyte
    ∷ mode.General StackHalf
    ∷ mode.General StackUhalf
    ∷ mode.General IndirectByte
    ∷ mode.General IndirectUbyte
    ∷ mode.General IndirectHalf
    ∷ mode.General IndirectUhalf
    ∷ mode.General AbsoluteWord
    ∷ mode.General StackWord
    ∷ mode.General IndirectWord
    ∷ mode.General Immediate
    ∷ []

abbrev pub general_of : ℕ → ModeEntry
general_of k = get_or general_table k mode.Unlisted

-- Table 1-22, after a CPU prefix
abbrev pub prefixed_table : List ModeEntry
prefixed_table =
    mode.Unlisted
    ∷ mode.Unlisted
    ∷ mode.Unlisted
    ∷ mode.Unlisted
    ∷ mode.Unlisted
    ∷ mode.Unlisted
    ∷ mode.Unlisted
    ∷ mode.Register
    ∷ mode.Unlisted
    ∷ mode.Unlisted
    ∷ mode.Unlisted
    ∷ mode.Unlisted
    ∷ mode.General AbsoluteWord
    ∷ mode.General StackWord
    ∷ mode.General IndirectWord
    ∷ mode.General Immediate
    ∷ []

abbrev pub prefixed_of : ℕ → ModeEntry
prefixed_of k = get_or prefixed_table k mode.Unlisted

-- the modes of a monadic from 0xC on: the word modes of Table 1-21, or those of Table 1-23
abbrev pub monadic_modes : MonadicRule → List (Option MonadicMode)
monadic_modes rule.Word = Some WordAbsolute ∷ Some WordStack ∷ Some WordIndirect ∷ Some WordImmediate ∷ []
monadic_modes rule.Flow =
    Some FlowAbsoluteIndirect ∷ Some FlowStackIndirect ∷ Some FlowRelative ∷ Some FlowAbsolute ∷ []
monadic_modes rule.Jump = None ∷ None ∷ Some FlowRelative ∷ Some FlowAbsolute ∷ []
monadic_modes rule.Stack = None ∷ Some WordStack ∷ None ∷ None ∷ []
monadic_modes rule.Enter = Some WordAbsolute ∷ Some WordStack ∷ Some WordIndirect ∷ Some WordImmediate ∷ []

abbrev pub monadic_mode_of : MonadicRule → ℕ → Option MonadicMode
monadic_mode_of r k = cond (ltb k 0xC) None (get_or (monadic_modes r) (k - 0xC) None)
