-- An instruction as a block of eight words, for callers that have no enumerations:
--   0  kind: 1 one parcel, 2 two operands, 3 one operand of 32 bits
--   1  row, as the encodings lists number it: the parcel with its operand bits 0, the opcode, or the subcode
--   2  length in parcels, the prefix counted: 1; 3 to 6; 3 or 4
--   3  prefix: 1 if there is a CPU prefix
--   4  source mode of a dyadic, or the mode of a monadic
--   5  source value, or the register's number
--   6  destination mode of a dyadic
--   7  destination value, or the register's number
-- A word that a kind has no use for is 0. A dyadic's form is word 2 less word 3. The row of a block is the one that the decoder's
-- tables have at its number. What is not of this shape, or has a length that is not its form's and its prefix's, names no
-- instruction: proofs/RoundTrip.antt shows that blocks and instructions are each other's.
-- Assumes nothing.
use Rattle.std.specs.Prelude.{ℕ, ◌+◌, Bool, cond, ◌&&◌, List, [], ◌∷◌, length, get_or, ltb, leb, eqb, Option, Some, None}
use Rattle.isa.specs.declared.ShortEntry.{ShortEntry}
use Rattle.isa.specs.declared.ShortEntry.TheVariants as short
use Rattle.isa.specs.declared.Entry.TheVariants as place
use Rattle.isa.specs.declared.Mode.{Mode}
use Rattle.isa.specs.declared.Mode.TheVariants.{Immediate}
use Rattle.isa.specs.declared.ModeEntry.{ModeEntry}
use Rattle.isa.specs.declared.ModeEntry.TheVariants as mode
use Rattle.isa.specs.declared.MonadicRule.TheVariants as rule
use Rattle.isa.specs.declared.MonadicMode.{MonadicMode}
use Rattle.isa.specs.declared.MonadicMode.TheVariants.{WordAbsolute, WordStack, WordIndirect, WordImmediate, FlowAbsoluteIndirect, FlowStackIndirect, FlowRelative, FlowAbsolute}
use Rattle.isa.specs.declared.Operand.{Operand}
use Rattle.isa.specs.declared.Operand.TheVariants.{General, Register}
use Rattle.isa.specs.declared.Wide.{Wide}
use Rattle.isa.specs.declared.Wide.TheVariants.{Three, Five}
use Rattle.isa.specs.declared.Instruction.{Instruction}
use Rattle.isa.specs.declared.Instruction.TheVariants as instruction
use Rattle.isa.specs.Tables.{short_of, dyadic_of, monadic_of, general_of, monadic_mode_of, DyadicEntry, MonadicEntry}
use Rattle.isa.specs.Fields.{short_opcode}
use Rattle.isa.specs.Decode.{short_entry}
use Rattle.isa.specs.Encodings.{short_listed, dyadic_listed, monadic_listed}
use Rattle.isa.specs.Lengths.{short_length, wide_length, prefix_length}
use Rattle.isa.specs.Encode.{mode_code, operand_raw}

-- ---- the block of an instruction with its length

-- a register comes after the sixteen modes of Table 1-21, which keep their codes
abbrev pub register_mode : ℕ
register_mode = 16

abbrev pub operand_mode : Operand → ℕ
operand_mode (General m v) = mode_code m
operand_mode (Register n) = register_mode

-- Tables 1-21 and 1-23 use the codes 0xC to 0xF twice, so a monadic's mode is its place in the declared order
abbrev pub monadic_mode_place : MonadicMode → ℕ
monadic_mode_place WordAbsolute = 0
monadic_mode_place WordStack = 1
monadic_mode_place WordIndirect = 2
monadic_mode_place WordImmediate = 3
monadic_mode_place FlowAbsoluteIndirect = 4
monadic_mode_place FlowStackIndirect = 5
monadic_mode_place FlowRelative = 6
monadic_mode_place FlowAbsolute = 7

abbrev pub block_of : Instruction → ℕ → List ℕ
block_of (instruction.Short i) n = 1 ∷ (short_listed i.row).base ∷ n ∷ 0 ∷ 0 ∷ i.source ∷ 0 ∷ i.destination ∷ []
block_of (instruction.Dyadic i) n =
    2 ∷ (dyadic_listed i.row).opcode ∷ n ∷ prefix_length i.prefix
    ∷ operand_mode i.source ∷ operand_raw i.source
    ∷ operand_mode i.destination ∷ operand_raw i.destination ∷ []
block_of (instruction.Monadic i) n =
    3 ∷ (monadic_listed i.row).subcode ∷ n ∷ prefix_length i.prefix ∷ monadic_mode_place i.mode ∷ i.value ∷ 0 ∷ 0 ∷ []

-- ---- the instruction in a block: row r, length w, prefix p, source mode s and value x, destination mode d and value y

-- one parcel: the row that the tables have at r, if r has no operand bits
abbrev pub short_named : ShortEntry → ℕ → ℕ → ℕ → Option Instruction
short_named (short.Row q s d) r x y =
    cond (eqb (short_listed q).base r)
    (Some (instruction.Short (record { row = q; source = x; destination = y })))
    None
short_named short.Stack r x y = None
short_named short.Niladic r x y = None
short_named short.Prefix r x y = None
short_named short.Unimplemented r x y = None
short_named short.Trap r x y = None
short_named short.Unlisted r x y = None

abbrev pub is_short : ℕ → ℕ → ℕ → ℕ → ℕ → Bool
is_short r w p s d = ltb r 0x8000 && eqb w short_length && eqb p 0 && eqb s 0 && eqb d 0

unfoldable pub short_in : ℕ → ℕ → ℕ → ℕ → ℕ → ℕ → ℕ → Option Instruction
short_in r w p s x d y =
    cond (is_short r w p s d) (short_named (short_entry (short_of (short_opcode r)) r) r x y) None

-- the length is the form's and the prefix's
abbrev pub length_agrees : Wide → ℕ → ℕ → Bool
length_agrees f w p = eqb w (wide_length f + prefix_length (eqb p 1))

-- two operands: a mode by Table 1-21, whose numbers end below register_mode, so that no other entry is found
abbrev pub mode_at : ModeEntry → Mode
mode_at (mode.General m) = m
mode_at mode.Register = Immediate
mode_at mode.Unlisted = Immediate

abbrev pub operand_in : ℕ → ℕ → Operand
operand_in k v = cond (eqb k register_mode) (Register v) (General (mode_at (general_of k)) v)

abbrev pub dyadic_named : DyadicEntry → Wide → ℕ → Operand → Operand → Option Instruction
dyadic_named (place.Row q u) w p a b =
    Some (instruction.Dyadic (record { row = q; wide = w; prefix = eqb p 1; source = a; destination = b }))
dyadic_named place.Unimplemented w p a b = None
dyadic_named place.Unlisted w p a b = None

abbrev pub is_dyadic : ℕ → ℕ → ℕ → Bool
is_dyadic p s d = ltb p 2 && leb s register_mode && leb d register_mode

unfoldable pub dyadic_in : Wide → ℕ → ℕ → ℕ → ℕ → ℕ → ℕ → Option Instruction
dyadic_in w r p s x d y = cond (is_dyadic p s d) (dyadic_named (dyadic_of r) w p (operand_in s x) (operand_in d y)) None

-- one operand: the word modes of Table 1-21, then the modes of Table 1-23, both from their code 0xC on
abbrev pub monadic_mode_in : ℕ → Option MonadicMode
monadic_mode_in k =
    cond (ltb k 4) (monadic_mode_of rule.Word (k + 0xC)) (cond (ltb k 8) (monadic_mode_of rule.Flow (k + 8)) None)

abbrev pub monadic_named : MonadicEntry → ℕ → Option MonadicMode → ℕ → Option Instruction
monadic_named (place.Row q u) p (Some m) x =
    Some (instruction.Monadic (record { row = q; prefix = eqb p 1; mode = m; value = x }))
monadic_named (place.Row q u) p None x = None
monadic_named place.Unimplemented p m x = None
monadic_named place.Unlisted p m x = None

abbrev pub is_monadic : ℕ → ℕ → ℕ → ℕ → Bool
is_monadic w p d y = length_agrees Three w p && ltb p 2 && eqb d 0 && eqb y 0

unfoldable pub monadic_in : ℕ → ℕ → ℕ → ℕ → ℕ → ℕ → ℕ → Option Instruction
monadic_in r w p m x d y = cond (is_monadic w p d y) (monadic_named (monadic_of r) p (monadic_mode_in m) x) None

unfoldable pub kind_in : ℕ → ℕ → ℕ → ℕ → ℕ → ℕ → ℕ → ℕ → Option Instruction
kind_in k r w p s x d y =
    cond (eqb k 1) (short_in r w p s x d y)
    (cond (eqb k 2 && length_agrees Three w p) (dyadic_in Three r p s x d y)
    (cond (eqb k 2 && length_agrees Five w p) (dyadic_in Five r p s x d y)
    (cond (eqb k 3) (monadic_in r w p s x d y) None)))

unfoldable pub instruction_in : List ℕ → Option Instruction
instruction_in b =
    cond (eqb (length b) 8)
    (kind_in (get_or b 0 0) (get_or b 1 0) (get_or b 2 0) (get_or b 3 0) (get_or b 4 0) (get_or b 5 0) (get_or b 6 0) (get_or b 7 0))
    None
