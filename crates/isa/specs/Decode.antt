-- The decoder: what one to six parcels say (sections 1.6 and 1.11.4).
use Rattle.std.specs.Prelude.{ℕ, ◌+◌, ◌*◌, ◌-◌, ◌/◌, ◌%◌, Bool, true, false, cond, List, length, get_or, ltb, eqb, Option, Some, None, Err}
use Rattle.isa.specs.declared.ShortRow.{ShortRow}
use Rattle.isa.specs.declared.FieldMode.{FieldMode}
use Rattle.isa.specs.declared.ShortEntry.{ShortEntry}
use Rattle.isa.specs.declared.ShortEntry.TheVariants as short
use Rattle.isa.specs.declared.ShortInstruction.{ShortInstruction}
use Rattle.isa.specs.declared.Mode.{Mode}
use Rattle.isa.specs.declared.Mode.TheVariants.{AbsoluteByte, AbsoluteUbyte, AbsoluteHalf, AbsoluteUhalf, StackByte, StackUbyte, StackHalf, StackUhalf, IndirectByte, IndirectUbyte, IndirectHalf, IndirectUhalf, AbsoluteWord, StackWord, IndirectWord, Immediate}
use Rattle.isa.specs.declared.ModeEntry.{ModeEntry}
use Rattle.isa.specs.declared.ModeEntry.TheVariants as mode
use Rattle.isa.specs.declared.Operand.{Operand}
use Rattle.isa.specs.declared.Operand.TheVariants as operand
use Rattle.isa.specs.declared.Wide.{Wide}
use Rattle.isa.specs.declared.Wide.TheVariants.{Three, Five}
use Rattle.isa.specs.declared.Rule.TheVariants.{OneRegister}
use Rattle.isa.specs.declared.Entry.TheVariants as place
use Rattle.isa.specs.declared.MonadicRow.{MonadicRow}
use Rattle.isa.specs.declared.MonadicRule.{MonadicRule}
use Rattle.isa.specs.declared.Instruction.TheVariants as instruction
use Rattle.isa.specs.declared.Text.{Text}
use Rattle.isa.specs.declared.Undecoded.TheVariants.{Illegal, Unimplemented, Truncated}
use Rattle.isa.specs.declared.MonadicMode.{MonadicMode}
use Rattle.word.specs.Widths.{sign_extend_of}
use Rattle.isa.specs.Lengths.{wide_length}
use Rattle.isa.specs.Answers.{unimplemented_vector, niladic_trap_vector, with_length, Decoded}
use Rattle.isa.specs.Fields.{short_opcode, short_operands, source_field, destination_field, field_value}
use Rattle.isa.specs.Tables.{short_of, stack_of, niladic_of, dyadic_of, monadic_of, general_of, prefixed_of, monadic_mode_of, DyadicEntry, MonadicEntry}
use Rattle.isa.specs.Legal.{legal_of, monadic_legal_of}

-- ---- one parcel: a 0 bit, a five-bit opcode, ten operand bits

-- opcode 2 has its subcode in bits 9:8, opcode 0xB in bits 9:0
abbrev pub short_entry : ShortEntry → ℕ → ShortEntry
short_entry (short.Row r s d) p = short.Row r s d
short_entry short.Stack p = stack_of (p / 256 % 4)
short_entry short.Niladic p = niladic_of (short_operands p)
short_entry short.Prefix p = short.Prefix
short_entry short.Unimplemented p = short.Unimplemented
short_entry short.Trap p = short.Trap
short_entry short.Unlisted p = short.Unlisted

abbrev pub short_instruction : ShortRow → FieldMode → FieldMode → ℕ → ShortInstruction
short_instruction r s d p =
    record { row = r; source = field_value s (source_field s p); destination = field_value d (destination_field p) }

-- a prefix is no instruction by itself
abbrev pub short_answer : ShortEntry → ℕ → Decoded
short_answer (short.Row r s d) p = with_length (instruction.Short (short_instruction r s d p))
short_answer short.Stack p = Err Illegal
short_answer short.Niladic p = Err Illegal
short_answer short.Prefix p = Err Illegal
short_answer short.Unimplemented p = Err (Unimplemented unimplemented_vector)
short_answer short.Trap p = Err (Unimplemented niladic_trap_vector)
short_answer short.Unlisted p = Err Illegal

unfoldable pub decode_short : ℕ → Decoded
decode_short p = short_answer (short_entry (short_of (short_opcode p)) p) p

-- ---- dyadics of three and five parcels: 10 or 11, a six-bit opcode, two four-bit modes

-- 1.6.2: 16-bit immediates and offsets are sign extended; an absolute address keeps its 16 bits, since its extension
-- depends on CONFIG and PC
abbrev pub extended : Mode → ℕ → ℕ
extended AbsoluteByte x = x
extended AbsoluteUbyte x = x
extended AbsoluteHalf x = x
extended AbsoluteUhalf x = x
extended StackByte x = sign_extend_of 16 x
extended StackUbyte x = sign_extend_of 16 x
extended StackHalf x = sign_extend_of 16 x
extended StackUhalf x = sign_extend_of 16 x
extended IndirectByte x = sign_extend_of 16 x
extended IndirectUbyte x = sign_extend_of 16 x
extended IndirectHalf x = sign_extend_of 16 x
extended IndirectUhalf x = sign_extend_of 16 x
extended AbsoluteWord x = x
extended StackWord x = sign_extend_of 16 x
extended IndirectWord x = sign_extend_of 16 x
extended Immediate x = sign_extend_of 16 x

abbrev pub operand_value : Wide → Mode → ℕ → ℕ
operand_value Three m x = extended m x
operand_value Five m x = x

-- 1.7: of a register's number only bits 3:0 count
abbrev pub operand_found : Wide → ModeEntry → ℕ → Option Operand
operand_found w (mode.General m) x = Some (operand.General m (operand_value w m x))
operand_found w mode.Register x = Some (operand.Register (x % 16))
operand_found w mode.Unlisted x = None

abbrev pub mode_entry : Bool → ℕ → ModeEntry
mode_entry true k = prefixed_of k
mode_entry false k = general_of k

-- 1.11.4: an unimplemented dyadic after a prefix is illegal with an illegal mode or combination of modes
abbrev pub dyadic_answer : DyadicEntry → Wide → Bool → Operand → Operand → Decoded
dyadic_answer (place.Row r u) w pre s d =
    cond (legal_of u s d)
    (with_length (instruction.Dyadic (record { row = r; wide = w; prefix = pre; source = s; destination = d })))
    (Err Illegal)
dyadic_answer place.Unimplemented w pre s d = cond (legal_of OneRegister s d) (Err (Unimplemented unimplemented_vector)) (Err Illegal)
dyadic_answer place.Unlisted w pre s d = Err Illegal

abbrev pub both_found : DyadicEntry → Wide → Bool → Option Operand → Option Operand → Decoded
both_found e w pre (Some s) (Some d) = dyadic_answer e w pre s d
both_found e w pre (Some s) None = Err Illegal
both_found e w pre None (Some d) = Err Illegal
both_found e w pre None None = Err Illegal

-- the opcode in bits 13:8, the source's mode in 7:4, the destination's in 3:0; x and y are the operand fields
unfoldable pub decode_dyadic : Wide → Bool → ℕ → ℕ → ℕ → Decoded
decode_dyadic w pre p x y =
    both_found (dyadic_of (p / 256 % 64)) w pre
    (operand_found w (mode_entry pre (p / 16 % 16)) x)
    (operand_found w (mode_entry pre (p % 16)) y)

-- ---- monadics of three parcels: opcode 0, the mode in bits 7:4, the subcode in 3:0, an operand of 32 bits

abbrev pub monadic_found : MonadicRow → MonadicRule → Bool → Option MonadicMode → ℕ → Decoded
monadic_found r u pre (Some m) v =
    cond (monadic_legal_of u m v)
    (with_length (instruction.Monadic (record { row = r; prefix = pre; mode = m; value = v })))
    (Err Illegal)
monadic_found r u pre None v = Err Illegal

-- 1.11.4: "An unimplemented monadic instruction is illegal if it has a nonword addressing mode (<0xC)"
abbrev pub monadic_answer : MonadicEntry → Bool → ℕ → ℕ → Decoded
monadic_answer (place.Row r u) pre k v = monadic_found r u pre (monadic_mode_of u k) v
monadic_answer place.Unimplemented pre k v = cond (ltb k 0xC) (Err Illegal) (Err (Unimplemented unimplemented_vector))
monadic_answer place.Unlisted pre k v = Err Illegal

unfoldable pub decode_monadic : Bool → ℕ → ℕ → Decoded
decode_monadic pre p v = monadic_answer (monadic_of (p % 16)) pre (p / 16 % 16) v

-- ---- the form, by the first parcel or the one after a prefix

-- a word of two parcels, the high one first
abbrev pub joined : ℕ → ℕ → ℕ
joined a b = a * 65536 + b

unfoldable pub decode_three : Bool → ℕ → ℕ → ℕ → Decoded
decode_three pre p a b = cond (eqb (p / 256 % 64) 0) (decode_monadic pre p (joined a b)) (decode_dyadic Three pre p a b)

-- of a parcel p whose top bit is 1 and the parcels after it, of which there are n
unfoldable pub decode_wide : Bool → ℕ → ℕ → ℕ → ℕ → ℕ → ℕ → Decoded
decode_wide pre n p a b c d =
    cond (ltb p 0xC000)
    (cond (ltb n (wide_length Three - 1)) (Err Truncated) (decode_three pre p a b))
    (cond (ltb n (wide_length Five - 1)) (Err Truncated) (decode_dyadic Five pre p (joined a b) (joined c d)))

-- the CPU prefix: one parcel, opcode 0xB, subcode 0
abbrev pub cpu_prefix : ℕ
cpu_prefix = 0x2C00

-- document 01: "a CPU prefix before a one-parcel instruction, or before another prefix, is illegal"
unfoldable pub decode_prefixed : Text → Decoded
decode_prefixed t =
    cond (ltb t.count 2) (Err Truncated)
    (cond (ltb t.p1 0x8000) (Err Illegal) (decode_wide true (t.count - 2) t.p1 t.p2 t.p3 t.p4 t.p5))

unfoldable pub decode_bare : Text → Decoded
decode_bare t =
    cond (ltb t.p0 0x8000) (decode_short t.p0)
    (decode_wide false (t.count - 1) t.p0 t.p1 t.p2 t.p3 t.p4)

unfoldable pub decode_of : Text → Decoded
decode_of t =
    cond (ltb t.count 1) (Err Truncated)
    (cond (eqb t.p0 cpu_prefix) (decode_prefixed t) (decode_bare t))

-- the parcels of a list: its length, and the first six, as far as they go
abbrev pub text_of : List ℕ → Text
text_of ps =
    record {
      count = length ps;
      p0 = get_or ps 0 0;
      p1 = get_or ps 1 0;
      p2 = get_or ps 2 0;
      p3 = get_or ps 3 0;
      p4 = get_or ps 4 0;
      p5 = get_or ps 5 0;
    }
