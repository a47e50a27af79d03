-- The order in which the code decides: each way is taken at one place only, with or without a prefix, in three or five
-- parcels. The public contracts cite isa's definitions; that these agree with them is proved.
-- Assumes nothing.
use Rattle.std.specs.Prelude.{ℕ, ◌-◌, ◌/◌, ◌%◌, Bool, true, false, cond, ltb, eqb, Err}
use Rattle.isa.specs.declared.Mode.{Mode}
use Rattle.isa.specs.declared.Mode.TheVariants.{AbsoluteByte, AbsoluteUbyte, AbsoluteHalf, AbsoluteUhalf, StackByte, StackUbyte, StackHalf, StackUhalf, IndirectByte, IndirectUbyte, IndirectHalf, IndirectUhalf, AbsoluteWord, StackWord, IndirectWord, Immediate}
use Rattle.isa.specs.declared.Wide.{Wide}
use Rattle.isa.specs.declared.Wide.TheVariants.{Three, Five}
use Rattle.isa.specs.declared.Text.{Text}
use Rattle.isa.specs.declared.Undecoded.TheVariants.{Illegal, Truncated}
use Rattle.isa.specs.Decode.{joined, decode_short, decode_wide}
use Rattle.isa.specs.Answers.{Decoded}

-- modes whose 16 bits are not extended
abbrev pub absolute_of : Mode → Bool
absolute_of AbsoluteByte = true
absolute_of AbsoluteUbyte = true
absolute_of AbsoluteHalf = true
absolute_of AbsoluteUhalf = true
absolute_of StackByte = false
absolute_of StackUbyte = false
absolute_of StackHalf = false
absolute_of StackUhalf = false
absolute_of IndirectByte = false
absolute_of IndirectUbyte = false
absolute_of IndirectHalf = false
absolute_of IndirectUhalf = false
absolute_of AbsoluteWord = true
absolute_of StackWord = false
absolute_of IndirectWord = false
absolute_of Immediate = false

-- only in three parcels is opcode 0 the monadics'
abbrev pub monadic_form : Wide → ℕ → Bool
monadic_form Three p = eqb (p / 256 % 64) 0
monadic_form Five p = false

-- the operand fields among the parcels after the first
abbrev pub first_of : Wide → ℕ → ℕ → ℕ
first_of Three a b = a
first_of Five a b = joined a b

abbrev pub second_of : Wide → ℕ → ℕ → ℕ → ℕ
second_of Three b c d = b
second_of Five b c d = joined c d

-- a text without its prefix
abbrev pub rest_of : Bool → Text → Text
rest_of true t =
    record { count = t.count - 1; p0 = t.p1; p1 = t.p2; p2 = t.p3; p3 = t.p4; p4 = t.p5; p5 = 0 }
rest_of false t = t

abbrev pub short_rest : Bool → ℕ → Decoded
short_rest true p = Err Illegal
short_rest false p = decode_short p

unfoldable pub decode_rest : Bool → Text → Decoded
decode_rest pre t =
    cond (ltb t.count 1) (Err Truncated)
    (cond (ltb t.p0 0x8000) (short_rest pre t.p0)
    (decode_wide pre (t.count - 1) t.p0 t.p1 t.p2 t.p3 t.p4))
