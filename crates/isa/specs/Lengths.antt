-- How many parcels an instruction has: those of its form (1.6), and one for a CPU prefix.
use Rattle.std.specs.Prelude.{ℕ, ◌+◌, ◌-◌, Bool, true, false, cond, ltb}
use Rattle.isa.specs.declared.Wide.{Wide}
use Rattle.isa.specs.declared.Wide.TheVariants.{Three, Five}
use Rattle.isa.specs.declared.Instruction.{Instruction}
use Rattle.isa.specs.declared.Instruction.TheVariants as instruction

abbrev pub short_length : ℕ
short_length = 1

abbrev pub wide_length : Wide → ℕ
wide_length Three = 3
wide_length Five = 5

abbrev pub prefix_length : Bool → ℕ
prefix_length true = 1
prefix_length false = 0

-- request (g): "1, 3 or 5, and 4 or 6 after a CPU prefix"; a monadic has three without it
abbrev pub length_of : Instruction → ℕ
length_of (instruction.Short i) = short_length
length_of (instruction.Dyadic i) = wide_length i.wide + prefix_length i.prefix
length_of (instruction.Monadic i) = wide_length Three + prefix_length i.prefix

-- the form of a parcel that begins an instruction, if its top bit is 1: 10 is three, 11 five
abbrev pub form_of : ℕ → Wide
form_of p = cond (ltb p 0xC000) Three Five

-- how many parcels a form calls for after its first
abbrev pub after_of : Wide → ℕ
after_of w = wide_length w - 1

-- how many follow a parcel that begins an instruction, by its top bits: 0, 10 or 11
abbrev pub following : ℕ → ℕ
following p = cond (ltb p 0x8000) (short_length - 1) (after_of (form_of p))
