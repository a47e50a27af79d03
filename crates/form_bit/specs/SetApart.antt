-- The first parcels that the encodings lists set apart between three and five parcels: of opcode 0, which in three parcels is the
-- monadics' (Table 1-19) and in five an unimplemented dyadic (Table 1-20). A parcel is given by its low byte: in three parcels the
-- mode and the subcode, in five the modes of source and destination.
use Rattle.std.specs.Prelude.{ℕ, ◌+◌, ◌*◌, Bool, true, false, not, ◌&&◌, ◌||◌, List, [], ◌∷◌, ◌++◌, map, eqb}
use Rattle.word.specs.Lists.{contains}
use Rattle.isa.specs.declared.MonadicRow.{MonadicRow}
use Rattle.isa.specs.declared.MonadicRow.TheVariants.{Kcall, Call, Return, Jmp, Jmpfn, Jmpfy, Jmptn, Jmpty, Catch, Enter, Ldraa, Flushpte, Flushpbe, Popn}
use Rattle.isa.specs.Legal.{negative}
use Rattle.isa.specs.Encodings.{monadic_listed}

-- every byte of a high digit and a low digit
abbrev pub low_bytes : List ℕ → List ℕ → List ℕ
low_bytes [] ls = []
low_bytes (h ∷ hs) ls = map (λ l. h * 16 + l) ls ++ low_bytes hs ls

-- Table 1-21: the word modes, and the others
abbrev pub word_modes : List ℕ
word_modes = 0xC ∷ 0xD ∷ 0xE ∷ 0xF ∷ []

abbrev pub other_modes : List ℕ
other_modes = 0x0 ∷ 0x1 ∷ 0x2 ∷ 0x3 ∷ 0x4 ∷ 0x5 ∷ 0x6 ∷ 0x7 ∷ 0x8 ∷ 0x9 ∷ 0xA ∷ 0xB ∷ []

abbrev pub subcodes : List MonadicRow → List ℕ
subcodes rows = map (λ r. (monadic_listed r).subcode) rows

abbrev pub set_apart : Bool → List ℕ
-- without a prefix five parcels are unimplemented in every mode; three are illegal where the mode is no word's, and else an
-- instruction, or illegal in a mode that it has not: all but the unimplemented subcodes 0xD (FLUSHDCE) and 0xE in a word mode
set_apart false =
    low_bytes other_modes (other_modes ++ word_modes)
    ++ low_bytes word_modes
    (subcodes (Kcall ∷ Call ∷ Return ∷ Jmp ∷ Jmpfn ∷ Jmpfy ∷ Jmptn ∷ Jmpty ∷ Catch ∷ Enter ∷ Ldraa ∷ Flushpte ∷ Flushpbe ∷ Popn ∷ []))
-- after a prefix five parcels are unimplemented where both are word modes, or one of them and the register mode 0x7, and else
-- illegal. Set apart are the instructions of three, in the modes that they have:
set_apart true =
    low_bytes word_modes (subcodes (Kcall ∷ Call ∷ Jmp ∷ Catch ∷ Enter ∷ Ldraa ∷ Flushpte ∷ Flushpbe ∷ []))
    ++ low_bytes (0xE ∷ 0xF ∷ []) (subcodes (Jmpfn ∷ Jmpfy ∷ Jmptn ∷ Jmpty ∷ []))
    ++ low_bytes (0xD ∷ []) (subcodes (Return ∷ Popn ∷ []))
    -- and what is illegal in three and unimplemented in five
    ++ low_bytes (0x7 ∷ []) word_modes
    ++ low_bytes (0xC ∷ 0xD ∷ []) (subcodes (Jmpty ∷ []))
    ++ low_bytes (0xC ∷ 0xE ∷ 0xF ∷ []) (subcodes (Popn ∷ []))

-- q: the 14 bits that a first parcel of either form has below its form's
abbrev pub is_set_apart : Bool → ℕ → Bool
is_set_apart pre q = contains (set_apart pre) q

-- RETURN and ENTER with a stack offset
abbrev pub return_offset : ℕ
return_offset = 0xD2

abbrev pub enter_offset : ℕ
enter_offset = 0xD9

-- after a prefix RETURN of a negative offset, and ENTER of another, are illegal in three parcels as they are in five: v is the operand
abbrev pub by_sign : Bool → ℕ → ℕ → Bool
by_sign pre q v = pre && (eqb q return_offset && negative v || eqb q enter_offset && not (negative v))
