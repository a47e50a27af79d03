-- The bits of an instruction's parcels that the decoder does not look at, and the parcels of a text as a list.
use Rattle.std.specs.Prelude.{ℕ, ◌/◌, ◌%◌, Bool, cond, not, ◌&&◌, ◌||◌, List, [], ◌∷◌, take, ltb, eqb}
use Rattle.isa.specs.declared.Text.{Text}
use Rattle.isa.specs.Decode.{joined, cpu_prefix}

-- 1.7: "Only bits 3:0 are considered for determining the register number. The upper bits are ignored but should be 0"
abbrev pub register_clear : ℕ → ℕ → Bool
register_clear k x = not (eqb k 0x7) || ltb x 16

-- after a prefix, by the first parcel p of the instruction: mode 7 of a dyadic is a register
abbrev pub fields_clear : ℕ → ℕ → ℕ → ℕ → ℕ → Bool
fields_clear p a b c d =
    cond (ltb p 0xC000)
    (eqb (p / 256 % 64) 0 || register_clear (p / 16 % 16) a && register_clear (p % 16) b)
    (register_clear (p / 16 % 16) (joined a b) && register_clear (p % 16) (joined c d))

-- the unused bits are zero: those above a register's number
abbrev pub unused_zero : Text → Bool
unused_zero t = not (eqb t.p0 cpu_prefix) || fields_clear t.p1 t.p2 t.p3 t.p4 t.p5

-- the parcels of a text, as far as it goes
abbrev pub parcels_of : Text → List ℕ
parcels_of t = take t.count (t.p0 ∷ t.p1 ∷ t.p2 ∷ t.p3 ∷ t.p4 ∷ t.p5 ∷ [])

-- a text cut to its first n parcels
abbrev pub first_parcels : ℕ → Text → Text
first_parcels n t =
    record {
      count = n;
      p0 = t.p0;
      p1 = cond (ltb 1 n) t.p1 0;
      p2 = cond (ltb 2 n) t.p2 0;
      p3 = cond (ltb 3 n) t.p3 0;
      p4 = cond (ltb 4 n) t.p4 0;
      p5 = cond (ltb 5 n) t.p5 0;
    }
