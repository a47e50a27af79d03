-- Every row of the encodings lists at length 2 is decoded from the parcel that it encodes to.
-- Assumes nothing.
use Prim.Native.Nat.{ℕ, ◌+◌, ◌*◌, ◌<◌, ◌/◌, ◌%◌}
use mathlib.Core.Path.{◌≡◌, refl, ap, ap₂, ◌∙◌}
use native.Mathlib.Omega.{arith}
use lib.Dec.{lit<}
use Rattle.isa.specs.declared.ShortRow.{ShortRow}
use Rattle.isa.specs.declared.ShortRow.TheVariants as short
use Rattle.isa.specs.declared.FieldMode.{FieldMode}
use Rattle.isa.specs.declared.FieldMode.TheVariants.{Absent}
use Rattle.isa.specs.declared.ShortEntry.{ShortEntry}
use Rattle.isa.specs.declared.ShortEntry.TheVariants.{Row}
use Rattle.isa.specs.declared.ShortInstruction.{ShortInstruction}
use Rattle.isa.specs.declared.Instruction.TheVariants.{Short}
use Rattle.isa.specs.Answers.{with_length}
use Rattle.isa.specs.Fields.{source_field, field_value}
use Rattle.isa.specs.Tables.{short_of, stack_of, niladic_of}
use Rattle.isa.specs.Encodings.{short_listed}
use Rattle.isa.specs.Decode.{short_entry, short_answer, decode_short}
use Rattle.isa.specs.Encode.{raw_field, short_parcel}

-- the instruction that a row and two fields stand for
abbrev pub fielded : ShortRow → FieldMode → FieldMode → ℕ → ℕ → ShortInstruction
fielded r s d x y = record { row = r; source = field_value s x; destination = field_value d y }

-- a parcel of the one-parcel form that is decoded to i
pub record From (p : ℕ) (i : ShortInstruction) : Type 0 where
  pub below : p < 0x8000
  pub decoded : decode_short p ≡ with_length (Short i)

-- by what the tables hold at p and what its fields are
found : {r : ShortRow} {s d : FieldMode} (p x y : ℕ) → p < 0x8000 → short_entry (short_of (p / 1024 % 32)) p ≡ Row r s d
    → source_field s p ≡ x → field_value d (p % 32) ≡ field_value d y → From p (fielded r s d x y)
unfolding decode_short
found {r} {s} {d} p x y h e f g =
    record {
      below = h;
      decoded =
          ap (λ (w : ShortEntry). short_answer w p) e
          ∙ ap₂ (λ (a b : ℕ). with_length (Short (record { row = r; source = a; destination = b }))) (ap (field_value s) f) g;
    }

-- an opcode with two fields of five bits, and with one of ten
two : {r : ShortRow} {s d : FieldMode} (k a b : ℕ) → k < 32 → short_of k ≡ Row r s d → ((p : ℕ) → source_field s p ≡ p / 32 % 32)
    → From (k * 1024 + a % 32 * 32 + b % 32) (fielded r s d (a % 32) (b % 32))
two {r} {s} {d} k a b h e f =
    let p = k * 1024 + a % 32 * 32 + b % 32 in
    let o : p / 1024 % 32 ≡ k = omega arith in
    let x : p / 32 % 32 ≡ a % 32 = omega arith in
    let y : p % 32 ≡ b % 32 = omega arith in
    found p (a % 32) (b % 32) (omega arith) (ap (λ (n : ℕ). short_entry (short_of n) p) o ∙ ap (λ (w : ShortEntry). short_entry w p) e)
    (f p ∙ x) (ap (field_value d) y)

ten : {r : ShortRow} {s : FieldMode} (k a : ℕ) → k < 32 → short_of k ≡ Row r s Absent → ((p : ℕ) → source_field s p ≡ p % 1024)
    → From (k * 1024 + a % 1024 + 0) (fielded r s Absent (a % 1024) 0)
ten {r} {s} k a h e f =
    let p = k * 1024 + a % 1024 + 0 in
    let o : p / 1024 % 32 ≡ k = omega arith in
    let x : p % 1024 ≡ a % 1024 = omega arith in
    found p (a % 1024) 0 (omega arith) (ap (λ (n : ℕ). short_entry (short_of n) p) o ∙ ap (λ (w : ShortEntry). short_entry w p) e) (f p ∙ x) refl

-- a subcode of opcode 2 with a field of eight bits, and a subcode of opcode 0xB
eight : {r : ShortRow} {s : FieldMode} (j a : ℕ) → j < 4 → stack_of j ≡ Row r s Absent → ((p : ℕ) → source_field s p ≡ p % 256)
    → From (0x02 * 1024 + j * 256 + a % 256 + 0) (fielded r s Absent (a % 256) 0)
eight {r} {s} j a h e f =
    let p = 0x02 * 1024 + j * 256 + a % 256 + 0 in
    let o : p / 1024 % 32 ≡ 2 = omega arith in
    let c : p / 256 % 4 ≡ j = omega arith in
    let x : p % 256 ≡ a % 256 = omega arith in
    found p (a % 256) 0 (omega arith) (ap (λ (n : ℕ). short_entry (short_of n) p) o ∙ ap stack_of c ∙ e) (f p ∙ x) refl

none : {r : ShortRow} (j : ℕ) → j < 1024 → niladic_of j ≡ Row r Absent Absent → From (0x0B * 1024 + j + 0 + 0) (fielded r Absent Absent 0 0)
none {r} j h e =
    let p = 0x0B * 1024 + j + 0 + 0 in
    let o : p / 1024 % 32 ≡ 0xB = omega arith in
    let c : p % 1024 ≡ j = omega arith in
    found p 0 0 (omega arith) (ap (λ (n : ℕ). short_entry (short_of n) p) o ∙ ap niladic_of c ∙ e) refl refl

pub row : (r : ShortRow) (u v : ℕ)
    → From (short_parcel (short_listed r) u v)
    (fielded r (short_listed r).source (short_listed r).destination (raw_field (short_listed r).source u) (raw_field (short_listed r).destination v))
row short.Add3WaiStk u v = two 0x0D (u / 4) (v / 4) (lit< tt) refl (λ p. refl)
row short.AddImmStk u v = two 0x14 u (v / 4) (lit< tt) refl (λ p. refl)
row short.Add3ImmStk u v = two 0x15 u (v / 4) (lit< tt) refl (λ p. refl)
row short.AddStkStk u v = two 0x16 (u / 4) (v / 4) (lit< tt) refl (λ p. refl)
row short.Add3StkStk u v = two 0x17 (u / 4) (v / 4) (lit< tt) refl (λ p. refl)
row short.And3ImmStk u v = two 0x0E u (v / 4) (lit< tt) refl (λ p. refl)
row short.AndStkStk u v = two 0x0F (u / 4) (v / 4) (lit< tt) refl (λ p. refl)
row short.Call u v = ten 0x01 (u / 2) (lit< tt) refl (λ p. refl)
row short.Catch u v = eight 0x1 (u / 16) (lit< tt) refl (λ p. refl)
row short.Clre u v = none 0xA (lit< tt) refl
row short.CmpeqImmStk u v = two 0x10 u (v / 4) (lit< tt) refl (λ p. refl)
row short.CmpgtStkStk u v = two 0x11 (u / 4) (v / 4) (lit< tt) refl (λ p. refl)
row short.CmpgtImmStk u v = two 0x12 u (v / 4) (lit< tt) refl (λ p. refl)
row short.CmpeqStkStk u v = two 0x13 (u / 4) (v / 4) (lit< tt) refl (λ p. refl)
row short.Cret u v = none 0x5 (lit< tt) refl
row short.Enter u v = eight 0x0 (u / 16) (lit< tt) refl (λ p. refl)
row short.Flushi u v = none 0x3 (lit< tt) refl
row short.Flushp u v = none 0x4 (lit< tt) refl
row short.Jmp u v = ten 0x03 (u / 2) (lit< tt) refl (λ p. refl)
row short.Jmpfn u v = ten 0x04 (u / 2) (lit< tt) refl (λ p. refl)
row short.Jmpfy u v = ten 0x05 (u / 2) (lit< tt) refl (λ p. refl)
row short.Jmptn u v = ten 0x06 (u / 2) (lit< tt) refl (λ p. refl)
row short.Jmpty u v = ten 0x07 (u / 2) (lit< tt) refl (λ p. refl)
row short.Kcall u v = ten 0x00 (u / 4) (lit< tt) refl (λ p. refl)
row short.Kret u v = none 0x1 (lit< tt) refl
row short.MovWaiStk u v = two 0x0A (u / 4) (v / 4) (lit< tt) refl (λ p. refl)
row short.MovStkStk u v = two 0x18 (u / 4) (v / 4) (lit< tt) refl (λ p. refl)
row short.MovIstkStk u v = two 0x19 (u / 4) (v / 4) (lit< tt) refl (λ p. refl)
row short.MovStkIstk u v = two 0x1A (u / 4) (v / 4) (lit< tt) refl (λ p. refl)
row short.MovIstkIstk u v = two 0x1B (u / 4) (v / 4) (lit< tt) refl (λ p. refl)
row short.MovImmStk u v = two 0x1C u (v / 4) (lit< tt) refl (λ p. refl)
row short.MovaStkStk u v = two 0x1D (u / 4) (v / 4) (lit< tt) refl (λ p. refl)
row short.Nop u v = none 0x2 (lit< tt) refl
row short.Popn u v = eight 0x3 (u / 16) (lit< tt) refl (λ p. refl)
row short.Return u v = eight 0x2 (u / 16) (lit< tt) refl (λ p. refl)
row short.Shl3UimmStk u v = two 0x1E u (v / 4) (lit< tt) refl (λ p. refl)
row short.Shr3UimmStk u v = two 0x1F u (v / 4) (lit< tt) refl (λ p. refl)
row short.Testc u v = none 0x9 (lit< tt) refl
row short.Testv u v = none 0x8 (lit< tt) refl
