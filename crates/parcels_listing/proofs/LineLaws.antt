-- The lines of the list: their bytes, and the numbers that stand in them.
-- Assumes nothing.
use Prim.Native.Nat.{ℕ, suc, ◌+◌, ◌*◌, ◌≤◌, ◌<◌}
use mathlib.Core.Path.{◌≡◌, refl, sym, ap, ◌∙◌}
use mathlib.Core.List.{List, [], ◌∷◌, ◌++◌, append_assoc}
use native.Mathlib.Omega.{arith}
use lib.ListN.{length, get_or, take, drop, length-append}
use lib.Seq.{split_at, length-take-le}
use Rattle.isa.specs.Fields.{short_opcode, short_operands}
use Rattle.hex_digits.specs.Digits.{digits}
use Rattle.hex_digits.specs.Output.{Output, newline, output, written, printed}
use Rattle.hex_digits.proofs.OutputLaws.{on_printed, room_printed}
use Rattle.parcels_listing.specs.Listing.{line_size, parcel_line, parcel_lines}

-- ---- lines one after the other

pub lines_append : (a b : List ℕ) → parcel_lines (a ++ b) ≡ parcel_lines a ++ parcel_lines b
unfolding parcel_lines
lines_append [] b = refl
lines_append (p ∷ a) b = ap (λ (x : List ℕ). parcel_line p ++ x) (lines_append a b) ∙ sym (append_assoc (parcel_line p) (parcel_lines a) (parcel_lines b))

pub length_lines : (ps : List ℕ) → length (parcel_lines ps) ≡ length ps * line_size
unfolding parcel_lines
length_lines [] = refl
length_lines (p ∷ ps) = length-append (parcel_line p) (parcel_lines ps) ∙ omega (arith, length_lines ps)

pub one_line : (p : ℕ) → parcel_lines (p ∷ []) ≡ parcel_line p
unfolding parcel_lines
one_line p = refl

-- the line at a place, with those before and after it
pub line_at : (ps : List ℕ) (k : ℕ) → k < length ps
    → parcel_lines ps ≡ parcel_lines (take k ps) ++ (parcel_line (get_or ps k 0) ++ parcel_lines (drop (suc k) ps))
unfolding parcel_lines
line_at ps k h = ap parcel_lines (split_at ps k 0 h) ∙ lines_append (take k ps) (get_or ps k 0 ∷ drop (suc k) ps)

-- the bytes of the first k
pub first_lines : (ps : List ℕ) (k : ℕ) → k ≤ length ps → length (parcel_lines (take k ps)) ≡ k * line_size
first_lines ps k h = length_lines (take k ps) ∙ ap (λ (n : ℕ). n * line_size) (length-take-le k ps h)

-- ---- the digits of a line put one after the other

pub line_put : (o : List ℕ) (p q : ℕ) (w x y z : Output) (f g : ℕ) → p + line_size ≤ length o → w ≡ printed (digits 4 q) (output o p)
    → f ≡ short_opcode q → x ≡ printed (digits 2 f) w → g ≡ short_operands q → y ≡ printed (digits 3 g) x
    → z ≡ printed (newline ∷ []) y → z.bytes ≡ written o p (parcel_line q)
line_put o p q w x y z f g h i d j k l m =
    let d4 = digits 4 q in
    let d2 = digits 2 (short_opcode q) in
    let d3 = digits 3 (short_operands q) in
    let s = on_printed d4 d2 (output o p) w x 4 2 refl refl (omega (arith, h)) i (j ∙ rw d refl) in
    let s = on_printed (d4 ++ d2) d3 (output o p) x y 6 3 refl refl (omega (arith, h)) s (l ∙ rw k refl) in
    let s = on_printed (d4 ++ d2 ++ d3) (newline ∷ []) (output o p) y z 9 1 refl refl (omega (arith, h)) s m in
    ap (λ (e : Output). e.bytes) (s ∙ room_printed (parcel_line q) o p h)
