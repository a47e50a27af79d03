-- The bytes of digits, two digits each: how many, those of digits in two parts, and each of them.
-- Assumes nothing.
use mathlib.Core.Path.{◌≡◌, refl, sym, ap, ◌∙◌}
use mathlib.Core.List.{List, [], ◌∷◌, ◌++◌}
use Prim.Native.Nat.{ℕ, zero, suc, ◌+◌, ◌*◌, ◌%◌, ◌<◌}
use native.Mathlib.Omega.{arith}
use lib.ListN.{length, get_or}
use Rattle.hex_digits.specs.Digits.{digit_of, number_at}
use Rattle.hex_digits.proofs.NumberLaws.{number_after}
use Rattle.records_lines.specs.Records.{digit_bytes}

pub length_bytes : (d : List ℕ) → length d % 2 ≡ 0 → length (digit_bytes d) * 2 ≡ length d
unfolding digit_bytes
length_bytes [] h = refl
length_bytes (a ∷ []) h = absurd (omega arith)
length_bytes (a ∷ (b ∷ d)) h = omega (arith, length_bytes d (omega arith))

pub bytes_append : (d e : List ℕ) → length d % 2 ≡ 0 → digit_bytes (d ++ e) ≡ digit_bytes d ++ digit_bytes e
unfolding digit_bytes
bytes_append [] e h = refl
bytes_append (a ∷ []) e h = absurd (omega arith)
bytes_append (a ∷ (b ∷ d)) e h = ap (λ (l : List ℕ). (digit_of a * 16 + digit_of b) ∷ l) (bytes_append d e (omega arith))

-- by its place
pub byte_at_law : (d : List ℕ) (k : ℕ) → k * 2 + 1 < length d → get_or (digit_bytes d) k 0 ≡ number_at 2 d (k * 2)
unfolding digit_bytes
byte_at_law [] k h = absurd (omega arith)
byte_at_law (a ∷ []) k h = absurd (omega arith)
byte_at_law (a ∷ (b ∷ d)) zero h = omega arith
byte_at_law (a ∷ (b ∷ d)) (suc k) h =
    let e : 2 + k * 2 ≡ suc k * 2 = omega arith in
    byte_at_law d k (omega arith) ∙ sym (number_after 2 (a ∷ b ∷ []) d (k * 2)) ∙ ap (number_at 2 (a ∷ b ∷ d)) e
