-- Numbers of digits: the bytes of a text summed, and the number of an address.
-- Assumes nothing.
use Rattle.std.proofs.Common.{◌≡◌, ℕ, ◌+◌, ◌*◌, ◌%◌, ◌^◌, ◌<◌, ◌≤◌, true, List, [], ◌∷◌, ◌++◌, length, get_or, sym, refl, ap, ◌∙◌, lt_of_lt_of_le, add-one, arith, ◌&&◌}
use native.Mathlib.Nat.{pow-le-pow_right, zero-add}
use Rattle.word.proofs.CaseLaws.{and_right}
use Rattle.hex_digits.specs.Digits.{is_digit, all_digits, digit_of, number_at}
use Rattle.hex_digits.proofs.DigitLaws.{digit_at}
use Rattle.hex_digits.proofs.NumberLaws.{number_small}
use Rattle.records_lines.specs.Records.{digit_bytes, byte_sum}

-- ---- the bytes of digits

no_bytes : (s : List ℕ) → length s < 2 → digit_bytes s ≡ []
unfolding digit_bytes
no_bytes [] h = refl
no_bytes (a ∷ []) h = refl
no_bytes (a ∷ (b ∷ s)) h = absurd (omega arith)

-- summed, but for those of the rest
pub record Summing (s rest : List ℕ) (sum : ℕ) : Type 0 where
  pub good : all_digits rest ≡ true
  pub small : sum < 256
  pub sums : (sum + byte_sum (digit_bytes rest)) % 256 ≡ byte_sum (digit_bytes s) % 256

module _ (s : List ℕ) where
  -- the next pair is of digits
  pub pair_digits : (rest pair more : List ℕ) (sum : ℕ) → Summing s rest sum → rest ≡ pair ++ more → length pair ≡ 2
      → (is_digit (get_or pair 0 0) ≡ true) × (is_digit (get_or pair 1 0) ≡ true)
  pair_digits rest [] more sum r e l = absurd (omega (arith, l))
  pair_digits rest (a ∷ []) more sum r e l = absurd (omega (arith, l))
  pair_digits rest (a ∷ (b ∷ [])) more sum r e l =
      let h : all_digits (a ∷ b ∷ more) ≡ true = sym (ap all_digits e) ∙ r.good in
      (digit_at (a ∷ b ∷ more) 0 h (omega arith), digit_at (a ∷ b ∷ more) 1 h (omega arith))
  pair_digits rest (a ∷ (b ∷ (c ∷ d))) more sum r e l = absurd (omega (arith, l))

  pub summing_more : (rest pair more : List ℕ) (sum b x : ℕ) → Summing s rest sum → rest ≡ pair ++ more → length pair ≡ 2
      → b ≡ digit_of (get_or pair 0 0) * 16 + digit_of (get_or pair 1 0) → x ≡ (sum + b) % 2 ^ 8 → Summing s more x
  unfolding digit_bytes byte_sum
  summing_more rest [] more sum b x r e l f g = absurd (omega (arith, l))
  summing_more rest (c ∷ []) more sum b x r e l f g = absurd (omega (arith, l))
  summing_more rest (c ∷ (d ∷ [])) more sum b x r e l f g =
      let h : all_digits (c ∷ d ∷ more) ≡ true = sym (ap all_digits e) ∙ r.good in
      let k : byte_sum (digit_bytes rest) ≡ digit_of c * 16 + digit_of d + byte_sum (digit_bytes more) =
      ap (λ (t : List ℕ). byte_sum (digit_bytes t)) e in
      record {
        good = and_right (is_digit d) (all_digits more) (and_right (is_digit c) (is_digit d && all_digits more) h);
        small = omega (arith, g);
        sums = omega (arith, r.sums, k, f, g);
      }
  summing_more rest (a ∷ (b ∷ (c ∷ d))) more sum y x r e l f g = absurd (omega (arith, l))

  pub summing_all : (rest : List ℕ) (sum : ℕ) → Summing s rest sum → length rest < 2 → sum ≡ byte_sum (digit_bytes s) % 256
  unfolding byte_sum
  summing_all rest sum r h =
      let f : byte_sum (digit_bytes rest) ≡ 0 = ap byte_sum (no_bytes rest h) in
      omega (arith, r.sums, r.small, f)

-- ---- the number of an address

-- so many digits of it are read
pub record Addressing (s : List ℕ) (k a : ℕ) : Type 0 where
  pub upto : k ≤ length s
  pub number : a ≡ number_at k s 0

module _ (s : List ℕ) (k a : ℕ) (r : Addressing s k a) where
  -- another digit fits
  pub addressing_fits : k < length s → length s ≤ 8 → a < 16 ^ 7
  addressing_fits h g =
      let l : k ≤ 7 = omega arith in
      rw r.number (lt_of_lt_of_le (number_small k s 0) (pow-le-pow_right {n = 16} (omega arith) l))

  pub addressing_more : (d : ℕ) → k < length s → d ≡ digit_of (get_or s k 0) → Addressing s (k + 1) (a * 16 + d)
  addressing_more d h e =
      rw add-one (record { upto = h; number = rw (r.number, e, zero-add) refl })
