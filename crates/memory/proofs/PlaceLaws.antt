-- Little-endian places: within the word of four bytes, in either order of bytes.
-- Assumes nothing.
use mathlib.Core.Path.{◌≡◌, refl, sym, ap, ◌∙◌}
use mathlib.Core.Bool.{true}
use Prim.Native.Nat.{ℕ, zero-le, ◌+◌, ◌-◌, ◌*◌, ◌/◌, ◌%◌, ◌^◌, ◌≤◌, ◌<◌}
use native.Mathlib.Omega.{arith}
use lib.Bits.{bit_xor, xor_block, xor_zero_r}
use lib.ListN.{length}
use lib.Pow.{split}
use Rattle.word.proofs.MatchLaws.{within}
use Rattle.word.specs.declared.Width.{Width}
use Rattle.word.specs.declared.Width.TheVariants.{Byte, Half, Word}
use Rattle.word.specs.Widths.{bytes_of}
use Rattle.memory.specs.Bytes.{Memory, byte_at, number, stored, flipped, place_of}
use Rattle.memory.proofs.ByteLaws.{byte_stored_law, number_part}

-- the low two bits are complemented by themselves
xor_low : (a k : ℕ) → k < 4 → bit_xor a k ≡ a / 4 * 4 + bit_xor (a % 4) k
xor_low a k h =
    let e : k ≡ 0 * 4 + k = omega arith in
    (λ i. bit_xor (sym (split a 2) i) (e i))
    ∙ xor_block 2 (a / 4) 0 (a % 4) k (omega arith) h
    ∙ ap (λ (x : ℕ). x * 4 + bit_xor (a % 4) k) (xor_zero_r (a / 4))

pub xor_3 : (a : ℕ) → bit_xor a 3 ≡ a / 4 * 4 + (3 - a % 4)
xor_3 a =
    xor_low a 3 (omega arith)
    ∙ ap (λ (x : ℕ). a / 4 * 4 + x) (within (λ r. bit_xor r 3 ≡ 3 - r) 0 4 ((((tt, refl), refl), refl), refl) (a % 4) zero-le (omega arith))

pub xor_2 : (a : ℕ) → bit_xor a 2 ≡ a / 4 * 4 + (a % 4 + 2) % 4
xor_2 a =
    xor_low a 2 (omega arith)
    ∙ ap (λ (x : ℕ). a / 4 * 4 + x) (within (λ r. bit_xor r 2 ≡ (r + 2) % 4) 0 4 ((((tt, refl), refl), refl), refl) (a % 4) zero-le (omega arith))

-- a flipped place stays in its word
pub flipped_word : (w : Width) (a : ℕ) → flipped w a / 4 ≡ a / 4
flipped_word Byte a = rw (xor_3 a) (omega arith)
flipped_word Half a = rw (xor_2 a) (omega arith)
flipped_word Word a = refl

-- it is as far from alignment as the place itself
pub flipped_aligned : (w : Width) (a : ℕ) → flipped w a % bytes_of w ≡ a % bytes_of w
flipped_aligned Byte a = omega arith
flipped_aligned Half a = rw (xor_2 a) (omega arith)
flipped_aligned Word a = refl

pub flipped_twice : (w : Width) (a : ℕ) → flipped w (flipped w a) ≡ a
flipped_twice Byte a = rw (xor_3 (bit_xor a 3), xor_3 a) (omega arith)
flipped_twice Half a = rw (xor_2 (bit_xor a 2), xor_2 a) (omega arith)
flipped_twice Word a = refl

-- an operand i bytes into the aligned word at a ends, flipped, i bytes before the word's end
pub flipped_part : (w : Width) (a i : ℕ) → a % 4 ≡ 0 → i % bytes_of w ≡ 0 → i + bytes_of w ≤ 4
    → flipped w (a + i) ≡ a + (4 - bytes_of w - i)
flipped_part Byte a i h e l = rw (xor_3 (a + i)) (omega arith)
flipped_part Half a i h e l = rw (xor_2 (a + i)) (omega arith)
flipped_part Word a i h e l = omega arith

module _ (m : Memory) (a v : ℕ) (aligned : a % 4 ≡ 0) (fits : a + 4 ≤ length m) where
  -- byte j of a stored word is its digit j
  pub little_byte : (j : ℕ) → j < 4 → byte_at (stored 4 m a v) (place_of true Byte (a + j)) ≡ v / 256 ^ j % 256
  little_byte j h =
      rw (flipped_part Byte a j aligned (omega arith) (omega arith)) (byte_stored_law 4 (3 - j) j m a v (omega arith) fits)

  -- an operand i bytes into a stored word is what stands above its low i bytes
  pub little_number : (w : Width) (i : ℕ) → i % bytes_of w ≡ 0 → i + bytes_of w ≤ 4
      → number (bytes_of w) (stored 4 m a v) (place_of true w (a + i)) ≡ v / 256 ^ i % 256 ^ bytes_of w
  little_number w i e l =
      rw (flipped_part w a i aligned e l) (number_part (bytes_of w) 4 (4 - bytes_of w - i) i m a v (omega arith) fits)
