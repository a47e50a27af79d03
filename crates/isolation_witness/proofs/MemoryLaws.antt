-- Memories by their words: their bytes and numbers, and that two of them agree but for a page.
-- Assumes nothing.
use Prim.Native.Nat.{ℕ, zero, suc, ◌+◌, ◌*◌, ◌/◌, ◌%◌, ◌<◌, ◌≤◌}
use mathlib.Core.Path.{◌≡◌, refl, sym, ap, ◌∙◌}
use mathlib.Core.List.{◌∷◌}
use native.Mathlib.Omega.{arith}
use native.Mathlib.Nat.{add-zero}
use native.Mathlib.Decide.{dec_lt}
use lib.ListN.{length, get_or-eq_default}
use borrow.Author.Tests.{ne_eqb}
use Rattle.memory.specs.Bytes.{byte_at, number}
use Rattle.isolation.specs.Sealed.{page, Agree}
use Rattle.isolation_witness.specs.Memories.{Words, word_at, byte_of, bytes_from, memory_of, only}

bytes_length : (ws : Words) (a n : ℕ) → length (bytes_from ws a n) ≡ n
unfolding bytes_from
bytes_length ws a zero = refl
bytes_length ws a (suc n) = ap suc (bytes_length ws (suc a) n)

pub laid_length : (ws : Words) → length (memory_of ws) ≡ 0x4000
laid_length ws = bytes_length ws 0 0x4000

byte_from : (ws : Words) (a n x : ℕ) → x < n → byte_at (bytes_from ws a n) x ≡ byte_of (word_at ws ((a + x) / 4 * 4)) ((a + x) % 4)
unfolding bytes_from
byte_from ws a zero x l = absurd (omega arith)
byte_from ws a (suc n) zero l = rw add-zero refl
byte_from ws a (suc n) (suc x) l =
    let e : suc a + x ≡ a + suc x = omega arith in
    rw e at (byte_from ws (suc a) n x (omega arith))

byte_laid : (ws : Words) (x : ℕ) → x < 0x4000 → byte_at (memory_of ws) x ≡ byte_of (word_at ws (x / 4 * 4)) (x % 4)
byte_laid ws x l =
    let e : 0 + x ≡ x = omega arith in
    rw e at (byte_from ws 0 0x4000 x l)

-- byte i of the word at w
word_byte : (ws : Words) (w i : ℕ) → w % 4 ≡ 0 → w + 4 ≤ 0x4000 → i < 4 → byte_at (memory_of ws) (w + i) ≡ byte_of (word_at ws w) i
word_byte ws w i z l h =
    let e : (w + i) / 4 * 4 ≡ w = omega arith in
    let f : (w + i) % 4 ≡ i = omega arith in
    rw (e, f) at (byte_laid ws (w + i) (omega arith))

pub number_laid : (ws : Words) (w : ℕ) → w % 4 ≡ 0 → w + 4 ≤ 0x4000 → number 4 (memory_of ws) w ≡ word_at ws w
unfolding byte_of
number_laid ws w z l =
    joined (word_at ws w) _ _ _ _ (word_byte ws w 0 z l (omega arith)) (word_byte ws w 1 z l (omega arith))
    (word_byte ws w 2 z l (omega arith)) (word_byte ws w 3 z l (omega arith))
  where
    joined : (v p q r s : ℕ) → p ≡ v / 0x100_0000 → q ≡ v / 0x1_0000 % 0x100 → r ≡ v / 0x100 % 0x100 → s ≡ v % 0x100
        → (((0 * 256 + p) * 256 + q) * 256 + r) * 256 + s ≡ v
    joined v p q r s a b c d = omega arith

-- one word differs, in the page q
pub laid_agree : (ws : Words) (a h i q : ℕ) → a / 4096 ≡ q → Agree (only q) (memory_of ((a, h) ∷ ws)) (memory_of ((a, i) ∷ ws))
unfolding word_at
laid_agree ws a h i q p =
    record {
      len = laid_length ((a, h) ∷ ws) ∙ sym (laid_length ((a, i) ∷ ws));
      same = λ x n. go x n (dec_lt x 0x4000);
    }
  where
    elsewhere : (x v : ℕ) → (page x ≡ q → ⊥) → word_at ((a, v) ∷ ws) (x / 4 * 4) ≡ word_at ws (x / 4 * 4)
    elsewhere x v n = rw (ne_eqb a (x / 4 * 4) (λ e. n (omega arith))) refl

    go : (x : ℕ) → (page x ≡ q → ⊥) → Dec (x < 0x4000) → byte_at (memory_of ((a, h) ∷ ws)) x ≡ byte_at (memory_of ((a, i) ∷ ws)) x
    go x n (yes l) =
        byte_laid ((a, h) ∷ ws) x l
        ∙ ap (λ (w : ℕ). byte_of w (x % 4)) (elsewhere x h n ∙ sym (elsewhere x i n))
        ∙ sym (byte_laid ((a, i) ∷ ws) x l)
    go x n (no l) =
        get_or-eq_default (memory_of ((a, h) ∷ ws)) 0 {n = x} (omega (arith, laid_length ((a, h) ∷ ws)))
        ∙ sym (get_or-eq_default (memory_of ((a, i) ∷ ws)) 0 {n = x} (omega (arith, laid_length ((a, i) ∷ ws))))
