-- Laws of numbers in memory, once over the number of bytes n.
-- Assumes nothing.
use mathlib.Core.Path.{◌≡◌, refl, sym, ap, ◌∙◌}
use mathlib.Core.Logic.{◌⊎◌, inl, inr, ⊎_elim}
use Prim.Native.Nat.{ℕ, zero, suc, ◌+◌, ◌/◌, ◌%◌, ◌^◌, ◌≤◌, ◌<◌}
use native.Mathlib.Nat.{add-zero, add_assoc, mul_comm, div-one, div-div-eq-div-mul, pow-suc, one-le-pow}
use native.Mathlib.Omega.{arith}
use lib.Arith.{mod-mul}
use lib.Dec.{lit<}
use lib.ListN.{length, length-set}
use lib.Seq.{get_or-set_same, get_or-set_other}
use Rattle.memory.specs.Bytes.{Memory, byte_at, number, stored}

-- a store keeps the length
pub length_stored : (n : ℕ) (m : Memory) (a v : ℕ) → length (stored n m a v) ≡ length m
length_stored zero m a v = refl
length_stored (suc n) m a v = simp length-set (length_stored n m a (v / 256))

-- a byte outside the n that are stored is as it was
pub byte_other : (n : ℕ) (m : Memory) (a v i : ℕ) → (i < a) ⊎ (a + n ≤ i) → byte_at (stored n m a v) i ≡ byte_at m i
byte_other zero m a v i o = refl
byte_other (suc n) m a v i o =
    get_or-set_other (stored n m a (v / 256)) (a + n) i (v % 256) 0 (λ e. ⊎_elim (λ h. omega arith) (λ h. omega arith) o)
    ∙ byte_other n m a (v / 256) i (⊎_elim (λ h. inl h) (λ h. inr (omega arith)) o)

-- two memories that agree on the n bytes have the same number there
pub number_same : (n : ℕ) (m l : Memory) (a : ℕ) → ((i : ℕ) → a ≤ i → i < a + n → byte_at m i ≡ byte_at l i) → number n m a ≡ number n l a
number_same zero m l a f = refl
number_same (suc n) m l a f =
    let p = number_same n m l a (λ i g h. f i g (omega arith)) in
    let q = f (a + n) (omega arith) (omega arith) in
    cc

-- a number that shares no byte with a store is as it was
pub number_other : (n k : ℕ) (m : Memory) (a b v : ℕ) → (b + n ≤ a) ⊎ (a + k ≤ b) → number n (stored k m a v) b ≡ number n m b
number_other n k m a b v o =
    number_same n (stored k m a v) m b
    (λ i g h. byte_other k m a v i (⊎_elim (λ l. inl (omega arith)) (λ l. inr (omega arith)) o))

-- of l bytes that are stored, byte i stands k bytes from the last: it is digit k of the number
pub byte_stored_law : (l i k : ℕ) (m : Memory) (a v : ℕ) → i + k + 1 ≡ l → a + l ≤ length m
    → byte_at (stored l m a v) (a + i) ≡ v / 256 ^ k % 256
byte_stored_law zero i k m a v e h = absurd (omega arith)
byte_stored_law (suc l) i zero m a v e h =
    let at : i ≡ l = omega arith in
    rw (at, div-one) (get_or-set_same (stored l m a (v / 256)) (a + l) (v % 256) 0 (simp length_stored (omega arith)))
byte_stored_law (suc l) i (suc k) m a v e h =
    get_or-set_other (stored l m a (v / 256)) (a + l) (a + i) (v % 256) 0 (λ d. omega arith)
    ∙ byte_stored_law l i k m a (v / 256) (omega arith) (omega arith)
    ∙ ap (λ (x : ℕ). x % 256) (div-div-eq-div-mul v 256 (256 ^ k) ∙ ap (λ (x : ℕ). v / x) (mul_comm 256 (256 ^ k) ∙ sym (pow-suc 256 k)))

-- of l bytes that are stored, the n from byte i on, which stand before k others
pub number_part : (n l i k : ℕ) (m : Memory) (a v : ℕ) → i + n + k ≡ l → a + l ≤ length m
    → number n (stored l m a v) (a + i) ≡ v / 256 ^ k % 256 ^ n
number_part zero l i k m a v e h = omega arith
number_part (suc n) l i k m a v e h =
    let p = number_part n l i (suc k) m a v (omega arith) h in
    let q = byte_stored_law l (i + n) k m a v (omega arith) h in
    let d : v / 256 ^ suc k ≡ v / 256 ^ k / 256 = rw (pow-suc 256 k) (sym (div-div-eq-div-mul v (256 ^ k) 256)) in
    rw (add_assoc a i n, p, q, d, pow-suc 256 n) (sym (mod-mul (v / 256 ^ k) (one-le-pow n 256 (lit< tt)) (lit< tt)))

-- what is stored is read again, cut to its n bytes
pub number_stored : (n : ℕ) (m : Memory) (a v : ℕ) → a + n ≤ length m → number n (stored n m a v) a ≡ v % 256 ^ n
number_stored n m a v h = rw (add-zero, div-one) at (number_part n n 0 0 m a v (omega arith) h)
