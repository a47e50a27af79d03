-- A field of a word replaced, at any place and width: m bits from bit s on.
-- Assumes nothing.
use mathlib.Core.Path.{◌≡◌, refl, sym, ap, ◌∙◌, subst}
use Prim.Native.Nat.{ℕ, ◌+◌, ◌-◌, ◌*◌, ◌/◌, ◌%◌, ◌^◌, ◌≤◌, ◌<◌}
use native.Mathlib.Nat.{mod-lt, mul_comm, mul_assoc, add-mul, div-lt_iff_lt-mul}
use native.Mathlib.Omega.{arith}
use lib.Pow.{pow_pos, pow-add, shr-shr, shl_exact, shr_lt, high, low, field, mod-mod-pow}
use lib.Bits.{bit_or, or_shifted}
use Rattle.word.proofs.FieldLaws.{digits_pow}
use Rattle.machine.specs.Cache.{part, inserted}

abbrev pub replaced : ℕ → ℕ → ℕ → ℕ → ℕ
replaced s m v w = w / 2 ^ (s + m) * 2 ^ (s + m) + v % 2 ^ m * 2 ^ s + w % 2 ^ s

module _ (s m v w : ℕ) where
  -- the bits from s on, then those below
  nested : replaced s m v w ≡ (w / 2 ^ (s + m) * 2 ^ m + v % 2 ^ m) * 2 ^ s + w % 2 ^ s
  nested =
      ap (λ (x : ℕ). x + v % 2 ^ m * 2 ^ s + w % 2 ^ s)
      (ap (λ (x : ℕ). w / 2 ^ (s + m) * x) (pow-add 2 s m ∙ mul_comm (2 ^ s) (2 ^ m)) ∙ sym (mul_assoc (w / 2 ^ (s + m)) (2 ^ m) (2 ^ s)))
      ∙ ap (λ (x : ℕ). x + w % 2 ^ s) (sym (add-mul (w / 2 ^ (s + m) * 2 ^ m) (v % 2 ^ m) (2 ^ s)))

  from_s : replaced s m v w / 2 ^ s ≡ w / 2 ^ (s + m) * 2 ^ m + v % 2 ^ m
  from_s = ap (λ (x : ℕ). x / 2 ^ s) nested ∙ high (w / 2 ^ (s + m) * 2 ^ m + v % 2 ^ m) s (mod-lt w (pow_pos s))

  pub replaced_field : replaced s m v w / 2 ^ s % 2 ^ m ≡ v % 2 ^ m
  replaced_field = ap (λ (x : ℕ). x % 2 ^ m) from_s ∙ low (w / 2 ^ (s + m)) m (mod-lt v (pow_pos m))

  pub replaced_below : replaced s m v w % 2 ^ s ≡ w % 2 ^ s
  replaced_below = ap (λ (x : ℕ). x % 2 ^ s) nested ∙ low (w / 2 ^ (s + m) * 2 ^ m + v % 2 ^ m) s (mod-lt w (pow_pos s))

  pub replaced_above : replaced s m v w / 2 ^ (s + m) ≡ w / 2 ^ (s + m)
  replaced_above =
      sym (shr-shr (replaced s m v w) s m) ∙ ap (λ (x : ℕ). x / 2 ^ m) from_s ∙ high (w / 2 ^ (s + m)) m (mod-lt v (pow_pos m))

  pub replaced_lt : (j : ℕ) → w < 2 ^ (j + (s + m)) → replaced s m v w < 2 ^ (j + (s + m))
  replaced_lt j h =
      rw (pow-add 2 j (s + m)) ((div-lt_iff_lt-mul (pow_pos (s + m))).0 (rw replaced_above (shr_lt j (s + m) h)))

  -- the same by shifts at 32 bits, where j bits stand above the field
  pub replaced_shifted : (j : ℕ) → j + (s + m) ≡ 32 → w < 2 ^ 32
      → bit_or (bit_or (w / 2 ^ s / 2 ^ m * 2 ^ m % 2 ^ 32) (v % 2 ^ m) * 2 ^ s % 2 ^ 32) (w % 2 ^ s) ≡ replaced s m v w
  replaced_shifted j e h =
      rw (
        shr-shr w s m,
        shl_exact j m 32 top (omega arith),
        or_shifted (w / 2 ^ (s + m)) m (v % 2 ^ m) (mod-lt v (pow_pos m)),
        shl_exact (j + m) s 32 upper (omega arith),
        or_shifted (w / 2 ^ (s + m) * 2 ^ m + v % 2 ^ m) s (w % 2 ^ s) (mod-lt w (pow_pos s)),
      )
      (sym nested)
    where
      top : w / 2 ^ (s + m) < 2 ^ j
      top = shr_lt j (s + m) (subst (λ (k : ℕ). w < 2 ^ k) (sym e) h)

      upper : w / 2 ^ (s + m) * 2 ^ m + v % 2 ^ m < 2 ^ (j + m)
      upper =
          rw (pow-add 2 j m) ((div-lt_iff_lt-mul (pow_pos m)).0 (rw (high (w / 2 ^ (s + m)) m (mod-lt v (pow_pos m))) top))

-- ---- bytes: 256 ^ n is 2 ^ (n * 8)

-- the bit at which n bytes at the place a begin
abbrev pub low_bit : ℕ → ℕ → ℕ
low_bit n a = (4 - n - a % 4) * 8

pub part_field : (n a w : ℕ) → part n a w ≡ w / 2 ^ low_bit n a % 2 ^ (n * 8)
part_field n a w = rw (digits_pow 8 n, digits_pow 8 (4 - n - a % 4)) refl

pub inserted_replaced : (n a v w : ℕ) → inserted n a v w ≡ replaced (low_bit n a) (n * 8) v w
inserted_replaced n a v w = rw (digits_pow 8 n, digits_pow 8 (4 - n - a % 4), ← pow-add 2 (low_bit n a) (n * 8)) refl

-- what was inserted is there
pub part_inserted : (n a v w : ℕ) → part n a (inserted n a v w) ≡ v % 256 ^ n
part_inserted n a v w =
    part_field n a (inserted n a v w)
    ∙ ap (λ (x : ℕ). x / 2 ^ low_bit n a % 2 ^ (n * 8)) (inserted_replaced n a v w)
    ∙ replaced_field (low_bit n a) (n * 8) v w
    ∙ ap (λ (x : ℕ). v % x) (sym (digits_pow 8 n))

pub inserted_lt : (n a v w : ℕ) → n ≤ 4 → w < 2 ^ 32 → inserted n a v w < 2 ^ 32
inserted_lt n a v w g h =
    let j = 32 - (low_bit n a + n * 8) in
    let e : j + (low_bit n a + n * 8) ≡ 32 = omega arith in
    subst (λ (x : ℕ). x < 2 ^ 32) (sym (inserted_replaced n a v w))
    (subst (λ (k : ℕ). replaced (low_bit n a) (n * 8) v w < 2 ^ k) e (replaced_lt (low_bit n a) (n * 8) v w j (subst (λ (k : ℕ). w < 2 ^ k) (sym e) h)))

-- the bits of a field lie below bit s: what is above does not matter
low_field : (x c m s : ℕ) → c + m ≤ s → x / 2 ^ c % 2 ^ m ≡ x % 2 ^ s / 2 ^ c % 2 ^ m
low_field x c m s h =
    let e : s - c - m + m ≡ s - c = omega arith in
    let f : s - c + c ≡ s = omega arith in
    sym (mod-mod-pow (x / 2 ^ c) (s - c - m) m)
    ∙ ap (λ (k : ℕ). x / 2 ^ c % 2 ^ k % 2 ^ m) e
    ∙ ap (λ (y : ℕ). y % 2 ^ m) (sym (field x (s - c) c))
    ∙ ap (λ (k : ℕ). x % 2 ^ k / 2 ^ c % 2 ^ m) f

-- bytes before and after those inserted are as they were
pub part_after : (n k a b v w : ℕ) → a % 4 + n ≤ b % 4 → k + b % 4 ≤ 4 → part k b (inserted n a v w) ≡ part k b w
part_after n k a b v w h g =
    let l : low_bit k b + k * 8 ≤ low_bit n a = omega arith in
    part_field k b (inserted n a v w)
    ∙ ap (λ (x : ℕ). x / 2 ^ low_bit k b % 2 ^ (k * 8)) (inserted_replaced n a v w)
    ∙ low_field (replaced (low_bit n a) (n * 8) v w) (low_bit k b) (k * 8) (low_bit n a) l
    ∙ ap (λ (x : ℕ). x / 2 ^ low_bit k b % 2 ^ (k * 8)) (replaced_below (low_bit n a) (n * 8) v w)
    ∙ sym (low_field w (low_bit k b) (k * 8) (low_bit n a) l)
    ∙ sym (part_field k b w)

pub part_before : (n k a b v w : ℕ) → b % 4 + k ≤ a % 4 → n + a % 4 ≤ 4 → part k b (inserted n a v w) ≡ part k b w
part_before n k a b v w h g =
    let d = low_bit k b - (low_bit n a + n * 8) in
    let e : low_bit n a + n * 8 + d ≡ low_bit k b = omega arith in
    part_field k b (inserted n a v w)
    ∙ ap (λ (x : ℕ). x / 2 ^ low_bit k b % 2 ^ (k * 8)) (inserted_replaced n a v w)
    ∙ ap (λ (i : ℕ). replaced (low_bit n a) (n * 8) v w / 2 ^ i % 2 ^ (k * 8)) (sym e)
    ∙ ap (λ (x : ℕ). x % 2 ^ (k * 8)) (sym (shr-shr (replaced (low_bit n a) (n * 8) v w) (low_bit n a + n * 8) d))
    ∙ ap (λ (x : ℕ). x / 2 ^ d % 2 ^ (k * 8)) (replaced_above (low_bit n a) (n * 8) v w)
    ∙ ap (λ (x : ℕ). x % 2 ^ (k * 8)) (shr-shr w (low_bit n a + n * 8) d)
    ∙ ap (λ (i : ℕ). w / 2 ^ i % 2 ^ (k * 8)) e
    ∙ sym (part_field k b w)
