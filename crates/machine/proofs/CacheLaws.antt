-- The stack cache after a write: what was written is read there, all else as before, and the shape stays.
-- Assumes nothing.
use mathlib.Core.Path.{◌≡◌, refl, sym, ap, ◌∙◌}
use mathlib.Core.List.{List, []}
use mathlib.Core.Logic.{◌⊎◌, ⊎_elim}
use Prim.Native.Nat.{ℕ, ◌+◌, ◌-◌, ◌*◌, ◌/◌, ◌%◌, ◌^◌, ◌≤◌, ◌<◌}
use native.Mathlib.Nat.{div-div-eq-div-mul, mod-lt, mod-eq_of_lt, div-one, one-le-pow, zero-sub}
use native.Mathlib.Decide.{ℕ_discrete}
use native.Mathlib.Omega.{arith}
use lib.ListN.{length, get_or, set, length-set}
use lib.Seq.{get_or-set_same, get_or-set_other}
use lib.Bits.{bit_or}
use Rattle.word.specs.declared.Width.{Width}
use Rattle.word.specs.declared.Width.TheVariants.{Word}
use Rattle.word.specs.Widths.{bytes_of}
use Rattle.machine.specs.Cache.{Cache, cache_word, put_word, below, part, inserted, cache_read, cache_write}
use Rattle.machine.specs.Shapes.{CacheShape}
use Rattle.machine.proofs.DigitLaws.{low_bit, replaced_shifted, part_field, inserted_replaced, part_inserted, part_after, part_before}

-- the word at an address, by the fields i and j of it
pub word_by_fields : (q : Cache) (a i j : ℕ) → i ≡ a / 16 % 16 → j ≡ a / 4 % 4 → get_or (get_or q i []) j 0 ≡ cache_word q a
word_by_fields q a i j e f = rw (e, f) refl

pub put_by_fields : (q : Cache) (a v i j : ℕ) → i ≡ a / 16 % 16 → j ≡ a / 4 % 4 → set q i (set (get_or q i []) j v) ≡ put_word q a v
put_by_fields q a v i j e f = rw (e, f) refl

-- a quad-word replaced by one of four words
pub shape_set : (q : Cache) (i : ℕ) (w : List ℕ) → CacheShape q → i < 16 → length w ≡ 4 → CacheShape (set q i w)
shape_set q i w s h e = record { long = length-set q i w ∙ s.long; four = λ k g. go k g (ℕ_discrete k i) }
  where
    go : (k : ℕ) → k < 16 → Dec (k ≡ i) → length (get_or (set q i w) k []) ≡ 4
    go k g (yes p) = rw (p, get_or-set_same q i w [] (omega (arith, s.long))) e
    go k g (no d) = rw (get_or-set_other q i k w [] d) (s.four k g)

split_64 : (x : ℕ) → x % 64 ≡ x / 4 % 16 * 4 + x % 4
split_64 x = omega arith

-- the number of a word among the sixty-four, by its quad-word and its place there
word_number : (a : ℕ) → a / 4 % 64 ≡ a / 16 % 16 * 4 + a / 4 % 4
word_number a = split_64 (a / 4) ∙ ap (λ (x : ℕ). x % 16 * 4 + a / 4 % 4) (div-div-eq-div-mul a 4 4)

same_word : (b a : ℕ) → b / 16 % 16 ≡ a / 16 % 16 → b / 4 % 4 ≡ a / 4 % 4 → b / 4 % 64 ≡ a / 4 % 64
same_word b a p e = word_number b ∙ (λ i. p i * 4 + e i) ∙ sym (word_number a)

-- and back
digits_high : (x y i j : ℕ) → x * 4 + i % 4 ≡ y * 4 + j % 4 → x ≡ y
digits_high x y i j e = omega arith

low_two : (x y : ℕ) → x % 64 ≡ y % 64 → x % 4 ≡ y % 4
low_two x y e = omega arith

quad_of_law : (b a : ℕ) → b / 4 % 64 ≡ a / 4 % 64 → b / 16 % 16 ≡ a / 16 % 16
quad_of_law b a z =
    let e : b / 16 % 16 * 4 + b / 4 % 4 ≡ a / 16 % 16 * 4 + a / 4 % 4 = sym (word_number b) ∙ z ∙ word_number a in
    digits_high (b / 16 % 16) (a / 16 % 16) (b / 4) (a / 4) e

place_of_law : (b a : ℕ) → b / 4 % 64 ≡ a / 4 % 64 → b / 4 % 4 ≡ a / 4 % 4
place_of_law b a z = low_two (b / 4) (a / 4) z

module _ (q : Cache) (a v : ℕ) (s : CacheShape q) where
  pub shape_put : CacheShape (put_word q a v)
  shape_put =
      shape_set q (a / 16 % 16) (set (get_or q (a / 16 % 16) []) (a / 4 % 4) v) s (omega arith)
      (length-set (get_or q (a / 16 % 16) []) (a / 4 % 4) v ∙ s.four (a / 16 % 16) (omega arith))

  -- quad-word i after a word is put into quad-word i
  quad_put : get_or (put_word q a v) (a / 16 % 16) [] ≡ set (get_or q (a / 16 % 16) []) (a / 4 % 4) v
  quad_put = get_or-set_same q (a / 16 % 16) (set (get_or q (a / 16 % 16) []) (a / 4 % 4) v) [] (omega (arith, s.long))

  pub word_put : cache_word (put_word q a v) a ≡ v
  word_put =
      ap (λ (w : List ℕ). get_or w (a / 4 % 4) 0) quad_put
      ∙ get_or-set_same (get_or q (a / 16 % 16) []) (a / 4 % 4) v 0 (omega (arith, s.four (a / 16 % 16) (omega arith)))

  -- addresses of two words of the cache
  pub word_put_other : (b : ℕ) → (b / 4 % 64 ≡ a / 4 % 64 → ⊥) → cache_word (put_word q a v) b ≡ cache_word q b
  word_put_other b d = go (ℕ_discrete (b / 16 % 16) (a / 16 % 16))
    where
      go : Dec (b / 16 % 16 ≡ a / 16 % 16) → cache_word (put_word q a v) b ≡ cache_word q b
      go (no n) =
          ap (λ (w : List ℕ). get_or w (b / 4 % 4) 0)
          (get_or-set_other q (a / 16 % 16) (b / 16 % 16) (set (get_or q (a / 16 % 16) []) (a / 4 % 4) v) [] n)
      go (yes p) =
          ap (λ (i : ℕ). get_or (get_or (put_word q a v) i []) (b / 4 % 4) 0) p
          ∙ ap (λ (w : List ℕ). get_or w (b / 4 % 4) 0) quad_put
          ∙ get_or-set_other (get_or q (a / 16 % 16) []) (a / 4 % 4) (b / 4 % 4) v 0 (λ e. d (same_word b a p e))
          ∙ ap (λ (i : ℕ). get_or (get_or q i []) (b / 4 % 4) 0) (sym p)

-- ---- n bytes

module _ (n : ℕ) (q : Cache) (a v : ℕ) (s : CacheShape q) where
  pub shape_write : CacheShape (cache_write n q a v)
  unfolding cache_write
  shape_write = shape_put q a (inserted n a v (cache_word q a)) s

  -- what was written is read
  pub read_written : cache_read n (cache_write n q a v) a ≡ v % 256 ^ n
  unfolding cache_read cache_write
  read_written =
      ap (part n a) (word_put q a (inserted n a v (cache_word q a)) s) ∙ part_inserted n a v (cache_word q a)

  -- in another word nothing changes
  pub read_other_word : (k b : ℕ) → (b / 4 % 64 ≡ a / 4 % 64 → ⊥) → cache_read k (cache_write n q a v) b ≡ cache_read k q b
  unfolding cache_read cache_write
  read_other_word k b d = ap (part k b) (word_put_other q a (inserted n a v (cache_word q a)) s b d)

  -- nor do other bytes of the same word
  pub read_other_bytes : (k b : ℕ) → n + a % 4 ≤ 4 → k + b % 4 ≤ 4 → ((a % 4 + n ≤ b % 4) ⊎ (b % 4 + k ≤ a % 4))
      → cache_read k (cache_write n q a v) b ≡ cache_read k q b
  unfolding cache_read cache_write
  read_other_bytes k b g h e = go (ℕ_discrete (b / 4 % 64) (a / 4 % 64))
    where
      go : Dec (b / 4 % 64 ≡ a / 4 % 64) → part k b (cache_word (cache_write n q a v) b) ≡ part k b (cache_word q b)
      go (no d) = ap (part k b) (word_put_other q a (inserted n a v (cache_word q a)) s b d)
      go (yes p) =
          ap (part k b) (one (put_word q a (inserted n a v (cache_word q a))) p ∙ word_put q a (inserted n a v (cache_word q a)) s)
          ∙ ⊎_elim (λ x. part_after n k a b v (cache_word q a) x h) (λ x. part_before n k a b v (cache_word q a) x g) e
          ∙ ap (part k b) (sym (one q p))
        where
          one : (r : Cache) → b / 4 % 64 ≡ a / 4 % 64 → cache_word r b ≡ cache_word r a
          one r z = (λ i. get_or (get_or r (quad_of_law b a z i) []) (place_of_law b a z i) 0)

pub read_lt : (n : ℕ) (q : Cache) (a : ℕ) → cache_read n q a < 256 ^ n
unfolding cache_read
read_lt n q a = mod-lt (cache_word q a / below n a) (one-le-pow n 256 (omega arith))

-- ---- the ways out of a read and a write in the cache

pub extract_field : (n a w g : ℕ) → 1 ≤ n → n ≤ 3 → g ≡ 4 - n - a % 4 → w / 2 ^ (g * 8 % 32) % 2 ^ (n * 8 % 32) ≡ part n a w
extract_field n a w g h l e =
    let x : g * 8 % 32 ≡ low_bit n a = rw e (omega arith) in
    let y : n * 8 % 32 ≡ n * 8 = omega arith in
    rw (x, y) (sym (part_field n a w))

pub insert_shifted : (n a v w g x y : ℕ) → 1 ≤ n → n ≤ 3 → w < 2 ^ 32 → g ≡ 4 - n - a % 4
    → x ≡ v / 1 % 2 ^ (n * 8 % 32) → y ≡ w / 1 % 2 ^ (g * 8 % 32)
    → bit_or (bit_or (w / 2 ^ (g * 8) / 2 ^ (n * 8) * 2 ^ (n * 8) % 2 ^ 32) x * 2 ^ (g * 8) % 2 ^ 32) y ≡ inserted n a v w
insert_shifted n a v w g x y h l f e p z =
    let k : n * 8 % 32 ≡ n * 8 = omega arith in
    let i : g * 8 % 32 ≡ g * 8 = rw e (omega arith) in
    rw (p, z, k, i, div-one v, div-one w, e)
    (replaced_shifted (low_bit n a) (n * 8) v w (32 - (low_bit n a + n * 8)) (omega arith) f ∙ sym (inserted_replaced n a v w))

-- all four bytes of a word
whole_word : (a v w : ℕ) → w < 2 ^ 32 → v < 2 ^ 32 → inserted 4 a v w ≡ v
whole_word a v w l m = rw (zero-sub (a % 4)) (omega arith)

module _ (w : Width) (q : Cache) (a x : ℕ) (e : x ≡ cache_word q a) where
  pub bytes_read : (k : Width) (r : ℕ) → w ≡ k → r ≡ part (bytes_of k) a x → r ≡ cache_read (bytes_of w) q a
  unfolding cache_read
  bytes_read k r h g = rw (h, ← e) g

  pub word_read : (r : ℕ) → w ≡ Word → r ≡ x → x < 2 ^ 32 → r ≡ cache_read (bytes_of w) q a
  unfolding cache_read
  word_read r h g l = bytes_read Word r h (rw (g, zero-sub (a % 4), div-one) (sym (mod-eq_of_lt {n = x} {m = 4294967296} l)))

  pub bytes_written : (v : ℕ) (k : Width) (r : ℕ) (p : Cache) → w ≡ k → r ≡ inserted (bytes_of k) a v x
      → p ≡ put_word q a r → p ≡ cache_write (bytes_of w) q a v
  unfolding cache_write
  bytes_written v k r p h g f = rw (h, ← e, ← g) f

  pub word_written : (v : ℕ) (p : Cache) → w ≡ Word → x < 2 ^ 32 → v < 2 ^ 32 → p ≡ put_word q a v → p ≡ cache_write (bytes_of w) q a v
  word_written v p h l m f = bytes_written v Word v p h (sym (whole_word a v x l m)) f
