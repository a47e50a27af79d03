-- The loops that copy bytes, and the calls over them.
-- Assumes nothing.
use Prim.Native.Nat.{ℕ, ◌+◌, ◌<◌, ◌≤◌}
use mathlib.Core.Path.{◌≡◌, refl, sym, ap, ◌∙◌}
use mathlib.Core.List.{List, [], ◌∷◌, ◌++◌}
use native.Mathlib.Numerals.{add-one}
use native.Mathlib.Omega.{arith}
use lib.ListN.{length, get_or, set, take, drop, length-set, length-drop}
use lib.Seq.{take-suc, take_all, length-take-le, get_or-drop}
use borrow.Author.Tests.{le-leb, lt-leb}
use Rattle.machine.proofs.FlatLaws.{Front, front_more, front_all}
use Rattle.hex_digits.specs.Output.{written}
use Rattle.hex_digits.proofs.OutputLaws.{written_on}
use Rattle.board_lines.specs.Stores.{store_result}
use Rattle.hobbit.specs.Bytes.{stored_at, loaded_from}

-- k bytes of t are in memory from a on
pub record Copied (m₀ : List ℕ) (a : ℕ) (t : List ℕ) (k : ℕ) (m : List ℕ) : Type 0 where
  pub upto : k ≤ length t
  pub long : length m ≡ length m₀
  pub so : m ≡ written m₀ a (take k t)

module _ (m₀ : List ℕ) (a : ℕ) (t : List ℕ) where
  pub copied_none : Copied m₀ a t 0 m₀
  copied_none = record { upto = omega arith; long = refl; so = refl }

  pub copied_more : (k : ℕ) (m : List ℕ) → Copied m₀ a t k m → k < length t → Copied m₀ a t (k + 1) (set m (a + k) (get_or t k 0))
  copied_more k m c h = record { upto = omega arith; long = length-set m (a + k) (get_or t k 0) ∙ c.long; so = one }
    where
      short : length (take k t) ≡ k
      short = length-take-le k t (omega arith)

      next : set (written m₀ a (take k t)) (a + k) (get_or t k 0) ≡ written m₀ a (take k t ++ (get_or t k 0 ∷ []))
      next = ap (λ (n : ℕ). set (written m₀ a (take k t)) (a + n) (get_or t k 0)) (sym short) ∙ written_on (take k t) (get_or t k 0 ∷ []) m₀ a

      one : set m (a + k) (get_or t k 0) ≡ written m₀ a (take (k + 1) t)
      one =
          ap (λ (l : List ℕ). set l (a + k) (get_or t k 0)) c.so
          ∙ next
          ∙ ap (λ (l : List ℕ). written m₀ a l) (sym (take-suc t k 0 h))
          ∙ ap (λ (n : ℕ). written m₀ a (take n t)) (sym (add-one k))

  pub copied_all : (k : ℕ) (m : List ℕ) → Copied m₀ a t k m → length t ≤ k → m ≡ written m₀ a t
  copied_all k m c h = c.so ∙ ap (λ (l : List ℕ). written m₀ a l) (take_all k t h)

-- k bytes of memory from a on are in the room
module _ (m : List ℕ) (a n : ℕ) (inside : a + n ≤ length m) where
  pub loaded_more : (k : ℕ) (b : List ℕ) → Front n k (take k (drop a m)) b → k < n → Front n (k + 1) (take (k + 1) (drop a m)) (set b k (get_or m (a + k) 0))
  loaded_more k b f h = rw (add-one, sym (get_or-drop a m k 0), take-suc (drop a m) k 0 there) (front_more n (get_or (drop a m) k 0) f h)
    where
      there : k < length (drop a m)
      there = rw (length-drop a m) (omega arith)

  pub loaded_all : (k : ℕ) (b : List ℕ) → Front n k (take k (drop a m)) b → n ≤ k → b ≡ take n (drop a m)
  loaded_all k b f h = let e : k ≡ n = omega (arith, f.upto) in front_all n f h ∙ ap (λ (j : ℕ). take j (drop a m)) e

-- ---- the calls

module _ (m : List ℕ) (a : ℕ) (t : List ℕ) where
  pub store_done : (l : List ℕ) → a + length t ≤ length m → l ≡ written m a t → store_result 0 l ≡ stored_at m a t
  unfolding stored_at
  store_done l h e = rw (le-leb (a + length t) (length m) h) (ap (store_result 0) e)

  pub load_done : (l : List ℕ) → a + length t ≤ length m → l ≡ take (length t) (drop a m) → store_result 0 l ≡ loaded_from m a t
  unfolding loaded_from
  load_done l h e = rw (le-leb (a + length t) (length m) h) (ap (store_result 0) e)

  -- past the end
  pub store_past : (r : ℕ) → r ≡ 8 → length m < a + length t → store_result r m ≡ stored_at m a t
  unfolding stored_at
  store_past r e h = rw (lt-leb (a + length t) (length m) h, e) refl

  pub load_past : (r : ℕ) → r ≡ 8 → length m < a + length t → store_result r t ≡ loaded_from m a t
  unfolding loaded_from
  load_past r e h = rw (lt-leb (a + length t) (length m) h, e) refl
