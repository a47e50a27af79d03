-- Frame 02: the bytes stored so far, and the ways out.
-- Assumes nothing.
use Rattle.std.proofs.Common.{◌≡◌, ℕ, ◌+◌, ◌*◌, ◌<◌, ◌≤◌, List, length, set, sym, refl, ap, ◌∙◌, add-one, arith, length-set, le-leb}
use borrow.Author.Tests.{lt-leb}
use Rattle.hex_digits.specs.Digits.{number_at}
use Rattle.board_lines.specs.Stores.{byte_count, bytes_stored, store_result, frame_store}

-- the first k bytes of a line stand from a on
pub record Storing (s m₀ : List ℕ) (a n k : ℕ) (m : List ℕ) : Type 0 where
  pub upto : k ≤ n
  pub long : length m ≡ length m₀
  pub held : m ≡ bytes_stored k s m₀ a

module _ (s m₀ : List ℕ) (a n : ℕ) where
  pub storing_none : Storing s m₀ a n 0 m₀
  storing_none = record { upto = omega arith; long = refl; held = refl }

  pub storing_more : (k b : ℕ) (m : List ℕ) → Storing s m₀ a n k m → k < n → b ≡ number_at 2 s (10 + k * 2)
      → Storing s m₀ a n (k + 1) (set m (a + k) b)
  storing_more k b m r h e =
      record { upto = omega arith; long = length-set m (a + k) b ∙ r.long; held = rw (add-one, r.held, e) refl }

  pub storing_all : (k : ℕ) (m : List ℕ) → Storing s m₀ a n k m → n ≤ k → m ≡ bytes_stored n s m₀ a
  storing_all k m r h =
      let e : k ≡ n = omega (arith, r.upto) in
      r.held ∙ ap (λ (i : ℕ). bytes_stored i s m₀ a) e

module _ (s m : List ℕ) (a n : ℕ) (e : n ≡ byte_count s) where
  pub store_in : (m' : List ℕ) → a + n ≤ length m → m' ≡ bytes_stored n s m a → store_result 0 m' ≡ frame_store s m a
  unfolding frame_store
  store_in m' h g = rw (sym e, le-leb (a + n) (length m) h) (ap (store_result 0) g)

  pub store_past : length m < a + n → store_result 8 m ≡ frame_store s m a
  unfolding frame_store
  store_past h = rw (sym e, lt-leb (a + n) (length m) h) refl
