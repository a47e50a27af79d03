-- What an answer's number says, by the test of its size.
-- Assumes nothing.
use mathlib.Core.Path.{◌≡◌, refl, sym, ap, ◌∙◌}
use mathlib.Core.Bool.{Bool, true, false, cond}
use Prim.Native.Nat.{ℕ, ◌+◌, ◌%◌, ◌^◌, ◌≤◌, ◌<◌}
use native.Mathlib.Omega.{arith}
use lib.Dec.{ltb}
use borrow.Author.Tests.{lt-ltb, le-ltb}
use Rattle.memory.specs.Exceptions.{bus_fault}
use Rattle.memory.specs.Answers.{Answer, good, raised, answer_of}
use Rattle.memory.specs.Bytes.{Memory, number, holds, load}

abbrev pub number_of : Answer → ℕ
number_of (good v) = v
number_of (raised c) = c

pub answer_low : (x : ℕ) → x < 2 ^ 32 → answer_of x ≡ good (x % 2 ^ 32)
unfolding answer_of
answer_low x h = simp (lt-ltb _ _ h)

pub answer_high : (x : ℕ) → 2 ^ 32 ≤ x → answer_of x ≡ raised (x % 2 ^ 32)
unfolding answer_of
answer_high x h = simp (le-ltb _ _ h)

-- the numbers that stand for a value and for an exception
pub answer_got : (v : ℕ) → v < 2 ^ 32 → answer_of v ≡ good v
unfolding answer_of
answer_got v h = let e : v % 2 ^ 32 ≡ v = omega arith in simp (lt-ltb _ _ h, e)

pub answer_bad : (c : ℕ) → c < 2 ^ 32 → answer_of (2 ^ 32 + c) ≡ raised c
unfolding answer_of
answer_bad c h =
    let e : (2 ^ 32 + c) % 2 ^ 32 ≡ c = omega arith in
    let t : 2 ^ 32 ≤ 2 ^ 32 + c = omega arith in
    simp (le-ltb _ _ t, e)

-- what stands in the number of an answer
pub answer_number_law : (x : ℕ) (a : Answer) → answer_of x ≡ a → x % 2 ^ 32 ≡ number_of a
unfolding answer_of
answer_number_law x a e = go (ltb x (2 ^ 32)) ∙ ap number_of e
  where
    go : (b : Bool) → x % 2 ^ 32 ≡ number_of (cond b (good (x % 2 ^ 32)) (raised (x % 2 ^ 32)))
    go true = refl
    go false = refl

-- a load by its answer's number: whether its bytes lie in memory, and the number of them
module _ (n : ℕ) (m : Memory) (a x : ℕ) (e : answer_of x ≡ load n m a) where
  pub load_held : holds m a n ≡ true → x % 2 ^ 32 ≡ number n m a
  unfolding load
  load_held h = answer_number_law x (good (number n m a)) (e ∙ rw h)

  pub load_inside : x < 2 ^ 32 → holds m a n ≡ true
  unfolding load
  load_inside l = go (holds m a n) (sym (answer_low x l) ∙ e)
    where
      go : (b : Bool) → good (x % 2 ^ 32) ≡ cond b (good (number n m a)) (raised bus_fault) → b ≡ true
      go true f = refl
      go false f = cc

  pub load_outside : 2 ^ 32 ≤ x → holds m a n ≡ false
  unfolding load
  load_outside l = go (holds m a n) (sym (answer_high x l) ∙ e)
    where
      go : (b : Bool) → raised (x % 2 ^ 32) ≡ cond b (good (number n m a)) (raised bus_fault) → b ≡ false
      go true f = cc
      go false f = refl
