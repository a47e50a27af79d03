-- Programs that ask a bounded number of times, for allowed accesses, and end in allowed results as long as the answers are allowed.
-- Assumes nothing.
use Prim.Native.Nat.{ℕ, zero, suc, ◌+◌, ◌≤◌}
use native.Mathlib.Omega.{arith}
use Rattle.memory.specs.Answers.{Answer}
use Rattle.access_spec.specs.Access.{Access}
use Rattle.access_spec.specs.Program.{Program, ret, ask, Handler, interpret, after}

-- no more is asked
abbrev pub Any : {A : Type 0} → A → Type 0
Any a = Unit

-- at most n accesses, each in Q, and, if every answer is in R, a result in P
abbrev pub Within : {A : Type 0} → (Access → Type 0) → (Access → Answer → Type 0) → (A → Type 0) → ℕ → Program A → Type 0
Within Q R P n (ret a) = P a
Within Q R P zero (ask q k) = ⊥
Within Q R P (suc n) (ask q k) = Q q × ((r : Answer) → R q r → Within Q R P n (k r))

-- the same whatever the answers
abbrev pub Bounded : {A : Type 0} → (Access → Type 0) → (A → Type 0) → ℕ → Program A → Type 0
Bounded Q P n p = Within Q (λ q. Any) P n p

module _ {A : Type 0} (Q : Access → Type 0) (R : Access → Answer → Type 0) where
  pub within_more : (P : A → Type 0) (n m : ℕ) (p : Program A) → n ≤ m → Within Q R P n p → Within Q R P m p
  within_more P n m (ret a) l h = h
  within_more P zero m (ask q k) l h = absurd h
  within_more P (suc n) zero (ask q k) l h = absurd (omega arith)
  within_more P (suc n) (suc m) (ask q k) l h = (h.0, λ r g. within_more P n m (k r) (omega arith) (h.1 r g))

  pub within_after : {B : Type 0} (P : A → Type 0) (S : B → Type 0) (a b c : ℕ) (p : Program B) (f : B → Program A)
      → a + b ≤ c → Within Q R S a p → ((x : B) → S x → Within Q R P b (f x)) → Within Q R P c (after p f)
  unfolding after
  within_after P S a b c (ret x) f l h g = within_more P b c (f x) (omega arith) (g x h)
  within_after P S zero b c (ask q k) f l h g = absurd h
  within_after P S (suc a) b zero (ask q k) f l h g = absurd (omega arith)
  within_after P S (suc a) b (suc c) (ask q k) f l h g = (h.0, λ r d. within_after P S a b c (k r) f (omega arith) (h.1 r d) g)

  -- another result, of the same accesses
  pub within_weaker : (P S : A → Type 0) (n : ℕ) (p : Program A) → ((x : A) → P x → S x) → Within Q R P n p → Within Q R S n p
  within_weaker P S n (ret a) w h = w a h
  within_weaker P S zero (ask q k) w h = absurd h
  within_weaker P S (suc n) (ask q k) w h = (h.0, λ r d. within_weaker P S n (k r) w (h.1 r d))

  -- where every answer is allowed, it is the bound of every interpretation
  pub within_bounded : (P : A → Type 0) (n : ℕ) (p : Program A) → ((q : Access) (r : Answer) → R q r) → Within Q R P n p → Bounded Q P n p
  within_bounded P n (ret a) f h = h
  within_bounded P zero (ask q k) f h = absurd h
  within_bounded P (suc n) (ask q k) f h = (h.0, λ r d. within_bounded P n (k r) f (h.1 r (f q r)))

  -- what holds of every result holds of the one that comes, in a world whose answers are allowed
  pub within_result : {W : Type 0} (h : Handler W) (I : W → Type 0) (P : A → Type 0) (n : ℕ) (p : Program A) (w : W)
      → ((q : Access) (w : W) → I w → R q (h q w).out × I (h q w).world) → I w → Within Q R P n p → P (interpret h p w).out
  unfolding interpret
  within_result h I P n (ret a) w f i b = b
  within_result h I P zero (ask q k) w f i b = absurd b
  within_result h I P (suc n) (ask q k) w f i b =
      within_result h I P n (k (h q w).out) (h q w).world f (f q w i).1 (b.1 (h q w).out (f q w i).0)

pub bounded_result : {W A : Type 0} (h : Handler W) (Q : Access → Type 0) (P : A → Type 0) (n : ℕ) (p : Program A) (w : W) → Bounded Q P n p
    → P (interpret h p w).out
bounded_result h Q P n p w b = within_result Q (λ q. Any) h Any P n p w (λ q w i. (tt, tt)) tt b

-- what every access keeps of a world, a program keeps
pub interpret_keeps : {W A : Type 0} (h : Handler W) (I : W → Type 0) (p : Program A) (w : W) → ((q : Access) (w : W) → I w → I (h q w).world) → I w
    → I (interpret h p w).world
unfolding interpret
interpret_keeps h I (ret a) w f i = i
interpret_keeps h I (ask q k) w f i = interpret_keeps h I (k (h q w).out) (h q w).world f (f q w i)
