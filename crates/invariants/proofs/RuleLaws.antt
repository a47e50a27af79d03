-- What a fact about every program of the instruction set has to say of its parts; and how parts go together.
-- Assumes nothing.
use Prim.Native.Nat.{ℕ, ◌+◌, ◌/◌, ◌%◌, ◌^◌, ◌<◌, ◌≤◌}
use mathlib.Core.Path.{◌≡◌, refl}
use mathlib.Core.Bool.{Bool, true, false, cond, not, ◌&&◌, ◌||◌}
use mathlib.Core.List.{[], ◌∷◌}
use native.Mathlib.Omega.{arith}
use lib.Dec.{T, eqb, ltb, leb}
use lib.ListN.{set}
use Rattle.word.specs.Fields.{bit_of}
use Rattle.word.specs.Lists.{contains}
use Rattle.word.specs.declared.Width.{Width}
use Rattle.word.specs.Widths.{bytes_of}
use Rattle.memory.specs.Answers.{Answer, good, raised}
use Rattle.access_spec.specs.Access.{Access, fetch, read, write, probe, regime_of}
use Rattle.access_spec.specs.Program.{Program, ret}
use Rattle.machine.specs.Registers.{psw, stb, trace_due}
use Rattle.machine.specs.Cache.{cache_write}
use Rattle.machine.specs.Status.{Cpu, cpu, reg, with, is_user, regime}
use Rattle.datapath.specs.Parts.{Out, ok, stop, onward, ◌>>=◌, done}
use Rattle.access_spec.proofs.BoundedLaws.{Within, within_more, within_after, within_weaker}
use Rattle.invariants.specs.StopCodes.{confined_exceptions}

-- what may stand at a place of the bank: a word in a register, 1 or 0 where something is due
abbrev pub suits : ℕ → ℕ → Bool
suits k v = ltb k trace_due || leb v 1

-- and at a place that decides no regime
abbrev pub plainly : ℕ → ℕ → Bool
plainly k v = not (eqb k psw || eqb k stb) && suits k v

-- Table 1-8: the bits that instructions set at any level: flag 4, carry 5, overflow 6, enter guard 11
abbrev pub is_flag : ℕ → Bool
is_flag n = eqb n 4 || eqb n 5 || eqb n 6 || eqb n 11

-- a PSW with the bits of another, but for the flags
pub record Alike (x y : ℕ) : Type 0 where
  pub bits : (n : ℕ) → T (not (is_flag n)) → bit_of y n ≡ bit_of x n
  pub word : x < 2 ^ 32 → y < 2 ^ 32

-- a read is answered by a word
abbrev pub Sized : Access → ℕ → Type 0
Sized (fetch r a) v = Unit
Sized (read r w a) v = v < 2 ^ 32
Sized (write r w a x) v = Unit
Sized (probe r a) v = Unit

-- an exception that a confined run may meet
abbrev pub ConfinedException : ℕ → Type 0
ConfinedException e = contains confined_exceptions e ≡ true

-- an answer of that kind where W holds, or an exception in R
abbrev pub AnswerIn : Type 0 → (ℕ → Type 0) → Access → Answer → Type 0
AnswerIn W R q (good v) = W → Sized q v
AnswerIn W R q (raised e) = R e

-- what is asked for, what machines are left and what exceptions are raised, and that the parts of instructions keep to it
pub record Rules : Type 1 where
  pub Asks : Access → Type 0
  pub Holds : Cpu → Type 0
  pub Raises : ℕ → Type 0
  -- that every access and every register is allowed: not so where the level is to stay the user's
  pub Free : Type 0
  -- that words are below 2 ^ 32
  pub Words : Type 0
  -- accesses in the regime of the moment, and the others: frames, vectors, CRET's
  pub asks : (c : Cpu) (q : Access) → Holds c → regime_of q ≡ regime c.bank → Asks q
  pub anything : Free → (q : Access) → Asks q
  pub kernel : (c : Cpu) → Holds c → is_user c.bank ≡ false → Free
  -- exceptions that come at any level, and the others: an unimplemented register, a reset
  pub raises : (e : ℕ) → ConfinedException e → Raises e
  pub raises_all : Free → (e : ℕ) → Raises e
  -- places of the bank that decide no regime, all of them, and PSW with other flags
  pub plain : (c : Cpu) (k v : ℕ) → T (plainly k v) → Holds c → (Words → v < 2 ^ 32) → Holds (with c k v)
  pub register : (c : Cpu) (k v : ℕ) → T (suits k v) → Free → Holds c → (Words → v < 2 ^ 32) → Holds (with c k v)
  pub status : (c : Cpu) (v : ℕ) → Holds c → Alike (reg c psw) v → Holds (with c psw v)
  -- the cache: an operand written, a quad-word filled
  pub stored : (c : Cpu) (w : Width) (a v : ℕ) → Holds c → Holds (cpu c.bank (cache_write (bytes_of w) c.cache a v))
  pub filled : (c : Cpu) (a w x y z : ℕ) → Holds c → (Words → (w < 2 ^ 32) × (x < 2 ^ 32) × (y < 2 ^ 32) × (z < 2 ^ 32))
      → Holds (cpu c.bank (set c.cache (a / 16 % 16) (w ∷ x ∷ y ∷ z ∷ [])))
  pub words : (c : Cpu) (k : ℕ) → Holds c → Words → reg c k < 2 ^ 32

-- as long as reads are answered by words, and accesses raise what parts may stop by
abbrev pub AnswersAllowed : Rules → Access → Answer → Type 0
AnswersAllowed k q r = AnswerIn k.Words k.Raises q r

-- that is any answer, where nothing is asked of words and every exception may come
pub any_answer : (k : Rules) → (k.Words → ⊥) → ((e : ℕ) → k.Raises e) → (q : Access) (r : Answer) → AnswersAllowed k q r
any_answer k w f q (good v) = λ t. absurd (w t)
any_answer k w f q (raised e) = f e

abbrev pub Value : Rules → ℕ → Type 0
Value k v = k.Words → v < 2 ^ 32

-- a result in P, or a stop by an exception that may come, with a machine that holds
abbrev pub ResultsAllowed : {A : Type 0} → Rules → (A → Type 0) → Out A → Type 0
ResultsAllowed k P (ok a) = P a
ResultsAllowed k P (stop e c) = k.Raises e × k.Holds c

-- a part of an instruction: at most n accesses, a result in P, or a stop
pub record Part {A : Type 0} (k : Rules) (P : A → Type 0) (n : ℕ) (p : Program (Out A)) : Type 0 where
  pub within : Within k.Asks (AnswersAllowed k) (ResultsAllowed k P) n p

module _ {k : Rules} {A : Type 0} {P : A → Type 0} where
  pub bind : {B : Type 0} {S : B → Type 0} {a b : ℕ} {p : Program (Out B)} {f : B → Program (Out A)}
      → Part k S a p → ((x : B) → S x → Part k P b (f x)) → Part k P (a + b) (p >>= f)
  unfolding ◌>>=◌ onward
  bind {B = B} {S = S} {a = a} {b = b} {p = p} {f = f} t g =
      record { within = within_after k.Asks (AnswersAllowed k) (ResultsAllowed k P) (ResultsAllowed k S) a b (a + b) p (onward f) (omega arith) t.within go }
    where
      go : (x : Out B) → ResultsAllowed k S x → Within k.Asks (AnswersAllowed k) (ResultsAllowed k P) b (onward f x)
      go (ok x) y = (g x y).within
      go (stop e d) y = y

  pub more : {n : ℕ} (m : ℕ) {p : Program (Out A)} → n ≤ m → Part k P n p → Part k P m p
  more {n = n} m {p = p} l t = record { within = within_more k.Asks (AnswersAllowed k) (ResultsAllowed k P) n m p l t.within }

  pub gives : {n : ℕ} {a : A} → P a → Part k P n (done a)
  gives h = record { within = h }

  pub stops : {n : ℕ} {e : ℕ} {c : Cpu} → k.Raises e → k.Holds c → Part k P n (ret (stop e c))
  stops r h = record { within = (r, h) }

  pub either : {n : ℕ} (b : Bool) {p q : Program (Out A)} → (b ≡ true → Part k P n p) → (b ≡ false → Part k P n q) → Part k P n (cond b p q)
  either true f g = f refl
  either false f g = g refl

  -- whatever the result
  pub some : {n : ℕ} {p : Program (Out A)} → Part k P n p → Part k (λ a. Unit) n p
  some {n = n} {p = p} t = record { within = within_weaker k.Asks (AnswersAllowed k) (ResultsAllowed k P) (ResultsAllowed k (λ a. Unit)) n p go t.within }
    where
      go : (x : Out A) → ResultsAllowed k P x → ResultsAllowed k (λ a. Unit) x
      go (ok a) h = tt
      go (stop e c) h = h
