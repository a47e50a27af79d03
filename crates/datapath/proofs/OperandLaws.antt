-- The ways out of fetching the parcels after a first one.
-- Assumes nothing.
use Prim.Native.Nat.{ℕ, suc, ◌/◌, ◌%◌, ◌^◌, ◌<◌, ◌≤◌}
use mathlib.Core.Path.{◌≡◌, refl, sym, ◌∙◌}
use mathlib.Core.Bool.{false}
use mathlib.Core.List.{List, [], ◌∷◌}
use native.Mathlib.Omega.{arith}
use lib.Dec.{ltb, eqb}
use borrow.Author.Tests.{lt-ltb, le-ltb, ne_eqb}
use Rattle.word.proofs.CaseLaws.{by_test}
use Rattle.memory.specs.Answers.{answer_of}
use Rattle.memory.proofs.AnswerLaws.{answer_low, answer_high}
use Rattle.isa.specs.declared.Text.{Text}
use Rattle.isa.specs.Lengths.{following}
use Rattle.isa.specs.Decode.{text_of, cpu_prefix}
use Rattle.word.specs.Sums.{plus_of}
use Rattle.access_spec.specs.Access.{fetch, Response, response}
use Rattle.access_spec.specs.Program.{interpret, after}
use Rattle.access_spec.specs.Journal.{Journaled, logging}
use Rattle.machine.specs.Registers.{pc}
use Rattle.machine.specs.Status.{Cpu, reg, regime}
use Rattle.datapath.specs.declared.text.OperandParcels.{OperandParcels}
use Rattle.datapath.specs.Parts.{Out, ok, stop, onward, ◌>>=◌, done}
use Rattle.datapath.specs.Text.{fetch_parcels, fetch_after, fetch_prefixed, fetch_text}
use Rattle.datapath.specs.Code.{fetch_two, joined_out, listed, words_fetched, fetch_stopped, operands_out, text_out}
use Rattle.datapath.proofs.BindLaws.{bind, parcel_fetched}
use Rattle.datapath.proofs.TextLaws.{halves, pairs}

-- ---- the first word, then n parcels more

module _ (c : Cpu) (a x n : ℕ) (t u : Journaled) (e : response (joined_out c (answer_of x)) u ≡ interpret logging (fetch_two c a) t) where
  word_bad : 2 ^ 32 ≤ x → interpret logging (fetch_parcels c a (suc (suc n))) t ≡ response (stop (x % 2 ^ 32) c) u
  unfolding onward interpret
  word_bad h = pairs c a n t ∙ rw (bind (fetch_two c a) (λ v. fetch_parcels c (plus_of a 4) n >>= (λ ps. done (halves v ps))) t, ← e, answer_high x h) refl

  word_good : x < 2 ^ 32 → interpret logging (fetch_parcels c a (suc (suc n))) t ≡ interpret logging (fetch_parcels c (plus_of a 4) n >>= (λ ps. done (halves (x % 2 ^ 32) ps))) u
  unfolding onward
  word_good h = pairs c a n t ∙ rw (bind (fetch_two c a) (λ v. fetch_parcels c (plus_of a 4) n >>= (λ ps. done (halves v ps))) t, ← e, answer_low x h) refl

zero_more : (c : Cpu) (a : ℕ) (f : List ℕ → List ℕ) (t : Journaled) → interpret logging (fetch_parcels c a 0 >>= (λ ps. done (f ps))) t ≡ response (ok (f [])) t
unfolding fetch_parcels interpret ◌>>=◌ after onward
zero_more c a f t = refl

large : (x : ℕ) → 2 ^ 32 ≤ x → eqb x 0 ≡ false
large x h = ne_eqb x 0 (λ z. absurd (omega arith))

pub operands_as : (c : Cpu) (p : ℕ) (u : Journaled) (o k : OperandParcels) (g : Response Journaled (Out (List ℕ))) → o ≡ k → response (operands_out c p k) u ≡ g
    → response (operands_out c p o) u ≡ g
operands_as c p u o k g e h = rw e h

module _ (c : Cpu) (a p : ℕ) (t : Journaled) where
  pub operands_none : p < 0x8000 → response (operands_out c p (words_fetched 0 0)) t ≡ interpret logging (fetch_parcels c a (following p)) t
  unfolding fetch_parcels interpret
  operands_none h = rw (lt-ltb p 0x8000 h) refl

  module _ (h : 0x8000 ≤ p) (x : ℕ) (u : Journaled) (e : response (joined_out c (answer_of x)) u ≡ interpret logging (fetch_two c a) t) where
    pub operands_first : 2 ^ 32 ≤ x → response (operands_out c p (fetch_stopped x)) u ≡ interpret logging (fetch_parcels c a (following p)) t
    operands_first k =
        by_test (ltb p 0xC000)
        (λ s. rw (large x k, le-ltb p 0x8000 h, s) (sym (word_bad c a x 0 t u e k)))
        (λ s. rw (large x k, le-ltb p 0x8000 h, s) (sym (word_bad c a x 2 t u e k)))

    module _ (k : x < 2 ^ 32) (v : ℕ) (ev : v ≡ x % 2 ^ 32) where
      pub operands_three : p < 0xC000 → response (operands_out c p (words_fetched v 0)) u ≡ interpret logging (fetch_parcels c a (following p)) t
      unfolding fetch_parcels interpret ◌>>=◌ after onward
      operands_three s = rw (le-ltb p 0x8000 h, lt-ltb p 0xC000 s, ev) (sym (word_good c a x 0 t u e k))

      module _ (s : 0xC000 ≤ p) (d y : ℕ) (w : Journaled) (ed : d ≡ plus_of a 4) (f : response (joined_out c (answer_of y)) w ≡ interpret logging (fetch_two c d) u) where
        rest : interpret logging (fetch_parcels c a (following p)) t ≡ interpret logging (fetch_parcels c d 2 >>= (λ ps. done (halves (x % 2 ^ 32) ps))) u
        rest = rw (le-ltb p 0x8000 h, le-ltb p 0xC000 s, ed) (word_good c a x 2 t u e k)

        pub operands_second : 2 ^ 32 ≤ y → response (operands_out c p (fetch_stopped y)) w ≡ interpret logging (fetch_parcels c a (following p)) t
        unfolding onward interpret
        operands_second z = rw (large y z) (sym (rest ∙ rw (bind (fetch_parcels c d 2) (λ ps. done (halves (x % 2 ^ 32) ps)) u, word_bad c d y 0 u w f z) refl))

        pub operands_five : y < 2 ^ 32 → (z : ℕ) → z ≡ y % 2 ^ 32
            → response (operands_out c p (words_fetched v z)) w ≡ interpret logging (fetch_parcels c a (following p)) t
        unfolding onward interpret
        operands_five l z ez =
            rw (le-ltb p 0x8000 h, le-ltb p 0xC000 s, ev, ez)
            (sym (rest' ∙ rw (bind (fetch_parcels c d 2) (λ ps. done (halves (x % 2 ^ 32) ps)) u, last) refl))
          where
            rest' : interpret logging (fetch_parcels c a 4) t ≡ interpret logging (fetch_parcels c d 2 >>= (λ ps. done (halves (x % 2 ^ 32) ps))) u
            rest' = rw ed (word_good c a x 2 t u e k)

            last : interpret logging (fetch_parcels c d 2) u ≡ response (ok (halves (y % 2 ^ 32) [])) w
            last = word_good c d y 0 u w f l ∙ zero_more c (plus_of d 4) (λ ps. halves (y % 2 ^ 32) ps) w

-- ---- the whole text

listed_text : (c : Cpu) (p : ℕ) (o : OperandParcels) (u : Journaled) (f : List ℕ → Text) (x : Text) → x ≡ f (listed p o.source o.destination)
    → response (text_out c (record { fault = o.fault; text = x })) u ≡ interpret logging (onward (λ ps. done (f ps)) (operands_out c p o)) u
unfolding onward interpret
listed_text c p o u f x e =
    by_test (eqb o.fault 0)
    (λ b. rw (b, e) refl)
    (λ b. rw b refl)

parcel_of : (x : ℕ) → x % 2 ^ 32 % 2 ^ 16 ≡ x % 65536
parcel_of x = omega arith

module _ (c : Cpu) (t : Journaled) where
  pub after_text : (p a : ℕ) (o : OperandParcels) (u : Journaled) (x : Text) → a ≡ plus_of (reg c pc) 2 → response (operands_out c p o) u ≡ interpret logging (fetch_parcels c a (following p)) t
      → x ≡ text_of (p ∷ listed p o.source o.destination) → response (text_out c (record { fault = o.fault; text = x })) u ≡ interpret logging (fetch_after c p) t
  unfolding fetch_after
  after_text p a o u x ea e ex = rw (bind, ← ea, ← e) (listed_text c p o u (λ ps. text_of (p ∷ ps)) x ex)

  pub prefixed_bad : (a y : ℕ) (u : Journaled) (x : Text) → a ≡ plus_of (reg c pc) 2 → response (answer_of y) u ≡ logging (fetch (regime c.bank) a) t → 2 ^ 32 ≤ y
      → response (text_out c (record { fault = y; text = x })) u ≡ interpret logging (fetch_prefixed c) t
  unfolding fetch_prefixed onward interpret
  prefixed_bad a y u x ea e h = rw (large y h, bind, ← ea, parcel_fetched c (answer_of y) t u a e, answer_high y h) refl

  pub prefixed_text : (a y p b : ℕ) (u w : Journaled) (o : OperandParcels) (x : Text) → a ≡ plus_of (reg c pc) 2 → response (answer_of y) u ≡ logging (fetch (regime c.bank) a) t → y < 2 ^ 32 → p ≡ y % 65536
      → b ≡ plus_of (reg c pc) 4 → response (operands_out c p o) w ≡ interpret logging (fetch_parcels c b (following p)) u → x ≡ text_of (cpu_prefix ∷ p ∷ listed p o.source o.destination)
      → response (text_out c (record { fault = o.fault; text = x })) w ≡ interpret logging (fetch_prefixed c) t
  unfolding fetch_prefixed onward
  prefixed_text a y p b u w o x ea e h ep eb f ex =
      rw (bind, ← ea, parcel_fetched c (answer_of y) t u a e, answer_low y h, parcel_of y, ← ep, bind, ← eb, ← f) (listed_text c p o w (λ ps. text_of (cpu_prefix ∷ p ∷ ps)) x ex)

  module _ (y : ℕ) (u : Journaled) (e : response (answer_of y) u ≡ logging (fetch (regime c.bank) (reg c pc)) t) where
    pub text_bad : (x : Text) → 2 ^ 32 ≤ y → response (text_out c (record { fault = y; text = x })) u ≡ interpret logging (fetch_text c) t
    unfolding fetch_text onward interpret
    text_bad x h = rw (large y h, bind, parcel_fetched c (answer_of y) t u (reg c pc) e, answer_high y h) refl

    pub text_prefixed : (p : ℕ) (g : Response Journaled (Out Text)) → y < 2 ^ 32 → p ≡ y % 65536 → p ≡ 0x2C00 → g ≡ interpret logging (fetch_prefixed c) u → g ≡ interpret logging (fetch_text c) t
    unfolding fetch_text onward
    text_prefixed p g h ep z f = rw (bind, parcel_fetched c (answer_of y) t u (reg c pc) e, answer_low y h, parcel_of y, ← ep, z) f

    pub text_after : (p : ℕ) (g : Response Journaled (Out Text)) → y < 2 ^ 32 → p ≡ y % 65536 → (p ≡ 0x2C00 → ⊥) → g ≡ interpret logging (fetch_after c p) u → g ≡ interpret logging (fetch_text c) t
    unfolding fetch_text onward
    text_after p g h ep z f = rw (bind, parcel_fetched c (answer_of y) t u (reg c pc) e, answer_low y h, parcel_of y, ← ep, ne_eqb p cpu_prefix z) f

-- ---- a text by its parts

-- f is the form of the parcel p
module _ (p x y a b d e f : ℕ) (form : f ≡ p / 0x4000) where
  pub bare_one : f < 2 → record { count = 1; p0 = p; p1 = 0; p2 = 0; p3 = 0; p4 = 0; p5 = 0 } ≡ text_of (p ∷ listed p x y)
  bare_one h = rw (lt-ltb p 0x8000 (omega arith)) refl

  pub bare_three : 2 ≤ f → f < 3 → a ≡ x / 65536 → b ≡ x % 65536 → record { count = 3; p0 = p; p1 = a; p2 = b; p3 = 0; p4 = 0; p5 = 0 } ≡ text_of (p ∷ listed p x y)
  bare_three h k ea eb = rw (le-ltb p 0x8000 (omega arith), lt-ltb p 0xC000 (omega arith), ea, eb) refl

  pub bare_five : 2 ≤ f → 3 ≤ f → a ≡ x / 65536 → b ≡ x % 65536 → d ≡ y / 65536 → e ≡ y % 65536 → record { count = 5; p0 = p; p1 = a; p2 = b; p3 = d; p4 = e; p5 = 0 } ≡ text_of (p ∷ listed p x y)
  bare_five h k ea eb ed ee = rw (le-ltb p 0x8000 (omega arith), le-ltb p 0xC000 (omega arith), ea, eb, ed, ee) refl

  pub prefixed_one : f < 2 → record { count = 2; p0 = 0x2C00; p1 = p; p2 = 0; p3 = 0; p4 = 0; p5 = 0 } ≡ text_of (cpu_prefix ∷ p ∷ listed p x y)
  prefixed_one h = rw (lt-ltb p 0x8000 (omega arith)) refl

  pub prefixed_three : 2 ≤ f → f < 3 → a ≡ x / 65536 → b ≡ x % 65536 → record { count = 4; p0 = 0x2C00; p1 = p; p2 = a; p3 = b; p4 = 0; p5 = 0 } ≡ text_of (cpu_prefix ∷ p ∷ listed p x y)
  prefixed_three h k ea eb = rw (le-ltb p 0x8000 (omega arith), lt-ltb p 0xC000 (omega arith), ea, eb) refl

  pub prefixed_five : 2 ≤ f → 3 ≤ f → a ≡ x / 65536 → b ≡ x % 65536 → d ≡ y / 65536 → e ≡ y % 65536 → record { count = 6; p0 = 0x2C00; p1 = p; p2 = a; p3 = b; p4 = d; p5 = e } ≡ text_of (cpu_prefix ∷ p ∷ listed p x y)
  prefixed_five h k ea eb ed ee = rw (le-ltb p 0x8000 (omega arith), le-ltb p 0xC000 (omega arith), ea, eb, ed, ee) refl
