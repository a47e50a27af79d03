-- The text of an instruction, parcel by parcel and in pairs.
-- Assumes nothing.
use Prim.Native.Nat.{ℕ, suc, ◌+◌, ◌*◌, ◌/◌, ◌%◌, ◌^◌, ◌<◌, ◌≤◌}
use mathlib.Core.Path.{◌≡◌, refl, sym, ap, ◌∙◌}
use mathlib.Core.List.{List, ◌∷◌}
use native.Mathlib.Omega.{arith}
use Rattle.memory.specs.Answers.{Answer, good, raised, answer_of}
use Rattle.memory.proofs.AnswerLaws.{answer_low, answer_high, answer_got}
use Rattle.isa.specs.Decode.{joined}
use Rattle.word.specs.Sums.{plus_of}
use Rattle.access_spec.specs.Access.{fetch, Response, response}
use Rattle.access_spec.specs.Program.{Program, interpret}
use Rattle.access_spec.specs.Journal.{Journaled, logging}
use Rattle.machine.specs.Status.{Cpu, regime}
use Rattle.datapath.specs.Parts.{Out, ok, stop, onward, ◌>>=◌, done, parcel_replied}
use Rattle.datapath.specs.Text.{fetch_parcel, fetch_parcels}
use Rattle.datapath.specs.Code.{fetch_two, joined_out}
use Rattle.datapath.proofs.BindLaws.{bind, parcel_fetched}

module _ (c : Cpu) (a x : ℕ) (t u : Journaled) (e : response (answer_of x) u ≡ logging (fetch (regime c.bank) a) t) where
  pub two_first : 2 ^ 32 ≤ x → response (joined_out c (answer_of x)) u ≡ interpret logging (fetch_two c a) t
  unfolding fetch_two onward interpret
  two_first h = rw (bind, parcel_fetched c (answer_of x) t u a e, answer_high x h) refl

  module _ (h : x < 2 ^ 32) (b y : ℕ) (v : Journaled) (eb : b ≡ plus_of a 2) (f : response (answer_of y) v ≡ logging (fetch (regime c.bank) b) u) where
    pub two_second : 2 ^ 32 ≤ y → response (joined_out c (answer_of y)) v ≡ interpret logging (fetch_two c a) t
    unfolding fetch_two onward interpret
    two_second k =
        rw (bind, parcel_fetched c (answer_of x) t u a e, answer_low x h, bind, ← eb, parcel_fetched c (answer_of y) u v b f, answer_high y k) refl

    both : y < 2 ^ 32 → response (joined_out c (answer_of (x % 65536 * 65536 + y % 65536))) v ≡ interpret logging (fetch_two c a) t
    unfolding fetch_two onward interpret
    both k =
        let w : x % 2 ^ 32 % 2 ^ 16 ≡ x % 65536 = omega arith in
        let z : y % 2 ^ 32 % 2 ^ 16 ≡ y % 65536 = omega arith in
        rw (bind, parcel_fetched c (answer_of x) t u a e, answer_low x h, bind, ← eb, parcel_fetched c (answer_of y) u v b f, answer_low y k, w, z)
        (ap (λ (r : Answer). response (joined_out c r) v) (answer_got (x % 65536 * 65536 + y % 65536) (omega arith)))

    -- p and q are the parcels, j the word of both
    pub two_both : y < 2 ^ 32 → (p q j : ℕ) → p ≡ x % 65536 → q ≡ y % 65536 → j ≡ p * 65536 + q
        → response (joined_out c (answer_of j)) v ≡ interpret logging (fetch_two c a) t
    two_both k p q j ep eq ej = rw (ej, ep, eq) (both k)

-- ---- parcels in pairs

-- v's halves before other parcels
abbrev pub halves : ℕ → List ℕ → List ℕ
halves v ps = v / 65536 ∷ v % 65536 ∷ ps

module _ (c : Cpu) where
  one_parcel : {A : Type 0} (f : ℕ → Program (Out A)) (a : ℕ) (t : Journaled)
      → interpret logging (fetch_parcel c a >>= f) t
      ≡ interpret logging (onward f (parcel_replied c (logging (fetch (regime c.bank) a) t).out)) (logging (fetch (regime c.bank) a) t).world
  one_parcel {A} f a t =
      bind (fetch_parcel c a) f t
      ∙ ap (λ (g : Response Journaled (Out ℕ)). interpret logging (onward f g.out) g.world)
      (parcel_fetched c (logging (fetch (regime c.bank) a) t).out t (logging (fetch (regime c.bank) a) t).world a refl)

  -- two parcels and n more are a word and n more
  abbrev pub in_pairs : ℕ → ℕ → Program (Out (List ℕ))
  in_pairs a n = fetch_two c a >>= (λ v. fetch_parcels c (plus_of a 4) n >>= (λ ps. done (halves v ps)))

  joined_halves : (v y : ℕ) (ps : List ℕ) → halves (joined (v % 2 ^ 16) (y % 2 ^ 16)) ps ≡ v % 2 ^ 16 ∷ y % 2 ^ 16 ∷ ps
  joined_halves v y ps =
      let e : joined (v % 2 ^ 16) (y % 2 ^ 16) / 65536 ≡ v % 2 ^ 16 = omega arith in
      let f : joined (v % 2 ^ 16) (y % 2 ^ 16) % 65536 ≡ y % 2 ^ 16 = omega arith in
      rw (e, f) refl

  module _ (a n : ℕ) where
    on : plus_of (plus_of a 2) 2 ≡ plus_of a 4
    on = omega arith

    -- the rest is fetched, and the two parcels are put before it
    third : (v y : ℕ) (o : Out (List ℕ)) (w : Journaled)
        → interpret logging (onward (λ ps. done (v % 2 ^ 16 ∷ ps)) (interpret logging (onward (λ ps. done (y % 2 ^ 16 ∷ ps)) o) w).out) (interpret logging (onward (λ ps. done (y % 2 ^ 16 ∷ ps)) o) w).world
        ≡ interpret logging (onward (λ ps. done (halves (joined (v % 2 ^ 16) (y % 2 ^ 16)) ps)) o) w
    unfolding onward interpret
    third v y (ok ps) w = ap (λ (l : List ℕ). response (ok l) w) (sym (joined_halves v y ps))
    third v y (stop e d) w = refl

    second : (v : ℕ) (r : Answer) (w : Journaled)
        → interpret logging (onward (λ ps. done (v % 2 ^ 16 ∷ ps)) (interpret logging (onward (λ p. fetch_parcels c (plus_of (plus_of a 2) 2) n >>= (λ ps. done (p ∷ ps))) (parcel_replied c r)) w).out) (interpret logging (onward (λ p. fetch_parcels c (plus_of (plus_of a 2) 2) n >>= (λ ps. done (p ∷ ps))) (parcel_replied c r)) w).world
        ≡ interpret logging (onward (λ v. fetch_parcels c (plus_of a 4) n >>= (λ ps. done (halves v ps))) (interpret logging (onward (λ y. done (joined (v % 2 ^ 16) y)) (parcel_replied c r)) w).out) (interpret logging (onward (λ y. done (joined (v % 2 ^ 16) y)) (parcel_replied c r)) w).world
    unfolding onward interpret
    second v (raised e) w = refl
    second v (good y) w =
        rw (on, bind (fetch_parcels c (plus_of a 4) n) (λ ps. done (y % 2 ^ 16 ∷ ps)) w, bind (fetch_parcels c (plus_of a 4) n) (λ ps. done (halves (joined (v % 2 ^ 16) (y % 2 ^ 16)) ps)) w)
        (third v y (interpret logging (fetch_parcels c (plus_of a 4) n) w).out (interpret logging (fetch_parcels c (plus_of a 4) n) w).world)

    first : (r : Answer) (u : Journaled)
        → interpret logging (onward (λ p. fetch_parcels c (plus_of a 2) (suc n) >>= (λ ps. done (p ∷ ps))) (parcel_replied c r)) u
        ≡ interpret logging (onward (λ v. fetch_parcels c (plus_of a 4) n >>= (λ ps. done (halves v ps))) (interpret logging (onward (λ x. fetch_parcel c (plus_of a 2) >>= (λ y. done (joined x y))) (parcel_replied c r)) u).out) (interpret logging (onward (λ x. fetch_parcel c (plus_of a 2) >>= (λ y. done (joined x y))) (parcel_replied c r)) u).world
    unfolding onward interpret fetch_parcels
    first (raised e) u = refl
    first (good v) u =
        rw (
          bind (fetch_parcels c (plus_of a 2) (suc n)) (λ ps. done (v % 2 ^ 16 ∷ ps)) u,
          one_parcel (λ p. fetch_parcels c (plus_of (plus_of a 2) 2) n >>= (λ ps. done (p ∷ ps))) (plus_of a 2) u,
          one_parcel (λ y. done (joined (v % 2 ^ 16) y)) (plus_of a 2) u,
        )
        (second v (logging (fetch (regime c.bank) (plus_of a 2)) u).out (logging (fetch (regime c.bank) (plus_of a 2)) u).world)

    pub pairs : (t : Journaled) → interpret logging (fetch_parcels c a (suc (suc n))) t ≡ interpret logging (in_pairs a n) t
    unfolding fetch_parcels fetch_two
    pairs t =
        rw (
          one_parcel (λ p. fetch_parcels c (plus_of a 2) (suc n) >>= (λ ps. done (p ∷ ps))) a t,
          bind (fetch_two c a) (λ v. fetch_parcels c (plus_of a 4) n >>= (λ ps. done (halves v ps))) t,
          one_parcel (λ x. fetch_parcel c (plus_of a 2) >>= (λ y. done (joined x y))) a t,
        )
        (first (logging (fetch (regime c.bank) a) t).out (logging (fetch (regime c.bank) a) t).world)
