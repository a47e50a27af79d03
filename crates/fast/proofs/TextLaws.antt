-- The text at PC, by one walk.
-- Assumes nothing.
use Prim.Native.Nat.{ℕ, zero, suc, ◌+◌, ◌-◌, ◌*◌, ◌/◌, ◌%◌, ◌^◌, ◌<◌, ◌≤◌}
use mathlib.Core.Path.{◌≡◌, refl, sym, ap, subst, ◌∙◌}
use mathlib.Core.Bool.{Bool, true, false, cond}
use mathlib.Core.List.{List, [], ◌∷◌}
use native.Mathlib.Omega.{arith}
use lib.Dec.{eqb, ltb}
use lib.ListN.{length, get_or}
use borrow.Author.Tests.{le-leb, lt-ltb, le-ltb, ne_eqb}
use Rattle.word.specs.Sums.{plus_of}
use Rattle.memory.specs.Answers.{good}
use Rattle.memory.specs.Bytes.{Memory, byte_at, number, load}
use Rattle.mmu.specs.declared.AccessKind.TheVariants.{Fetch}
use Rattle.access_spec.specs.Program.{interpret}
use Rattle.machine.specs.Registers.{Bank, word, pc, stb}
use Rattle.machine.specs.Cache.{Cache}
use Rattle.machine.specs.Status.{cpu, is_user, is_virtual, regime}
use Rattle.access.specs.Followed.{regime_for}
use Rattle.access.specs.EffectFree.{effect_free_place, EffectFree}
use Rattle.access.proofs.EffectFreeLaws.{fetch_effect_free, effect_free_beside, place_effect_free}
use Rattle.datapath.specs.Parts.{done, parcel_request}
use Rattle.datapath.specs.Text.{fetch_parcel, fetch_parcels, fetch_after, fetch_text}
use Rattle.isa.specs.Lengths.{form_of, after_of, following}
use Rattle.isa.specs.Decode.{decode_short, decode_wide, decode_bare, decode_of, cpu_prefix, text_of}
use Rattle.isa.specs.declared.Wide.{Wide}
use Rattle.isa.specs.declared.Wide.TheVariants.{Three, Five}
use Rattle.fast_decode.specs.declared.Plan.{Plan}
use Rattle.fast_decode.specs.Plans.{plan_of}
use Rattle.fast_dyadic.specs.Fast.{gives}
use Rattle.fast.specs.Performed.{parcel_at, parcels_from, text_at}
use Rattle.fast_dyadic.proofs.GiveLaws.{gives_then, gives_done}
use Rattle.fast_dyadic.proofs.AccessLaws.{regime_is}

pub effect_free_here : (b : Bank) (s : ℕ) (u t : Bool) → u ≡ is_user b → t ≡ is_virtual b → s ≡ word b stb → (a : ℕ) (m : Memory) (x : ℕ) → x ≡ effect_free_place (regime_for s u t) Fetch a m → x < 2 ^ 32
    → EffectFree (regime b) Fetch a m x
effect_free_here b s u t eu et es a m x k h = place_effect_free (regime b) Fetch a m x (rw (← regime_is b s u t eu et es) k) h

-- ---- parcels

pub two_bytes : (m : Memory) (k r : ℕ) → r ≡ byte_at m k * 256 + byte_at m (k + 1) → r % 2 ^ 16 ≡ parcel_at m k
two_bytes m k r e = let z : k + 0 ≡ k = omega arith in ap (λ (n : ℕ). n % 2 ^ 16) (e ∙ sym (rw z (omega arith)))

loaded : (m : Memory) (k : ℕ) → k + 2 ≤ length m → load 2 m k ≡ good (number 2 m k)
unfolding load
loaded m k h = rw (le-leb (k + 2) (length m) h) refl

module _ (b : Bank) (q : Cache) (m : Memory) where
  none : (a : ℕ) → fetch_parcels (cpu b q) a 0 ≡ done []
  unfolding fetch_parcels
  none a = refl

  parcel_effect_free : (a k : ℕ) → EffectFree (regime b) Fetch a m k → a % 2 ≡ 0 → a < 2 ^ 32 → k + 2 ≤ length m → gives (fetch_parcel (cpu b q) a) m (parcel_at m k) m
  unfolding fetch_parcel parcel_request interpret
  parcel_effect_free a k h e l i =
      let even : a / 2 * 2 ≡ a = omega arith in
      rw (fetch_effect_free (regime b) m k a l (rw even h), loaded m k i) refl

  -- one parcel and n more
  more_effect_free : (n a k : ℕ) → EffectFree (regime b) Fetch a m k → a % 2 ≡ 0 → a < 2 ^ 32 → a % 0x1000 + (2 * n + 2) ≤ 0x1000 → k + (2 * n + 2) ≤ length m
      → gives (fetch_parcels (cpu b q) a (suc n)) m (parcels_from m k (suc n)) m
  unfolding fetch_parcels
  more_effect_free zero a k h e l f i =
      gives_then (fetch_parcel (cpu b q) a) _ m m m (parcel_at m k) (parcel_at m k ∷ []) (parcel_effect_free a k h e l (omega (arith, i)))
      (gives_then (fetch_parcels (cpu b q) (plus_of a 2) 0) _ m m m [] (parcel_at m k ∷ []) (gives_done (done []) [] refl m) (gives_done (done (parcel_at m k ∷ [])) (parcel_at m k ∷ []) refl m))
  more_effect_free (suc n) a k h e l f i =
      gives_then (fetch_parcel (cpu b q) a) _ m m m (parcel_at m k) (parcels_from m k (suc (suc n))) (parcel_effect_free a k h e l (omega (arith, i)))
      (gives_then (fetch_parcels (cpu b q) (plus_of a 2) (suc n)) _ m m m (parcels_from m (k + 2) (suc n)) (parcels_from m k (suc (suc n)))
      (rw near (more_effect_free n (a + 2) (k + 2) (effect_free_beside (regime b) Fetch a 2 m k (omega (arith, f)) h) (omega (arith, e)) (omega (arith, l, e, f)) (omega (arith, f, e)) (omega (arith, i))))
      (gives_done (done (parcels_from m k (suc (suc n)))) (parcels_from m k (suc (suc n))) refl m))
    where
      near : plus_of a 2 ≡ a + 2
      near = omega (arith, l, e, f)

-- ---- the text

module _ (b : Bank) (q : Cache) (m : Memory) (a k : ℕ) (ea : a ≡ word b pc) (h : EffectFree (regime b) Fetch a m k) (e : a % 2 ≡ 0) (f : a % 0x1000 + 10 ≤ 0x1000) (l : a < 2 ^ 32) (i : k + 10 ≤ length m) where
  after_effect_free : (p : ℕ) → gives (fetch_after (cpu b q) p) m (text_of (p ∷ parcels_from m (k + 2) (following p))) m
  unfolding fetch_after
  after_effect_free p =
      gives_then (fetch_parcels (cpu b q) (plus_of (word b pc) 2) (following p)) _ m m m (parcels_from m (k + 2) (following p)) (text_of (p ∷ parcels_from m (k + 2) (following p)))
      (rw (← ea, near) (go (ltb p 0x8000) (form_of p)))
      (gives_done (done (text_of (p ∷ parcels_from m (k + 2) (following p)))) (text_of (p ∷ parcels_from m (k + 2) (following p))) refl m)
    where
      near : plus_of a 2 ≡ a + 2
      near = omega (arith, l, e, f)

      next : EffectFree (regime b) Fetch (a + 2) m (k + 2)
      next = effect_free_beside (regime b) Fetch a 2 m k (omega (arith, f)) h

      go : (u : Bool) (w : Wide) → gives (fetch_parcels (cpu b q) (a + 2) (cond u 0 (after_of w))) m (parcels_from m (k + 2) (cond u 0 (after_of w))) m
      go true w = gives_done (fetch_parcels (cpu b q) (a + 2) 0) [] (none b q m (a + 2)) m
      go false Three = more_effect_free b q m 1 (a + 2) (k + 2) next (omega (arith, e)) (omega (arith, l, e, f)) (omega (arith, f, e)) (omega (arith, i))
      go false Five = more_effect_free b q m 3 (a + 2) (k + 2) next (omega (arith, e)) (omega (arith, l, e, f)) (omega (arith, f, e)) (omega (arith, i))

  pub text_effect_free : eqb (parcel_at m k) cpu_prefix ≡ false → gives (fetch_text (cpu b q)) m (text_at m k) m
  unfolding fetch_text
  text_effect_free g =
      gives_then (fetch_parcel (cpu b q) (word b pc)) _ m m m (parcel_at m k) (text_at m k) (rw (← ea) (parcel_effect_free b q m a k h e l (omega (arith, i))))
      (rw g (after_effect_free (parcel_at m k)))

-- ---- what the decoder says of it

bare : (p : ℕ) (ps : List ℕ) → eqb p cpu_prefix ≡ false → decode_of (text_of (p ∷ ps)) ≡ decode_bare (text_of (p ∷ ps))
unfolding decode_of
bare p ps h = rw (le-ltb (length (p ∷ ps)) 1 (omega arith), h) refl

short_bare : (p : ℕ) (ps : List ℕ) → p < 0x8000 → decode_bare (text_of (p ∷ ps)) ≡ decode_short p
unfolding decode_bare
short_bare p ps h = rw (lt-ltb p 0x8000 h) refl

wide_bare : (p : ℕ) (ps : List ℕ) → 0x8000 ≤ p → decode_bare (text_of (p ∷ ps)) ≡ decode_wide false (length ps) p (get_or ps 0 0) (get_or ps 1 0) (get_or ps 2 0) (get_or ps 3 0)
unfolding decode_bare
wide_bare p ps h = let n : length (p ∷ ps) - 1 ≡ length ps = omega arith in rw (le-ltb p 0x8000 h, n) refl

-- parcels that the form does not call for say nothing
wide_cut : (m : Memory) (p k : ℕ) (u : Bool) → ltb p 0xC000 ≡ u
    → decode_wide false (length (parcels_from m k (after_of (cond u Three Five)))) p (get_or (parcels_from m k (after_of (cond u Three Five))) 0 0) (get_or (parcels_from m k (after_of (cond u Three Five))) 1 0) (get_or (parcels_from m k (after_of (cond u Three Five))) 2 0) (get_or (parcels_from m k (after_of (cond u Three Five))) 3 0)
    ≡ decode_wide false (after_of (cond u Three Five)) p (parcel_at m k) (parcel_at m (k + 2)) (parcel_at m (k + 2 + 2)) (parcel_at m (k + 2 + 2 + 2))
unfolding decode_wide
wide_cut m p k true e = rw e refl
wide_cut m p k false e = rw e refl

module _ (m : Memory) (k p : ℕ) (ep : p ≡ parcel_at m k) (unprefixed : p ≡ cpu_prefix → ⊥) where
  plain : eqb (parcel_at m k) cpu_prefix ≡ false
  plain = rw (← ep) (ne_eqb p cpu_prefix unprefixed)

  short_decoded : p < 0x8000 → decode_short p ≡ decode_of (text_at m k)
  short_decoded h =
      ap decode_short ep ∙ sym (short_bare (parcel_at m k) (parcels_from m (k + 2) (following (parcel_at m k))) (rw (← ep) h)) ∙ sym (bare (parcel_at m k) (parcels_from m (k + 2) (following (parcel_at m k))) plain)

  wide_decoded : 0x8000 ≤ p → (n x y z w : ℕ) → n ≡ after_of (form_of p) → x ≡ parcel_at m (k + 2) → y ≡ parcel_at m (k + 4) → z ≡ parcel_at m (k + 6) → w ≡ parcel_at m (k + 8)
      → decode_wide false n p x y z w ≡ decode_of (text_at m k)
  wide_decoded h n x y z w en ex ey ez ew =
      rw (en, ex, ey ∙ at 4 (k + 2 + 2) (omega arith), ez ∙ at 6 (k + 2 + 2 + 2) (omega arith), ew ∙ at 8 (k + 2 + 2 + 2 + 2) (omega arith))
      (subst (λ j. decode_wide false (after_of (form_of j)) j (parcel_at m (k + 2)) (parcel_at m (k + 2 + 2)) (parcel_at m (k + 2 + 2 + 2)) (parcel_at m (k + 2 + 2 + 2 + 2)) ≡ decode_of (text_at m k)) (sym ep)
      (sym (bare (parcel_at m k) (parcels_from m (k + 2) (following (parcel_at m k))) plain ∙ wide_bare (parcel_at m k) (parcels_from m (k + 2) (following (parcel_at m k))) high ∙ called)))
    where
      at : (i j : ℕ) → k + i ≡ j → parcel_at m (k + i) ≡ parcel_at m j
      at i j e = ap (parcel_at m) e

      high : 0x8000 ≤ parcel_at m k
      high = rw (← ep) h

      called : decode_wide false (length (parcels_from m (k + 2) (following (parcel_at m k)))) (parcel_at m k) (get_or (parcels_from m (k + 2) (following (parcel_at m k))) 0 0) (get_or (parcels_from m (k + 2) (following (parcel_at m k))) 1 0) (get_or (parcels_from m (k + 2) (following (parcel_at m k))) 2 0) (get_or (parcels_from m (k + 2) (following (parcel_at m k))) 3 0)
          ≡ decode_wide false (after_of (form_of (parcel_at m k))) (parcel_at m k) (parcel_at m (k + 2)) (parcel_at m (k + 2 + 2)) (parcel_at m (k + 2 + 2 + 2)) (parcel_at m (k + 2 + 2 + 2 + 2))
      called = rw (le-ltb (parcel_at m k) 0x8000 high) (wide_cut m (parcel_at m k) (k + 2) (ltb (parcel_at m k) 0xC000) refl)

  -- ---- and the plan for it

  pub short_planned : (x : Plan) → p < 0x8000 → x ≡ plan_of (decode_short p) → x ≡ plan_of (decode_of (text_at m k))
  short_planned x h g = g ∙ ap plan_of (short_decoded h)

  pub wide_planned : (x : Plan) → 0x8000 ≤ p → (c d e f : ℕ) → c ≡ parcel_at m (k + 2) → d ≡ parcel_at m (k + 4) → e ≡ parcel_at m (k + 6) → f ≡ parcel_at m (k + 8)
      → x ≡ plan_of (decode_wide false (after_of (form_of p)) p c d e f) → x ≡ plan_of (decode_of (text_at m k))
  wide_planned x h c d e f ec ed ee ef g = g ∙ ap plan_of (wide_decoded h (after_of (form_of p)) c d e f refl ec ed ee ef)
