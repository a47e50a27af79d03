-- Accesses whose walk neither faults nor sets a bit touch their place, and that is all; and their places.
-- Assumes nothing.
use Prim.Native.Nat.{ℕ, ◌+◌, ◌*◌, ◌/◌, ◌%◌, ◌^◌, ◌<◌}
use mathlib.Core.Path.{◌≡◌, refl, sym, ap, ◌∙◌}
use mathlib.Core.Bool.{Bool, true, false, cond}
use native.Mathlib.Omega.{arith}
use Rattle.word.specs.declared.Width.{Width}
use Rattle.word.specs.Widths.{bytes_of}
use Rattle.memory.specs.Bytes.{Memory, load, store_answer, store_memory}
use Rattle.mmu.specs.declared.AccessKind.{AccessKind}
use Rattle.mmu.specs.declared.AccessKind.TheVariants.{Fetch, Read, Write}
use Rattle.mmu.specs.declared.Regime.{Regime}
use Rattle.mmu.specs.declared.Walk.{Walk}
use Rattle.mmu.specs.declared.Walk.TheVariants.{Fault, Direct, Paged}
use Rattle.mmu.specs.Walk.{walk, route, fresh, recorded}
use Rattle.mmu.proofs.BesideLaws.{walk_beside, direct_beside}
use Rattle.access_spec.specs.Access.{fetch, read, write, response, touch, follow, access}
use Rattle.access.specs.Followed.{regime_for, fits_width}
use Rattle.access.specs.EffectFree.{nowhere, settled_of, effect_free_place, EffectFree, direct, paged}
use Rattle.access.proofs.AccessLaws.{fits_is, word_is, text_is, even}

module _ (g : Regime) (m : Memory) (pa : ℕ) where
  pub fetch_effect_free : (a : ℕ) → a < 2 ^ 32 → EffectFree g Fetch (a / 2 * 2) m pa → access (fetch g a) m ≡ response (load 2 m pa) m
  unfolding access follow touch recorded
  fetch_effect_free a h (direct e) = rw (even g a, text_is g a h, e) refl
  fetch_effect_free a h (paged p e f) = rw (even g a, text_is g a h, e, f) refl

  pub read_effect_free : (w : Width) (a : ℕ) → a < 2 ^ 32 → fits_width w a ≡ true → EffectFree g Read a m pa → access (read g w a) m ≡ response (load (bytes_of w) m pa) m
  unfolding access follow touch recorded
  read_effect_free w a h t (direct e) = rw (fits_is w a h, t, word_is a h, e) refl
  read_effect_free w a h t (paged p e f) = rw (fits_is w a h, t, word_is a h, e, f) refl

  pub write_effect_free : (w : Width) (a v : ℕ) → a < 2 ^ 32 → fits_width w a ≡ true → EffectFree g Write a m pa
      → access (write g w a v) m ≡ response (store_answer (bytes_of w) m pa) (store_memory (bytes_of w) m pa v)
  unfolding access follow touch recorded
  write_effect_free w a v h t (direct e) = rw (fits_is w a h, t, word_is a h, e) refl
  write_effect_free w a v h t (paged p e f) = rw (fits_is w a h, t, word_is a h, e, f) refl

-- the bytes of a page beside one another
pub effect_free_beside : (g : Regime) (k : AccessKind) (a i : ℕ) (m : Memory) (pa : ℕ) → a % 0x1000 + i < 0x1000 → EffectFree g k a m pa → EffectFree g k (a + i) m (pa + i)
unfolding route
effect_free_beside g k a i m pa h (direct e) = direct (go g.translated e)
  where
    go : (t : Bool) → cond t (walk g.user g.stb k a m) (Direct a) ≡ Direct pa → cond t (walk g.user g.stb k (a + i) m) (Direct (a + i)) ≡ Direct (pa + i)
    go true q = direct_beside g.user g.stb k a i h m pa q
    go false q = let f : a ≡ pa = cc in ap (λ (x : ℕ). Direct (x + i)) f
effect_free_beside g k a i m pa h (paged p e f) = paged p (go g.translated e) f
  where
    go : (t : Bool) → cond t (walk g.user g.stb k a m) (Direct a) ≡ Paged p pa → cond t (walk g.user g.stb k (a + i) m) (Direct (a + i)) ≡ Paged p (pa + i)
    go true q = walk_beside g.user g.stb k a i h m p pa q
    go false q = let z : ◌≡◌ {A = ℕ} 0 1 = cc in absurd (omega arith)

-- ---- places

-- a place is an address: the access goes there
pub effect_free_place_law : (g : Regime) (k : AccessKind) (a : ℕ) (m : Memory) → effect_free_place g k a m < 2 ^ 32 → EffectFree g k a m (effect_free_place g k a m)
unfolding effect_free_place
effect_free_place_law g k a m h = go (route g k a m) refl h
  where
    paged_at : (p pa : ℕ) → route g k a m ≡ Paged p pa → (f : Bool) → fresh k p m ≡ f → cond f nowhere pa < 2 ^ 32 → EffectFree g k a m (cond f nowhere pa)
    paged_at p pa e true ef l = absurd (omega (arith, l))
    paged_at p pa e false ef l = paged p e ef

    go : (w : Walk) → route g k a m ≡ w → settled_of k m w < 2 ^ 32 → EffectFree g k a m (settled_of k m w)
    go (Fault c) e l = absurd (omega (arith, l))
    go (Direct pa) e l = direct e
    go (Paged p pa) e l = paged_at p pa e (fresh k p m) refl l

-- the same of a number that is the place
pub place_effect_free : (g : Regime) (k : AccessKind) (a : ℕ) (m : Memory) (x : ℕ) → x ≡ effect_free_place g k a m → x < 2 ^ 32 → EffectFree g k a m x
place_effect_free g k a m x e h = rw e (effect_free_place_law g k a m (rw (← e) h))

module _ (k : AccessKind) (m : Memory) (w : Walk) (p pa : ℕ) (e : w ≡ Paged p pa) (f : Bool) (ef : f ≡ fresh k p m) where
  pub settled_fresh : f ≡ true → nowhere ≡ settled_of k m w
  settled_fresh h = rw (e, sym ef ∙ h) refl

  pub settled_old : f ≡ false → pa ≡ settled_of k m w
  settled_old h = rw (e, sym ef ∙ h) refl

module _ (stb : ℕ) (user t : Bool) (k : AccessKind) (a : ℕ) (m : Memory) where
  pub place_physical : t ≡ false → a ≡ effect_free_place (regime_for stb user t) k a m
  unfolding effect_free_place route
  place_physical h = rw h refl

  pub place_walked : t ≡ true → (w : Walk) → w ≡ walk user stb k a m → (x : ℕ) → x ≡ settled_of k m w → x ≡ effect_free_place (regime_for stb user t) k a m
  unfolding effect_free_place route
  place_walked h w e x f = rw h (f ∙ ap (settled_of k m) e)
