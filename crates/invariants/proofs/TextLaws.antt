-- The text of an instruction: up to six accesses, and as many parcels of sixteen bits as are called for.
-- Assumes nothing.
use Prim.Native.Nat.{ℕ, zero, suc, ◌^◌, ◌<◌, ◌≤◌}
use mathlib.Core.Path.{◌≡◌, refl}
use mathlib.Core.Bool.{Bool, true, false, cond}
use mathlib.Core.List.{List, [], ◌∷◌}
use native.Mathlib.Nat.{mod-lt}
use native.Mathlib.Omega.{arith}
use lib.Dec.{eqb, ltb, lit<}
use lib.ListN.{length, get_or}
use lib.Pow.{pow_pos}
use Rattle.word.specs.Sums.{plus_of}
use Rattle.isa.specs.declared.Text.{Text}
use Rattle.isa.specs.declared.Wide.{Wide}
use Rattle.isa.specs.declared.Wide.TheVariants.{Three, Five}
use Rattle.isa.specs.Lengths.{form_of, after_of, following}
use Rattle.isa.specs.Decode.{cpu_prefix, text_of}
use Rattle.isa.specs.Carried.{called_for}
use Rattle.memory.specs.Answers.{Answer, good, raised}
use Rattle.access_spec.specs.Access.{fetch}
use Rattle.machine.specs.Registers.{pc}
use Rattle.machine.specs.Status.{Cpu, reg, regime}
use Rattle.datapath.specs.Parts.{parcel_request, parcel_replied}
use Rattle.datapath.specs.Text.{fetch_parcel, fetch_parcels, fetch_after, fetch_prefixed, fetch_text}
use Rattle.invariants.proofs.RuleLaws.{Rules, AnswersAllowed, ResultsAllowed, Part, bind, more, gives, either}

-- ---- parcels: sixteen bits

abbrev pub Parcels : List ℕ → Type 0
Parcels [] = Unit
Parcels (p ∷ ps) = (p < 2 ^ 16) × Parcels ps

pub record TextFits (t : Text) : Type 0 where
  pub called : t.count ≡ called_for t
  pub p0 : t.p0 < 2 ^ 16
  pub p1 : t.p1 < 2 ^ 16
  pub p2 : t.p2 < 2 ^ 16
  pub p3 : t.p3 < 2 ^ 16
  pub p4 : t.p4 < 2 ^ 16
  pub p5 : t.p5 < 2 ^ 16

parcel_at_law : (ps : List ℕ) (i : ℕ) → Parcels ps → get_or ps i 0 < 2 ^ 16
parcel_at_law [] i h = lit< tt
parcel_at_law (p ∷ ps) zero h = h.0
parcel_at_law (p ∷ ps) (suc i) h = parcel_at_law ps i h.1

text_fits : (ps : List ℕ) → Parcels ps → length ps ≡ called_for (text_of ps) → TextFits (text_of ps)
text_fits ps h e =
    record {
      called = e;
      p0 = parcel_at_law ps 0 h;
      p1 = parcel_at_law ps 1 h;
      p2 = parcel_at_law ps 2 h;
      p3 = parcel_at_law ps 3 h;
      p4 = parcel_at_law ps 4 h;
      p5 = parcel_at_law ps 5 h;
    }

module _ (k : Rules) where
  fetch_parcel_law : (c : Cpu) (a : ℕ) → k.Holds c → Part k (λ p. p < 2 ^ 16) 1 (fetch_parcel c a)
  unfolding fetch_parcel parcel_request
  fetch_parcel_law c a h = record { within = (k.asks c (fetch (regime c.bank) a) h refl, go) }
    where
      go : (r : Answer) → AnswersAllowed k (fetch (regime c.bank) a) r → ResultsAllowed k (λ p. p < 2 ^ 16) (parcel_replied c r)
      go (good x) d = mod-lt x (pow_pos 16)
      go (raised e) d = (d, h)

  fetch_parcels_law : (c : Cpu) (a n : ℕ) → k.Holds c → Part k (λ ps. Parcels ps × (length ps ≡ n)) n (fetch_parcels c a n)
  unfolding fetch_parcels
  fetch_parcels_law c a zero h = gives (tt, refl)
  fetch_parcels_law c a (suc n) h = more (suc n) (omega arith)
      (bind (fetch_parcel_law c a h) λ p g. bind (fetch_parcels_law c (plus_of a 2) n h) λ ps gs. gives {n = 0} ((g, gs.0), omega (arith, gs.1)))

  fetch_following : (c : Cpu) (a p : ℕ) → k.Holds c → Part k (λ ps. Parcels ps × (length ps ≡ following p)) 4 (fetch_parcels c a (following p))
  fetch_following c a p h = more 4 (go (ltb p 0x8000) (form_of p)) (fetch_parcels_law c a (following p) h)
    where
      go : (x : Bool) (w : Wide) → cond x 0 (after_of w) ≤ 4
      go true w = omega arith
      go false Three = omega arith
      go false Five = omega arith

  pub fetch_text_law : (c : Cpu) → k.Holds c → Part k TextFits 6 (fetch_text c)
  unfolding fetch_text fetch_prefixed fetch_after
  fetch_text_law c h =
      bind (fetch_parcel_law c (reg c pc) h) λ p g.
      either (eqb p cpu_prefix)
      (λ _. bind (fetch_parcel_law c (plus_of (reg c pc) 2) h) λ o m.
      bind (fetch_following c (plus_of (reg c pc) 4) o h) λ ps gs.
      gives {n = 0} (text_fits (cpu_prefix ∷ o ∷ ps) (lit< tt, (m, gs.0)) (omega (arith, gs.1))))
      (λ e. more 5 (omega arith) (bind (fetch_following c (plus_of (reg c pc) 2) p h) λ ps gs.
      gives {n = 0} (text_fits (p ∷ ps) (g, gs.0) (rw e (omega (arith, gs.1))))))
