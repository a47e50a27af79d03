-- Which decoder a text comes to, by its first parcel.
-- Assumes nothing.
use Prim.Native.Nat.{ℕ, ◌-◌, ◌≤◌, ◌<◌, ◌/◌, ◌%◌}
use mathlib.Core.Path.{◌≡◌}
use mathlib.Core.Bool.{true, false}
use native.Mathlib.Omega.{arith}
use borrow.Author.Tests.{lt-ltb, le-ltb, eq-eqb, ne_eqb}
use Rattle.isa.specs.declared.Text.{Text}
use Rattle.isa.specs.declared.Wide.TheVariants.{Three, Five}
use Rattle.isa.specs.Decode.{decode_of, decode_prefixed, decode_bare, decode_wide, decode_three, decode_dyadic, decode_monadic, joined, cpu_prefix}

module _ (n p a b c d e : ℕ) where
  abbrev pub bare : Text
  bare = record { count = n; p0 = p; p1 = a; p2 = b; p3 = c; p4 = d; p5 = e }

  abbrev pub prefixed : Text
  prefixed = record { count = n; p0 = cpu_prefix; p1 = p; p2 = a; p3 = b; p4 = c; p5 = d }

  pub bare_three : 3 ≤ n → 0x8000 ≤ p → p < 0xC000 → decode_of bare ≡ decode_three false p a b
  unfolding decode_of decode_bare decode_wide
  bare_three h l u =
      simp (le-ltb n 1 (omega arith), ne_eqb p cpu_prefix (λ z. absurd (omega arith)), le-ltb p 0x8000 l, lt-ltb p 0xC000 u, le-ltb (n - 1) 2 (omega arith))

  pub bare_five : 5 ≤ n → 0xC000 ≤ p → decode_of bare ≡ decode_dyadic Five false p (joined a b) (joined c d)
  unfolding decode_of decode_bare decode_wide
  bare_five h l =
      simp (le-ltb n 1 (omega arith), ne_eqb p cpu_prefix (λ z. absurd (omega arith)), le-ltb p 0x8000 (omega arith), le-ltb p 0xC000 l, le-ltb (n - 1) 4 (omega arith))

  pub prefixed_three : 4 ≤ n → 0x8000 ≤ p → p < 0xC000 → decode_of prefixed ≡ decode_three true p a b
  unfolding decode_of decode_prefixed decode_wide
  prefixed_three h l u =
      simp (le-ltb n 1 (omega arith), le-ltb n 2 (omega arith), le-ltb p 0x8000 l, lt-ltb p 0xC000 u, le-ltb (n - 2) 2 (omega arith))

  pub prefixed_five : 6 ≤ n → 0xC000 ≤ p → decode_of prefixed ≡ decode_dyadic Five true p (joined a b) (joined c d)
  unfolding decode_of decode_prefixed decode_wide
  prefixed_five h l =
      simp (le-ltb n 1 (omega arith), le-ltb n 2 (omega arith), le-ltb p 0x8000 (omega arith), le-ltb p 0xC000 l, le-ltb (n - 2) 4 (omega arith))

module _ (pre : mathlib.Core.Bool.Bool) (p a b : ℕ) where
  pub three_dyadic : (p / 256 % 64 ≡ 0 → ⊥) → decode_three pre p a b ≡ decode_dyadic Three pre p a b
  unfolding decode_three
  three_dyadic h = simp (ne_eqb _ _ h)

  pub three_monadic : p / 256 % 64 ≡ 0 → decode_three pre p a b ≡ decode_monadic pre p (joined a b)
  unfolding decode_three
  three_monadic h = simp (eq-eqb _ _ h)
