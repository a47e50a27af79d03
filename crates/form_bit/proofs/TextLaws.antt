-- A whole text of three or five parcels, with a prefix or without, comes to the decoder of its form with the parcels after its first.
-- Assumes nothing.
use Prim.Native.Nat.{ℕ, ◌+◌, ◌*◌, ◌<◌, ◌≤◌}
use mathlib.Core.Path.{◌≡◌}
use mathlib.Core.Bool.{Bool, true, false}
use native.Mathlib.Omega.{arith}
use borrow.Author.Tests.{lt-ltb, le-ltb, eqb-true}
use Rattle.isa.specs.declared.Wide.TheVariants.{Five}
use Rattle.isa.specs.declared.Text.{Text}
use Rattle.isa.specs.Lengths.{following}
use Rattle.isa.specs.Decode.{joined, decode_three, decode_dyadic, decode_of, cpu_prefix}
use Rattle.isa.specs.Carried.{called_for}
use Rattle.roundtrip.proofs.LengthLaws.{bare_three, bare_five, prefixed_three, prefixed_five}
use Rattle.form_bit.specs.FormBit.{is_prefixed, form_text, Paired}
use Rattle.form_bit.proofs.DyadicLaws.{SameBits}

-- the form's two bits stand above opcode and modes
pub same_bits : (f q : ℕ) → q < 0x4000 → SameBits (f * 0x4000 + q) q
same_bits f q h = (omega arith, omega arith, omega arith)

pub following_three : (p : ℕ) → 0x8000 ≤ p → p < 0xC000 → following p ≡ 2
following_three p l h = simp (le-ltb p 0x8000 l, lt-ltb p 0xC000 h)

pub following_five : (p : ℕ) → 0xC000 ≤ p → following p ≡ 4
following_five p l = simp (le-ltb p 0x8000 (omega arith), le-ltb p 0xC000 l)

module _ (n a b c d e f : ℕ) where
  abbrev text : Text
  text = record { count = n; p0 = a; p1 = b; p2 = c; p3 = d; p4 = e; p5 = f }

  three : (pre : Bool) (p : ℕ) → is_prefixed text ≡ pre → (form_text text).p0 ≡ p → 0x8000 ≤ p → p < 0xC000 → called_for text ≤ n
      → decode_of text ≡ decode_three pre p (form_text text).p1 (form_text text).p2
  three true p g h l k w =
      let x : a ≡ cpu_prefix = eqb-true a cpu_prefix g in
      let y : b ≡ p = rw g at h in
      let z : 2 + following b ≤ n = rw g at w in
      let m : 4 ≤ n = omega (arith, z, following_three b (omega arith) (omega arith)) in
      rw g (rw (x, y) (prefixed_three n p c d e f 0 m l k))
  three false p g h l k w =
      let y : a ≡ p = rw g at h in
      let z : 1 + following a ≤ n = rw g at w in
      let m : 3 ≤ n = omega (arith, z, following_three a (omega arith) (omega arith)) in
      rw g (rw y (bare_three n p b c d e f m l k))

  five : (pre : Bool) (p : ℕ) → is_prefixed text ≡ pre → (form_text text).p0 ≡ p → 0xC000 ≤ p → called_for text ≤ n
      → decode_of text ≡ decode_dyadic Five pre p (joined (form_text text).p1 (form_text text).p2) (joined (form_text text).p3 (form_text text).p4)
  five true p g h l w =
      let x : a ≡ cpu_prefix = eqb-true a cpu_prefix g in
      let y : b ≡ p = rw g at h in
      let z : 2 + following b ≤ n = rw g at w in
      let m : 6 ≤ n = omega (arith, z, following_five b (omega arith)) in
      rw g (rw (x, y) (prefixed_five n p c d e f 0 m l))
  five false p g h l w =
      let y : a ≡ p = rw g at h in
      let z : 1 + following a ≤ n = rw g at w in
      let m : 5 ≤ n = omega (arith, z, following_five a (omega arith)) in
      rw g (rw y (bare_five n p b c d e f m l))

-- whole texts that are paired
module _ (pre : Bool) (q : ℕ) (t u : Text) (h : Paired pre q t u) where
  pub three_answer : decode_of t ≡ decode_three pre (0x8000 + q) (form_text t).p1 (form_text t).p2
  three_answer =
      three t.count t.p0 t.p1 t.p2 t.p3 t.p4 t.p5 pre (0x8000 + q) h.prefix_three h.first_three
      (omega arith) (omega (arith, h.below)) h.whole_three

  pub five_answer : decode_of u ≡ decode_dyadic Five pre (0xC000 + q) (joined (form_text u).p1 (form_text u).p2) (joined (form_text u).p3 (form_text u).p4)
  five_answer =
      five u.count u.p0 u.p1 u.p2 u.p3 u.p4 u.p5 pre (0xC000 + q) h.prefix_five h.first_five
      (omega arith) h.whole_five
