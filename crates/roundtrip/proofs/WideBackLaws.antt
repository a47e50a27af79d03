-- Long forms that decode to an instruction encode to the same parcels.
-- Assumes nothing.
use Prim.Native.Nat.{ℕ, ◌+◌, ◌/◌, ◌%◌, ◌<◌, ◌≤◌}
use mathlib.Core.Path.{◌≡◌, refl, ◌∙◌}
use mathlib.Core.Bool.{Bool, true, ◌&&◌}
use native.Mathlib.Nat.{mod-eq_of_lt}
use native.Mathlib.Omega.{arith}
use borrow.Author.Tests.{ltb-true, ltb-false, eqb-true, lt-ltb}
use lib.Dec.{ltb, eqb}
use Rattle.word.proofs.CaseLaws.{by_test, and_left, and_right}
use Rattle.isa.specs.declared.Wide.TheVariants.{Three, Five}
use Rattle.isa.specs.declared.Instruction.{Instruction}
use Rattle.isa.specs.declared.Undecoded.TheVariants.{Truncated}
use Rattle.isa.specs.Lengths.{prefix_length, length_of}
use Rattle.isa.specs.Answers.{with_length}
use Rattle.isa.specs.Decode.{decode_wide, decode_three, decode_dyadic, decode_monadic, joined}
use Rattle.isa.specs.Encode.{with_prefix, text3, text5, encode_any}
use Rattle.roundtrip.specs.Unused.{register_clear, fields_clear}
use Rattle.roundtrip.proofs.DyadicLaws as dyadic
use Rattle.roundtrip.proofs.MonadicLaws as monadic
use Rattle.std.specs.Prelude.{Some, Err}

-- an instruction whose encoding is the first parcel and the fields after it
pub data Long (pre : Bool) (n p a b c d : ℕ) (j : Instruction) : Type 0 where
  three : 2 ≤ n → encode_any j ≡ Some (with_prefix pre (text3 p a b)) → length_of j ≡ 3 + prefix_length pre → Long pre n p a b c d j
  five : 4 ≤ n → encode_any j ≡ Some (with_prefix pre (text5 p a b c d)) → length_of j ≡ 5 + prefix_length pre → Long pre n p a b c d j

module _ (pre : Bool) (n p a b c d : ℕ) (j : Instruction) (ha : a < 65536) (hb : b < 65536) (hc : c < 65536) (hd : d < 65536) where
  three_monadic : 2 ≤ n → 0x8000 ≤ p → p < 0xC000 → p / 256 % 64 ≡ 0 → decode_monadic pre p (joined a b) ≡ with_length j → Long pre n p a b c d j
  three_monadic m l u z e =
      let f = monadic.monadic_encodes pre p (joined a b) j e in
      let w = monadic.whole p l u z in
      let ea : joined a b / 65536 ≡ a = omega arith in
      let eb : joined a b % 65536 ≡ b = omega arith in
      three m (f.parcels ∙ rw (w, ea, eb) refl) f.length

  three_dyadic : 2 ≤ n → 0x8000 ≤ p → p < 0xC000 → (pre ≡ true → (register_clear (p / 16 % 16) a && register_clear (p % 16) b) ≡ true)
      → decode_dyadic Three pre p a b ≡ with_length j → Long pre n p a b c d j
  three_dyadic m l u k e =
      let f = dyadic.dyadic_encodes Three pre p a b j ha hb
      (λ t. and_left _ (register_clear (p % 16) b) (k t)) (λ t. and_right (register_clear (p / 16 % 16) a) _ (k t)) e in
      let w = dyadic.whole Three p l u in
      let ea : a % 65536 ≡ a = mod-eq_of_lt {n = a} {m = 65536} ha in
      let eb : b % 65536 ≡ b = mod-eq_of_lt {n = b} {m = 65536} hb in
      three m (f.parcels ∙ rw (w, ea, eb) refl) f.length

  five_dyadic : 4 ≤ n → 0xC000 ≤ p → p < 65536
      → (pre ≡ true → (register_clear (p / 16 % 16) (joined a b) && register_clear (p % 16) (joined c d)) ≡ true)
      → decode_dyadic Five pre p (joined a b) (joined c d) ≡ with_length j → Long pre n p a b c d j
  five_dyadic m l u k e =
      let f = dyadic.dyadic_encodes Five pre p (joined a b) (joined c d) j (omega arith) (omega arith)
      (λ t. and_left _ (register_clear (p % 16) (joined c d)) (k t)) (λ t. and_right (register_clear (p / 16 % 16) (joined a b)) _ (k t)) e in
      let w = dyadic.whole Five p l u in
      let ea : joined a b / 65536 ≡ a = omega arith in
      let eb : joined a b % 65536 ≡ b = omega arith in
      let ec : joined c d / 65536 ≡ c = omega arith in
      let ed : joined c d % 65536 ≡ d = omega arith in
      five m (f.parcels ∙ rw (w, ea, eb, ec, ed) refl) f.length

  three_back : 2 ≤ n → 0x8000 ≤ p → p < 0xC000 → (pre ≡ true → fields_clear p a b c d ≡ true) → decode_three pre p a b ≡ with_length j → Long pre n p a b c d j
  unfolding decode_three
  three_back m l u k e =
      by_test (eqb (p / 256 % 64) 0)
      (λ t. three_monadic m l u (eqb-true _ _ t) (simp t at e))
      (λ t. three_dyadic m l u (λ s. simp (lt-ltb p 0xC000 u, t) at (k s)) (simp t at e))

  pub wide_back : 0x8000 ≤ p → p < 65536 → (pre ≡ true → fields_clear p a b c d ≡ true) → decode_wide pre n p a b c d ≡ with_length j → Long pre n p a b c d j
  unfolding decode_wide
  wide_back l u k e =
      by_test (ltb p 0xC000)
      (λ t. by_test (ltb n 2)
      (λ s. let q : Err Truncated ≡ with_length j = simp (t, s) at e in let z : ◌≡◌ {A = ℕ} 0 1 = cc in absurd (omega arith))
      (λ s. three_back (ltb-false n 2 s) l (ltb-true p 0xC000 t) k (simp (t, s) at e)))
      (λ t. by_test (ltb n 4)
      (λ s. let q : Err Truncated ≡ with_length j = simp (t, s) at e in let z : ◌≡◌ {A = ℕ} 0 1 = cc in absurd (omega arith))
      (λ s. five_dyadic (ltb-false n 4 s) (ltb-false p 0xC000 t) u (λ r. simp t at (k r)) (simp (t, s) at e)))
