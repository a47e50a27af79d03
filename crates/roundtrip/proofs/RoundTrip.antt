-- The decoder and the encoder are each other's inverse, and hold to the length.
-- Assumes nothing.
use Prim.Native.Nat.{ℕ, ◌-◌, ◌/◌, ◌%◌, ◌<◌, ◌≤◌}
use mathlib.Core.Path.{◌≡◌, refl, sym, ap, subst, ◌∙◌}
use mathlib.Core.Bool.{true, false, cond, ◌&&◌}
use mathlib.Core.List.{List, ◌++◌}
use native.Mathlib.Omega.{arith}
use borrow.Author.Tests.{ltb-true, ltb-false, eqb-true, eqb-false, lt-ltb, le-ltb, eq-eqb, ne_eqb}
use lib.ListN.{length, get_or, take, length-take, get_or-eq_default}
use lib.Seq.{get_or-take}
use lib.Dec.{ltb, eqb}
use Rattle.word.proofs.CaseLaws.{by_test}
use Rattle.isa.specs.declared.Text.{Text}
use Rattle.isa.specs.declared.ShortInstruction.{ShortInstruction}
use Rattle.isa.specs.declared.ShortEntry.{ShortEntry}
use Rattle.isa.specs.declared.ShortEntry.TheVariants as entry
use Rattle.isa.specs.declared.Instruction.{Instruction}
use Rattle.isa.specs.declared.Instruction.TheVariants as instruction
use Rattle.isa.proofs.AnswerLaws.{same_instruction}
use Rattle.isa.specs.declared.Undecoded.TheVariants.{Illegal, Truncated}
use Rattle.isa.specs.Lengths.{wide_length, length_of}
use Rattle.isa.specs.Answers.{with_length}
use Rattle.isa.specs.Tables.{short_of}
use Rattle.isa.specs.Decode.{short_entry, short_instruction, short_answer, decode_short, decode_wide, decode_prefixed, decode_bare, decode_of, cpu_prefix, text_of}
use Rattle.isa.specs.Encodings.{short_listed}
use Rattle.isa.specs.Encode.{text1, text3, text5, with_prefix, short_parcel, carries, encode_short, encode_any, encode_of}
use Rattle.isa.proofs.LengthLaws.{wide_positive}
use Rattle.isa.proofs.Carried.{own_length}
use Rattle.roundtrip.proofs.ShortLaws as short
use Rattle.roundtrip.specs.Unused.{unused_zero, parcels_of, first_parcels}
use Rattle.roundtrip.specs.RoundTrip.{EncodeDecode, DecodeEncode, Disagreeing}
use Rattle.roundtrip.proofs.WideLaws.{given, dyadic_decodes, monadic_decodes}
use Rattle.roundtrip.proofs.WideBackLaws.{Long, three, five, wide_back}
use Rattle.std.specs.Prelude.{Some, None, Ok, Err}

-- ---- one parcel

-- a one-parcel text that decodes is no prefix and no beginning of a longer one, so it decodes whatever follows
short_first : (p : ℕ) (j : Instruction) → decode_of (text1 p) ≡ with_length j → (p < 0x8000) × (decode_short p ≡ with_length j) × (p ≡ cpu_prefix → ⊥)
unfolding decode_of decode_prefixed decode_bare decode_wide
short_first p j e =
    by_test (eqb p cpu_prefix)
    (λ t. let q : Err Truncated ≡ with_length j = simp t at e in let z : ◌≡◌ {A = ℕ} 0 1 = cc in absurd (omega arith))
    (λ t. by_test (ltb p 0x8000)
    (λ s. (ltb-true p 0x8000 s, simp (t, s) at e, eqb-false p cpu_prefix t))
    (λ s. by_test (ltb p 0xC000)
    (λ u. let q : Err Truncated ≡ with_length j = simp (t, s, u) at e in let z : ◌≡◌ {A = ℕ} 0 1 = cc in absurd (omega arith))
    (λ u. let q : Err Truncated ≡ with_length j = simp (t, s, u) at e in let z : ◌≡◌ {A = ℕ} 0 1 = cc in absurd (omega arith))))

pub short_text : (n p a b c d e : ℕ) → 1 ≤ n → p < 0x8000 → (p ≡ cpu_prefix → ⊥)
    → decode_of (record { count = n; p0 = p; p1 = a; p2 = b; p3 = c; p4 = d; p5 = e }) ≡ decode_short p
unfolding decode_of decode_bare
short_text n p a b c d e h l k = simp (le-ltb n 1 h, ne_eqb p cpu_prefix k, lt-ltb p 0x8000 l)

short_decodes : (i : ShortInstruction) (t : Text) (rest : List ℕ) → encode_short i ≡ Some t
    → decode_of (text_of (parcels_of t ++ rest)) ≡ with_length (instruction.Short i)
unfolding encode_short
short_decodes i t rest e =
    let l = short_listed i.row in
    let p = short_parcel l i.source i.destination in
    let g = given (carries l.source i.source && carries l.destination i.destination) (text1 p) t e in
    let j = instruction.Short i in
    let f = short_first p j (subst (λ (u : Text). decode_of u ≡ with_length j) (sym g.text) (short.encode_decode i t e)) in
    subst (λ (u : Text). decode_of (text_of (parcels_of u ++ rest)) ≡ with_length j) g.text
    (short_text _ p _ _ _ _ _ (omega arith) f.0 f.2 ∙ f.1)

-- ---- what the encoder gives decodes to the same instruction, whatever parcels follow

any_decodes : (i : Instruction) (t : Text) (rest : List ℕ) → encode_any i ≡ Some t → decode_of (text_of (parcels_of t ++ rest)) ≡ with_length i
any_decodes (instruction.Short i) t rest e = short_decodes i t rest e
any_decodes (instruction.Dyadic i) t rest e = dyadic_decodes i t rest e
any_decodes (instruction.Monadic i) t rest e = monadic_decodes i t rest e

pub encode_decode : EncodeDecode
unfolding encode_of
encode_decode i n t rest e =
    by_test (eqb n (length_of i))
    (λ b. any_decodes i t rest (simp b at e) ∙ ap (λ (k : ℕ). Ok (i, k)) (sym (eqb-true n (length_of i) b)))
    (λ b. let q : None ≡ Some t = simp b at e in let z : ◌≡◌ {A = ℕ} 0 1 = cc in absurd (omega arith))

-- ---- the length

pub disagreeing : Disagreeing
unfolding encode_of
disagreeing i n h = simp (ne_eqb n (length_of i) h)

positive : (i : Instruction) → 1 ≤ length_of i
positive (instruction.Short i) = omega arith
positive (instruction.Dyadic i) = omega (arith, wide_positive i.wide (wide_length i.wide) refl)
positive (instruction.Monadic i) = omega arith

-- ---- parcels that decode to an instruction, with unused bits zero, encode to themselves at their length

pub record Same (t : Text) (j : Instruction) : Type 0 where
  pub enough : length_of j ≤ t.count
  pub parcels : encode_of j (length_of j) ≡ Some (first_parcels (length_of j) t)

at_length : (j : Instruction) → encode_of j (length_of j) ≡ encode_any j
unfolding encode_of
at_length j = simp (eq-eqb (length_of j) (length_of j) refl)

same : (t : Text) (j : Instruction) (n : ℕ) (u : Text) → length_of j ≡ n → n ≤ t.count → encode_any j ≡ Some u → u ≡ first_parcels n t → Same t j
same t j n u e h p q =
    record {
      enough = omega (arith, e);
      parcels = at_length j ∙ p ∙ ap Some (q ∙ ap (λ (k : ℕ). first_parcels k t) (sym e));
    }

long_bare : (t : Text) (j : Instruction) → 1 ≤ t.count → Long false (t.count - 1) t.p0 t.p1 t.p2 t.p3 t.p4 j → Same t j
long_bare t j h (three m p e) = same t j 3 (text3 t.p0 t.p1 t.p2) e (omega arith) p refl
long_bare t j h (five m p e) = same t j 5 (text5 t.p0 t.p1 t.p2 t.p3 t.p4) e (omega arith) p refl

long_prefixed : (t : Text) (j : Instruction) → t.p0 ≡ cpu_prefix → 2 ≤ t.count → Long true (t.count - 2) t.p1 t.p2 t.p3 t.p4 t.p5 j → Same t j
long_prefixed t j z h (three m p e) =
    same t j 4 (with_prefix true (text3 t.p1 t.p2 t.p3)) e (omega arith) p (rw z refl)
long_prefixed t j z h (five m p e) =
    same t j 6 (with_prefix true (text5 t.p1 t.p2 t.p3 t.p4 t.p5)) e (omega arith) p (rw z refl)

-- the parcels of a text are of sixteen bits
pub record Sixteen (t : Text) : Type 0 where
  pub b0 : t.p0 < 65536
  pub b1 : t.p1 < 65536
  pub b2 : t.p2 < 65536
  pub b3 : t.p3 < 65536
  pub b4 : t.p4 < 65536
  pub b5 : t.p5 < 65536

-- a one-parcel answer is a one-parcel instruction
short_answer_law : (e : ShortEntry) (p : ℕ) (j : Instruction) → ((i : ShortInstruction) → with_length (instruction.Short i) ≡ with_length j → Same (text1 p) j)
    → short_answer e p ≡ with_length j → Same (text1 p) j
short_answer_law (entry.Row r s d) p j k e = k (short_instruction r s d p) e
short_answer_law f p j k e = let z : ◌≡◌ {A = ℕ} 0 1 = cc in absurd (omega arith)

short_same : (p : ℕ) (j : Instruction) → p < 0x8000 → decode_short p ≡ with_length j → Same (text1 p) j
unfolding decode_short
short_same p j h e = short_answer_law (short_entry (short_of (p / 1024 % 32)) p) p j (λ i q. back i q) e
  where
    back : (i : ShortInstruction) → with_length (instruction.Short i) ≡ with_length j → Same (text1 p) j
    back i q =
        let r : instruction.Short i ≡ j = same_instruction (instruction.Short i) j q in
        let d = subst (λ (k : Instruction). decode_short p ≡ with_length k) (sym r) e in
        subst (Same (text1 p)) r (same (text1 p) (instruction.Short i) 1 (text1 p) refl (omega arith) (short.decode_encode p i h d) refl)

-- only the first parcel of a one-parcel instruction counts
widened : (t : Text) (j : Instruction) → 1 ≤ t.count → Same (text1 t.p0) j → Same t j
widened t j h s =
    let e : length_of j ≡ 1 = omega (arith, s.enough, positive j) in
    record {
      enough = omega (arith, e);
      parcels = s.parcels ∙ ap (λ (k : ℕ). Some (first_parcels k (text1 t.p0))) e ∙ ap (λ (k : ℕ). Some (first_parcels k t)) (sym e);
    }

pub text_encode : (t : Text) (j : Instruction) → Sixteen t → unused_zero t ≡ true → decode_of t ≡ with_length j → Same t j
unfolding decode_of decode_prefixed decode_bare
text_encode t j b u e =
    by_test (ltb t.count 1)
    (λ n. let q : Err Truncated ≡ with_length j = simp n at e in let z : ◌≡◌ {A = ℕ} 0 1 = cc in absurd (omega arith))
    (λ n. by_test (eqb t.p0 cpu_prefix)
    (λ p. by_test (ltb t.count 2)
    (λ m. let q : Err Truncated ≡ with_length j = simp (n, p, m) at e in let z : ◌≡◌ {A = ℕ} 0 1 = cc in absurd (omega arith))
    (λ m. by_test (ltb t.p1 0x8000)
    (λ k. let q : Err Illegal ≡ with_length j = simp (n, p, m, k) at e in let z : ◌≡◌ {A = ℕ} 0 1 = cc in absurd (omega arith))
    (λ k.
    long_prefixed t j (eqb-true t.p0 cpu_prefix p) (ltb-false t.count 2 m)
    (wide_back true (t.count - 2) t.p1 t.p2 t.p3 t.p4 t.p5 j b.b2 b.b3 b.b4 b.b5
    (ltb-false t.p1 0x8000 k) b.b1 (λ _. simp p at u) (simp (n, p, m, k) at e)))))
    (λ p. by_test (ltb t.p0 0x8000)
    (λ k. bare_short n p k)
    (λ k.
    long_bare t j (ltb-false t.count 1 n)
    (wide_back false (t.count - 1) t.p0 t.p1 t.p2 t.p3 t.p4 j b.b1 b.b2 b.b3 b.b4
    (ltb-false t.p0 0x8000 k) b.b0 (λ z. let y : ◌≡◌ {A = ℕ} 0 1 = cc in absurd (omega arith)) (simp (n, p, k) at e)))))
  where
    bare_short : ltb t.count 1 ≡ false → eqb t.p0 cpu_prefix ≡ false → ltb t.p0 0x8000 ≡ true → Same t j
    bare_short n p k = widened t j (ltb-false t.count 1 n) (short_same t.p0 j (ltb-true t.p0 0x8000 k) (simp (n, p, k) at e))

-- ---- the same of a list of parcels

take_at : (n k : ℕ) (ps : List ℕ) → cond (ltb k n) (get_or ps k 0) 0 ≡ get_or (take n ps) k 0
take_at n k ps =
    by_test (ltb k n)
    (λ t. simp t (sym (get_or-take n ps k 0 (ltb-true k n t))))
    (λ t. simp t (sym (get_or-eq_default (take n ps) 0 (omega (arith, ltb-false k n t, length-take n ps)))))

first_take : (n : ℕ) (ps : List ℕ) → 1 ≤ n → n ≤ length ps → first_parcels n (text_of ps) ≡ text_of (take n ps)
first_take n ps h l =
    let c : n ≡ length (take n ps) = omega (arith, length-take n ps) in
    let a : get_or ps 0 0 ≡ get_or (take n ps) 0 0 = sym (get_or-take n ps 0 0 h) in
    cc (take_at n 1 ps, take_at n 2 ps, take_at n 3 ps, take_at n 4 ps, take_at n 5 ps)

pub decode_encode : DecodeEncode
decode_encode ps j n b u e =
    let l = own_length (text_of ps) j n e in
    let s = text_encode (text_of ps) j (record { b0 = b 0; b1 = b 1; b2 = b 2; b3 = b 3; b4 = b 4; b5 = b 5 }) u (e ∙ ap (λ (k : ℕ). Ok (j, k)) l) in
    subst (λ (k : ℕ). (k ≤ length ps) × (encode_of j k ≡ Some (text_of (take k ps)))) (sym l)
    (s.enough, s.parcels ∙ ap Some (first_take (length_of j) ps (positive j) s.enough))
