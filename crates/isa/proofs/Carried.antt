-- What the decoder's answers carry, by one induction over its definition.
-- Assumes nothing.
use Prim.Native.Nat.{ℕ, suc, ◌+◌, ◌-◌, ◌/◌, ◌%◌, ◌<◌, ◌≤◌}
use mathlib.Core.Path.{◌≡◌, refl, subst}
use mathlib.Core.Bool.{Bool, true, false, cond}
use mathlib.Core.Logic.{inl, inr, ⊎_elim}
use native.Mathlib.Omega.{arith}
use lib.Dec.{ltb, eqb}
use borrow.Author.Tests.{ltb-true, ltb-false}
use Rattle.word.proofs.CaseLaws.{by_test, either}
use Rattle.isa.specs.declared.ShortEntry.{ShortEntry}
use Rattle.isa.specs.declared.ShortEntry.TheVariants as short
use Rattle.isa.specs.declared.Wide.{Wide}
use Rattle.isa.specs.declared.Wide.TheVariants.{Three, Five}
use Rattle.isa.specs.declared.Operand.{Operand}
use Rattle.isa.specs.declared.Rule.TheVariants.{OneRegister}
use Rattle.isa.specs.declared.Entry.TheVariants as place
use Rattle.isa.specs.declared.MonadicRow.{MonadicRow}
use Rattle.isa.specs.declared.MonadicRule.{MonadicRule}
use Rattle.isa.specs.declared.Instruction.{Instruction}
use Rattle.isa.specs.declared.Text.{Text}
use Rattle.isa.specs.declared.Undecoded.TheVariants.{Illegal, Unimplemented}
use Rattle.isa.specs.declared.MonadicMode.{MonadicMode}
use Rattle.isa.specs.Lengths.{short_length, wide_length, prefix_length, form_of, after_of, following, length_of}
use Rattle.isa.specs.Answers.{unimplemented_vector}
use Rattle.isa.specs.Carried.{Carried, CarriedLength, called_for}
use Rattle.isa.specs.Tables.{short_of, dyadic_of, monadic_of, monadic_mode_of, DyadicEntry, MonadicEntry}
use Rattle.isa.specs.Legal.{legal_of, monadic_legal_of}
use Rattle.isa.specs.Decode.{short_entry, short_answer, decode_short, mode_entry, operand_found, dyadic_answer, both_found, decode_dyadic, monadic_found, monadic_answer, decode_monadic, joined, decode_three, decode_wide, cpu_prefix, decode_prefixed, decode_bare, decode_of}
use Rattle.isa.proofs.LengthLaws.{wide_positive}
use Rattle.std.specs.Prelude.{Option, Some, None, Ok, Err}

-- c parcels are there, which is enough in the three parts
module _ (c : ℕ) where
  short_carried : (p : ℕ) → short_length ≤ c → Carried short_length c (decode_short p)
  unfolding decode_short
  short_carried p h = go (short_entry (short_of (p / 1024 % 32)) p)
    where
      go : (e : ShortEntry) → Carried short_length c (short_answer e p)
      go (short.Row r s d) = (refl, refl, h)
      go short.Stack = h
      go short.Niladic = h
      go short.Prefix = h
      go short.Unimplemented = (inl refl, h)
      go short.Trap = (inr refl, h)
      go short.Unlisted = h

  dyadic_carried : (w : Wide) (pre : Bool) (p x y : ℕ) → wide_length w + prefix_length pre ≤ c
      → Carried (wide_length w + prefix_length pre) c (decode_dyadic w pre p x y)
  unfolding decode_dyadic
  dyadic_carried w pre p x y h =
      go (dyadic_of (p / 256 % 64)) (operand_found w (mode_entry pre (p / 16 % 16)) x) (operand_found w (mode_entry pre (p % 16)) y)
    where
      both : (e : DyadicEntry) (s d : Operand) → Carried (wide_length w + prefix_length pre) c (dyadic_answer e w pre s d)
      both (place.Row r u) s d = either (Carried (wide_length w + prefix_length pre) c) (legal_of u s d) _ (Err Illegal) (refl, refl, h) h
      both place.Unimplemented s d =
          either (Carried (wide_length w + prefix_length pre) c) (legal_of OneRegister s d) (Err (Unimplemented unimplemented_vector)) (Err Illegal) (inl refl, h) h
      both place.Unlisted s d = h

      go : (e : DyadicEntry) (f g : Option Operand) → Carried (wide_length w + prefix_length pre) c (both_found e w pre f g)
      go e (Some s) (Some d) = both e s d
      go e (Some s) None = h
      go e None (Some d) = h
      go e None None = h

  monadic_carried : (pre : Bool) (p v : ℕ) → wide_length Three + prefix_length pre ≤ c
      → Carried (wide_length Three + prefix_length pre) c (decode_monadic pre p v)
  unfolding decode_monadic
  monadic_carried pre p v h = go (monadic_of (p % 16))
    where
      mode : (r : MonadicRow) (u : MonadicRule) (m : Option MonadicMode) → Carried (wide_length Three + prefix_length pre) c (monadic_found r u pre m v)
      mode r u (Some m) = either (Carried (wide_length Three + prefix_length pre) c) (monadic_legal_of u m v) _ (Err Illegal) (refl, refl, h) h
      mode r u None = h

      go : (e : MonadicEntry) → Carried (wide_length Three + prefix_length pre) c (monadic_answer e pre (p / 16 % 16) v)
      go (place.Row r u) = mode r u (monadic_mode_of u (p / 16 % 16))
      go place.Unimplemented =
          either (Carried (wide_length Three + prefix_length pre) c) (ltb (p / 16 % 16) 0xC) (Err Illegal) (Err (Unimplemented unimplemented_vector)) h (inl refl, h)
      go place.Unlisted = h

-- of a parcel whose top bit is 1, n parcels follow
wide_carried : (pre : Bool) (n p a b c d m : ℕ) → m ≡ n + 1 + prefix_length pre
    → Carried (wide_length (form_of p) + prefix_length pre) m (decode_wide pre n p a b c d)
unfolding decode_wide decode_three
wide_carried pre n p a b c d m e =
    by_test (ltb p 0xC000)
    (λ f.
    rw f
    (by_test (ltb n (wide_length Three - 1))
    (λ g. rw g (omega (arith, e, ltb-true n (wide_length Three - 1) g)))
    (λ g. rw g (three (omega (arith, e, ltb-false n (wide_length Three - 1) g))))))
    (λ f.
    rw f
    (by_test (ltb n (wide_length Five - 1))
    (λ g. rw g (omega (arith, e, ltb-true n (wide_length Five - 1) g)))
    (λ g. rw g (dyadic_carried m Five pre p (joined a b) (joined c d) (omega (arith, e, ltb-false n (wide_length Five - 1) g))))))
  where
    three : wide_length Three + prefix_length pre ≤ m
        → Carried (wide_length Three + prefix_length pre) m (cond (eqb (p / 256 % 64) 0) (decode_monadic pre p (joined a b)) (decode_dyadic Three pre p a b))
    three h =
        either (Carried (wide_length Three + prefix_length pre) m) (eqb (p / 256 % 64) 0) _ _
        (monadic_carried m pre p (joined a b) h) (dyadic_carried m Three pre p a b h)

-- a long form's parcels and k before them: its first parcel is the last of k + 1, the others follow
wide_called : (k : ℕ) (w : Wide) → wide_length w + k ≡ suc k + after_of w
wide_called k w = omega (arith, wide_positive w (wide_length w) refl)

module _ (t : Text) where
  prefixed_carried : Carried (prefix_length true + short_length + following t.p1) t.count (decode_prefixed t)
  unfolding decode_prefixed
  prefixed_carried =
      by_test (ltb t.count 2)
      (λ e. rw e (omega (arith, ltb-true t.count 2 e)))
      (λ e.
      rw e
      (by_test (ltb t.p1 0x8000)
      (λ f. rw f (ltb-false t.count 2 e))
      (λ f.
      rw f
      (subst (λ (k : ℕ). Carried k t.count (decode_wide true (t.count - 2) t.p1 t.p2 t.p3 t.p4 t.p5))
      (wide_called 1 (form_of t.p1))
      (wide_carried true (t.count - 2) t.p1 t.p2 t.p3 t.p4 t.p5 t.count (omega (arith, ltb-false t.count 2 e)))))))

  bare_carried : 1 ≤ t.count → Carried (short_length + following t.p0) t.count (decode_bare t)
  unfolding decode_bare
  bare_carried h =
      by_test (ltb t.p0 0x8000)
      (λ f. rw f (short_carried t.count t.p0 h))
      (λ f.
      rw f
      (subst (λ (k : ℕ). Carried k t.count (decode_wide false (t.count - 1) t.p0 t.p1 t.p2 t.p3 t.p4))
      (wide_called 0 (form_of t.p0))
      (wide_carried false (t.count - 1) t.p0 t.p1 t.p2 t.p3 t.p4 t.count (omega (arith, h)))))

  called_one : 1 ≤ called_for t
  called_one = either (λ (k : ℕ). 1 ≤ k) (eqb t.p0 cpu_prefix) _ _ (omega arith) (omega arith)

pub carried_length : CarriedLength
unfolding decode_of
carried_length t =
    by_test (ltb t.count 1)
    (λ e. rw e (omega (arith, ltb-true t.count 1 e, called_one t)))
    (λ e.
    rw e
    (by_test (eqb t.p0 cpu_prefix)
    (λ f. rw f (prefixed_carried t))
    (λ f. rw f (bare_carried t (ltb-false t.count 1 e)))))

-- the length of an instruction that was decoded is its form's and its prefix's
pub own_length : (t : Text) (i : Instruction) (n : ℕ) → decode_of t ≡ Ok (i, n) → n ≡ length_of i
own_length t i n e = (subst (Carried (called_for t) t.count) e (carried_length t)).0

-- so that the offset can be added to another number
pub vector_fits : (t : Text) (v : ℕ) → decode_of t ≡ Err (Unimplemented v) → v < 16
vector_fits t v e = ⊎_elim (λ h. omega (arith, h)) (λ h. omega (arith, h)) (subst (Carried (called_for t) t.count) e (carried_length t)).0
