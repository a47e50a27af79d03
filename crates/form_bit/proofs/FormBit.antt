-- The bit between three and five parcels changes form, length and operands' values alone, save for the parcels that are set apart.
-- Assumes nothing.
use Prim.Native.Nat.{ℕ, ◌+◌, ◌<◌, ◌≤◌}
use mathlib.Core.Path.{◌≡◌, refl, sym, ap, ◌∙◌}
use mathlib.Core.Bool.{Bool, true, false, not, ◌&&◌}
use native.Mathlib.Omega.{arith}
use lib.Dec.{ltb}
use borrow.Author.Tests.{ltb-true, ltb-false}
use Rattle.word.proofs.CaseLaws.{by_test}
use Rattle.isa.specs.declared.Wide.TheVariants.{Three, Five}
use Rattle.isa.specs.declared.Instruction.TheVariants as instruction
use Rattle.isa.specs.declared.Text.{Text}
use Rattle.isa.specs.declared.Undecoded.TheVariants as answer
use Rattle.isa.specs.Decode.{decode_dyadic, decode_monadic, decode_of, text_of}
use Rattle.isa.proofs.AnswerLaws.{same_decoded}
use Rattle.roundtrip.proofs.LengthLaws.{three_dyadic, three_monadic}
use Rattle.form_bit.specs.Shapes.{Shape, short_shape, dyadic_shape, monadic_shape, illegal_shape, unimplemented_shape, truncated_shape, shape_of, at_five}
use Rattle.form_bit.specs.SetApart.{is_set_apart, by_sign}
use Rattle.form_bit.specs.FormBit.{form_text, Paired, FieldsExtend, operand_word, AnsweredPair, FormBit}
use Rattle.form_bit.specs.Calls.{Defined, AnsweredText, AnsweredLent}
use Rattle.form_bit.proofs.DyadicLaws.{dyadic_shape_law, dyadic_five}
use Rattle.form_bit.proofs.MonadicLaws.{shape_number, five_none, same_shape, other_shape, differs_by_sign}
use Rattle.form_bit.proofs.TextLaws.{same_bits, three_answer, five_answer}
use Rattle.form_bit.proofs.SetApartLaws.{set_apart_below}
use Rattle.std.specs.Prelude.{Ok, Err}
use Rattle.isa.specs.Answers.{Decoded}

-- ---- answers that are no instruction

abbrev no_instruction : Shape → Decoded
no_instruction (short_shape r) = Err answer.Illegal
no_instruction (dyadic_shape r pre a b) = Err answer.Illegal
no_instruction (monadic_shape r pre m) = Err answer.Illegal
no_instruction illegal_shape = Err answer.Illegal
no_instruction (unimplemented_shape v) = Err (answer.Unimplemented v)
no_instruction truncated_shape = Err answer.Truncated

same_none : (s : Decoded) → (shape_number (shape_of s) ≡ 0 → ⊥) → (s ≡ no_instruction (shape_of s)) × (at_five s ≡ no_instruction (shape_of s))
same_none (Ok (instruction.Short i, n)) h = absurd (h refl)
same_none (Ok (instruction.Dyadic i, n)) h = absurd (h refl)
same_none (Ok (instruction.Monadic i, n)) h = absurd (h refl)
same_none (Err answer.Illegal) h = (refl, refl)
same_none (Err (answer.Unimplemented v)) h = (refl, refl)
same_none (Err answer.Truncated) h = (refl, refl)

none_at_five : (r s : Decoded) → shape_of r ≡ shape_of s → (shape_number (shape_of s) ≡ 0 → ⊥) → s ≡ at_five r
none_at_five r s e h =
    (same_none s h).0 ∙ ap no_instruction (sym e) ∙ sym (same_none r (λ z. h (ap shape_number (sym e) ∙ z))).1

-- ---- the definition's answers

module _ (pre : Bool) (q : ℕ) (t u : Text) (h : Paired pre q t u) where
  -- opcode 0
  module _ (l : q < 0x100) where
    monadic : decode_of t ≡ decode_monadic pre (0x8000 + q) (operand_word t)
    monadic = three_answer pre q t u h ∙ three_monadic pre (0x8000 + q) (form_text t).p1 (form_text t).p2 (omega arith)

    same_low : (is_set_apart pre q && not (by_sign pre q (operand_word t))) ≡ false → shape_of (decode_of t) ≡ shape_of (decode_of u)
    same_low e =
        rw (monadic, five_answer pre q t u h)
        (same_shape pre (0x8000 + q) (0xC000 + q) q (operand_word t) _ _ l (same_bits 2 q h.below) (same_bits 3 q h.below)
        (differs_by_sign pre q (operand_word t) ∙ e))

    other_low : (is_set_apart pre q && not (by_sign pre q (operand_word t))) ≡ true → shape_of (decode_of t) ≡ shape_of (decode_of u) → ⊥
    other_low e f =
        other_shape pre (0x8000 + q) (0xC000 + q) q (operand_word t) _ _ l (same_bits 2 q h.below) (same_bits 3 q h.below)
        (differs_by_sign pre q (operand_word t) ∙ e)
        (ap shape_of (sym monadic) ∙ f ∙ ap shape_of (five_answer pre q t u h))

    none_low : shape_number (shape_of (decode_of u)) ≡ 0 → ⊥
    none_low =
        rw (five_answer pre q t u h)
        (five_none pre (0x8000 + q) (0xC000 + q) q (operand_word t) _ _ l (same_bits 2 q h.below) (same_bits 3 q h.below))

  -- the others
  module _ (l : 0x100 ≤ q) where
    dyadic : decode_of t ≡ decode_dyadic Three pre (0x8000 + q) (form_text t).p1 (form_text t).p2
    dyadic =
        three_answer pre q t u h ∙ three_dyadic pre (0x8000 + q) (form_text t).p1 (form_text t).p2 (λ z. absurd (omega (arith, z, h.below)))

    same_high : shape_of (decode_of t) ≡ shape_of (decode_of u)
    same_high =
        ap shape_of dyadic
        ∙ dyadic_shape_law Three pre (0x8000 + q) q _ _ (same_bits 2 q h.below)
        ∙ sym (ap shape_of (five_answer pre q t u h) ∙ dyadic_shape_law Five pre (0xC000 + q) q _ _ (same_bits 3 q h.below))

    five_high : FieldsExtend pre q t u → decode_of u ≡ at_five (decode_of t)
    five_high f =
        rw (dyadic, five_answer pre q t u h)
        (dyadic_five pre (0x8000 + q) (0xC000 + q) q _ _ _ _ (same_bits 2 q h.below) (same_bits 3 q h.below) f.source f.destination)

  only_form_law : is_set_apart pre q ≡ false → shape_of (decode_of t) ≡ shape_of (decode_of u)
  only_form_law e = by_test (ltb q 0x100) (λ l. same_low (ltb-true q 0x100 l) (rw e refl)) (λ l. same_high (ltb-false q 0x100 l))

  same_at_five_law : is_set_apart pre q ≡ false → FieldsExtend pre q t u → decode_of u ≡ at_five (decode_of t)
  same_at_five_law e f =
      by_test (ltb q 0x100)
      (λ l. none_at_five (decode_of t) (decode_of u) (only_form_law e) (none_low (ltb-true q 0x100 l)))
      (λ l. five_high (ltb-false q 0x100 l) f)

  pub set_apart : is_set_apart pre q ≡ true → by_sign pre q (operand_word t) ≡ false → shape_of (decode_of t) ≡ shape_of (decode_of u) → ⊥
  set_apart e f = other_low (set_apart_below pre q e) (rw (e, f) refl)

  alike_by_sign : is_set_apart pre q ≡ true → by_sign pre q (operand_word t) ≡ true → shape_of (decode_of t) ≡ shape_of (decode_of u)
  alike_by_sign e f = same_low (set_apart_below pre q e) (rw (e, f) refl)

-- ---- the theorem, of the definition and of the code

of_answers : (Answers : Text → Decoded → Type 0) → ((t : Text) (r : Decoded) → Answers t r → r ≡ decode_of t) → FormBit Answers
of_answers Answers sound =
    record {
      only_form = λ p e. rw (three p, five p) (only_form_law p.prefix p.bits p.three p.five p.texts e);
      same_at_five = λ p e f. rw (three p, five p) (same_at_five_law p.prefix p.bits p.three p.five p.texts e f);
      listed_differ = λ p e f g. set_apart p.prefix p.bits p.three p.five p.texts e f (rw (three p, five p) at g);
      listed_alike = λ p e f. rw (three p, five p) (alike_by_sign p.prefix p.bits p.three p.five p.texts e f);
    }
  where
    three : (p : AnsweredPair Answers) → p.answer_three ≡ decode_of p.three
    three p = sound p.three p.answer_three p.answers_three

    five : (p : AnsweredPair Answers) → p.answer_five ≡ decode_of p.five
    five p = sound p.five p.answer_five p.answers_five

pub form_bit : FormBit Defined
form_bit = of_answers Defined (λ t r e. e)

pub form_bit_text : FormBit AnsweredText
form_bit_text = of_answers AnsweredText (λ t r h. same_decoded r (decode_of t) (h.answered tt))

pub form_bit_lent : FormBit AnsweredLent
form_bit_lent = of_answers AnsweredLent (λ t r h. same_decoded r (decode_of (text_of h.reference.now)) (h.answered tt) ∙ ap decode_of h.text)
