-- Request (d): "Show that the bit choosing three or five changes only form and operand width and value in an answer, save for first
-- parcels that the encodings lists set apart, each named."
use Rattle.std.specs.Prelude.{ℕ, ◌+◌, ◌/◌, ◌%◌, ◌<◌, ◌≤◌, ◌≡◌, Bool, true, false, eqb}
use Rattle.isa.specs.declared.Wide.TheVariants.{Three, Five}
use Rattle.isa.specs.declared.Text.{Text}
use Rattle.isa.specs.Decode.{joined, mode_entry, cpu_prefix}
use Rattle.isa.specs.Carried.{called_for}
use Rattle.decode.specs.Forms.{first_of, second_of, rest_of}
use Rattle.form_bit.specs.Shapes.{shape_of, at_five, Extends}
use Rattle.form_bit.specs.SetApart.{is_set_apart, by_sign}
use Rattle.isa.specs.Answers.{Decoded}

-- ---- two texts

abbrev pub is_prefixed : Text → Bool
is_prefixed t = eqb t.p0 cpu_prefix

-- a text from the parcel on that says the form
abbrev pub form_text : Text → Text
form_text t = rest_of (is_prefixed t) t

-- t is of three parcels and u of five, both after a prefix or both without, and the parcels that say so differ in bit 14 alone: q is
-- what they have below it. Each text has the parcels that it calls for, and these are any.
pub record Paired (pre : Bool) (q : ℕ) (t u : Text) : Type 0 where
  pub below : q < 0x4000
  pub prefix_three : is_prefixed t ≡ pre
  pub prefix_five : is_prefixed u ≡ pre
  pub first_three : (form_text t).p0 ≡ 0x8000 + q
  pub first_five : (form_text u).p0 ≡ 0xC000 + q
  pub whole_three : called_for t ≤ t.count
  pub whole_five : called_for u ≤ u.count

-- the operand fields of five parcels extend those of three
pub record FieldsExtend (pre : Bool) (q : ℕ) (t u : Text) : Type 0 where
  pub source :
      Extends (mode_entry pre (q / 16 % 16)) (first_of Three (form_text t).p1 (form_text t).p2) (first_of Five (form_text u).p1 (form_text u).p2)
  pub destination :
      Extends (mode_entry pre (q % 16)) (second_of Three (form_text t).p2 (form_text t).p3 (form_text t).p4)
      (second_of Five (form_text u).p2 (form_text u).p3 (form_text u).p4)

-- the operand that three parcels have where they are a monadic's
abbrev pub operand_word : Text → ℕ
operand_word t = joined (form_text t).p1 (form_text t).p2

-- ---- what a decoder answers to them: Answers t r if it answers r to t

pub record AnsweredPair (Answers : Text → Decoded → Type 0) : Type 0 where
  pub prefix : Bool
  pub bits : ℕ
  pub three : Text
  pub five : Text
  pub texts : Paired prefix bits three five
  pub answer_three : Decoded
  pub answer_five : Decoded
  pub answers_three : Answers three answer_three
  pub answers_five : Answers five answer_five

module _ {Answers : Text → Decoded → Type 0} where
  -- its parcels are on the list
  abbrev pub is_listed : AnsweredPair Answers → Bool
  is_listed p = is_set_apart p.prefix p.bits

  -- and yet alike, by the operand's sign
  abbrev pub is_alike : AnsweredPair Answers → Bool
  is_alike p = by_sign p.prefix p.bits (operand_word p.three)

  abbrev pub Extending : AnsweredPair Answers → Type 0
  Extending p = FieldsExtend p.prefix p.bits p.three p.five

  abbrev pub SameShape : AnsweredPair Answers → Type 0
  SameShape p = shape_of p.answer_three ≡ shape_of p.answer_five

pub record FormBit (Answers : Text → Decoded → Type 0) : Type 0 where
  -- "changes only form and operand width and value in an answer, save for .."
  pub only_form : (p : AnsweredPair Answers) → is_listed p ≡ false → SameShape p
  -- and five parcels whose fields extend those of three are the same instruction at five
  pub same_at_five : (p : AnsweredPair Answers) → is_listed p ≡ false → Extending p → p.answer_five ≡ at_five p.answer_three
  -- ".. first parcels that the encodings lists set apart": these change more, whatever their operands, but for two by a sign
  pub listed_differ : (p : AnsweredPair Answers) → is_listed p ≡ true → is_alike p ≡ false → SameShape p → ⊥
  pub listed_alike : (p : AnsweredPair Answers) → is_listed p ≡ true → is_alike p ≡ true → SameShape p
