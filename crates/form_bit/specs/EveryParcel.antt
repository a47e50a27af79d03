-- The premises of `FormBit` can be met: every parcel has texts of three and of five whose fields extend, each that is set apart has
-- texts at which the answers differ, and to every text there is an answer that the contracts of the code allow.
use Rattle.std.specs.Prelude.{ℕ, ◌<◌, ◌≡◌, Bool, true, List}
use Rattle.std.specs.Borrow.{Bor}
use contract.Lifetimes.{Lfts}
use Rattle.isa.specs.declared.Text.{Text}
use Rattle.isa.specs.Decode.{decode_of, text_of}
use Rattle.form_bit.specs.Shapes.{shape_of}
use Rattle.form_bit.specs.SetApart.{is_set_apart}
use Rattle.form_bit.specs.FormBit.{Paired, FieldsExtend}
use Rattle.form_bit.specs.Calls.{AnsweredText, AnsweredLent}

pub record ExtendingTexts (pre : Bool) (q : ℕ) : Type 0 where
  pub three : Text
  pub five : Text
  pub texts : Paired pre q three five
  pub fields : FieldsExtend pre q three five

pub record DifferingTexts (pre : Bool) (q : ℕ) : Type 0 where
  pub three : Text
  pub five : Text
  pub texts : Paired pre q three five
  pub differ : shape_of (decode_of three) ≡ shape_of (decode_of five) → ⊥

pub record EveryParcel : Type 0 where
  pub each : (pre : Bool) (q : ℕ) → q < 0x4000 → ExtendingTexts pre q
  pub each_listed : (pre : Bool) (q : ℕ) → is_set_apart pre q ≡ true → DifferingTexts pre q
  pub text_answered : (t : Text) → AnsweredText t (decode_of t)
  pub lent_answered : Lfts 1 → (s : Bor (List ℕ)) → AnsweredLent (text_of s.now) (decode_of (text_of s.now))
