-- What is answered for a line or for lines: done, or a refusal, by its number.
-- Assumes nothing.
use Rattle.std.proofs.Common.{◌≡◌, ℕ, Option, Some, None, Bool, true, false, cond, eqb, List, [], ◌∷◌, Result, Ok, Err, sym, refl, ap, ◌∙◌, eqb-true}
use borrow.Author.Tests.{eqb-false}
use Rattle.std.specs.Prelude.{is_err, ⊤}
use Rattle.refusals.specs.declared.Refusal.{Refusal}
use Rattle.refusals.specs.declared.Refusal.TheVariants.{MalformedLine, MalformedRecord, WrongChecksum, OtherKind}
use Rattle.refusals.specs.Numbers.{refusal_of}
use Rattle.word.proofs.CaseLaws.{by_test}
use Rattle.hex_digits.specs.Output.{Output, printed}
use Rattle.lines.specs.Texts.{lines_text, next}
use Rattle.board_lines.specs.declared.Frame.{Frame}
use Rattle.board_lines.specs.declared.Frame.TheVariants.{Set, Store, Run, Confined}
use Rattle.board_lines.specs.Lines.{frame_of}
use Rattle.board_lines.specs.Answers.{refused_line}
use Rattle.records_lines.specs.Records.{record_refusal}
use Rattle.records_lines.specs.Conversions.{record_converted, store_converted}
use Rattle.records_lines.proofs.ConversionLaws.{is_refusal}
use Rattle.records_conversion.specs.declared.Way.{Way}
use Rattle.records_conversion.specs.declared.Way.TheVariants.{In, Out}
use Rattle.records_conversion.specs.Conversion.{converted_by}
use Rattle.records_conversion.specs.Loop.{progress, lines_done, refused_with}
use Rattle.records_conversion.proofs.BlockLaws.{nothing_more}

-- ---- each number is that of an answer

pub record Answer (n : ℕ) : Type 0 where
  pub answer : Result ⊤ Refusal
  pub number : refusal_of answer ≡ n

abbrev answered : (a : Result ⊤ Refusal) → Answer (refusal_of a)
answered a = record { answer = a; number = refl }

either_answer : (b : Bool) (n m : ℕ) → Answer n → Answer m → Answer (cond b n m)
either_answer true n m x y = x
either_answer false n m x y = y

record_number : (s : List ℕ) → (record_converted s).refusal ≡ record_refusal s
record_number s = by_test (eqb (record_refusal s) 0) (λ e. rw e (sym (eqb-true (record_refusal s) 0 e))) (λ e. rw e refl)

judged_record : (s : List ℕ) → Answer (record_refusal s)
unfolding record_refusal
judged_record s = either_answer _ _ _ (either_answer _ _ _ (answered (Ok tt)) (answered (Err WrongChecksum))) (answered (Err MalformedRecord))

record_answer : (s : List ℕ) → Answer (record_converted s).refusal
record_answer s = let x = judged_record s in record { answer = x.answer; number = x.number ∙ sym (record_number s) }

store_answer : (s : List ℕ) (f : Option Frame) → Answer (store_converted s f).refusal
unfolding store_converted
store_answer s (Some (Set a b)) = answered (Err OtherKind)
store_answer s (Some (Store a)) = answered (Ok tt)
store_answer s (Some (Run a b)) = answered (Err OtherKind)
store_answer s (Some (Confined a b)) = answered (Err OtherKind)
store_answer s None = answered (Err MalformedLine)

line_answer : (w : Way) (s : List ℕ) → Answer (converted_by w s).refusal
line_answer In s = record_answer s
line_answer Out s = store_answer s (frame_of s)

pub lines_answer : (w : Way) (l : List (List ℕ)) → Answer (refused_with w l)
unfolding refused_with
lines_answer w [] = answered (Ok tt)
lines_answer w (s ∷ l) =
    either_answer (eqb (converted_by w s).refusal 0) (refused_with w l) (converted_by w s).refusal (lines_answer w l) (line_answer w s)

-- ---- the answer of lines tells whether the work is over

is_done : (a : Result ⊤ Refusal) → refusal_of a ≡ 0 → is_err a ≡ false
is_done (Ok x) h = refl
is_done (Err r) h = absurd (is_refusal r h)

is_refused : (a : Result ⊤ Refusal) → (refusal_of a ≡ 0 → ⊥) → is_err a ≡ true
is_refused (Ok x) h = absurd (h refl)
is_refused (Err r) h = refl

pub over_law : (w : Way) (l : List (List ℕ)) (o : Output) (n : ℕ) (a : Result ⊤ Refusal) → refusal_of a ≡ refused_with w l
    → is_err a ≡ (lines_done w l (progress o n false)).over
unfolding refused_with lines_done
over_law w [] o n a h = is_done a h
over_law w (s ∷ l) o n a h =
    by_test (eqb (converted_by w s).refusal 0)
    (λ e. rw e (over_law w l (printed (lines_text (converted_by w s).lines) o) (next n) a (rw e at h)))
    (λ e. let t : refusal_of a ≡ (converted_by w s).refusal = rw e at h in
    let some : refusal_of a ≡ 0 → ⊥ = λ z. eqb-false (converted_by w s).refusal 0 e (sym t ∙ z) in
    rw e
    (is_refused a some
    ∙ sym (ap (λ p. p.over) (nothing_more w l (progress (printed (refused_line (converted_by w s).refusal (next n)) o) (next n) true) refl))))
