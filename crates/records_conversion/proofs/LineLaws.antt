-- A line that is refused, converted on a buffer.
-- Assumes nothing.
use Rattle.std.proofs.Common.{◌≡◌, ℕ, Option, Some, None, true, false, eqb, List, [], refl, ap, ◌∙◌, ne_eqb}
use Rattle.refusals.specs.declared.Refusal.{Refusal}
use Rattle.refusals.specs.Numbers.{number_of}
use Rattle.word.proofs.CaseLaws.{by_test}
use Rattle.hex_digits.specs.Output.{Output, printed}
use Rattle.hex_digits.proofs.OutputLaws.{printed_none}
use Rattle.lines.specs.Texts.{lines_text, next}
use Rattle.board_lines.specs.declared.Frame.{Frame}
use Rattle.board_lines.specs.declared.Frame.TheVariants.{Set, Store, Run, Confined}
use Rattle.board_lines.specs.Lines.{frame_of}
use Rattle.board_lines.specs.Answers.{refused_line}
use Rattle.records_lines.specs.Records.{record_refusal}
use Rattle.records_lines.specs.Conversions.{LineConverted, record_converted, store_converted, LineOutput, line_output, output_of}
use Rattle.records_lines.proofs.ConversionLaws.{is_refusal}
use Rattle.records_conversion.specs.declared.Way.{Way}
use Rattle.records_conversion.specs.declared.Way.TheVariants.{In, Out}
use Rattle.records_conversion.specs.Conversion.{converted_by}
use Rattle.records_conversion.specs.Loop.{progress, line_done}

-- ---- a line that is refused gives nothing

abbrev Refused : LineConverted → Type 0
Refused c = c.refusal ≡ 0 → ⊥

record_nothing : (s : List ℕ) → Refused (record_converted s) → (record_converted s).lines ≡ []
record_nothing s n =
    by_test (eqb (record_refusal s) 0)
    (λ e. absurd (n (rw e refl)))
    (λ e. rw e refl)

store_nothing : (s : List ℕ) (f : Option Frame) → Refused (store_converted s f) → (store_converted s f).lines ≡ []
unfolding store_converted
store_nothing s (Some (Set a b)) n = refl
store_nothing s (Some (Store a)) n = absurd (n refl)
store_nothing s (Some (Run a b)) n = refl
store_nothing s (Some (Confined a b)) n = refl
store_nothing s None n = refl

pub refused_nothing : (w : Way) (s : List ℕ) → Refused (converted_by w s) → (converted_by w s).lines ≡ []
refused_nothing In s n = record_nothing s n
refused_nothing Out s n = store_nothing s (frame_of s) n

-- ---- as the code answers: the line of the refusal

pub line_refused : (w : Way) (s : List ℕ) (o o' : Output) (n : ℕ) (r : Refusal) → line_output (number_of r) o' ≡ output_of (converted_by w s) o
    → (p : Output) → p ≡ printed (refused_line (number_of r) (next n)) o' → progress p (next n) true ≡ line_done (converted_by w s) (progress o n false)
unfolding lines_text
line_refused w s o o' n r h p g =
    let told : number_of r ≡ (converted_by w s).refusal = ap (λ (x : LineOutput). x.refusal) h in
    let some : (converted_by w s).refusal ≡ 0 → ⊥ = λ e. is_refusal r (told ∙ e) in
    let unprinted : o' ≡ o =
    ap (λ (x : LineOutput). x.output) h
    ∙ ap (λ (l : List (List ℕ)). printed (lines_text l) o) (refused_nothing w s some)
    ∙ printed_none o in
    rw (ne_eqb (converted_by w s).refusal 0 some)
    (ap (λ (x : Output). progress x (next n) true) (g ∙ (λ j. printed (refused_line (told j) (next n)) (unprinted j))))
