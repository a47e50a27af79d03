-- The first line that is refused ends the work.
-- Assumes nothing.
use Rattle.std.proofs.Common.{◌≡◌, ℕ, eqb, List, [], ◌∷◌, ◌++◌, sym, refl, ap, ◌∙◌, append_assoc, append-nil, eq-eqb, ne_eqb, eqb-true}
use borrow.Author.Tests.{eqb-false}
use Rattle.word.proofs.CaseLaws.{by_test}
use Rattle.word.proofs.ListLaws.{no_others, ◌also◌}
use Rattle.lines.specs.Texts.{lines_text, next, last_of}
use Rattle.lines.proofs.TextLaws.{text_append}
use Rattle.board_lines.specs.Answers.{refused_line}
use Rattle.records_lines.specs.Conversions.{Accepted, given_by}
use Rattle.records_conversion.specs.declared.Way.{Way}
use Rattle.records_conversion.specs.Conversion.{converted_by, conversion}
use Rattle.records_conversion.specs.Stopping.{FirstRefused, Judged, all_accepted, first_refused, Stopping}

module _ (w : Way) where
  -- accepted lines before others
  pub accepted_before : (n : ℕ) (l rest : List (List ℕ)) → Accepted (converted_by w) l
      → conversion w (next n) (l ++ rest) ≡ lines_text (given_by (converted_by w) l) ++ conversion w (next (last_of n l)) rest
  unfolding conversion last_of lines_text
  accepted_before n [] rest no_others = refl
  accepted_before n (s ∷ l) rest (z also a) =
      let k = (converted_by w s).lines in
      let c = conversion w (next (last_of (next n) l)) rest in
      rw (eq-eqb (converted_by w s).refusal 0 z)
      (ap (λ (t : List ℕ). lines_text k ++ t) (accepted_before (next n) l rest a)
      ∙ sym (append_assoc (lines_text k) (lines_text (given_by (converted_by w) l)) c)
      ∙ ap (λ (t : List ℕ). t ++ c) (sym (text_append k (given_by (converted_by w) l))))

  accepted_all : (n : ℕ) (l : List (List ℕ)) → Accepted (converted_by w) l → conversion w (next n) l ≡ lines_text (given_by (converted_by w) l)
  unfolding conversion
  accepted_all n l a =
      ap (conversion w (next n)) (sym (append-nil l))
      ∙ accepted_before n l [] a
      ∙ append-nil (lines_text (given_by (converted_by w) l))

  -- a line that is refused, whatever follows
  pub refused_line_law : (n : ℕ) (s : List ℕ) (l : List (List ℕ)) → ((converted_by w s).refusal ≡ 0 → ⊥)
      → conversion w n (s ∷ l) ≡ refused_line (converted_by w s).refusal n
  unfolding conversion
  refused_line_law n s l z = rw (ne_eqb (converted_by w s).refusal 0 z) refl

  stops : (n : ℕ) (l : List (List ℕ)) (f : FirstRefused w l)
      → conversion w (next n) l
      ≡ lines_text (given_by (converted_by w) f.before) ++ refused_line (converted_by w f.line).refusal (next (last_of n f.before))
  stops n l f =
      ap (conversion w (next n)) f.parts
      ∙ accepted_before n f.before (f.line ∷ f.after) f.accepted
      ∙ ap (λ (t : List ℕ). lines_text (given_by (converted_by w) f.before) ++ t)
      (refused_line_law (next (last_of n f.before)) f.line f.after f.refused)

  -- a line that is accepted, before lines that are judged
  judged_after : (s : List ℕ) (l : List (List ℕ)) → (converted_by w s).refusal ≡ 0 → Judged w l → Judged w (s ∷ l)
  judged_after s l z (all_accepted a) = all_accepted (z also a)
  judged_after s l z (first_refused f) =
      first_refused
      record {
        before = s ∷ f.before;
        line = f.line;
        after = f.after;
        parts = ap (λ (k : List (List ℕ)). s ∷ k) f.parts;
        accepted = z also f.accepted;
        refused = f.refused;
      }

  judge : (l : List (List ℕ)) → Judged w l
  judge [] = all_accepted no_others
  judge (s ∷ l) =
      by_test (eqb (converted_by w s).refusal 0)
      (λ e. judged_after s l (eqb-true (converted_by w s).refusal 0 e) (judge l))
      (λ e. first_refused
      record {
        before = [];
        line = s;
        after = l;
        parts = refl;
        accepted = no_others;
        refused = eqb-false (converted_by w s).refusal 0 e;
      })

pub stopping : Stopping
stopping = record { judged = judge; accepted = accepted_all; refused = stops }
