-- Lines counted as they are printed give the sums of their totals.
-- Assumes nothing.
use Rattle.std.proofs.Common.{◌≡◌, ℕ, ◌+◌, ◌/◌, ◌%◌, ◌^◌, ◌≤◌, Bool, true, false, cond, ◌&&◌, eqb, leb, List, [], ◌∷◌, ◌++◌, length, sym, refl, ap, ◌∙◌, add-zero, add_assoc, zero-add, le-leb}
use native.Mathlib.Nat.{mod-add-mod, add-mod-mod}
use Rattle.word.proofs.CaseLaws.{by_test}
use Rattle.hex_digits.specs.Digits.{all_digits, digit_of, digit_byte, number_at, digits}
use Rattle.hex_digits.specs.Output.{Output, newline, output, written, printed}
use Rattle.hex_digits.proofs.DigitLaws.{all_append, all_digits_law, number_digits}
use Rattle.hex_digits.proofs.OutputLaws.{room_printed, printed_none}
use Rattle.lines.specs.Texts.{lines_of}
use Rattle.board_lines.specs.Answers.{refused_kind, ran_kind, refused_line, ran_line, steps_place, stop_place, code_place, refused_stop}
use Rattle.board_lines.specs.Totals.{Totals, totals, is_run_line, is_refused, runs_in, steps_in, refused_in, sum_over, totals_of, totals_kind, totals_line}
use Rattle.board_lines.specs.Printouts.{Tally, tally, totals_at, start_tally, run_counted, added_if, line_added, lines_added, refusal_added, run_added, Printout, printout, tallied}
use Rattle.lines.proofs.TextLaws.{unended, LineText, one_line, digits_line}

-- ---- printed lines are one line of digits each

more_digits : (n x : ℕ) (t : List ℕ) → all_digits t ≡ true → all_digits (digits n x ++ t) ≡ true
more_digits n x t h = all_append (digits n x) t ∙ (λ i. all_digits_law n x i && h i)

module _ (kind : ℕ) (rest : List ℕ) (h : all_digits rest ≡ true) where
  kind_text : (P : List ℕ → Type 0) → P (digits 2 kind ++ rest) → LineText P ((digits 2 kind ++ rest) ++ newline ∷ [])
  kind_text P p = one_line (digit_byte (kind / 16 ^ 1 % 16)) (digits 1 kind ++ rest) (more_digits 2 kind rest h) p

  kind_lines : lines_of ((digits 2 kind ++ rest) ++ newline ∷ []) ≡ (digits 2 kind ++ rest) ∷ []
  kind_lines = digits_line (digit_byte (kind / 16 ^ 1 % 16)) (digits 1 kind ++ rest) (more_digits 2 kind rest h)

module _ (r n : ℕ) where
  refused_digits : all_digits (digits 2 r ++ digits 8 n) ≡ true
  refused_digits = more_digits 2 r (digits 8 n) (all_digits_law 8 n)

  pub refused_text : (P : List ℕ → Type 0) → P (unended (refused_line r n)) → LineText P (refused_line r n)
  refused_text = kind_text refused_kind (digits 2 r ++ digits 8 n) refused_digits

  pub refused_lines : lines_of (refused_line r n) ≡ unended (refused_line r n) ∷ []
  refused_lines = kind_lines refused_kind (digits 2 r ++ digits 8 n) refused_digits

  pub refused_added : (k : Tally) → lines_added (lines_of (refused_line r n)) k ≡ refusal_added k
  unfolding lines_added digit_of digit_byte
  refused_added k = ap (λ (l : List (List ℕ)). lines_added l k) refused_lines

module _ (steps stop code counter status : ℕ) where
  abbrev ran : List ℕ
  ran = ran_line steps stop code counter status

  abbrev after_steps : List ℕ
  after_steps = digits 2 stop ++ digits 2 code ++ digits 8 counter ++ digits 8 status

  ran_digits : all_digits (digits 8 steps ++ after_steps) ≡ true
  ran_digits =
      more_digits 8 steps after_steps
      (more_digits 2 stop (digits 2 code ++ digits 8 counter ++ digits 8 status)
      (more_digits 2 code (digits 8 counter ++ digits 8 status) (more_digits 8 counter (digits 8 status) (all_digits_law 8 status))))

  pub ran_text : (P : List ℕ → Type 0) → P (unended ran) → LineText P ran
  ran_text = kind_text ran_kind (digits 8 steps ++ after_steps) ran_digits

  pub ran_lines : lines_of ran ≡ unended ran ∷ []
  ran_lines = kind_lines ran_kind (digits 8 steps ++ after_steps) ran_digits

  -- the numbers that stand in it
  pub read_steps : number_at 8 (unended ran) steps_place ≡ steps % 2 ^ 32
  read_steps = number_digits 8 steps (digits 2 ran_kind) after_steps

  pub read_stop : number_at 2 (unended ran) stop_place ≡ stop % 256
  read_stop = number_digits 2 stop (digits 2 ran_kind ++ digits 8 steps) (digits 2 code ++ digits 8 counter ++ digits 8 status)

  pub read_code : number_at 2 (unended ran) code_place ≡ code % 256
  read_code = number_digits 2 code (digits 2 ran_kind ++ digits 8 steps ++ digits 2 stop) (digits 8 counter ++ digits 8 status)

  pub ran_added : (k : Tally) → lines_added (lines_of ran) k ≡ run_added steps stop k
  unfolding lines_added digit_of digit_byte
  ran_added k =
      ap (λ (l : List (List ℕ)). lines_added l k) ran_lines
      ∙ (λ i. added_if (eqb (read_stop i) refused_stop) refusal_added (run_counted (read_steps i) k))
      ∙ ap (λ (x : ℕ). added_if (eqb (stop % 256) refused_stop) refusal_added (tally ((k.runs + 1) % 2 ^ 32) x k.refused)) (add-mod-mod k.steps steps (2 ^ 32))

-- the 8F line is neither kind of line
pub totals_lines : (t : Totals) → lines_of (totals_line t) ≡ unended (totals_line t) ∷ []
totals_lines t =
    kind_lines totals_kind (digits 8 t.runs ++ digits 8 t.steps ++ digits 8 t.refused)
    (more_digits 8 t.runs (digits 8 t.steps ++ digits 8 t.refused) (more_digits 8 t.steps (digits 8 t.refused) (all_digits_law 8 t.refused)))

-- ---- lines after lines

pub added_after : (l m : List (List ℕ)) (k : Tally) → lines_added (l ++ m) k ≡ lines_added m (lines_added l k)
unfolding lines_added
added_after [] m k = refl
added_after (s ∷ l) m k = added_after l m (line_added s k)

-- ---- the sums

record TallySums (k : Tally) (runs steps refused : ℕ) : Type 0 where
  runs_sum : k.runs ≡ runs % 2 ^ 32
  steps_sum : k.steps ≡ steps % 2 ^ 32
  refused_sum : k.refused ≡ refused % 2 ^ 32

sum_more : (x n m : ℕ) → x ≡ m % 2 ^ 32 → (x + n) % 2 ^ 32 ≡ (m + n) % 2 ^ 32
sum_more x n m e = ap (λ (y : ℕ). (y + n) % 2 ^ 32) e ∙ mod-add-mod m (2 ^ 32) n

module _ (k : Tally) (runs steps refused : ℕ) (e : TallySums k runs steps refused) (b : Bool) where
  run_sums : (n : ℕ) → TallySums (added_if b (run_counted n) k) (runs + cond b 1 0) (steps + cond b n 0) refused
  run_sums n =
      by_test b
      (λ t. rw t (record { runs_sum = sum_more k.runs 1 runs e.runs_sum; steps_sum = sum_more k.steps n steps e.steps_sum; refused_sum = e.refused_sum }))
      (λ t. rw (t, add-zero runs, add-zero steps) e)

  refused_sums : TallySums (added_if b refusal_added k) runs steps (refused + cond b 1 0)
  refused_sums =
      by_test b
      (λ t. rw t (record { runs_sum = e.runs_sum; steps_sum = e.steps_sum; refused_sum = sum_more k.refused 1 refused e.refused_sum }))
      (λ t. rw (t, add-zero refused) e)

line_sums : (s : List ℕ) (k : Tally) (runs steps refused : ℕ) → TallySums k runs steps refused
    → TallySums (line_added s k) (runs + runs_in s) (steps + steps_in s) (refused + refused_in s)
line_sums s k runs steps refused e =
    refused_sums _ _ _ refused (run_sums k runs steps refused e (is_run_line s) (number_at 8 s steps_place)) (is_refused s)

added_sums : (l : List (List ℕ)) (k : Tally) (runs steps refused : ℕ) → TallySums k runs steps refused
    → totals_at (lines_added l k)
    ≡ totals ((runs + sum_over runs_in l) % 2 ^ 32) ((steps + sum_over steps_in l) % 2 ^ 32) ((refused + sum_over refused_in l) % 2 ^ 32)
unfolding lines_added
added_sums [] k runs steps refused e = rw (add-zero runs, add-zero steps, add-zero refused) (λ i. totals (e.runs_sum i) (e.steps_sum i) (e.refused_sum i))
added_sums (s ∷ l) k runs steps refused e =
    added_sums l (line_added s k) (runs + runs_in s) (steps + steps_in s) (refused + refused_in s) (line_sums s k runs steps refused e)
    ∙ (λ i. totals (add_assoc runs (runs_in s) (sum_over runs_in l) i % 2 ^ 32) (add_assoc steps (steps_in s) (sum_over steps_in l) i % 2 ^ 32)
    (add_assoc refused (refused_in s) (sum_over refused_in l) i % 2 ^ 32))

pub added_totals : (l : List (List ℕ)) → totals_at (lines_added l start_tally) ≡ totals_of l
added_totals l =
    added_sums l start_tally 0 0 0 (record { runs_sum = refl; steps_sum = refl; refused_sum = refl })
    ∙ rw (zero-add (sum_over runs_in l), zero-add (sum_over steps_in l), zero-add (sum_over refused_in l)) refl

-- ---- a text, printed and counted or left out

-- by what the code asked: whether it has room
module _ (t : List ℕ) (q : Printout) (n : ℕ) (r : Bool) (e : n ≡ length t) (g : r ≡ leb (q.output.place + n) (length q.output.bytes)) where
  pub tallied_whole : (x : Output) (c : Tally) → r ≡ true → x ≡ printed t q.output → c ≡ lines_added (lines_of t) q.tally
      → printout x c ≡ tallied t q
  unfolding tallied
  tallied_whole x c h f l = rw (sym e, sym g ∙ h) (λ i. printout (f i) (l i))

  pub tallied_left : r ≡ false → q ≡ tallied t q
  unfolding tallied
  tallied_left h = rw (sym e, sym g ∙ h) refl

pub tallied_room : (t o : List ℕ) (p : ℕ) (k : Tally) → p + length t ≤ length o
    → tallied t (printout (output o p) k) ≡ printout (output (written o p t) (p + length t)) (lines_added (lines_of t) k)
tallied_room t o p k h =
    sym (tallied_whole t (printout (output o p) k) (length t) true refl (sym (le-leb (p + length t) (length o) h)) _ _ refl (sym (room_printed t o p h)) refl)

pub tallied_none : (p : Printout) → tallied [] p ≡ p
unfolding tallied lines_added lines_of
tallied_none p =
    by_test (leb (p.output.place + 0) (length p.output.bytes))
    (λ e. rw e (ap (λ (o : Output). printout o p.tally) (printed_none p.output))) (λ e. rw e refl)
