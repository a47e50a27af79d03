-- The lines of a text: the first of them, those of a text in two parts, and the text of lines.
-- Assumes nothing.
use mathlib.Core.Path.{◌≡◌, refl, sym, ap, subst, ◌∙◌}
use mathlib.Core.Bool.{true, false≢true}
use mathlib.Core.List.{List, [], ◌∷◌, ◌++◌, append_assoc, append-nil}
use Prim.Native.Nat.{ℕ, suc, ◌+◌, ◌-◌, ◌≤◌}
use native.Mathlib.Omega.{arith}
use lib.ListN.{length, take, drop}
use lib.Seq.{take-append-add, drop-append-add}
use lib.Dec.{eqb}
use borrow.Author.Tests.{eqb-true}
use Rattle.word.proofs.CaseLaws.{by_test, and_left, and_right}
use Rattle.word.proofs.ListLaws.{Each, no_others, ◌also◌}
use Rattle.hex_digits.specs.Digits.{is_digit, all_digits}
use Rattle.hex_digits.specs.Output.{newline}
use Rattle.lines.specs.Texts.{onto, lines_of, lines_text, newline_at}

-- no newline is in it
abbrev pub Plain : List ℕ → Type 0
Plain t = length t ≤ newline_at t

-- ---- the first line

pub lines_first : (b : ℕ) (t : List ℕ)
    → lines_of (b ∷ t) ≡ take (newline_at (b ∷ t)) (b ∷ t) ∷ lines_of (drop (suc (newline_at (b ∷ t))) (b ∷ t))
unfolding lines_of newline_at
lines_first b [] = by_test (eqb b 10) (λ e. rw e refl) (λ e. rw e refl)
lines_first b (x ∷ t) = by_test (eqb b 10) (λ e. rw e refl) (λ e. rw e (ap (onto b) (lines_first x t)))

newline_on : (c u : List ℕ) → Plain c → newline_at (c ++ u) ≡ length c + newline_at u
unfolding newline_at
newline_on [] u h = omega arith
newline_on (b ∷ c) u h =
    by_test (eqb b 10)
    (λ e. absurd (omega (arith, rw e at h)))
    (λ e. let g : length c ≤ newline_at c = omega (arith, rw e at h) in
    rw e (omega (arith, newline_on c u g)))

-- a text that begins with bytes of an unended line
pub lines_on_law : (b : ℕ) (c u : List ℕ) → Plain (b ∷ c)
    → lines_of ((b ∷ c) ++ u) ≡ ((b ∷ c) ++ take (newline_at u) u) ∷ lines_of (drop (suc (newline_at u)) u)
lines_on_law b c u h =
    let e : newline_at ((b ∷ c) ++ u) ≡ length (b ∷ c) + newline_at u = newline_on (b ∷ c) u h in
    let g : suc (newline_at ((b ∷ c) ++ u)) ≡ length (b ∷ c) + suc (newline_at u) = omega (arith, e) in
    lines_first b (c ++ u)
    ∙ (λ i. take (e i) ((b ∷ c) ++ u) ∷ lines_of (drop (g i) ((b ∷ c) ++ u)))
    ∙ (λ i. take-append-add (b ∷ c) u (newline_at u) i ∷ lines_of (drop-append-add (b ∷ c) u (suc (newline_at u)) i))

-- ended by a newline
pub line_first : (s u : List ℕ) → Plain s → lines_of ((s ++ newline ∷ []) ++ u) ≡ s ∷ lines_of u
unfolding lines_of newline_at
line_first [] u h = refl
line_first (b ∷ c) u h =
    ap lines_of (append_assoc (b ∷ c) (newline ∷ []) u)
    ∙ lines_on_law b c (newline ∷ u) h
    ∙ ap (λ (s : List ℕ). s ∷ lines_of u) (append-nil (b ∷ c))

-- ---- the text of lines

pub text_lines : (l : List (List ℕ)) → Each Plain l → lines_of (lines_text l) ≡ l
unfolding lines_of lines_text
text_lines [] no_others = refl
text_lines (s ∷ l) (p also e) = line_first s (lines_text l) p ∙ ap (λ (k : List (List ℕ)). s ∷ k) (text_lines l e)

pub text_append : (k l : List (List ℕ)) → lines_text (k ++ l) ≡ lines_text k ++ lines_text l
unfolding lines_text
text_append [] l = refl
text_append (s ∷ k) l =
    ap (λ (t : List ℕ). (s ++ newline ∷ []) ++ t) (text_append k l) ∙ sym (append_assoc (s ++ newline ∷ []) (lines_text k) (lines_text l))

-- ---- lines of digits, as they are printed

-- a digit is no newline
pub plain_digits : (s : List ℕ) → all_digits s ≡ true → Plain s
unfolding newline_at
plain_digits [] h = omega arith
plain_digits (b ∷ s) h =
    by_test (eqb b newline)
    (λ e. absurd (false≢true (rw (eqb-true b newline e) at (and_left (is_digit b) (all_digits s) h))))
    (λ e. rw e (omega (arith, plain_digits s (and_right (is_digit b) (all_digits s) h))))

-- a line without its newline
abbrev pub unended : List ℕ → List ℕ
unended t = take (length t - 1) t

-- no text, or one line of digits in P
pub data LineText (P : List ℕ → Type 0) : List ℕ → Type 0 where
  no_text : LineText P []
  one_line : (b : ℕ) (c : List ℕ) → all_digits (b ∷ c) ≡ true → P (b ∷ c) → LineText P ((b ∷ c) ++ newline ∷ [])

-- the only one of its text
pub digits_line : (b : ℕ) (c : List ℕ) → all_digits (b ∷ c) ≡ true → lines_of ((b ∷ c) ++ newline ∷ []) ≡ (b ∷ c) ∷ []
unfolding lines_of
digits_line b c d = ap lines_of (sym (append-nil ((b ∷ c) ++ newline ∷ []))) ∙ line_first (b ∷ c) [] (plain_digits (b ∷ c) d)

-- before another text
pub lines_after : (P : List ℕ → Type 0) (t u : List ℕ) → LineText P t → lines_of (t ++ u) ≡ lines_of t ++ lines_of u
unfolding lines_of
lines_after P [] u no_text = refl
lines_after P _ u (one_line b c d p) =
    line_first (b ∷ c) u (plain_digits (b ∷ c) d) ∙ ap (λ (l : List (List ℕ)). l ++ lines_of u) (sym (digits_line b c d))

pub line_lines : (P : List ℕ → Type 0) (t u : List ℕ) → LineText P t → Each P (lines_of u) → Each P (lines_of (t ++ u))
line_lines P [] u no_text h = h
line_lines P _ u (one_line b c d p) h = subst (Each P) (sym (line_first (b ∷ c) u (plain_digits (b ∷ c) d))) (p also h)
