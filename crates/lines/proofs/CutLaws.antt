-- Lines of a text that is read in parts: the first lines taken from it, and an unended line cut where it is too long to matter.
-- Assumes nothing.
use mathlib.Core.Path.{◌≡◌, refl, sym, ap, subst, ◌∙◌}
use mathlib.Core.List.{List, [], ◌∷◌, ◌++◌, append-nil}
use Prim.Native.Nat.{ℕ, zero, suc, ◌+◌, ◌≤◌, ◌<◌}
use native.Mathlib.Omega.{arith}
use lib.ListN.{length, take, drop, length-append, length-drop}
use lib.Seq.{drop-drop, take_all, length-take-le}
use lib.Dec.{eqb, leb, ltb}
use borrow.Author.Tests.{leb-true, leb-false, ltb-true, ltb-false}
use Rattle.word.proofs.CaseLaws.{by_test}
use Rattle.lines.specs.Texts.{onto, lines_of, newline_at, ended_lines, size_of, last_line}
use Rattle.lines.proofs.SearchLaws.{ended_first, ended_none}
use Rattle.lines.proofs.TextLaws.{Plain, lines_on_law}

-- ---- some of the lines that end in a text, from the first on

-- the first line, where one ends
lines_ended : (t u : List ℕ) → newline_at t < length t
    → lines_of (t ++ u) ≡ take (newline_at t) t ∷ lines_of (drop (suc (newline_at t)) t ++ u)
unfolding lines_of newline_at
lines_ended [] u h = absurd (omega arith)
lines_ended (b ∷ t) u h =
    by_test (eqb b 10)
    (λ e. rw e refl)
    (λ e. let g : newline_at t < length t = omega (arith, rw e at h) in
    rw e (ap (onto b) (lines_ended t u g)))

-- the first of some, and the others
head : List (List ℕ) → List ℕ
head [] = []
head (s ∷ l) = s

tail : List (List ℕ) → List (List ℕ)
tail [] = []
tail (s ∷ l) = l

module _ (t : List ℕ) (s : List ℕ) (l r : List (List ℕ)) (e : ended_lines t ≡ (s ∷ l) ++ r) where
  some_ends : newline_at t < length t
  some_ends =
      by_test (ltb (newline_at t) (length t))
      (λ g. ltb-true (newline_at t) (length t) g)
      (λ g. let n : 0 ≡ suc (length (l ++ r)) = ap (λ (x : List (List ℕ)). length x) (sym (ended_none t (ltb-false (newline_at t) (length t) g)) ∙ e) in
      absurd (omega (arith, n)))

  first_is : take (newline_at t) t ≡ s
  unfolding head
  first_is = ap head (sym (ended_first t some_ends) ∙ e)

  others_are : ended_lines (drop (suc (newline_at t)) t) ≡ l ++ r
  unfolding tail
  others_are = ap tail (sym (ended_first t some_ends) ∙ e)

  first_width : length s ≡ newline_at t
  first_width = ap length (sym first_is) ∙ length-take-le (newline_at t) t (omega (arith, some_ends))

-- the others are those of the rest
pub lines_split : (l r : List (List ℕ)) (t u : List ℕ) → ended_lines t ≡ l ++ r
    → lines_of (t ++ u) ≡ l ++ lines_of (drop (size_of l) t ++ u)
unfolding size_of
lines_split [] r t u e = refl
lines_split (s ∷ l) r t u e =
    let w : suc (newline_at t) ≡ suc (length s) = ap (λ (k : ℕ). suc k) (sym (first_width t s l r e)) in
    lines_ended t u (some_ends t s l r e)
    ∙ (λ i. first_is t s l r e i ∷ lines_split l r (drop (suc (newline_at t)) t) u (others_are t s l r e) i)
    ∙ ap (λ (x : List ℕ). s ∷ (l ++ lines_of (x ++ u)))
    (drop-drop (size_of l) (suc (newline_at t)) t ∙ ap (λ (k : ℕ). drop (k + size_of l) t) w)

-- they lie in the text
pub lines_within : (l r : List (List ℕ)) (t : List ℕ) → ended_lines t ≡ l ++ r → size_of l ≤ length t
unfolding size_of
lines_within [] r t e = omega arith
lines_within (s ∷ l) r t e =
    let i = lines_within l r (drop (suc (newline_at t)) t) (others_are t s l r e) in
    omega (arith, i, length-drop (suc (newline_at t)) t, first_width t s l r e, some_ends t s l r e)

-- where all of them are taken, no line ends in the rest
pub rest_plain : (l : List (List ℕ)) (t : List ℕ) → ended_lines t ≡ l → Plain (drop (size_of l) t)
unfolding size_of
rest_plain [] t e =
    by_test (ltb (newline_at t) (length t))
    (λ g. let n : suc (length (ended_lines (drop (suc (newline_at t)) t))) ≡ 0 =
    ap (λ (x : List (List ℕ)). length x) (sym (ended_first t (ltb-true (newline_at t) (length t) g)) ∙ e) in
    absurd (omega (arith, n)))
    (λ g. ltb-false (newline_at t) (length t) g)
rest_plain (s ∷ l) t e =
    let all : ended_lines t ≡ (s ∷ l) ++ [] = e ∙ sym (append-nil (s ∷ l)) in
    let w : suc (newline_at t) + size_of l ≡ suc (length s) + size_of l = ap (λ (k : ℕ). suc k + size_of l) (sym (first_width t s l [] all)) in
    subst Plain (drop-drop (size_of l) (suc (newline_at t)) t ∙ ap (λ (k : ℕ). drop k t) w)
    (rest_plain l (drop (suc (newline_at t)) t) (others_are t s l [] all ∙ append-nil l))

-- ---- a long line cut

pub plain_take : (k : ℕ) (c : List ℕ) → Plain c → Plain (take k c)
unfolding newline_at
plain_take zero c p = omega arith
plain_take (suc k) [] p = omega arith
plain_take (suc k) (b ∷ c) p =
    by_test (eqb b 10)
    (λ e. absurd (omega (arith, rw e at p)))
    (λ e. let g : length c ≤ newline_at c = omega (arith, rw e at p) in
    rw e (omega (arith, plain_take k c g)))

-- what is said of lines, to which lines of k bytes or more are all the same
module _ {X : Type 0} (f : List (List ℕ) → X) (k : ℕ) (some : 0 < k)
    (long : (s t : List ℕ) (r : List (List ℕ)) → k ≤ length s → k ≤ length t → f (s ∷ r) ≡ f (t ∷ r)) where
  both : (c d u : List ℕ) → Plain c → Plain d → k ≤ length c → k ≤ length d → f (lines_of (c ++ u)) ≡ f (lines_of (d ++ u))
  both [] d u p q g h = absurd (omega (arith, some, g))
  both (x ∷ c) [] u p q g h = absurd (omega (arith, some, h))
  both (x ∷ c) (y ∷ d) u p q g h =
      let v = take (newline_at u) u in
      ap f (lines_on_law x c u p)
      ∙ long ((x ∷ c) ++ v) ((y ∷ d) ++ v) _
      (omega (arith, g, length-append (x ∷ c) v)) (omega (arith, h, length-append (y ∷ d) v))
      ∙ sym (ap f (lines_on_law y d u q))

  pub cut : (c u : List ℕ) → Plain c → f (lines_of (take k c ++ u)) ≡ f (lines_of (c ++ u))
  cut c u p =
      by_test (leb (length c) k)
      (λ h. ap (λ (x : List ℕ). f (lines_of (x ++ u))) (take_all k c (leb-true (length c) k h)))
      (λ h. let g : k < length c = leb-false (length c) k h in
      let l : length (take k c) ≡ k = length-take-le k c (omega arith) in
      both (take k c) c u (plain_take k c p) p (omega arith) (omega arith))

-- ---- the end of input

pub last_line_law : (c : List ℕ) → Plain c → lines_of c ≡ last_line c
unfolding newline_at lines_of
last_line_law [] p = refl
last_line_law (b ∷ c) p = ap lines_of (sym (append-nil (b ∷ c))) ∙ lines_on_law b c [] p ∙ (λ i. append-nil (b ∷ c) i ∷ [])
