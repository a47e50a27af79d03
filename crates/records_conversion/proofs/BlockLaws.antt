-- A block converted line by line: what is left of it gives what the whole gives.
-- Assumes nothing.
use Rattle.std.proofs.Common.{◌≡◌, ℕ, suc, ◌+◌, ◌-◌, ◌<◌, ◌≤◌, true, false, cond, eqb, List, [], ◌∷◌, length, take, drop, sym, refl, ap, ◌∙◌, arith, ne_eqb}
use Rattle.refusals.specs.declared.Refusal.{Refusal}
use Rattle.refusals.specs.Numbers.{number_of}
use Rattle.hex_digits.specs.Output.{Output}
use Rattle.lines.specs.Texts.{newline_at, ended_lines, size_of}
use Rattle.lines.proofs.SearchLaws.{ended_none, none_from, first_from, width_from}
use Rattle.records_lines.proofs.ConversionLaws.{is_refusal}
use Rattle.records_conversion.specs.declared.Way.{Way}
use Rattle.records_conversion.specs.Conversion.{converted_by}
use Rattle.records_conversion.specs.Loop.{Progress, progress, line_done, lines_done, refused_with, block_done, block_from}

-- once the work is over, nothing is converted
pub nothing_more : (w : Way) (l : List (List ℕ)) (p : Progress) → p.over ≡ true → lines_done w l p ≡ p
unfolding lines_done
nothing_more w [] p h = refl
nothing_more w (s ∷ l) p h = rw h refl

-- the lines before `from` have been converted, the last of them line `last`, and none was refused; the next one ends at `to`
pub record Converting (w : Way) (t : List ℕ) (p₀ : Progress) (o : Output) (last from to : ℕ) : Type 0 where
  pub upto : from ≤ length t
  pub ends : to ≡ from + newline_at (drop from t)
  pub done : lines_done w (ended_lines (drop from t)) (progress o last false) ≡ lines_done w (ended_lines t) p₀
  pub place : from + size_of (ended_lines (drop from t)) ≡ size_of (ended_lines t)

-- and so the refusal that ends the work is one of what is left
pub record Unrefused (w : Way) (t : List ℕ) (p₀ : Progress) (o : Output) (last from to : ℕ) : Type 0 where
  pub converting : Converting w t p₀ o last from to
  pub refusal : refused_with w (ended_lines (drop from t)) ≡ refused_with w (ended_lines t)

module _ (w : Way) (t : List ℕ) (p₀ : Progress) (o : Output) (last from to : ℕ) (r : Converting w t p₀ o last from to) where
  -- no line is left
  pub converting_over : length t ≤ to → block_done (progress o last false) from ≡ block_from w t p₀
  unfolding lines_done size_of
  converting_over h =
      let none : ended_lines (drop from t) ≡ [] = ended_none (drop from t) (none_from t from to r.ends h) in
      let p : progress o last false ≡ lines_done w (ended_lines t) p₀ =
      sym (ap (λ (l : List (List ℕ)). lines_done w l (progress o last false)) none) ∙ r.done in
      let s : size_of (ended_lines (drop from t)) ≡ 0 = ap size_of none in
      let f : from ≡ size_of (ended_lines t) = omega (arith, r.place, s) in
      (λ i. block_done (p i) (cond (p i).over (length t) (f i)))

  module _ (h : to < length t) where
    abbrev line : List ℕ
    line = take (to - from) (drop from t)

    first : ended_lines (drop from t) ≡ line ∷ ended_lines (drop (to + 1) t)
    first = first_from t from to r.ends h

    -- the line and the others
    next_done : (p : Progress) → p ≡ line_done (converted_by w line) (progress o last false)
        → lines_done w (ended_lines (drop (to + 1) t)) p ≡ lines_done w (ended_lines t) p₀
    unfolding lines_done
    next_done p e =
        ap (lines_done w (ended_lines (drop (to + 1) t))) e
        ∙ sym (ap (λ (l : List (List ℕ)). lines_done w l (progress o last false)) first)
        ∙ r.done

    module _ (o' : Output) (i : ℕ) where
      pub converting_refused : progress o' i true ≡ line_done (converted_by w line) (progress o last false)
          → block_done (progress o' i true) (length t) ≡ block_from w t p₀
      converting_refused e =
          let p : progress o' i true ≡ lines_done w (ended_lines t) p₀ =
          sym (nothing_more w (ended_lines (drop (to + 1) t)) (progress o' i true) refl) ∙ next_done (progress o' i true) e in
          (λ k. block_done (p k) (cond (p k).over (length t) (size_of (ended_lines t))))

      pub converting_more : progress o' i false ≡ line_done (converted_by w line) (progress o last false)
          → (to' : ℕ) → to' ≡ to + 1 + newline_at (drop (to + 1) t) → Converting w t p₀ o' i (to + 1) to'
      unfolding size_of
      converting_more e to' k =
          record {
            upto = omega arith;
            ends = k;
            done = next_done (progress o' i false) e;
            place =
                let s : size_of (ended_lines (drop from t)) ≡ suc (length line) + size_of (ended_lines (drop (to + 1) t)) = ap size_of first in
                omega (arith, r.place, s, width_from t from to r.ends h, r.ends);
          }

-- ---- the refusal

module _ (w : Way) (t : List ℕ) (p₀ : Progress) (o : Output) (last from to : ℕ) (r : Unrefused w t p₀ o last from to) where
  pub none_refused : length t ≤ to → 0 ≡ refused_with w (ended_lines t)
  unfolding refused_with
  none_refused h = sym (ap (refused_with w) (ended_none (drop from t) (none_from t from to r.converting.ends h))) ∙ r.refusal

  module _ (h : to < length t) where
    abbrev next_line : List ℕ
    next_line = line w t p₀ o last from to r.converting h

    -- the line's refusal, or that of the others
    next_refusal : (n : ℕ) → n ≡ (converted_by w next_line).refusal
        → cond (eqb n 0) (refused_with w (ended_lines (drop (to + 1) t))) n ≡ refused_with w (ended_lines t)
    unfolding refused_with
    next_refusal n e =
        ap (λ (m : ℕ). cond (eqb m 0) (refused_with w (ended_lines (drop (to + 1) t))) m) e
        ∙ sym (ap (refused_with w) (first w t p₀ o last from to r.converting h))
        ∙ r.refusal

    pub line_refusal : (n : Refusal) → number_of n ≡ (converted_by w next_line).refusal → number_of n ≡ refused_with w (ended_lines t)
    line_refusal n e = rw (ne_eqb (number_of n) 0 (is_refusal n)) at (next_refusal (number_of n) e)

    module _ (o' : Output) (i : ℕ) where
      pub unrefused_more : progress o' i false ≡ line_done (converted_by w next_line) (progress o last false)
          → 0 ≡ (converted_by w next_line).refusal → (to' : ℕ) → to' ≡ to + 1 + newline_at (drop (to + 1) t)
          → Unrefused w t p₀ o' i (to + 1) to'
      unrefused_more e z to' k =
          record { converting = converting_more w t p₀ o last from to r.converting h o' i e to' k; refusal = next_refusal 0 z }
