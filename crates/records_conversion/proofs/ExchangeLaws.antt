-- The end of input, as the code meets it.
-- Assumes nothing.
use Rattle.std.proofs.Common.{◌≡◌, ℕ, ◌<◌, ◌≤◌, Bool, false, List, [], ◌∷◌, length, take, sym, refl, ap, ◌∙◌, arith, length-take-le}
use Rattle.hex_digits.specs.Output.{Output}
use Rattle.lines.specs.Texts.{last_line}
use Rattle.lines.proofs.CarryLaws.{Least, least_take}
use Rattle.records_conversion.specs.declared.Way.{Way}
use Rattle.records_conversion.specs.Conversion.{converted_by}
use Rattle.records_conversion.specs.Loop.{Progress, progress, line_done, lines_done}

-- e is `end`, moved into the block
module _ (w : Way) (b : List ℕ) (end e : ℕ) (le : Least end (length b) e) where
  pub none_left : (o : Output) (n : ℕ) → e ≤ 0 → o ≡ (lines_done w (last_line (take end b)) (progress o n false)).output
  unfolding lines_done
  none_left o n h =
      let z : e ≡ 0 = omega arith in
      let g : take end b ≡ [] = sym (least_take end b e le) ∙ ap (λ (k : ℕ). take k b) z in
      rw g refl

  pub one_left : (o o' : Output) (n m : ℕ) (v : Bool) → 0 < e
      → progress o' m v ≡ line_done (converted_by w (take e b)) (progress o n false)
      → o' ≡ (lines_done w (last_line (take end b)) (progress o n false)).output
  unfolding lines_done
  one_left o o' n m v h g =
      ap (λ (p : Progress). p.output) (g ∙ go (take e b) (rw (length-take-le e b le.1) (omega (arith, h))))
      ∙ ap (λ (t : List ℕ). (lines_done w (last_line t) (progress o n false)).output) (least_take end b e le)
    where
      go : (s : List ℕ) → 0 < length s → line_done (converted_by w s) (progress o n false) ≡ lines_done w (last_line s) (progress o n false)
      go [] p = absurd (omega arith)
      go (x ∷ s) p = refl
