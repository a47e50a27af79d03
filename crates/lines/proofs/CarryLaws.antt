-- Part of a block at its front: the bytes copied so far, and those still where they were.
-- Assumes nothing.
use mathlib.Core.Path.{◌≡◌, sym, ap, ◌∙◌}
use mathlib.Core.List.{List, [], ◌∷◌}
use Prim.Native.Nat.{ℕ, zero, suc, min, ◌+◌, ◌-◌, ◌≤◌, ◌<◌}
use native.Mathlib.Omega.{arith}
use lib.ListN.{length, take, drop, length-drop, drop_of_length-le}
use lib.Seq.{take-take, take_all, take-nil, length-take-le, paste}
use lib.Dec.{ltb}
use borrow.Author.Tests.{ltb-true, ltb-false}
use Rattle.std.proofs.lemmas.List.{take_at}
use Rattle.word.proofs.CaseLaws.{by_test}

-- ---- the part: from `from` to `end`, both moved into the block

pub drop_take : (f e : ℕ) (b : List ℕ) → f ≤ e → drop f (take e b) ≡ take (e - f) (drop f b)
drop_take zero e b h = let k : e ≡ e - 0 = omega arith in ap (λ (i : ℕ). take i b) k
drop_take (suc f) zero b h = absurd (omega arith)
drop_take (suc f) (suc e) [] h = sym (take-nil (suc e - suc f))
drop_take (suc f) (suc e) (x ∷ b) h =
    let k : e - f ≡ suc e - suc f = omega arith in
    drop_take f e b (omega arith) ∙ ap (λ (i : ℕ). take i (drop f b)) k

-- the lesser of two numbers
abbrev pub Least : ℕ → ℕ → ℕ → Type 0
Least a b r = (r ≤ a) × (r ≤ b) × (r < a → r ≡ b)

pub least_is : (a b r : ℕ) → r ≡ min a b → Least a b r
least_is a b r e = rw e (omega arith, omega arith, λ h. omega (arith, h))

pub least_take : (a : ℕ) (b : List ℕ) (r : ℕ) → Least a (length b) r → take r b ≡ take a b
least_take a b r l =
    by_test (ltb r a)
    (λ h. let g : r ≡ length b = l.2 (ltb-true r a h) in
    take_all r b (omega arith) ∙ sym (take_all a b (omega (arith, l.0))))
    (λ h. let g : r ≡ a = omega (arith, ltb-false r a h, l.0) in
    ap (λ (k : ℕ). take k b) g)

pub least_drop : (a : ℕ) (b : List ℕ) (r : ℕ) → Least a (length b) r → drop r b ≡ drop a b
least_drop a b r l =
    by_test (ltb r a)
    (λ h. let g : r ≡ length b = l.2 (ltb-true r a h) in
    drop_of_length-le b {i = r} (omega arith) ∙ sym (drop_of_length-le b {i = a} (omega (arith, l.0))))
    (λ h. let g : r ≡ a = omega (arith, ltb-false r a h, l.0) in
    ap (λ (k : ℕ). drop k b) g)

-- e and f are `end` and `from`, moved into the block
module _ (b : List ℕ) (from end e f : ℕ) (le : Least end (length b) e) (lf : Least from e f) where
  clipped : drop f (take e b) ≡ drop from (take e b)
  clipped =
      by_test (ltb f from)
      (λ h. let g : f ≡ e = lf.2 (ltb-true f from h) in
      let n = length-take-le e b le.1 in
      drop_of_length-le (take e b) {i = f} (omega (arith, n, g)) ∙ sym (drop_of_length-le (take e b) {i = from} (omega (arith, n, lf.0, g))))
      (λ h. let g : f ≡ from = omega (arith, ltb-false f from h, lf.0) in
      ap (λ (k : ℕ). drop k (take e b)) g)

  pub part : take (e - f) (drop f b) ≡ drop from (take end b)
  part = sym (drop_take f e b lf.1) ∙ clipped ∙ ap (λ (t : List ℕ). drop from t) (least_take end b e le)

  pub part_length : length (take (e - f) (drop f b)) ≡ e - f
  part_length = length-take-le (e - f) (drop f b) (rw (length-drop f b) (omega (arith, le.1)))

-- ---- moved to the front: all that is kept, at most so many of the part

module _ (b : List ℕ) (from end most e f left : ℕ) (le : Least end (length b) e) (lf : Least from e f) (ll : Least (e - f) most left) where
  -- the lesser of both is either
  fewer : take left (drop f b) ≡ take most (take (e - f) (drop f b))
  fewer =
      by_test (ltb left (e - f))
      (λ h. let g : left ≡ most = ll.2 (ltb-true left (e - f) h) in
      ap (λ (i : ℕ). take i (drop f b)) g ∙ sym (take-take most (e - f) (drop f b) (omega (arith, ll.0, g))))
      (λ h. let g : left ≡ e - f = omega (arith, ltb-false left (e - f) h, ll.0) in
      ap (λ (i : ℕ). take i (drop f b)) g
      ∙ sym (take_all most (take (e - f) (drop f b)) (rw (part_length b from end e f le lf) (omega (arith, ll.1, g)))))

  pub carried : (s : List ℕ) → s ≡ paste b 0 (drop f b) (f + left - f) → take left s ≡ take most (drop from (take end b))
  carried s h =
      let n : f + left - f ≡ left = omega arith in
      let w : length (take left (drop f b)) ≡ left = length-take-le left (drop f b) (rw (length-drop f b) (omega (arith, ll.0, lf.1, le.1))) in
      ap (take left) (h ∙ ap (λ (k : ℕ). paste b 0 (drop f b) k) n)
      ∙ take_at (take left (drop f b)) (drop (0 + left) b) left w
      ∙ fewer
      ∙ ap (take most) (part b from end e f le lf)
