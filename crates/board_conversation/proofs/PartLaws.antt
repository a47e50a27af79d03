-- The part of a block that is not answered yet: where it lies, before an exchange of the loop and after it.
-- Assumes nothing.
use Rattle.std.proofs.Common.{◌≡◌, ℕ, ◌+◌, ◌-◌, ◌<◌, ◌≤◌, Bool, true, false, cond, List, [], ◌∷◌, length, take, drop, sym, refl, ap, ◌∙◌, arith, drop-drop}
use Rattle.run_spec.specs.Run.{Board}
use Rattle.board_lines.specs.Printouts.{Printout, totalled}
use Rattle.lines.specs.Texts.{next, ends_line, last_line}
use Rattle.board_conversation.specs.Code.{BoardIo, board_io, line_on}
use Rattle.board_conversation.specs.Blocks.{LineAnswered, line_answered, answered_unless, lines_on, BlockAnswered, block_answered, block_on}
use Rattle.board_conversation.specs.Loop.{carried_of, exchange, exchange_of, totals_on}
use Rattle.lines.proofs.CarryLaws.{Least, drop_take, part, part_length}
use Rattle.board_conversation.proofs.LineLaws.{exchange_within}

-- e and f are `end` and `from`, moved into the block
module _ (b : List ℕ) (from end e f : ℕ) (le : Least end (length b) e) (lf : Least from e f) where
  -- the place that an exchange leaves is within the part
  pub rest_within : (n l r : ℕ) (m : Bool) (d d₀ : BoardIo) → block_answered d l r m ≡ block_on n (take (e - f) (drop f b)) d₀ → f + r ≤ e
  rest_within n l r m d d₀ h =
      omega (arith, ap (λ (x : BlockAnswered). x.rest) h, exchange_within (take (e - f) (drop f b)), part_length b from end e f le lf, lf.1)

  -- what stands from there on
  beyond : (r : ℕ) → drop (f + r) (take e b) ≡ drop r (take (e - f) (drop f b))
  beyond r = sym (drop-drop r f (take e b)) ∙ ap (λ (t : List ℕ). drop r t) (drop_take f e b lf.1)

  module _ (n l r : ℕ) (m : Bool) (d d₀ : BoardIo) (h : block_answered d l r m ≡ block_on n (take (e - f) (drop f b)) d₀) where
    -- the answer of an exchange with the bytes s kept
    exchange_is : (s : List ℕ) → s ≡ carried_of (drop r (take (e - f) (drop f b))) → exchange d l s m ≡ exchange_of n (drop from (take end b)) d₀
    exchange_is s g =
        (λ i. exchange (h i).board_io (h i).last
        ((g ∙ ap (λ (k : ℕ). carried_of (drop k (take (e - f) (drop f b)))) (ap (λ (x : BlockAnswered). x.rest) h)) i) (h i).more)
        ∙ ap (λ (t : List ℕ). exchange_of n t d₀) (part b from end e f le lf)

    more_is : m ≡ ends_line (drop r (take (e - f) (drop f b)))
    more_is =
        ap (λ (x : BlockAnswered). x.more) h
        ∙ ap (λ (k : ℕ). ends_line (drop k (take (e - f) (drop f b)))) (sym (ap (λ (x : BlockAnswered). x.rest) h))

    pub exchange_more : m ≡ true → exchange d l (drop (f + r) (take e b)) true ≡ exchange_of n (drop from (take end b)) d₀
    exchange_more g =
        ap (λ (x : Bool). exchange d l (drop (f + r) (take e b)) x) (sym g)
        ∙ exchange_is (drop (f + r) (take e b))
        (beyond r ∙ ap (λ (x : Bool). cond x (drop r (take (e - f) (drop f b))) (take 75 (drop r (take (e - f) (drop f b))))) (sym g ∙ more_is))

    pub exchange_last : (k : ℕ) (c : List ℕ) → m ≡ false → take k c ≡ take 75 (drop (f + r) (take e b))
        → exchange d l (drop 0 (take k c)) false ≡ exchange_of n (drop from (take end b)) d₀
    exchange_last k c g i =
        ap (λ (x : Bool). exchange d l (take k c) x) (sym g)
        ∙ exchange_is (take k c)
        (i
        ∙ ap (λ (t : List ℕ). take 75 t) (beyond r)
        ∙ ap (λ (x : Bool). cond x (drop r (take (e - f) (drop f b))) (take 75 (drop r (take (e - f) (drop f b))))) (sym g ∙ more_is))

  -- ---- the end of input: the last line, if any

  pub none_left : (n : ℕ) (d : BoardIo) → e ≤ f → d ≡ lines_on (next n) (last_line (drop from (take end b))) d
  unfolding lines_on
  none_left n d h =
      let z : e - f ≡ 0 = omega arith in
      let g : drop from (take end b) ≡ [] = sym (part b from end e f le lf) ∙ ap (λ (i : ℕ). take i (drop f b)) z in
      rw g refl

  pub one_left : (n : ℕ) (d d₀ : BoardIo) (w : Bool) → f < e → line_answered d w ≡ answered_unless false (next n) (take (e - f) (drop f b)) d₀
      → d ≡ lines_on (next n) (last_line (drop from (take end b))) d₀
  unfolding lines_on
  one_left n d d₀ w h j =
      ap (λ (y : LineAnswered). y.board_io) j
      ∙ go (take (e - f) (drop f b)) (omega (arith, part_length b from end e f le lf, lf.1, h))
      ∙ ap (λ (s : List ℕ). lines_on (next n) (last_line s) d₀) (part b from end e f le lf)
    where
      go : (s : List ℕ) → 0 < length s → line_on (next n) s d₀ ≡ lines_on (next n) (last_line s) d₀
      go [] p = absurd (omega arith)
      go (y ∷ s) p = refl

-- and the totals under it
pub finished : (d : BoardIo) (b : Board) (o o' : Printout) → board_io b o ≡ d → o' ≡ totalled o → board_io b o' ≡ totals_on d
finished d b o o' e h = ap (board_io b) h ∙ ap totals_on e
