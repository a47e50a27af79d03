-- Frames: their numbers, the ways out of parsing a line, what a frame of kind 02 is, and that a line longer than the longest frame is bad.
-- Assumes nothing.
use Rattle.std.proofs.Common.{Option, Some, None, ◌≡◌, ℕ, ◌%◌, ◌≤◌, Bool, true, false, cond, ◌&&◌, eqb, leb, List, length, sym, refl, ap, ◌∙◌, arith, eq-eqb, ne_eqb, eqb-true, le-leb, leb-true}
use borrow.Author.Tests.{lt-leb}
use Rattle.word.proofs.CaseLaws.{by_test, and_left, and_right, either}
use Rattle.hex_digits.specs.Digits.{all_digits, number_at}
use Rattle.board_lines.specs.declared.Frame.{Frame}
use Rattle.board_lines.specs.declared.Frame.TheVariants.{Set, Store, Run, Confined}
use Rattle.board_lines.specs.Lines.{FrameNumbers, numbers_of, is_length, of_twelve, frame_of}

-- ---- "12 to 74 digits"

pub record FrameLength (n : ℕ) : Type 0 where
  pub least : 12 ≤ n
  pub most : n ≤ 74
  pub even : n % 2 ≡ 0

module _ (n : ℕ) where
  pub frame_length : is_length n ≡ true → FrameLength n
  frame_length h =
      let a : Bool = leb 12 n && leb n 74 in
      let b : a ≡ true = and_left a (eqb (n % 2) 0) h in
      record {
        least = leb-true 12 n (and_left (leb 12 n) (leb n 74) b);
        most = leb-true n 74 (and_right (leb 12 n) (leb n 74) b);
        even = eqb-true (n % 2) 0 (and_right a (eqb (n % 2) 0) h);
      }

  pub length_told : FrameLength n → is_length n ≡ true
  length_told l = rw (le-leb 12 n l.least, le-leb n 74 l.most, eq-eqb (n % 2) 0 l.even) refl

-- 75 bytes are no frame
pub too_long : (s : List ℕ) → 75 ≤ length s → None ≡ frame_of s
unfolding frame_of
too_long s h = rw (le-leb 12 (length s) (omega arith), lt-leb (length s) 74 (omega arith)) refl

-- ---- a frame and its numbers

frame_by : FrameNumbers → Option Frame
frame_by n =
    cond (eqb n.kind 1) (Some (Set n.first n.second))
    (cond (eqb n.kind 2) (Some (Store n.first))
    (cond (eqb n.kind 3) (Some (Run n.first n.second)) (cond (eqb n.kind 4) (Some (Confined n.first n.second)) None)))

back : (f : Option Frame) → frame_by (numbers_of f) ≡ f
unfolding frame_by
back (Some (Set a b)) = refl
back (Some (Store a)) = refl
back (Some (Run a b)) = refl
back (Some (Confined a b)) = refl
back None = refl

pub same_frame : (f g : Option Frame) → numbers_of f ≡ numbers_of g → f ≡ g
same_frame f g e = sym (back f) ∙ ap frame_by e ∙ back g

-- ---- all kinds

module _ (s : List ℕ) (t : Bool) (e : t ≡ is_length (length s)) where
  pub bad_length : t ≡ false → None ≡ frame_of s
  unfolding frame_of
  bad_length h = rw (sym e ∙ h) refl

  pub no_length : t ≡ false → numbers_of None ≡ numbers_of (frame_of s)
  no_length h = ap numbers_of (bad_length h)

  module _ (h : t ≡ true) (u : Bool) (g : u ≡ all_digits s) where
    pub no_digits : u ≡ false → numbers_of None ≡ numbers_of (frame_of s)
    unfolding frame_of
    no_digits f = rw (sym e ∙ h, sym g ∙ f) refl

    module _ (f : u ≡ true) (k : ℕ) (i : k ≡ number_at 2 s 0) where
      pub is_store : (a : ℕ) → k ≡ 2 → a ≡ number_at 8 s 2 → numbers_of (Some (Store a)) ≡ numbers_of (frame_of s)
      unfolding frame_of
      is_store a j l = rw (sym e ∙ h, sym g ∙ f, sym i, eq-eqb k 2 j, l) refl

      pub is_twelve : (x : Option Frame) → (k ≡ 2 → ⊥) → length s ≡ 12 → x ≡ of_twelve k s → numbers_of x ≡ numbers_of (frame_of s)
      unfolding frame_of
      is_twelve x j l o = rw (sym e ∙ h, sym g ∙ f, sym i, ne_eqb k 2 j, eq-eqb (length s) 12 l) (ap numbers_of o)

      pub no_kind : (k ≡ 2 → ⊥) → (length s ≡ 12 → ⊥) → numbers_of None ≡ numbers_of (frame_of s)
      unfolding frame_of
      no_kind j l = rw (sym e ∙ h, sym g ∙ f, sym i, ne_eqb k 2 j, ne_eqb (length s) 12 l) refl

-- ---- kind 02

pub record StoreForm (s : List ℕ) : Type 0 where
  pub long : FrameLength (length s)
  pub good : all_digits s ≡ true
  pub kind : number_at 2 s 0 ≡ 2

module _ (s : List ℕ) where
  Other : Option Frame → Type 0
  Other f = (numbers_of f).kind ≡ 2 → ⊥

  other_kinds : (k : ℕ) → Other (cond (eqb (length s) 12) (of_twelve k s) None)
  unfolding Other
  other_kinds k =
      either Other (eqb (length s) 12) (of_twelve k s) None
      (either Other (eqb k 1) (Some (Set (number_at 2 s 2) (number_at 8 s 4))) _ (λ e. omega arith)
      (either Other (eqb k 3) (Some (Run (number_at 8 s 2) (number_at 2 s 10))) _ (λ e. omega arith)
      (either Other (eqb k 4) (Some (Confined (number_at 8 s 2) (number_at 2 s 10))) None (λ e. omega arith) (λ e. omega arith))))
      (λ e. omega arith)

  -- a frame of this kind has this form
  pub store_form : (numbers_of (frame_of s)).kind ≡ 2 → StoreForm s
  unfolding frame_of Other
  store_form h =
      by_test (is_length (length s) && all_digits s)
      (λ e. by_test (eqb (number_at 2 s 0) 2)
      (λ f. record {
        long = frame_length (length s) (and_left (is_length (length s)) (all_digits s) e);
        good = and_right (is_length (length s)) (all_digits s) e;
        kind = eqb-true (number_at 2 s 0) 2 f;
      })
      (λ f. absurd (other_kinds (number_at 2 s 0) (rw (e, f) at h))))
      (λ e. absurd (omega (arith, rw e at h)))

  -- and a line of this form is such a frame
  pub form_store : StoreForm s → frame_of s ≡ Some (Store (number_at 8 s 2))
  unfolding frame_of
  form_store v = rw (length_told (length s) v.long, v.good, eq-eqb (number_at 2 s 0) 2 v.kind) refl
