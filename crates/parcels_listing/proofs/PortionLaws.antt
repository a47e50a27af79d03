-- A portion of the list, line by line.
-- Assumes nothing.
use Prim.Native.Nat.{ℕ, suc, ◌+◌, ◌-◌, ◌*◌, ◌≤◌, ◌<◌}
use mathlib.Core.Path.{◌≡◌, refl, sym, ap, subst, ◌∙◌}
use mathlib.Core.Bool.{Bool, true, false}
use mathlib.Core.List.{List, [], ◌∷◌, ◌++◌}
use native.Mathlib.Nat.{zero-add}
use native.Mathlib.Omega.{arith}
use lib.ListN.{length, take, drop, get_or, length-take, length-drop, drop_of_length-le}
use lib.Seq.{take-suc, take_all, drop-cons}
use lib.Dec.{ltb}
use borrow.Author.Tests.{ltb-true, ltb-false}
use Rattle.word.proofs.CaseLaws.{by_test}
use Rattle.hex_digits.specs.Output.{output, written, printed}
use Rattle.hex_digits.proofs.OutputLaws.{length_written, written_on, fits, shown}
use Rattle.parcels_listing.specs.Listing.{on_list, parcel_count, listed_of, listed_from, line_size, parcel_line, parcel_lines}
use Rattle.parcels_listing.specs.Portions.{Portion, portion, line_room, next_of, portion_of}
use Rattle.parcels_listing.proofs.ListingLaws.{none_from, listed_from_law, unlisted_from, member_at, rising_list, from_place}
use Rattle.parcels_listing.proofs.LineLaws.{lines_append, length_lines, first_lines, one_line}

-- what stands at a place of a list and after it
module _ (l : List ℕ) (k q : ℕ) (r : List ℕ) (e : drop k l ≡ q ∷ r) where
  at_within : k < length l
  at_within = omega (arith, ap length e, length-drop k l)

  at_there : (get_or l k 0 ∷ drop (suc k) l) ≡ q ∷ r
  at_there = sym (drop-cons l k 0 at_within) ∙ e

  at_taken : take (suc k) l ≡ take k l ++ (q ∷ [])
  at_taken = take-suc l k 0 at_within ∙ ap (λ (x : ℕ). take k l ++ (x ∷ [])) (cc (at_there))

  at_after : drop (suc k) l ≡ r
  at_after = cc (at_there)

module _ (first : ℕ) (o : List ℕ) where
  -- the lines that are in the buffer x up to a place, where the parcel p is the next to be looked at
  pub record LinesIn (x : List ℕ) (p place : ℕ) : Type 0 where
    pub count : ℕ
    pub upto : place ≡ count * line_size
    pub fit : place ≤ length o
    pub known : count ≤ length (listed_from first)
    pub bytes : x ≡ written o 0 (parcel_lines (take count (listed_from first)))
    pub rest : drop count (listed_from first) ≡ listed_from p
    pub long : length x ≡ length o

  pub nothing_yet : LinesIn o first 0
  unfolding parcel_lines
  nothing_yet =
      record {
        count = 0;
        upto = refl;
        fit = omega arith;
        known = omega arith;
        bytes = refl;
        rest = refl;
        long = refl;
      }

  -- where the ways of the loop meet
  pub filled_as : (x y : List ℕ) (p a b : ℕ) → x ≡ y → a ≡ b → LinesIn y p b → LinesIn x p a
  filled_as x y p a b e g f = rw (e, g) f

  pub passed_over : (x : List ℕ) (p place : ℕ) → LinesIn x p place → p < parcel_count → on_list p ≡ false → LinesIn x (p + 1) place
  passed_over x p place f h e =
      record {
        count = f.count;
        upto = f.upto;
        fit = f.fit;
        known = f.known;
        bytes = f.bytes;
        rest = f.rest ∙ unlisted_from p h e;
        long = f.long;
      }

  pub another_line : (x y : List ℕ) (p place : ℕ) → LinesIn x p place → p < parcel_count → on_list p ≡ true
      → place + line_size ≤ length x → y ≡ written x place (parcel_line p) → LinesIn y (p + 1) (place + line_size)
  another_line x y p place f h e r w =
      let l = listed_from first in
      let k = f.count in
      let g : drop k l ≡ p ∷ listed_from (p + 1) = f.rest ∙ listed_from_law p h e in
      let z : length (parcel_lines (take k l)) ≡ place = first_lines l k f.known ∙ sym f.upto in
      record {
        count = suc k;
        upto = omega (arith, f.upto);
        fit = omega (arith, f.long);
        known = omega (arith, at_within l k p (listed_from (p + 1)) g);
        bytes =
            w
            ∙ (λ i. written (f.bytes i) ((sym z ∙ sym (zero-add _)) i) (parcel_line p))
            ∙ written_on (parcel_lines (take k l)) (parcel_line p) o 0
            ∙ ap (written o 0)
            (ap (λ (t : List ℕ). parcel_lines (take k l) ++ t) (sym (one_line p))
            ∙ sym (lines_append (take k l) (p ∷ []))
            ∙ ap parcel_lines (sym (at_taken l k p (listed_from (p + 1)) g)));
        rest = at_after l k p (listed_from (p + 1)) g;
        long = ap length w ∙ length_written (parcel_line p) x place ∙ f.long;
      }

  -- what is there is the portion of k lines
  module _ (x : List ℕ) (p place : ℕ) (f : LinesIn x p place) where
    filled_output : output x place ≡ printed (parcel_lines (take f.count (listed_from first))) (output o 0)
    filled_output =
        let l = listed_from first in
        let z : place ≡ length (parcel_lines (take f.count l)) = f.upto ∙ sym (first_lines l f.count f.known) in
        ap (output x) (sym (zero-add place)) ∙ fits (parcel_lines (take f.count l)) o 0 x place z (omega (arith, f.fit)) f.bytes

    -- no room for another line
    pub portion_full : (t : Bool) → p < parcel_count → t ≡ on_list p → t ≡ true → length x - place < line_size
        → portion p (output x place) ≡ portion_of first o
    portion_full t h d e r =
        let k : line_room o ≡ f.count = omega (arith, f.long, f.upto, f.fit) in
        let g : drop f.count (listed_from first) ≡ p ∷ listed_from (p + 1) = f.rest ∙ listed_from_law p h (sym d ∙ e) in
        rw k (λ i. portion (next_of (sym g i)) (filled_output i))

    -- no parcel left
    pub portion_last : parcel_count ≤ p → portion parcel_count (output x place) ≡ portion_of first o
    portion_last h =
        let l = listed_from first in
        let n : drop f.count l ≡ [] = f.rest ∙ none_from p h in
        let m : length l ≤ f.count = omega (arith, ap length n, length-drop f.count l) in
        let k : f.count ≤ line_room o = omega (arith, f.upto, f.fit) in
        let t : take f.count l ≡ take (line_room o) l = take_all f.count l m ∙ sym (take_all (line_room o) l (omega arith)) in
        let d : drop (line_room o) l ≡ [] = drop_of_length-le l {i = line_room o} (omega arith) in
        (λ i. portion (next_of (sym d i)) (filled_output i)) ∙ ap (λ (s : List ℕ). portion (next_of (drop (line_room o) l)) (printed (parcel_lines s) (output o 0))) t

-- ---- what a portion is, what is left, and that it goes on

next_there : (l : List ℕ) (k : ℕ) → k < length l → next_of (drop k l) ≡ get_or l k 0
next_there l k h = ap next_of (drop-cons l k 0 h)

next_none : (l : List ℕ) (k : ℕ) → length l ≤ k → next_of (drop k l) ≡ parcel_count
next_none l k h = ap next_of (drop_of_length-le l h)

module _ (p : ℕ) (o : List ℕ) where
  pub portion_shown : take (portion_of p o).output.place (portion_of p o).output.bytes ≡ parcel_lines (take (line_room o) (listed_from p))
  portion_shown =
      shown (parcel_lines (take (line_room o) (listed_from p))) o
      (omega (arith, length_lines (take (line_room o) (listed_from p)), length-take (line_room o) (listed_from p)))

  pub portion_rest : listed_from (portion_of p o).next ≡ drop (line_room o) (listed_from p)
  portion_rest =
      let l = listed_from p in
      let k = line_room o in
      by_test (ltb k (length l))
      (λ e. let w : k < length l = ltb-true k (length l) e in
      by_test (ltb p parcel_count)
      (λ g. let z : p + (parcel_count - p) ≡ parcel_count = omega (arith, ltb-true p parcel_count g) in
      rw (next_there l k w) (ap (λ (n : ℕ). listed_of (n - get_or l k 0) (get_or l k 0)) (sym z) ∙ from_place (parcel_count - p) p k w))
      (λ g. absurd (omega (arith, ap length (none_from p (ltb-false p parcel_count g))))))
      (λ e. let h : length l ≤ k = ltb-false k (length l) e in
      rw (next_none l k h) (none_from parcel_count (omega arith) ∙ sym (drop_of_length-le l h)))

  pub portion_further : p < parcel_count → line_size ≤ length o → p < (portion_of p o).next
  portion_further h g =
      let l = listed_from p in
      let k = line_room o in
      by_test (ltb k (length l))
      (λ e. let w : k < length l = ltb-true k (length l) e in
      rw (next_there l k w)
      (omega (arith, (member_at (parcel_count - p) p 0 (omega arith)).from, rising_list (parcel_count - p) p 0 k (omega arith) w)))
      (λ e. rw (next_none l k (ltb-false k (length l) e)) h)

  -- the same of an answer
  pub answer_further : (n a : ℕ) (x : List ℕ) → portion n (output x a) ≡ portion_of p o → p < parcel_count → line_size ≤ length o → p < n
  answer_further n a x e h g = subst (λ (m : ℕ). p < m) (sym (ap (λ (z : Portion). z.next) e)) (portion_further h g)
