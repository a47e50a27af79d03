-- What the program prints is the list.
-- Assumes nothing.
use Prim.Native.Nat.{ℕ, zero, suc, ◌-◌, ◌<◌, ◌≤◌}
use mathlib.Core.Path.{◌≡◌, refl, sym, ap, subst, ◌∙◌}
use mathlib.Core.List.{List, [], ◌∷◌, ◌++◌, append_assoc, append-nil}
use native.Mathlib.Omega.{arith}
use lib.ListN.{length, take, drop, take-append-drop}
use lib.Dec.{ltb}
use borrow.Author.Tests.{ltb-true, ltb-false}
use contract.Lifetimes.{Lfts}
use Rattle.std.specs.Borrow.{MutBor}
use Rattle.word.proofs.CaseLaws.{by_test}
use Rattle.hex_digits.specs.Output.{output}
use Rattle.hex_digits.proofs.OutputLaws.{length_printed}
use Rattle.parcels_listing.specs.Listing.{parcel_count, listed_from, line_size, parcel_lines, listing}
use Rattle.parcels_listing.specs.Portions.{Portion, portion, line_room, portion_of}
use Rattle.parcels_listing.specs.OneParcelList.{IsList}
use Rattle.parcels_listing.proofs.ListingLaws.{none_from}
use Rattle.parcels_listing.proofs.LineLaws.{lines_append}
use Rattle.parcels_listing.proofs.PortionLaws.{portion_shown, portion_rest, answer_further}
use Rattle.parcels_listing.proofs.OneParcelList.{listing_is}
use Rattle.parcels.specs.Printing.{PortionCall, PutLines, CallsFrom, next_after, handed_on, CallsToEnd, Printing}

-- what the exported contract says: it asks for nothing, and an answer is the portion
says : (p : ℕ) (x : PortionCall) → PutLines p x → portion x.answer.next (output x.left x.answer.place) ≡ portion_of p x.lent.now
says p x h = h tt

-- ---- what is handed on, and what is left

module _ (p : ℕ) (x : PortionCall) (h : PutLines p x) where
  abbrev room : ℕ
  room = line_room x.lent.now

  handed : take x.answer.place x.left ≡ parcel_lines (take room (listed_from p))
  handed = ap (λ (z : Portion). take z.output.place z.output.bytes) (says p x h) ∙ portion_shown p x.lent.now

  rest : listed_from x.answer.next ≡ drop room (listed_from p)
  rest = ap (λ (z : Portion). listed_from z.next) (says p x h) ∙ portion_rest p x.lent.now

  goes_on : p < parcel_count → line_size ≤ length x.lent.now → p < x.answer.next
  goes_on l r = answer_further p x.lent.now x.answer.next x.answer.place x.left (says p x h) l r

begun_from : (p : ℕ) (xs : List PortionCall) → CallsFrom p xs → handed_on xs ++ parcel_lines (listed_from (next_after p xs)) ≡ parcel_lines (listed_from p)
begun_from p [] h = refl
begun_from p (x ∷ xs) h =
    let k = room p x h.0 in
    append_assoc (take x.answer.place x.left) (handed_on xs) (parcel_lines (listed_from (next_after x.answer.next xs)))
    ∙ ap (λ (t : List ℕ). take x.answer.place x.left ++ t) (begun_from x.answer.next xs h.1)
    ∙ (λ i. handed p x h.0 i ++ parcel_lines (rest p x h.0 i))
    ∙ sym (lines_append (take k (listed_from p)) (drop k (listed_from p)))
    ∙ ap parcel_lines (take-append-drop k (listed_from p))

whole_from : (xs : List PortionCall) → CallsFrom 0 xs → parcel_count ≤ next_after 0 xs → handed_on xs ≡ listing
unfolding parcel_lines
whole_from xs h e =
    sym (append-nil (handed_on xs))
    ∙ ap (λ (l : List ℕ). handed_on xs ++ parcel_lines l) (sym (none_from (next_after 0 xs) e))
    ∙ begun_from 0 xs h

-- ---- calls to the end

module _ (ls : Lfts 1) (r : MutBor (List ℕ)) where
  -- the answer that the contract has, of a buffer that holds o
  abbrev call : ℕ → List ℕ → PortionCall
  call p o =
      let z = portion_of p o in
      record {
        lifetimes = ls;
        lent = record { ref_ptr = r.ref_ptr; ghost_name = r.ghost_name; now = o };
        answer = record { next = z.next; place = z.output.place };
        left = z.output.bytes;
      }

  answers : (p : ℕ) (o : List ℕ) → PutLines p (call p o)
  answers p o = λ _. refl

  nothing_left : (p : ℕ) (o : List ℕ) → parcel_count ≤ p → CallsToEnd p o
  nothing_left p o h = record { calls = []; answered = tt; buffer = tt; nothing_left = h }

  -- n is no less than what is left
  calls_from : (n p : ℕ) (o : List ℕ) → parcel_count - p ≤ n → line_size ≤ length o → CallsToEnd p o
  calls_from zero p o h g = nothing_left p o (omega arith)
  calls_from (suc n) p o h g =
      by_test (ltb p parcel_count)
      (λ e. let x = call p o in
      let l : p < x.answer.next = goes_on p x (answers p o) (ltb-true p parcel_count e) g in
      let f = calls_from n x.answer.next x.left (omega arith) (rw (length_printed (parcel_lines (take (line_room o) (listed_from p))) o 0) g) in
      record { calls = x ∷ f.calls; answered = (answers p o, f.answered); buffer = (refl, f.buffer); nothing_left = f.nothing_left })
      (λ e. nothing_left p o (ltb-false p parcel_count e))

pub printing : Printing
printing =
    record {
      begun = λ xs h. begun_from 0 xs h;
      whole = λ xs h e. subst IsList (sym (whole_from xs h e)) listing_is;
      further = λ p x l r h. goes_on p x h l r;
      to_end = λ ls o r. calls_from ls o parcel_count 0 o.now (omega arith) r;
    }
