-- What the program prints: portion after portion of the list, each by `parcels_listing::put_lines` from where the last one ended, as
-- far as the contract tells that it exports. What the calls hand on is what the program writes, until nothing is left.
-- Assumes nothing.
use Rattle.std.specs.Prelude.{ℕ, ◌<◌, ◌≤◌, ◌≡◌, List, [], ◌∷◌, ◌++◌, length, take}
use contract.Lifetimes.{Lfts}
use Rattle.std.specs.Borrow.{MutBor}
use denote.Triple.Entry.{Args}
use denote.Triple.Clauses.{Lasts, at_exit}
use Rattle.parcels_listing.specs.declared.ListState.{ListState}
use Rattle.parcels_listing.specs.Listing.{parcel_count, listed_from, line_size, parcel_lines, listing}
use Rattle.parcels_listing.specs.OneParcelList.{IsList}
use Rattle.parcels_listing.specs.contracts.put_lines as put_lines
use Rattle.parcels_listing.proofs.put_lines.Reads as put_lines_contract

-- a call: the lent buffer, with its lifetime, pointer and ghost name, of which the contract says nothing; the answer; what the
-- buffer then holds
pub record PortionCall : Type 0 where
  pub lifetimes : Lfts 1
  pub lent : MutBor (List ℕ)
  pub answer : ListState
  pub left : List ℕ

-- `parcels_listing::put_lines` answered so from the parcel p on
abbrev pub PutLines : ℕ → PortionCall → Type 0
PutLines p x =
    put_lines_contract.Asked x.lifetimes arguments
    → put_lines_contract.Learnt x.lifetimes arguments x.answer (at_exit put_lines.ended x.lifetimes arguments left)
  where
    arguments : Args put_lines.signature x.lifetimes
    arguments = (p, (x.lent, tt))

    left : Lasts put_lines.ended x.lifetimes arguments
    left = (tt, (x.left, tt))

-- calls one after the other, the first from the parcel p on
abbrev pub CallsFrom : ℕ → List PortionCall → Type 0
CallsFrom p [] = Unit {0}
CallsFrom p (x ∷ xs) = PutLines p x × CallsFrom x.answer.next xs

-- the parcel that the next one would begin with
abbrev pub next_after : ℕ → List PortionCall → ℕ
next_after p [] = p
next_after p (x ∷ xs) = next_after x.answer.next xs

-- what they hand on to be written
abbrev pub handed_on : List PortionCall → List ℕ
handed_on [] = []
handed_on (x ∷ xs) = take x.answer.place x.left ++ handed_on xs

-- over one buffer, which each call finds as the last one left it
abbrev pub OneBuffer : List ℕ → List PortionCall → Type 0
OneBuffer o [] = Unit {0}
OneBuffer o (x ∷ xs) = (x.lent.now ≡ o) × OneBuffer x.left xs

-- such calls from the parcel p on, to the end
pub record CallsToEnd (p : ℕ) (o : List ℕ) : Type 0 where
  pub calls : List PortionCall
  pub answered : CallsFrom p calls
  pub buffer : OneBuffer o calls
  pub nothing_left : parcel_count ≤ next_after p calls

pub record Printing : Type 0 where
  -- at any time, as after a write that failed: the list without the lines that are left
  pub begun : (xs : List PortionCall) → CallsFrom 0 xs → handed_on xs ++ parcel_lines (listed_from (next_after 0 xs)) ≡ listing
  -- when nothing is left: the list
  pub whole : (xs : List PortionCall) → CallsFrom 0 xs → parcel_count ≤ next_after 0 xs → IsList (handed_on xs)
  -- a buffer with room for a line takes the program further, and there are calls to the end
  pub further : (p : ℕ) (x : PortionCall) → p < parcel_count → line_size ≤ length x.lent.now → PutLines p x → p < x.answer.next
  pub to_end : Lfts 1 → (o : MutBor (List ℕ)) → line_size ≤ length o.now → CallsToEnd 0 o.now
