-- The list in portions: of the lines from a parcel on, as many as a lent buffer has room for.
-- Assumes nothing.
use Rattle.std.specs.Prelude.{ℕ, ◌/◌, List, [], ◌∷◌, length, take, drop}
use Rattle.hex_digits.specs.Output.{Output, output, printed}
use Rattle.parcels_listing.specs.Listing.{parcel_count, listed_from, line_size, parcel_lines}

-- the parcel that the next portion begins with, and the buffer
pub record Portion : Type 0 where
  pub next : ℕ
  pub output : Output

abbrev pub portion : ℕ → Output → Portion
portion p o = record { next = p; output = o }

-- how many lines a buffer has room for
abbrev pub line_room : List ℕ → ℕ
line_room o = length o / line_size

-- the first of the parcels that are left, or past all parcels where none is
abbrev pub next_of : List ℕ → ℕ
next_of [] = parcel_count
next_of (p ∷ ps) = p

-- from the parcel p on
abbrev pub portion_of : ℕ → List ℕ → Portion
portion_of p o =
    portion (next_of (drop (line_room o) (listed_from p))) (printed (parcel_lines (take (line_room o) (listed_from p))) (output o 0))
