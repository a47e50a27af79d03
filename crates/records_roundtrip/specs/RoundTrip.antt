-- Request (j): "Frames converted out and in again are the same frames; records converted in and out load the same bytes."
-- Assumes nothing.
use Rattle.std.specs.Prelude.{ℕ, ◌≡◌, List}
use Rattle.records_lines.specs.Conversions.{record_converted, frame_converted, Accepted, given_by}
use Rattle.records_roundtrip.specs.Loads.{record_loads, frame_loads, loads_over}

-- "Frames converted out and in again are the same frames"
pub record FramesAgain (l : List (List ℕ)) : Type 0 where
  pub accepted : Accepted record_converted (given_by frame_converted l)
  pub same : given_by record_converted (given_by frame_converted l) ≡ l

abbrev pub FramesRoundTrip : Type 0
FramesRoundTrip = (l : List (List ℕ)) → Accepted frame_converted l → FramesAgain l

-- "records converted in and out load the same bytes", as do the frames between
pub record RecordsAgain (l : List (List ℕ)) : Type 0 where
  pub accepted : Accepted frame_converted (given_by record_converted l)
  pub between : loads_over frame_loads (given_by record_converted l) ≡ loads_over record_loads l
  pub same : loads_over record_loads (given_by frame_converted (given_by record_converted l)) ≡ loads_over record_loads l

abbrev pub RecordsRoundTrip : Type 0
RecordsRoundTrip = (l : List (List ℕ)) → Accepted record_converted l → RecordsAgain l
