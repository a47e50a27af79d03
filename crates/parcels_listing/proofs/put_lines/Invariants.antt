use Prim.Native.Nat.{◌-◌}
use Rattle.parcels_listing.specs.Listing.{parcel_count}
use Rattle.parcels_listing.proofs.PortionLaws.{LinesIn}
use Rattle.parcels_listing.proofs.put_lines.Given as goal

abbrev pub invariant-loop-p : goal.invariant-loop-p
invariant-loop-p l = LinesIn l.first l.initial.out l.out l.p l.place

abbrev pub decreases-loop-p : goal.decreases-loop-p
decreases-loop-p l = parcel_count - l.p
