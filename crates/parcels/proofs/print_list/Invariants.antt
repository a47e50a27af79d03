use mathlib.Core.Path.{◌≡◌}
use Prim.Native.Nat.{◌-◌}
use lib.ListN.{length}
use Rattle.parcels_listing.specs.Listing.{parcel_count}
use Rattle.parcels.proofs.print_list.Given as goal

abbrev pub invariant-loop-next : goal.invariant-loop-next
invariant-loop-next l = length l.out ≡ length l.initial.out

abbrev pub decreases-loop-next : goal.decreases-loop-next
decreases-loop-next l = parcel_count - l.next
