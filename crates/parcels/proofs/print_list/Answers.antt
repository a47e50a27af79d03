use native.Mathlib.Omega.{arith}
use Rattle.parcels_listing.proofs.PortionLaws.{answer_further}
use Rattle.parcels.proofs.print_list.Goals as goal

pub loop-next-smaller : goal.loop-next-smaller
loop-next-smaller c = let loop = c.loop-next in
    omega (arith, answer_further loop.next loop.out _ _ _ c.put_lines-s.ensures (omega arith) (omega arith))
