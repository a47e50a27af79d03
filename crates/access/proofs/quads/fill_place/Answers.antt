use Rattle.access.proofs.QuadLaws.{place_shared}
use Rattle.std.proofs.Common.{rules}
use Rattle.access.proofs.quads.fill_place.Goals as goal

pub returns : goal.returns
returns c = search (rules, place_shared)
