use mathlib.Core.Path.{sym}
use lib.Seq.{length-take-le}
use Rattle.std.proofs.Common.{rules}
use Rattle.test_walks.proofs.obey.Goals as goal

pub slice_bounds-walk-end-then-bytes-m : goal.slice_bounds-walk-end-then-bytes-m
slice_bounds-walk-end-then-bytes-m c = sym (length-take-le _ _ (search rules))
