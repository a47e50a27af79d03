use native.Mathlib.Omega.{arith}
use lib.ListN.{length-set}
use Rattle.memory.proofs.StoreLaws.{store_2, store_past}
use Rattle.std.proofs.Common.{rules}
use Rattle.memory.proofs.stores.store_half.Goals as goal

pub bounds-m-i-then-i-m : goal.bounds-m-i-then-i-m
bounds-m-i-then-i-m c = simp length-set (omega arith)

pub returns-then-i-m : goal.returns-then-i-m
returns-then-i-m c = search (rules, store_2)

pub returns-else-i-m : goal.returns-else-i-m
returns-else-i-m c = search (rules, store_past)
