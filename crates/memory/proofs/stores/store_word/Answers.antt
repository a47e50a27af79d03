use native.Mathlib.Omega.{arith}
use lib.ListN.{length-set}
use Rattle.memory.proofs.StoreLaws.{store_4, store_past}
use Rattle.std.proofs.Common.{rules}
use Rattle.memory.proofs.stores.store_word.Goals as goal

pub bounds-m-i-then-i-m : goal.bounds-m-i-then-i-m
bounds-m-i-then-i-m c = simp length-set (omega arith)

pub bounds-m-i-then-i-m-2 : goal.bounds-m-i-then-i-m-2
bounds-m-i-then-i-m-2 c = simp length-set (omega arith)

pub bounds-m-i-then-i-m-3 : goal.bounds-m-i-then-i-m-3
bounds-m-i-then-i-m-3 c = simp length-set (omega arith)

pub returns-then-i-m : goal.returns-then-i-m
returns-then-i-m c = search (rules, store_4)

pub returns-else-i-m : goal.returns-else-i-m
returns-else-i-m c = search (rules, store_past)
