use Rattle.board_lines.proofs.StoreLaws.{Storing}
use Rattle.board_lines.proofs.stores.store_bytes.Given as goal

abbrev pub invariant-loop-k : goal.invariant-loop-k
invariant-loop-k l = Storing l.line l.initial.m l.a l.n l.k l.m
