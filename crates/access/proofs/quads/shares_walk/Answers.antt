use Rattle.access.proofs.QuadLaws.{shares_fresh, shares_odd, shares_past, shares_entry, shares_rest}
use Rattle.std.proofs.Common.{rules}
use Rattle.access.proofs.quads.shares_walk.Goals as goal

pub returns-then-is_fresh : goal.returns-then-is_fresh
returns-then-is_fresh c = search (rules, shares_fresh)

pub returns-then-a-pa : goal.returns-then-a-pa
returns-then-a-pa c = search (rules, shares_odd)

pub returns-then-m-pa : goal.returns-then-m-pa
returns-then-m-pa c = search (rules, shares_past)

pub returns-then-p-pa : goal.returns-then-p-pa
returns-then-p-pa c = search (rules, shares_entry)

pub returns : goal.returns
returns c = search (rules, shares_rest)
