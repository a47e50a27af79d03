use Rattle.lines.proofs.SearchLaws.{first_plain, next_plain}
use native.Mathlib.Omega.{arith}
use Rattle.lines.proofs.none_in_eight.Goals as goal

pub returns : goal.returns
returns c = let s = c.args.text.now in
    let i = c.args.i in
    let h = c.requires in
    next_plain s i 7 _ (omega (arith, h))
    (next_plain s i 6 _ (omega (arith, h))
    (next_plain s i 5 _ (omega (arith, h))
    (next_plain s i 4 _ (omega (arith, h))
    (next_plain s i 3 _ (omega (arith, h))
    (next_plain s i 2 _ (omega (arith, h))
    (next_plain s i 1 _ (omega (arith, h))
    (first_plain s i (omega (arith, h)))))))))
