use Rattle.std.proofs.Common.{◌∙◌, rules}
use Rattle.records_lines.proofs.SumLaws.{pair_digits, summing_more, summing_all}
use Rattle.records_lines.proofs.sums.low_sum.Goals as goal

pub loop-pair-preserved : goal.loop-pair-preserved
loop-pair-preserved c = let i = c.loop-pair.invariant in
    let s = c.in-Some.ensures.steps in
    let l = s.1.1 ∙ i.2 in
    let d = pair_digits _ _ _ _ _ i.3 s.1.0 l in
    (search rules, tt, s.0 ∙ i.2, summing_more _ _ _ _ _ _ _ i.3 s.1.0 l (c.byte_of_digits-sum.ensures.digits d.0 d.1) (search rules))

pub returns : goal.returns
returns c = let i = c.loop-pair.invariant in
    summing_all _ _ _ i.3 (rw i.2 at c.in-None.ensures.steps.1.0)
