use Rattle.lines.specs.Texts.{newline_at}
use Rattle.lines.proofs.SearchLaws.{first_newline, none_after, seeking_found, seeking_more, seeking_end}
use Rattle.std.proofs.Common.{◌+◌, ℕ, ap, ◌∙◌, arith, rules}
use Rattle.std.proofs.lemmas.Slice.{between_to_end}
use Rattle.lines.proofs.newline_from.Goals as goal

pub returns-then-text-from : goal.returns-then-text-from
returns-then-text-from c = none_after _ _ c.if-text-from.true

pub returns-then-from-near : goal.returns-then-from-near
returns-then-from-near c =
    let near = c.skip-near.result in
    ap (λ (k : ℕ). near + k) (c.unwrap_or.ensures ∙ first_newline _ _ c.memchr.ensures ∙ ap newline_at (between_to_end c.args.text.now near _ (omega arith)))
    ∙ c.skip-near.ensures.1

pub returns-then-text-i-eq10 : goal.returns-then-text-i-eq10
returns-then-text-i-eq10 c = search (rules, seeking_found)

pub loop-i-preserved : goal.loop-i-preserved
loop-i-preserved c = search (rules, seeking_more)

pub returns : goal.returns
returns c = search (rules, seeking_end)
