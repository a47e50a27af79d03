use Rattle.exec.proofs.ActLaws.{classed_low, classed_high}
use Rattle.exec.proofs.attempt.class_of.Goals as goal

pub returns-then-k-lt2 : goal.returns-then-k-lt2
returns-then-k-lt2 c = classed_low _ _ c.traced-k.ensures c.if-k-lt2.true

pub returns-else-k-lt2 : goal.returns-else-k-lt2
returns-else-k-lt2 c = classed_high _ _ c.traced-k.ensures c.if-k-lt2.false
