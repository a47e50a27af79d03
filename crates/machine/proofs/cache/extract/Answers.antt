use mathlib.Core.Path.{◌∙◌}
use Rattle.machine.proofs.CacheLaws.{extract_field}
use Rattle.machine.proofs.cache.extract.Goals as goal

pub returns : goal.returns
returns c = let s = c.before.before in
    c.field.ensures
    ∙ extract_field s.args.n s.args.a s.args.w c.bytes_below.result s.requires.0 s.requires.1 c.bytes_below.ensures
