use Rattle.machine.proofs.CacheLaws.{insert_shifted}
use Rattle.machine.proofs.cache.insert.Goals as goal

pub returns : goal.returns
returns c = let s = c.before.before.before in
    insert_shifted s.args.n s.args.a s.args.v s.args.w c.bytes_below-s.result _ _ s.requires.0 s.requires.1 s.ranges.w.fits
    c.bytes_below-s.ensures
    c.field-bytes.ensures
    c.field-below.ensures
