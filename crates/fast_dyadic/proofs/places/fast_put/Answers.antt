use Rattle.fast_dyadic.proofs.PlaceLaws.{put_constant, put_stored}
use Rattle.word.proofs.CaseLaws.{not_both}
use mathlib.Core.Path.{sym}
use Rattle.std.proofs.Common.{rules}
use Rattle.fast_dyadic.proofs.places.fast_put.Goals as goal

pub returns-then-is_constant : goal.returns-then-is_constant
returns-then-is_constant c = (λ h. search (rules, put_constant), λ h. not_both (sym h))

pub returns : goal.returns
returns c = (λ h. search (rules, put_stored, c.fast_store.ensures.0 h), λ h. c.fast_store.ensures.1 h)
