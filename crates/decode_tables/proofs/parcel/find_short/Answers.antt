use mathlib.Core.Path.{sym}
use lib.ListN.{get_or-eq_default}
use Rattle.word.proofs.MatchLaws.{climb}
use Rattle.isa.specs.declared.ShortEntry.TheVariants as entry
use Rattle.isa.specs.Tables.{short_table}
use Rattle.decode_tables.proofs.parcel.find_short.Goals as goal

pub returns-in_default : goal.returns-in_default
returns-in_default c = sym (get_or-eq_default short_table entry.Unlisted (climb _ 10 22 _ c.in_default.if-code-lt10-own.false c.in_default.in_default-own.rest))
