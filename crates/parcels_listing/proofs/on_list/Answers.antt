use Rattle.std.proofs.Common.{rules}
use Rattle.parcels_listing.specs.Listing.{on_list}
use Rattle.isa.proofs.AnswerLaws.{same_decoded}
use Rattle.parcels_listing.proofs.on_list.Goals as goal

pub returns-then-form_bits-lt2 : goal.returns-then-form_bits-lt2
unfolding on_list
returns-then-form_bits-lt2 c = search (rules, same_decoded)

pub returns-else-form_bits-lt2 : goal.returns-else-form_bits-lt2
unfolding on_list
returns-else-form_bits-lt2 c = search rules
