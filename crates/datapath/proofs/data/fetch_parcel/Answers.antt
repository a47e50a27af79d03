use Rattle.datapath.proofs.DataLaws.{text_memory}
use Rattle.std.proofs.Common.{rules}
use Rattle.datapath.proofs.data.fetch_parcel.Goals as goal

pub returns : goal.returns
returns c = search (rules, text_memory)
