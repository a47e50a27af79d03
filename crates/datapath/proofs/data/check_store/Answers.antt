use Rattle.datapath.proofs.DataLaws.{store_check}
use Rattle.std.proofs.Common.{rules}
use Rattle.datapath.proofs.data.check_store.Goals as goal

pub returns : goal.returns
returns c = search (rules, store_check)
