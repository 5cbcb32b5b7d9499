use Rattle.std.proofs.Common.{rules}
use lib.Seq.{take-set-lt}
use Rattle.layout.proofs.log.Log.overwrite.Goals as goal

pub returns : goal.returns
returns g c = search (rules, take-set-lt)
