use Rattle.std.proofs.Common.{arith}
use Rattle.memory.proofs.Sweeps.{swept_more}
use Rattle.memory.proofs.stripes.Stripes.release.Goals as goal

pub loop-stripe-preserved : goal.loop-stripe-preserved
loop-stripe-preserved c =
    swept_more _ _ _ _ (omega arith) c.stripe-item.result _ (omega arith) c.release.ensures c.loop-stripe.invariant
