use Rattle.memory.proofs.Sweeps.{Swept}
use Rattle.memory.proofs.stripes.Stripes.roll.Given as goal
use Rattle.rules.specs.Roll.{rolled_stripe}

abbrev pub invariant-loop-stripe : goal.invariant-loop-stripe
invariant-loop-stripe l = Swept (rolled_stripe) l.initial.stripe-items l.stripe-items l.stripe-index
