use Rattle.memory.proofs.Sweeps.{Swept}
use Rattle.memory.proofs.stripes.Stripes.release.Given as goal
use Rattle.rules.specs.Drain.{freed}

abbrev pub invariant-loop-stripe : goal.invariant-loop-stripe
invariant-loop-stripe l = Swept (freed l.thread.number l.version) l.initial.stripe-items l.stripe-items l.stripe-index
