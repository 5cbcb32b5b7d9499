-- What any call answers and leaves.
use Rattle.rules.specs.Back.{back}
use Rattle.rules.specs.Begin.{begin}
use Rattle.rules.specs.Drain.{drain}
use Rattle.rules.specs.Load.{load}
use Rattle.rules.specs.Outcomes.{Outcome, Table}
use Rattle.rules.specs.Roll.{roll}
use Rattle.rules.specs.Seal.{seal}
use Rattle.rules.specs.States.{World}
use Rattle.rules.specs.Store.{store}
use Rattle.rules.specs.declared.call.Call.{Call}
use Rattle.rules.specs.declared.call.Call.TheVariants.{Begin, Load, Store, Seal, Drain, Back, Roll}

-- the call by its own rule, with the policy's table at its start
abbrev pub performed : Table → World → Call → Outcome
performed beats w (Begin n) = begin w n
performed beats w (Load n a) = load beats w n a
performed beats w (Store n a v) = store beats w n a v
performed beats w (Seal n) = seal w n
performed beats w (Drain n) = drain w n
performed beats w (Back n) = back w n
performed beats w Roll = roll w

-- the same, kept shut: what is said of whole runs does not look at single rules
unfoldable pub perform : Table → World → Call → Outcome
perform beats w c = performed beats w c
