-- back: a thread leaves its running or lost transaction.
use Rattle.std.specs.Prelude.{ℕ, [], None, Ok, Err, Result}
use Rattle.common.specs.declared.refusal.Refusal.{Refusal}
use Rattle.rules.specs.Admission.{admitted}
use Rattle.rules.specs.Drain.{release}
use Rattle.rules.specs.Outcomes.{Outcome, refuse, done}
use Rattle.rules.specs.States.{World, thread_of}
use Rattle.rules.specs.declared.answer.Answer.TheVariants.{Back}
use Rattle.rules.specs.declared.ending.Ending.{Ending}
use Rattle.rules.specs.declared.ending.Ending.TheVariants.{GivenUp, Lost as EndedLost}
use Rattle.rules.specs.declared.kind.Kind.TheVariants.{Back as Backing}
use Rattle.rules.specs.declared.phase.Phase.{Phase}
use Rattle.rules.specs.declared.phase.Phase.TheVariants.{Idle, Running, Sealed, Lost}

-- how a transaction in this state ends when its thread goes back
abbrev pub ending_of : Phase → Ending
ending_of Idle = GivenUp
ending_of Running = GivenUp
ending_of (Sealed t d) = GivenUp
ending_of (Lost l) = EndedLost l

-- a thread that may go back releases its stripes at their versions, and is idle
abbrev pub back_admitted : World → ℕ → Result (Unit {0}) Refusal → Outcome
back_admitted w n (Err r) = refuse w r
back_admitted w n (Ok _) =
    done w (Back (ending_of (thread_of w.engine n).phase)) [] (release w.engine n None)

abbrev pub back : World → ℕ → Outcome
back w n = back_admitted w n (admitted w.engine Backing n)
