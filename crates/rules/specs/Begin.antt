-- begin: a new transaction of an idle thread.
use Rattle.std.specs.Prelude.{ℕ, Bool, true, false, [], Ok, Err, Result}
use Rattle.common.specs.declared.refusal.Refusal.{Refusal}
use Rattle.common.specs.declared.refusal.Refusal.TheVariants.{RollPending}
use Rattle.rules.specs.Admission.{admitted}
use Rattle.rules.specs.Outcomes.{Outcome, refuse, done}
use Rattle.rules.specs.States.{World, Thread, with_thread}
use Rattle.rules.specs.declared.answer.Answer.TheVariants.{Done}
use Rattle.rules.specs.declared.kind.Kind.TheVariants.{Begin}
use Rattle.rules.specs.declared.phase.Phase.TheVariants.{Running}

-- a transaction that has done nothing yet, of this snapshot end
abbrev pub fresh : ℕ → Thread
fresh end = record { phase = Running; snapshot = end; reads = []; writes = [] }

-- no transaction begins under the roll mark
abbrev pub begin_unmarked : World → ℕ → Bool → Outcome
begin_unmarked w n true = refuse w RollPending
begin_unmarked w n false = done w Done [] (with_thread w.engine n (fresh w.engine.clock))

-- the roll mark counts once the thread is let in
abbrev pub begin_admitted : World → ℕ → Result (Unit {0}) Refusal → Outcome
begin_admitted w n (Err r) = refuse w r
begin_admitted w n (Ok _) = begin_unmarked w n w.engine.mark

abbrev pub begin : World → ℕ → Outcome
begin w n = begin_admitted w n (admitted w.engine Begin n)
