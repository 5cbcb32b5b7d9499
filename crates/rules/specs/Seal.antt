-- seal: the transaction's place in the order of updaters, or a reader's end.
use Rattle.std.specs.Prelude.{ℕ, ◌+◌, Bool, true, false, [], ◌∷◌, length, Ok, Err, Result, ◌==◌, nat_le}
use Rattle.common.specs.declared.loss.Loss.TheVariants.{ClockSpent}
use Rattle.common.specs.declared.refusal.Refusal.{Refusal}
use Rattle.contention.specs.Events.{seal_of}
use Rattle.rules.specs.Admission.{admitted}
use Rattle.rules.specs.Conflicts.{recheck}
use Rattle.rules.specs.Outcomes.{Outcome, Step, goes, loses, refuse, lost, done}
use Rattle.rules.specs.States.{State, World, thread_of, with_clock, marked, enter, lose}
use Rattle.rules.specs.declared.answer.Answer.TheVariants.{Sealed}
use Rattle.rules.specs.declared.ending.Sealed.TheVariants.{Reader, Updater}
use Rattle.rules.specs.declared.kind.Kind.TheVariants.{Seal}
use Rattle.rules.specs.declared.phase.Phase.TheVariants.{Idle, Sealed as Holding}

-- the clock rises by 1, and the thread is sealed with it as its ticket
abbrev pub stamp : State → ℕ → State
stamp st n = enter (with_clock st (st.clock + 1)) n (Holding (st.clock + 1) 0)

-- an updater whose reads still hold is stamped
abbrev pub seal_checked : World → ℕ → Step → Outcome
seal_checked w n (loses l st) = lost w l st
seal_checked w n (goes st es) = done w (Sealed (Updater (st.clock + 1))) (seal_of n ∷ []) (stamp st n)

-- the read log is checked unless nothing was sealed since the snapshot end
abbrev pub seal_check : State → ℕ → Bool → Step
seal_check st n true = goes st []
seal_check st n false = recheck st n

-- a spent clock loses the transaction and sets the roll mark
abbrev pub seal_unspent : World → ℕ → Bool → Outcome
seal_unspent w n true = lost w ClockSpent (lose (marked w.engine) n ClockSpent)
seal_unspent w n false =
    seal_checked w n (seal_check w.engine n (w.engine.clock == (thread_of w.engine n).snapshot))

-- a reader's seal only ends the transaction
abbrev pub seal_updates : World → ℕ → Bool → Outcome
seal_updates w n true =
    done w (Sealed (Reader (thread_of w.engine n).snapshot)) (seal_of n ∷ []) (enter w.engine n Idle)
seal_updates w n false = seal_unspent w n (nat_le w.engine.set_up.limit w.engine.clock)

-- the write log counts once the thread is let in
abbrev pub seal_admitted : World → ℕ → Result (Unit {0}) Refusal → Outcome
seal_admitted w n (Err r) = refuse w r
seal_admitted w n (Ok _) = seal_updates w n (length (thread_of w.engine n).writes == 0)

abbrev pub seal : World → ℕ → Outcome
seal w n = seal_admitted w n (admitted w.engine Seal n)
