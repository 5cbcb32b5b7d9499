-- roll: the clock and all versions back to 0, while no transaction is under way.
use Rattle.std.specs.Prelude.{ℕ, zero, suc, Bool, true, false, ◌&&◌, []}
use Rattle.common.specs.declared.refusal.Refusal.TheVariants.{RollNotDue, ThreadsActive}
use Rattle.rules.specs.Admission.{is_idle}
use Rattle.rules.specs.Maps.{each}
use Rattle.rules.specs.Outcomes.{Outcome, refuse, done}
use Rattle.rules.specs.States.{State, World, Stripe, thread_of}
use Rattle.rules.specs.declared.answer.Answer.TheVariants.{Done}

-- the threads up to this number are idle
abbrev pub idle_to : State → ℕ → Bool
idle_to st zero = true
idle_to st (suc n) = is_idle (thread_of st (suc n)).phase && idle_to st n

-- the stripe at version 0, with the owner that it has
abbrev pub rolled_stripe : Stripe → Stripe
rolled_stripe x = record { version = 0; owner = x.owner }

-- the engine with its clock and all versions at 0 and its mark off
abbrev pub rolled : State → State
rolled st =
    record { set_up = st.set_up; clock = 0; mark = false; stripes = each rolled_stripe st.stripes; threads = st.threads }

-- a thread that is not idle refuses the roll
abbrev pub roll_idle : World → Bool → Outcome
roll_idle w false = refuse w ThreadsActive
roll_idle w true = done w Done [] (rolled w.engine)

-- a roll without the mark is refused
abbrev pub roll_due : World → Bool → Outcome
roll_due w false = refuse w RollNotDue
roll_due w true = roll_idle w (idle_to w.engine w.engine.set_up.threads)

abbrev pub roll : World → Outcome
roll w = roll_due w w.engine.mark
