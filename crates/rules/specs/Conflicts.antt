-- Where two transactions meet at a stripe.
use Rattle.std.specs.Prelude.{ℕ, Bool, true, false, cond, not, ◌&&◌, List, [], ◌∷◌, Some, None, Option, ◌==◌, nat_lt}
use Rattle.common.specs.declared.loss.Loss.TheVariants.{Beaten, Invalid, Stolen}
use Rattle.contention.specs.Events.{win_over}
use Rattle.rules.specs.Admission.{is_running, is_sealed}
use Rattle.rules.specs.Outcomes.{Step, Table, goes, loses}
use Rattle.rules.specs.States.{State, ReadMark, thread_of, stripe_at, with_thread, with_snapshot, lose}

-- the number of the thread that owns the stripe, 0 for none
abbrev pub owner_of : State → ℕ → ℕ
owner_of st s = (stripe_at st s).owner

-- o is a thread other than n
abbrev pub is_other : ℕ → ℕ → Bool
is_other n o = not (o == 0) && not (o == n)

-- o is another thread, and sealed
abbrev pub busy_by : State → ℕ → ℕ → Bool
busy_by st n o = is_other n o && is_sealed (thread_of st o).phase

-- another sealed thread holds the stripe
abbrev pub busy : State → ℕ → ℕ → Bool
busy st n s = busy_by st n (owner_of st s)

-- o, if it is another thread, and running
abbrev pub rival_of : State → ℕ → ℕ → Option ℕ
rival_of st n o = cond (is_other n o && is_running (thread_of st o).phase) (Some o) None

-- the other running thread that holds the stripe
abbrev pub rival : State → ℕ → ℕ → Option ℕ
rival st n s = rival_of st n (owner_of st s)

-- the stripe still has the version that was read, and no other sealed thread holds it
abbrev pub is_valid : State → ℕ → ReadMark → Bool
is_valid st n e = (stripe_at st e.stripe).version == e.version && not (busy st n e.stripe)

-- the stripe of the first entry that is not valid
abbrev pub first_invalid : State → ℕ → List ReadMark → Option ℕ
first_invalid st n [] = None
first_invalid st n (e ∷ es) = cond (is_valid st n e) (first_invalid st n es) (Some e.stripe)

-- the read log is checked: its first invalid entry loses the transaction, else the snapshot end becomes the clock
abbrev pub rechecked : State → ℕ → Option ℕ → Step
rechecked st n None = goes (with_thread st n (with_snapshot (thread_of st n) st.clock)) []
rechecked st n (Some s) = loses (Invalid s) (lose st n (Invalid s))

-- the read log of the thread is checked
abbrev pub recheck : State → ℕ → Step
recheck st n = rechecked st n (first_invalid st n (thread_of st n).reads)

-- a version that is newer than the snapshot end has the read log checked
abbrev pub refresh_to : State → ℕ → ℕ → Step
refresh_to st n v = cond (nat_lt (thread_of st n).snapshot v) (recheck st n) (goes st [])

abbrev pub refresh : State → ℕ → ℕ → Step
refresh st n s = refresh_to st n (stripe_at st s).version

-- n meets the running holder h: the one that the policy does not favour is lost
abbrev pub clash : State → ℕ → ℕ → Bool → Step
clash st n h true = goes (lose st h (Stolen n)) (win_over n h ∷ [])
clash st n h false = loses (Beaten h) (lose st n (Beaten h))

-- the caller meets this rival, if there is one
abbrev pub contended : Table → State → ℕ → Option ℕ → Step
contended beats st n None = goes st []
contended beats st n (Some h) = clash st n h (beats n h)

-- the caller meets the running holder of the stripe
abbrev pub contend : Table → State → ℕ → ℕ → Step
contend beats st n s = contended beats st n (rival st n s)
