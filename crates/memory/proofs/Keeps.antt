-- The steps in which two transactions meet at a stripe leave all stripes as they are.
use Rattle.std.proofs.Common.{◌≡◌, ℕ, Bool, true, false, cond, List, [], None, Some, Option, nat_lt, sym, refl, ap, ◌∙◌}
use Rattle.contention.specs.Events.{Event}
use Rattle.rules.specs.Conflicts.{recheck, rechecked, refresh_to, first_invalid, clash, contended}
use Rattle.rules.specs.Maps.{Map}
use Rattle.rules.specs.Outcomes.{Step, Table, goes, loses}
use Rattle.rules.specs.States.{State, Stripe, thread_of}

-- the stripes that a step leaves
abbrev stripes_after : Step → Map Stripe
stripes_after (goes st es) = st.stripes
stripes_after (loses l st) = st.stripes

rechecked_keeps : (st : State) (n : ℕ) (o : Option ℕ) → stripes_after (rechecked st n o) ≡ st.stripes
rechecked_keeps st n None = refl
rechecked_keeps st n (Some s) = refl

refreshed_keeps : (st : State) (n : ℕ) (b : Bool) → stripes_after (cond b (recheck st n) (goes st [])) ≡ st.stripes
refreshed_keeps st n true = rechecked_keeps st n (first_invalid st n (thread_of st n).reads)
refreshed_keeps st n false = refl

-- a load whose read log was checked goes on with the stripes that it had
pub refresh_keeps : (st after : State) (n v : ℕ) (es : List Event) →
    refresh_to st n v ≡ goes after es → after.stripes ≡ st.stripes
refresh_keeps st after n v es e =
    sym (ap stripes_after e) ∙ refreshed_keeps st n (nat_lt (thread_of st n).snapshot v)

clash_keeps : (st : State) (n h : ℕ) (b : Bool) → stripes_after (clash st n h b) ≡ st.stripes
clash_keeps st n h true = refl
clash_keeps st n h false = refl

met_keeps : (beats : Table) (st : State) (n : ℕ) (o : Option ℕ) → stripes_after (contended beats st n o) ≡ st.stripes
met_keeps beats st n None = refl
met_keeps beats st n (Some h) = clash_keeps st n h (beats n h)

-- a call that met a rival goes on with the stripes that it had
pub contend_keeps : (beats : Table) (st after : State) (n : ℕ) (o : Option ℕ) (es : List Event) →
    contended beats st n o ≡ goes after es → after.stripes ≡ st.stripes
contend_keeps beats st after n o es e = sym (ap stripes_after e) ∙ met_keeps beats st n o
