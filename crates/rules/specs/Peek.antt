-- peek: the lock word of a stripe.
use Rattle.std.specs.Prelude.{ℕ, Ok, Err, Result}
use Rattle.common.specs.declared.refusal.Refusal.{Refusal}
use Rattle.layout.specs.LockWords.{packed}
use Rattle.layout.specs.SetUps.{stripe_or_refusal}
use Rattle.rules.specs.States.{State, stripe_at}

-- the lock word of a stripe of the set-up
abbrev pub peek_at : State → Result ℕ Refusal → Result ℕ Refusal
peek_at st (Err r) = Err r
peek_at st (Ok s) = packed (stripe_at st s).version (stripe_at st s).owner

-- the owner shows whether it holds the stripe or was lost
abbrev pub peek : State → ℕ → Result ℕ Refusal
peek st s = peek_at st (stripe_or_refusal st.set_up s)
