-- store: a word into the transaction's write log, and its stripe taken.
use Rattle.std.specs.Prelude.{ℕ, Bool, true, false, List, [], ◌∷◌, length, is_some, Ok, Err, Result, ◌==◌, nat_lt}
use Rattle.common.specs.declared.refusal.Refusal.{Refusal}
use Rattle.common.specs.declared.refusal.Refusal.TheVariants.{NoSuchPlace, LogFull, StripeBusy}
use Rattle.contention.specs.Events.{Event, stripe_taken}
use Rattle.layout.specs.Lookups.{replaced}
use Rattle.layout.specs.SetUps.{stripe_of}
use Rattle.layout.specs.declared.entries.WriteEntry.{WriteEntry}
use Rattle.rules.specs.Admission.{admitted}
use Rattle.rules.specs.Conflicts.{busy, contend, owner_of}
use Rattle.rules.specs.Load.{grown, is_full, written}
use Rattle.rules.specs.Outcomes.{Outcome, Step, Table, goes, loses, refuse, lost, done}
use Rattle.rules.specs.States.{State, World, Thread, thread_of, stripe_at, with_thread, with_stripe, with_writes}
use Rattle.rules.specs.declared.answer.Answer.TheVariants.{Done}
use Rattle.rules.specs.declared.kind.Kind.TheVariants.{Store}

-- the address is in the write log
abbrev pub has_written : Thread → ℕ → Bool
has_written t a = is_some (written t a)

-- the word to be written at an address
abbrev pub entry : ℕ → ℕ → WriteEntry
entry a v = record { address = a; word = v }

-- the thread with the logged word of an address replaced
abbrev pub rewrite : State → ℕ → ℕ → ℕ → State
rewrite st n a v =
    with_thread st n (with_writes (thread_of st n) (replaced (λ e. e.address) (entry a v) (thread_of st n).writes))

-- the thread with one more entry in its write log
abbrev pub note_write : State → ℕ → ℕ → ℕ → State
note_write st n a v = with_thread st n (with_writes (thread_of st n) (grown (thread_of st n).writes (entry a v)))

-- the stripe owned by the thread, at the version that it has
abbrev pub take : State → ℕ → ℕ → State
take st n s = with_stripe st s (record { version = (stripe_at st s).version; owner = n })

-- the last step of a store: a stripe that is not owned yet is taken, and only that is told
abbrev pub store_taken : World → ℕ → ℕ → List Event → State → Bool → Outcome
store_taken w n s es st true = done w Done es st
store_taken w n s es st false = done w Done (stripe_taken n ∷ es) (take st n s)

-- the word is logged once the stripe is won
abbrev pub store_won : World → ℕ → ℕ → ℕ → ℕ → Step → Outcome
store_won w n a v s (loses l st) = lost w l st
store_won w n a v s (goes st es) = store_taken w n s es (note_write st n a v) (owner_of st s == n)

-- a busy stripe refuses the store
abbrev pub store_free : Table → World → ℕ → ℕ → ℕ → ℕ → Bool → Outcome
store_free beats w n a v s true = refuse w StripeBusy
store_free beats w n a v s false = store_won w n a v s (contend beats w.engine n s)

-- a full write log refuses the store
abbrev pub store_roomy : Table → World → ℕ → ℕ → ℕ → ℕ → Bool → Outcome
store_roomy beats w n a v s true = refuse w LogFull
store_roomy beats w n a v s false = store_free beats w n a v s (busy w.engine n s)

-- a store to an address that is not logged yet, through its stripe
abbrev pub store_stripe : Table → World → ℕ → ℕ → ℕ → ℕ → Outcome
store_stripe beats w n a v s =
    store_roomy beats w n a v s (is_full (thread_of w.engine n).writes)

-- a logged address has its word replaced
abbrev pub store_logged : Table → World → ℕ → ℕ → ℕ → Bool → Outcome
store_logged beats w n a v true = done w Done [] (rewrite w.engine n a v)
store_logged beats w n a v false = store_stripe beats w n a v (stripe_of w.engine.set_up a)

-- an address past the end refuses the store
abbrev pub store_placed : Table → World → ℕ → ℕ → ℕ → Bool → Outcome
store_placed beats w n a v false = refuse w NoSuchPlace
store_placed beats w n a v true = store_logged beats w n a v (has_written (thread_of w.engine n) a)

-- the address counts once the thread is let in
abbrev pub store_admitted : Table → World → ℕ → ℕ → ℕ → Result (Unit {0}) Refusal → Outcome
store_admitted beats w n a v (Err r) = refuse w r
store_admitted beats w n a v (Ok _) = store_placed beats w n a v (nat_lt a (length w.words))

abbrev pub store : Table → World → ℕ → ℕ → ℕ → Outcome
store beats w n a v = store_admitted beats w n a v (admitted w.engine Store n)
