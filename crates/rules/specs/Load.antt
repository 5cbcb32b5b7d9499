-- load: the word at an address, as the transaction sees it.
use Rattle.std.specs.Prelude.{ℕ, Bool, true, false, cond, not, ◌&&◌, List, [], ◌∷◌, ◌++◌, length, is_some, Some, None, Ok, Err, Option, Result, nat_le, nat_lt, slice_index}
use Rattle.common.specs.declared.refusal.Refusal.{Refusal}
use Rattle.common.specs.declared.refusal.Refusal.TheVariants.{NoSuchPlace, LogFull, StripeBusy}
use Rattle.contention.specs.Events.{word_loaded}
use Rattle.layout.specs.Lookups.{first_with}
use Rattle.layout.specs.SetUps.{stripe_of}
use Rattle.layout.specs.declared.entries.WriteEntry.{WriteEntry}
use Rattle.rules.specs.Admission.{admitted}
use Rattle.rules.specs.Conflicts.{busy, refresh, contend}
use Rattle.rules.specs.Outcomes.{Outcome, Step, Table, goes, loses, refuse, lost, done}
use Rattle.rules.specs.States.{State, World, Thread, thread_of, stripe_at, with_thread, with_reads}
use Rattle.rules.specs.declared.answer.Answer.TheVariants.{Word}
use Rattle.rules.specs.declared.kind.Kind.TheVariants.{Load}

-- a log holds at most this many entries
abbrev pub capacity : ℕ
capacity = 32

-- no entry fits any more
abbrev pub is_full : {E : Type 0} → List E → Bool
is_full es = nat_le capacity (length es)

-- a log with one more entry, where there is room
abbrev pub grown : {E : Type 0} → List E → E → List E
grown es e = cond (nat_lt (length es) capacity) (es ++ e ∷ []) es

-- the stripe is in the read log
abbrev pub has_read : Thread → ℕ → Bool
has_read t s = is_some (first_with (λ e. e.stripe) s t.reads)

-- the entry that the write log has for the address
abbrev pub written : Thread → ℕ → Option WriteEntry
written t a = first_with (λ e. e.address) a t.writes

-- the thread notes the stripe at this version, unless it is known
abbrev pub note_at : State → ℕ → ℕ → ℕ → Bool → State
note_at st n s v true = st
note_at st n s v false =
    with_thread st n
    (with_reads (thread_of st n) (grown (thread_of st n).reads (record { stripe = s; version = v })))

-- the thread notes the stripe at the version that it has now, unless it is known
abbrev pub note_read : State → ℕ → ℕ → Bool → State
note_read st n s known = note_at st n s (stripe_at st s).version known

-- the word of the store, once the stripe is won
abbrev pub load_won : World → ℕ → ℕ → ℕ → Bool → Step → Outcome
load_won w n a s known (loses l st) = lost w l st
load_won w n a s known (goes st es) =
    done w (Word (slice_index w.words a)) (word_loaded n ∷ es) (note_read st n s known)

-- the rival is met once the read log is fresh
abbrev pub load_fresh : Table → World → ℕ → ℕ → ℕ → Bool → Step → Outcome
load_fresh beats w n a s known (loses l st) = lost w l st
load_fresh beats w n a s known (goes st es) = load_won w n a s known (contend beats st n s)

-- a busy stripe refuses the load
abbrev pub load_free : Table → World → ℕ → ℕ → ℕ → Bool → Bool → Outcome
load_free beats w n a s known true = refuse w StripeBusy
load_free beats w n a s known false = load_fresh beats w n a s known (refresh w.engine n s)

-- a read log without room for the stripe refuses the load
abbrev pub load_roomy : Table → World → ℕ → ℕ → ℕ → Bool → Bool → Outcome
load_roomy beats w n a s known true = refuse w LogFull
load_roomy beats w n a s known false = load_free beats w n a s known (busy w.engine n s)

-- a load from the store, through the stripe of the address, which may be known from an earlier load
abbrev pub load_stripe : Table → World → ℕ → ℕ → ℕ → Bool → Outcome
load_stripe beats w n a s known =
    load_roomy beats w n a s known (not known && is_full (thread_of w.engine n).reads)

-- a word of the own write log is answered at once
abbrev pub load_logged : Table → World → ℕ → ℕ → Option WriteEntry → Outcome
load_logged beats w n a (Some e) = done w (Word e.word) (word_loaded n ∷ []) w.engine
load_logged beats w n a None =
    load_stripe beats w n a (stripe_of w.engine.set_up a)
    (has_read (thread_of w.engine n) (stripe_of w.engine.set_up a))

-- an address past the end refuses the load
abbrev pub load_placed : Table → World → ℕ → ℕ → Bool → Outcome
load_placed beats w n a false = refuse w NoSuchPlace
load_placed beats w n a true = load_logged beats w n a (written (thread_of w.engine n) a)

-- the address counts once the thread is let in
abbrev pub load_admitted : Table → World → ℕ → ℕ → Result (Unit {0}) Refusal → Outcome
load_admitted beats w n a (Err r) = refuse w r
load_admitted beats w n a (Ok _) = load_placed beats w n a (nat_lt a (length w.words))

abbrev pub load : Table → World → ℕ → ℕ → Outcome
load beats w n a = load_admitted beats w n a (admitted w.engine Load n)
