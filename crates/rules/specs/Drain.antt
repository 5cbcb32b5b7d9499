-- drain: the next word of a sealed transaction into the store.
use Rattle.std.specs.Prelude.{ℕ, ◌+◌, ◌-◌, cond, List, [], length, Some, None, Ok, Err, Option, Result, ◌==◌, slice_set}
use Rattle.common.specs.declared.refusal.Refusal.{Refusal}
use Rattle.common.specs.declared.refusal.Refusal.TheVariants.{WrongState}
use Rattle.layout.specs.declared.entries.WriteEntry.{WriteEntry}
use Rattle.rules.specs.Admission.{admitted}
use Rattle.rules.specs.Maps.{each}
use Rattle.rules.specs.Outcomes.{Outcome, refuse, done}
use Rattle.rules.specs.States.{State, World, Stripe, thread_of, with_stripes, enter}
use Rattle.rules.specs.declared.answer.Answer.TheVariants.{Left}
use Rattle.rules.specs.declared.kind.Kind.TheVariants.{Drain}
use Rattle.rules.specs.declared.phase.Phase.{Phase}
use Rattle.rules.specs.declared.phase.Phase.TheVariants.{Idle, Running, Sealed, Lost}
use Rattle.std.specs.List.{slice_get}
use Rattle.std.specs.Option.{unwrap_or}

-- a stripe of the thread without its owner, at the new version if there is one; any other stripe as it is
abbrev pub freed : ℕ → Option ℕ → Stripe → Stripe
freed n v x = cond (x.owner == n) (record { version = unwrap_or v x.version; owner = 0 }) x

-- the thread owns nothing any more, and is idle
abbrev pub release : State → ℕ → Option ℕ → State
release st n v = enter (with_stripes st (each (freed n v) st.stripes)) n Idle

-- the engine when this many words are left after this many were drained
abbrev pub settle : State → ℕ → ℕ → ℕ → ℕ → State
settle st n ticket drained left = cond (left == 0) (release st n (Some ticket)) (enter st n (Sealed ticket drained))

-- the next entry is the one after those that were drained; with none left nothing is written
abbrev pub drain_next : World → ℕ → ℕ → ℕ → ℕ → Option WriteEntry → Outcome
drain_next w n ticket drained count None = done w (Left 0) [] (release w.engine n (Some ticket))
drain_next w n ticket drained count (Some e) = record {
  answer = Left (count - (drained + 1));
  told = [];
  after = record {
    engine = settle w.engine n ticket (drained + 1) (count - (drained + 1));
    words = slice_set w.words e.address e.word;
  };
}

-- the next entry of the write log
abbrev pub drain_log : World → ℕ → ℕ → ℕ → List WriteEntry → Outcome
drain_log w n ticket drained writes = drain_next w n ticket drained (length writes) (slice_get writes drained)

-- only a sealed thread has words to drain
abbrev pub drain_sealed : World → ℕ → Phase → Outcome
drain_sealed w n (Sealed ticket drained) =
    drain_log w n ticket drained (thread_of w.engine n).writes
drain_sealed w n Idle = refuse w WrongState
drain_sealed w n Running = refuse w WrongState
drain_sealed w n (Lost l) = refuse w WrongState

-- the next word is drained once the thread is let in
abbrev pub drain_admitted : World → ℕ → Result (Unit {0}) Refusal → Outcome
drain_admitted w n (Err r) = refuse w r
drain_admitted w n (Ok _) = drain_sealed w n (thread_of w.engine n).phase

abbrev pub drain : World → ℕ → Outcome
drain w n = drain_admitted w n (admitted w.engine Drain n)
