-- Drains one after another, until no word is left.
use Rattle.std.specs.Prelude.{ℕ, zero, suc, ◌-◌, length, Ok, Err, Result}
use Rattle.common.specs.declared.refusal.Refusal.{Refusal}
use Rattle.rules.specs.Admission.{admitted}
use Rattle.rules.specs.Drain.{drain}
use Rattle.rules.specs.Outcomes.{Outcome}
use Rattle.rules.specs.States.{World, Thread, thread_of}
use Rattle.rules.specs.declared.kind.Kind.TheVariants.{Drain}
use Rattle.rules.specs.declared.phase.Phase.{Phase}
use Rattle.rules.specs.declared.phase.Phase.TheVariants.{Idle, Running, Sealed, Lost}

-- the words of a write log that are not drained yet: none unless its transaction is sealed
abbrev pub left_in : ℕ → Phase → ℕ
left_in count Idle = 0
left_in count Running = 0
left_in count (Sealed ticket drained) = count - drained
left_in count (Lost l) = 0

abbrev pub left_of : Thread → Result (Unit {0}) Refusal → ℕ
left_of t (Err r) = 0
left_of t (Ok _) = left_in (length t.writes) t.phase

-- how many words a thread has to drain: none where a drain is refused
unfoldable pub words_left : World → ℕ → ℕ
words_left w n = left_of (thread_of w.engine n) (admitted w.engine Drain n)

-- a drain, and then so many more: what the last of them answers and leaves
unfoldable pub drains : ℕ → World → ℕ → Outcome
drains zero w n = drain w n
drains (suc more) w n = drains more (drain w n).after n

-- as many drains as words are left, and at least one
unfoldable pub drain_all : World → ℕ → Outcome
drain_all w n = drains (words_left w n - 1) w n

-- that no word is left, or why a drain was refused, as a drain says it
abbrev pub none_left : Result (Unit {0}) Refusal → Result ℕ Refusal
none_left (Ok _) = Ok 0
none_left (Err r) = Err r
