-- The rules of the four policies: their points, their tables, and what each event moves.
use Rattle.std.specs.Prelude.{ℕ, ◌+◌, Bool, false, not, List, ◌==◌}
use Rattle.contention.specs.Events.{Event, word_loaded, stripe_taken, win_over, seal_of}
use Rattle.contention.specs.Ranks.{no_counts, count_of, grown, cleared, outranks}
use Rattle.contention.specs.declared.karma.Karma.{Karma}
use Rattle.contention.specs.declared.kill_prio.KillPrio.{KillPrio}
use Rattle.contention.specs.declared.policy.Points.{Points}

-- nothing counts
abbrev pub no_points : Points
no_points = record { load = 0; take = 0 }

-- no event moves the policy
abbrev pub unmoved : {P : Type 0} → P → Event → P
unmoved p e = p

-- Suicide: nobody beats anybody
abbrev pub nobody_beats : ℕ → ℕ → Bool
nobody_beats a b = false

-- Aggressive: each thread beats each other
abbrev pub each_beats_other : ℕ → ℕ → Bool
each_beats_other a b = not (a == b)

-- Karma: 1 for a loaded word, 10 for a taken stripe
abbrev pub karma_points : Points
karma_points = record { load = 1; take = 10 }

-- Karma: a count grows with the thread's work, survives a loss, and goes back to 0 at the seal
abbrev pub karma_counts : List ℕ → Event → List ℕ
karma_counts counts (word_loaded n) = grown counts n karma_points.load
karma_counts counts (stripe_taken n) = grown counts n karma_points.take
karma_counts counts (win_over winner loser) = counts
karma_counts counts (seal_of n) = cleared counts n

-- Karma with these counts
abbrev pub karma_of : List ℕ → Karma
karma_of counts = record { counts = record { cells = counts } }

-- Karma before it is told anything
abbrev pub new_karma : Karma
new_karma = karma_of no_counts

-- the higher count beats
abbrev pub karma_table : Karma → ℕ → ℕ → Bool
karma_table k = outranks k.counts.cells

-- Karma after an event
abbrev pub karma_moved : Karma → Event → Karma
karma_moved k e = karma_of (karma_counts k.counts.cells e)

-- KillPrio: a win adds the loser's count plus 1 to the winner's, and a seal takes it back to 0
abbrev pub kill_prio_counts : List ℕ → Event → List ℕ
kill_prio_counts counts (word_loaded n) = counts
kill_prio_counts counts (stripe_taken n) = counts
kill_prio_counts counts (win_over winner loser) = grown counts winner (count_of counts loser + 1)
kill_prio_counts counts (seal_of n) = cleared counts n

-- KillPrio with these counts
abbrev pub kill_prio_of : List ℕ → KillPrio
kill_prio_of counts = record { counts = record { cells = counts } }

-- KillPrio before it is told anything
abbrev pub new_kill_prio : KillPrio
new_kill_prio = kill_prio_of no_counts

-- the higher count beats
abbrev pub kill_prio_table : KillPrio → ℕ → ℕ → Bool
kill_prio_table k = outranks k.counts.cells

-- KillPrio after an event
abbrev pub kill_prio_moved : KillPrio → Event → KillPrio
kill_prio_moved k e = kill_prio_of (kill_prio_counts k.counts.cells e)
