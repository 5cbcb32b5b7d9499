use Rattle.std.proofs.Common.{◌≡◌}
use Rattle.history.proofs.Turns.{Underway}
use Rattle.history.proofs.run.run.Given as goal
use Rattle.history.specs.Turns.{run_from, calls_of}
use Rattle.memory.specs.Memories.{world}

abbrev pub invariant-loop-turn : goal.invariant-loop-turn
invariant-loop-turn g l =
    Underway g.P.Policy.table g.P.Policy.moved l.initial.turns
    (run_from g.P.Policy.table g.P.Policy.moved (world g.S.WordStore.words l.initial.memory) l.initial.memory.policy (calls_of l.initial.turns))
    l.turns l.turn-index (world g.S.WordStore.words l.memory) l.memory.policy ×
    (g.S.WordStore.home l.memory.words ≡ g.S.WordStore.home l.initial.memory.words)
