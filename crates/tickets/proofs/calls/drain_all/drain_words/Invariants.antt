use Rattle.memory.specs.Memories.{world}
use Rattle.tickets.proofs.Underway.{Underway}
use Rattle.tickets.proofs.calls.drain_all.drain_words.Given as goal
use Rattle.tickets.specs.Drains.{words_left}

-- what is left is due as all was
abbrev pub invariant-loop : goal.invariant-loop
invariant-loop g l =
    Underway g.S.WordStore.words g.S.WordStore.home g.P.Policy.moved l.initial.memory l.memory l.thread

abbrev pub decreases-loop : goal.decreases-loop
decreases-loop g l = words_left (world g.S.WordStore.words l.memory) l.thread
