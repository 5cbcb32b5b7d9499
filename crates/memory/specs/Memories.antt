-- A memory as the rules see it, and what a call leaves of it.
use Rattle.std.specs.Prelude.{◌≡◌, ℕ, List}
use Rattle.contention.specs.Events.{Event, after_events}
use Rattle.memory.specs.Views.{engine_view}
use Rattle.memory.specs.declared.memory.Memory.{Memory}
use Rattle.rules.specs.Outcomes.{Outcome}
use Rattle.rules.specs.States.{World}
use Rattle.rules.specs.declared.answer.Answer.{Answer}
use Rattle.stores.specs.Homes.{Home}

-- the engine and the words of a memory
abbrev pub world : {S P : Type 0} → (S → List ℕ) → Memory S P → World
world words m = record { engine = engine_view m.engine; words = words m.words }

-- a call did what a rule says: its answer, the engine and the words after it, and the policy moved by what it is told, in order.
-- The words stay in the memory that they were lent
pub record Did {S P : Type 0} (words : S → List ℕ) (home : S → Home) (moved : P → Event → P) (before after : Memory S P) (answer : Answer) (due : Outcome) : Type 0 where
  pub answered : answer ≡ due.answer
  pub left : world words after ≡ due.after
  pub told : after.policy ≡ after_events moved before.policy due.told
  pub lender : home after.words ≡ home before.words
