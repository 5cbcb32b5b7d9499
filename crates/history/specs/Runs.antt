-- The record that the rules give of a list of calls.
use Rattle.std.specs.Prelude.{ℕ, List, [], ◌∷◌, Some, None, Option}
use Rattle.common.specs.declared.loss.Loss.{Loss}
use Rattle.history.specs.Law.{Law}
use Rattle.history.specs.Record.{Line}
use Rattle.layout.specs.declared.set_up.SetUp.{SetUp}
use Rattle.rules.specs.Calls.{perform}
use Rattle.rules.specs.NewEngine.{new_world}
use Rattle.rules.specs.Outcomes.{Outcome, Table}
use Rattle.rules.specs.States.{State, World, thread_of}
use Rattle.rules.specs.declared.call.Call.{Call}
use Rattle.rules.specs.declared.phase.Phase.{Phase}
use Rattle.rules.specs.declared.phase.Phase.TheVariants.{Idle, Running, Sealed, Lost}

-- a call with the policy's table at its start
pub record Asked : Type 0 where
  pub table : Table
  pub call : Call

-- the loss that the engine keeps for a thread of this phase
abbrev pub loss_in : Phase → Option Loss
loss_in Idle = None
loss_in Running = None
loss_in (Sealed t d) = None
loss_in (Lost l) = Some l

-- the loss that the engine keeps for each thread
abbrev pub losses_of : State → ℕ → Option Loss
losses_of st n = loss_in (thread_of st n).phase

-- the line of a call with this outcome
abbrev pub line_of : Table → Call → Outcome → Line
line_of beats c o = record {
  table = beats;
  call = c;
  answer = o.answer;
  words = o.after.words;
  losses = losses_of o.after.engine;
}

-- the record of these calls, one after another
abbrev pub recorded_from : World → List Asked → List Line
recorded_from w [] = []
recorded_from w (q ∷ qs) =
    line_of q.table q.call (perform q.table w q.call) ∷ recorded_from (perform q.table w q.call).after qs

-- the record of these calls on a new engine over these words
abbrev pub recorded : SetUp → List ℕ → List Asked → List Line
recorded u ws qs = recorded_from (new_world u ws) qs

-- the record of any calls, under any tables, keeps the law
abbrev pub RunsAreLawful : Type 0
RunsAreLawful = (u : SetUp) (ws : List ℕ) (qs : List Asked) → Law u ws (recorded u ws qs)
