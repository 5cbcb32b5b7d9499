-- A list of calls made by the rules, with the policy told of each before the next.
use Rattle.std.specs.Prelude.{ℕ, List, [], ◌∷◌, map, Some}
use Rattle.contention.specs.Events.{Event, after_events}
use Rattle.history.specs.Record.{Line}
use Rattle.history.specs.Runs.{line_of}
use Rattle.history.specs.declared.turn.Turn.{Turn}
use Rattle.layout.specs.declared.set_up.SetUp.{SetUp}
use Rattle.rules.specs.Calls.{perform}
use Rattle.rules.specs.NewEngine.{new_world}
use Rattle.rules.specs.Outcomes.{Table}
use Rattle.rules.specs.States.{World}
use Rattle.rules.specs.declared.call.Call.{Call}

-- a run: its record, and what it leaves of the world and of the policy
pub record Run (P : Type 0) : Type 0 where
  pub lines : List Line
  pub world : World
  pub policy : P

-- a run that begins with this line
abbrev pub begun_by : {P : Type 0} → Line → Run P → Run P
begun_by l r = record r { lines = l ∷ r.lines }

module _ {P : Type 0} (table : P → Table) (moved : P → Event → P) where
  -- these calls, from this world and this policy
  abbrev pub run_from : World → P → List Call → Run P
  run_from w p [] = record { lines = []; world = w; policy = p }
  run_from w p (c ∷ cs) =
      begun_by (line_of (table p) c (perform (table p) w c))
      (run_from (perform (table p) w c).after (after_events moved p (perform (table p) w c).told) cs)

  -- these calls on a new memory over these words
  abbrev pub run_of : SetUp → List ℕ → P → List Call → Run P
  run_of u ws p cs = run_from (new_world u ws) p cs

-- a line as a turn shows it
abbrev pub turn_of : Line → Turn
turn_of l = record { call = l.call; answer = Some l.answer }

-- the calls of these turns
abbrev pub calls_of : List Turn → List Call
calls_of ts = map (λ t. t.call) ts
