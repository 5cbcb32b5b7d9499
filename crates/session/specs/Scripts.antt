-- What a script prints.
use Rattle.std.specs.Prelude.{List, [], ◌∷◌, ◌++◌, replicate, Ok, Err, ℕ}
use Rattle.contention.specs.Events.{Event, after_events}
use Rattle.contention.specs.Policies.{no_points, karma_points, nobody_beats, each_beats_other, unmoved, karma_table, karma_moved, new_karma, kill_prio_table, kill_prio_moved, new_kill_prio}
use Rattle.contention.specs.declared.aggressive.Aggressive.{Aggressive}
use Rattle.contention.specs.declared.policy.Points.{Points}
use Rattle.contention.specs.declared.suicide.Suicide.{Suicide}
use Rattle.forms.specs.declared.form.PolicyName.{PolicyName}
use Rattle.forms.specs.declared.form.PolicyName.TheVariants.{Suicide as SuicideName, Aggressive as AggressiveName, Karma as KarmaName, KillPrio as KillPrioName}
use Rattle.rules.specs.NewEngine.{new_world}
use Rattle.rules.specs.Outcomes.{Table}
use Rattle.rules.specs.States.{World}
use Rattle.session.specs.Openings.{opening}
use Rattle.session.specs.Replies.{reply_text}
use Rattle.session.specs.Turns.{line_turn}
use Rattle.session.specs.declared.reply.Reply.TheVariants.{Points as PointsReply}
use Rattle.text.specs.Lines.{Line}

-- what lines print on a memory, one after another
unfoldable pub lines_text : {P : Type 0} → (P → Table) → (P → Event → P) → P → World → List Line → List ℕ
lines_text table moved p w [] = []
lines_text table moved p w (l ∷ ls) =
    reply_text (line_turn (table p) w l).reply ++
    lines_text table moved (after_events moved p (line_turn (table p) w l).told) (line_turn (table p) w l).after ls

-- what an engine with a policy prints: the policy's points, and then what the lines do
abbrev pub engine_text : {P : Type 0} → Points → (P → Table) → (P → Event → P) → P → World → List Line → List ℕ
engine_text points table moved p w ls = reply_text (PointsReply points) ++ lines_text table moved p w ls

-- the policy of this name
abbrev pub policy_text : PolicyName → World → List Line → List ℕ
policy_text SuicideName w ls = engine_text no_points (λ p. nobody_beats) (unmoved {P = Suicide}) (record {}) w ls
policy_text AggressiveName w ls = engine_text no_points (λ p. each_beats_other) (unmoved {P = Aggressive}) (record {}) w ls
policy_text KarmaName w ls = engine_text karma_points karma_table karma_moved new_karma w ls
policy_text KillPrioName w ls = engine_text no_points kill_prio_table kill_prio_moved new_kill_prio w ls

-- what a script prints from its lines on, before there is an engine; the engine's words all start at 0
unfoldable pub script_text : List Line → List ℕ
script_text [] = []
script_text (l ∷ ls) =
    elim (opening l) [ Err r ↦ reply_text r ++ script_text ls | Ok o ↦ policy_text o.engine.policy (new_world o.set_up (replicate o.engine.words 0)) ls ]
