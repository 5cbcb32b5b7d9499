-- The policy of each name.
use Rattle.std.specs.Prelude.{ℕ, Bool}
use Rattle.contention.specs.Events.{Event}
use Rattle.contention.specs.Policies.{no_points, karma_points, nobody_beats, each_beats_other, unmoved, karma_table, karma_moved, new_karma, kill_prio_table, kill_prio_moved, new_kill_prio}
use Rattle.contention.specs.declared.aggressive.Aggressive.{Aggressive}
use Rattle.contention.specs.declared.karma.Karma.{Karma}
use Rattle.contention.specs.declared.kill_prio.KillPrio.{KillPrio}
use Rattle.contention.specs.declared.policy.Points.{Points}
use Rattle.contention.specs.declared.suicide.Suicide.{Suicide}
use Rattle.forms.specs.declared.form.PolicyName.{PolicyName}
use Rattle.forms.specs.declared.form.PolicyName.TheVariants.{Suicide as SuicideName, Aggressive as AggressiveName, Karma as KarmaName, KillPrio as KillPrioName}
use Rattle.rules.specs.States.{World}

-- what is said of a policy's points, table and moves, and of the policy when it is new, said of the policy of this name
abbrev pub by_policy : {T C O : Type 0} → ((P : Type 0) → Points → (P → ℕ → ℕ → Bool) → (P → Event → P) → P → World → T → C → C → O → Type 0) → PolicyName → World → T → C → C → O → Type 0
by_policy does SuicideName w = does Suicide no_points (λ p. nobody_beats) unmoved (record {}) w
by_policy does AggressiveName w = does Aggressive no_points (λ p. each_beats_other) unmoved (record {}) w
by_policy does KarmaName w = does Karma karma_points karma_table karma_moved new_karma w
by_policy does KillPrioName w = does KillPrio no_points kill_prio_table kill_prio_moved new_kill_prio w
