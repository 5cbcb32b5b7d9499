-- What the next line of a script prints.
use Rattle.std.proofs.Common.{◌≡◌, ℕ, List, [], ◌∷◌, ◌++◌, replicate, Ok, Err, sym, ap, ◌∙◌}
use Rattle.contention.specs.Events.{Event, after_events}
use Rattle.forms.specs.declared.form.PolicyName.{PolicyName}
use Rattle.forms.specs.declared.form.PolicyName.TheVariants.{Suicide, Aggressive, Karma, KillPrio}
use Rattle.printing.specs.declared.page.Page.{Page}
use Rattle.rules.specs.NewEngine.{new_world}
use Rattle.rules.specs.Outcomes.{Table}
use Rattle.rules.specs.States.{World}
use Rattle.session.specs.Answering.{Answered, AnswersOn}
use Rattle.session.specs.Openings.{opening}
use Rattle.session.specs.Policies.{by_policy}
use Rattle.session.specs.Replies.{reply_text}
use Rattle.session.specs.Scripts.{lines_text, policy_text, script_text}
use Rattle.session.specs.Turns.{line_turn}
use Rattle.session.specs.declared.opening.Opening.{Opening}
use Rattle.session.specs.declared.reply.Reply.{Reply}
use Rattle.text.specs.Lines.{Line, lines}

-- a line on a memory prints its reply, and the lines behind it go on from what it left
pub lines_text_more : {P : Type 0} (table : P → Table) (moved : P → Event → P) (p p' : P) (w w' : World) (r : Reply) (l : Line) (ls all : List Line) → l ∷ ls ≡ all → r ≡ (line_turn (table p) w l).reply → w' ≡ (line_turn (table p) w l).after → p' ≡ after_events moved p (line_turn (table p) w l).told → lines_text table moved p w all ≡ reply_text r ++ lines_text table moved p' w' ls
unfolding lines_text
lines_text_more table moved p p' w w' r l ls all e replied left told =
    sym (ap (lines_text table moved p w) e)
    ∙ ap (λ x. reply_text x ++ lines_text table moved (after_events moved p (line_turn (table p) w l).told) (line_turn (table p) w l).after ls) (sym replied)
    ∙ ap (λ x. reply_text r ++ lines_text table moved (after_events moved p (line_turn (table p) w l).told) x ls) (sym left)
    ∙ ap (λ x. reply_text r ++ lines_text table moved x w' ls) (sym told)

-- no line prints nothing
pub lines_text_none : {P : Type 0} (table : P → Table) (moved : P → Event → P) (p : P) (w : World) (all : List Line) → [] ≡ all → lines_text table moved p w all ≡ []
unfolding lines_text
lines_text_none table moved p w all e = sym (ap (lines_text table moved p w) e)

-- a line that makes no engine prints its reply
pub script_text_more : (r : Reply) (l : Line) (ls all : List Line) → l ∷ ls ≡ all → Err r ≡ opening l → script_text all ≡ reply_text r ++ script_text ls
unfolding script_text
script_text_more r l ls all e o =
    sym (ap script_text e)
    ∙ ap (λ x. elim x [ Err q ↦ reply_text q ++ script_text ls | Ok p ↦ policy_text p.engine.policy (new_world p.set_up (replicate p.engine.words 0)) ls ]) (sym o)

-- an engine answers all lines behind its form
pub script_text_made : (p : Opening) (l : Line) (ls all : List Line) → l ∷ ls ≡ all → Ok p ≡ opening l → script_text all ≡ policy_text p.engine.policy (new_world p.set_up (replicate p.engine.words 0)) ls
unfolding script_text
script_text_made p l ls all e o =
    sym (ap script_text e)
    ∙ ap (λ x. elim x [ Err q ↦ reply_text q ++ script_text ls | Ok q ↦ policy_text q.engine.policy (new_world q.set_up (replicate q.engine.words 0)) ls ]) (sym o)

-- no line prints nothing
pub script_text_none : (all : List Line) → [] ≡ all → script_text all ≡ []
unfolding script_text
script_text_none all e = sym (ap script_text e)

-- what an engine with the policy of a name prints
pub answered_by_policy : (name : PolicyName) (w : World) (script : List ℕ) (before after : Page) (done : Unit {0}) → by_policy AnswersOn name w script before after done → Answered (policy_text name w (lines script)) script before after
answered_by_policy Suicide w script before after done a = a
answered_by_policy Aggressive w script before after done a = a
answered_by_policy Karma w script before after done a = a
answered_by_policy KillPrio w script before after done a = a
