use Rattle.std.proofs.Common.{◌≡◌, map, None, refl, ap, ◌∙◌, arith}
use Rattle.history.proofs.Prefixes.{beginnings_are_lawful}
use Rattle.history.proofs.Turns.{underway_more, underway_all}
use Rattle.history.proofs.run.run.Goals as goal
use Rattle.history.specs.Turns.{run_from, run_of, calls_of, turn_of}
use Rattle.history.specs.declared.turn.Turn.{Turn}
use Rattle.memory.specs.Memories.{world}
use Rattle.rules.specs.Calls.{perform}
use Rattle.rules.specs.declared.call.Call.TheVariants.{Begin}

-- what stands in a place that no turn has
abbrev blank : Turn
blank = record { call = Begin 0; answer = None }

pub loop-turn-preserved : goal.loop-turn-preserved
unfolding perform
loop-turn-preserved g c = (
  underway_more _ _ _ _ _ _ _ _ _ _ blank _ _ (omega arith) c.loop-turn.auto.turns refl
      (λ k. record { call = c.make.ensures.call k; answer = c.make.ensures.answer k })
      c.make.ensures.made.left c.make.ensures.made.told c.loop-turn.invariant.0,
  c.make.ensures.made.lender ∙ c.loop-turn.invariant.1,
)

pub returns : goal.returns
returns g c =
    let table = g.P.Policy.table in
    let moved = g.P.Policy.moved in
    let words = g.S.WordStore.words in
    let calls = calls_of c.args.turns.now in
    let memory = c.new-memory.result in
    let start = world words memory in
    let due = run_of table moved c.args.set_up (words c.args.store) c.args.policy calls in
    let same : run_from table moved start memory.policy calls ≡ due =
    ap (λ w. run_from table moved w memory.policy calls) c.new-memory.ensures.all_new ∙
    ap (λ p. run_of table moved c.args.set_up (words c.args.store) p calls) c.new-memory.ensures.policy in
    let done =
    underway_all table moved c.args.turns.now (run_from table moved start memory.policy calls)
    c.loop-turn.turns c.loop-turn.turn-index (world words c.loop-turn.memory) c.loop-turn.memory.policy
    c.loop-turn-test.false c.loop-turn.auto.turns c.loop-turn.invariant.0 in
    record {
      answers = done.0 ∙ ap (λ r. map turn_of r.lines) same;
      left = done.1 ∙ ap (λ r. r.world) same;
      told = done.2 ∙ ap (λ r. r.policy) same;
      lender = c.loop-turn.invariant.1 ∙ ap g.S.WordStore.home c.new-memory.ensures.store;
      law = beginnings_are_lawful table moved c.args.set_up (words c.args.store) c.args.policy calls;
    }
