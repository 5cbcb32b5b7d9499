use Rattle.std.proofs.Common.{ℕ, ◌*◌, ◌≤◌, List, length, replicate, sym, ap, arith, subst}
use Rattle.rules.specs.NewEngine.{new_world}
use Rattle.session.proofs.Columns.{opening_within, line_within}
use Rattle.session.proofs.Texts.{script_text_more, script_text_made, script_text_none, answered_by_policy}
use Rattle.session.proofs.Underway.{Underway, underway_none, underway_more, underway_all, underway_last}
use Rattle.session.proofs.script.answer_script.Goals as goal
use Rattle.session.specs.Lengths.{reply_column}
use Rattle.session.specs.Replies.{reply_text}
use Rattle.session.specs.Scripts.{policy_text, script_text}
use Rattle.text.specs.Lines.{lines}
use Rattle.text.specs.Views.{line_view}

pub loop-line-init : goal.loop-line-init
loop-line-init c =
    let script = c.args.script.now in
    let page = c.args.page.now in
    let total = 31 * length (lines script) in
    subst (λ (bs : List ℕ). Underway (length script ≤ 32768) (script_text (lines script)) (script_text (lines bs)) page page (31 * length (lines bs)) total × (length bs ≤ length script))
    (sym c.new-lines.ensures)
    (underway_none (length script ≤ 32768) (script_text (lines script)) page total, omega arith)

pub loop-line-preserved : goal.loop-line-preserved
loop-line-preserved c =
    let line = line_view c.in-Some.line in
    let rest = lines c.next.new.self in
    let cut = c.in-Some.ensures.steps in
    let reply = c.in-Err.reply in (
      underway_more (reply_text reply) (script_text rest)
          c.loop-line.invariant.0
          (script_text_more reply line rest (lines c.loop-line.lines) (sym cut.0) c.in-Err.ensures)
          c.print.ensures.printed
          (λ small.
          let within : reply_column reply ≤ 32769 = omega (arith, opening_within line reply c.in-Err.ensures, line_within line rest c.loop-line.lines (sym cut.0), c.loop-line.invariant.1) in
          omega (arith, c.print.ensures.brief within, ap length cut.0)),
      omega (arith, cut.1, c.loop-line.invariant.1),
    )

pub returns-in-Ok : goal.returns-in-Ok
returns-in-Ok c =
    let opening = c.in-Ok.opening in
    let line = line_view c.in-Some.line in
    let rest = c.next.new.self in
    let cut = c.in-Some.ensures.steps in
    let world = new_world opening.set_up (replicate opening.engine.words 0) in
    let on_engine = answered_by_policy opening.engine.policy world rest _ _ _ c.make_engine.ensures in
    let done =
    underway_last (policy_text opening.engine.policy world (lines rest))
    c.loop-line.invariant.0
    (script_text_made opening line (lines rest) (lines c.loop-line.lines) (sym cut.0) c.in-Ok.ensures)
    on_engine.printed
    (λ small.
    let within : length rest ≤ 32768 = omega (arith, cut.1, c.loop-line.invariant.1) in
    omega (arith, on_engine.brief within, ap length cut.0)) in
    record { printed = done.all; brief = λ small. omega (arith, done.short small) }

pub returns : goal.returns
returns c =
    let done = underway_all c.loop-line.invariant.0 (script_text_none (lines c.loop-line.lines) (sym c.in_default.ensures.steps.0.0)) in
    record { printed = done.all; brief = λ small. omega (arith, done.short small) }
