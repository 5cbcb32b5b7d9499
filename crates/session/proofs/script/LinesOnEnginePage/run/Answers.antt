use Rattle.std.proofs.Common.{◌≡◌, ℕ, ◌*◌, ◌≤◌, List, ◌++◌, length, sym, ap, ◌∙◌, arith, length-append}
use Rattle.memory.specs.Memories.{world}
use Rattle.printing.proofs.Printed.{printed_as, printed_more}
use Rattle.session.proofs.Columns.{line_turn_column, line_within}
use Rattle.session.proofs.Texts.{lines_text_more, lines_text_none}
use Rattle.session.proofs.Underway.{underway_none, underway_more, underway_all}
use Rattle.session.proofs.script.LinesOnEnginePage.run.Goals as goal
use Rattle.session.specs.Lengths.{reply_column}
use Rattle.session.specs.Replies.{reply_text}
use Rattle.session.specs.Scripts.{lines_text, engine_text}
use Rattle.session.specs.declared.reply.Reply.TheVariants.{Points}
use Rattle.text.specs.Lines.{lines}
use Rattle.text.specs.Views.{line_view}

pub loop-line-init : goal.loop-line-init
loop-line-init g c =
    let script = c.into_iter-line-iterator.result in
    let memory = c.args.memory in
    let text = lines_text g.P.Policy.table g.P.Policy.moved memory.policy (world g.S.WordStore.words memory) (lines script) in
    (underway_none (length script ≤ 32768) text c.print.new.page (31 * length (lines script)), omega arith)

pub loop-line-preserved : goal.loop-line-preserved
loop-line-preserved g c =
    let table = g.P.Policy.table in
    let moved = g.P.Policy.moved in
    let words = g.S.WordStore.words in
    let before = c.loop-line.memory in
    let after = c.answer_line.new.memory in
    let line = line_view c.in-Some.line in
    let rest = lines c.next.new.self in
    let here = lines c.loop-line.line-iterator in
    let cut = c.in-Some.ensures.steps in
    let reply = c.answer_line.result in
    let spoke = c.answer_line.ensures in (
      underway_more (reply_text reply)
          (lines_text table moved after.policy (world words after) rest)
          c.loop-line.invariant.0
          (lines_text_more table moved before.policy after.policy (world words before) (world words after) reply line rest here (sym cut.0) spoke.replied spoke.left spoke.told)
          c.print-in-loop-line.ensures.printed
          (λ small.
          let within : reply_column reply ≤ 32769 = omega (arith, ap reply_column spoke.replied, line_turn_column (table before.policy) (world words before) line, line_within line rest c.loop-line.line-iterator (sym cut.0), c.loop-line.invariant.1) in
          omega (arith, c.print-in-loop-line.ensures.brief within, ap length cut.0)),
      omega (arith, cut.1, c.loop-line.invariant.1),
    )

pub returns : goal.returns
returns g c =
    let table = g.P.Policy.table in
    let moved = g.P.Policy.moved in
    let words = g.S.WordStore.words in
    let memory = c.args.memory in
    let script = c.into_iter-line-iterator.result in
    let same : script ≡ c.args.self = c.into_iter-line-iterator.ensures.into_iter_gives in
    let text = λ (bs : List ℕ). lines_text table moved memory.policy (world words memory) (lines bs) in
    let points = reply_text (Points c.points.result) in
    let rest = lines c.loop-line.line-iterator in
    let done =
    underway_all c.loop-line.invariant.0
    (lines_text_none table moved c.loop-line.memory.policy (world words c.loop-line.memory) rest (sym c.in-None.ensures.steps.0.0)) in
    let all : points ++ text script ≡ engine_text (record { load = g.P.Policy.LOAD_POINTS; take = g.P.Policy.TAKE_POINTS }) table moved memory.policy (world words memory) (lines c.args.self) =
    ap (λ bs. points ++ text bs) same ∙ ap (λ p. reply_text (Points p) ++ text c.args.self) c.points.ensures in
    record {
      printed = printed_as all (printed_more c.print.ensures.printed done.all);
      brief = λ small.
          let first = c.print.ensures.brief (omega arith) in
          let behind = done.short (omega (arith, small, ap length same)) in
          omega (arith, length-append points (text script), first, behind, ap length all, ap (λ bs. length (lines bs)) same);
    }
