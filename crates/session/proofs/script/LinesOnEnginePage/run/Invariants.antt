use Rattle.std.proofs.Common.{◌*◌, ◌≤◌, length}
use Rattle.memory.specs.Memories.{world}
use Rattle.session.proofs.Underway.{Underway}
use Rattle.session.proofs.script.LinesOnEnginePage.run.Given as goal
use Rattle.session.specs.Scripts.{lines_text}
use Rattle.text.specs.Lines.{lines}

-- the lines so far are answered
abbrev pub invariant-loop-line : goal.invariant-loop-line
invariant-loop-line g l =
    Underway (length l.initial.line-iterator ≤ 32768)
    (lines_text g.P.Policy.table g.P.Policy.moved l.initial.memory.policy (world g.S.WordStore.words l.initial.memory) (lines l.initial.line-iterator))
    (lines_text g.P.Policy.table g.P.Policy.moved l.memory.policy (world g.S.WordStore.words l.memory) (lines l.line-iterator))
    l.initial.page l.page (31 * length (lines l.line-iterator)) (31 * length (lines l.initial.line-iterator)) ×
    (length l.line-iterator ≤ length l.initial.line-iterator)
