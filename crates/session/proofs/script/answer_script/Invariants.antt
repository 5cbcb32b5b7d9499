use Rattle.std.proofs.Common.{◌*◌, ◌≤◌, length}
use Rattle.session.proofs.Underway.{Underway}
use Rattle.session.proofs.script.answer_script.Given as goal
use Rattle.session.specs.Scripts.{script_text}
use Rattle.text.specs.Lines.{lines}

abbrev pub invariant-loop-line : goal.invariant-loop-line
invariant-loop-line l =
    Underway (length l.script ≤ 32768) (script_text (lines l.script)) (script_text (lines l.lines))
    l.initial.page l.page (31 * length (lines l.lines)) (31 * length (lines l.script)) ×
    (length l.lines ≤ length l.script)

abbrev pub decreases-loop-line : goal.decreases-loop-line
decreases-loop-line l = length l.lines
