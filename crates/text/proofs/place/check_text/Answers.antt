use Rattle.text.proofs.Judgments.{judged}
use Rattle.text.specs.Views.{line_view}
use Rattle.text.proofs.place.check_text.Goals as goal

pub returns-clause-judged : goal.returns-clause-judged
returns-clause-judged c = rw c.verdict.ensures (judged (line_view c.args.line))
