use Rattle.std.proofs.Common.{rules}
use Rattle.std.proofs.lemmas.Iterator.Consumers.{YieldsList-from_shown, count_from_yields_List}
use Rattle.text.specs.Lines.{lines}
use Rattle.text.specs.Views.{line_view, TakesLine}
use Rattle.text.proofs.line.line_count.Goals as goal

pub returns : goal.returns
returns c =
    let road = YieldsList-from_shown TakesLine line_view lines (λ s t h. search rules) (λ s x t h. h.0) c.new.result in
    let counted = count_from_yields_List c.new.result c.count.result c.count.ensures.ran road in
    search (rules, counted)
