use Rattle.std.proofs.Common.{rules, arith, ◌∙◌}
use Rattle.forms.proofs.Steps.{numbers_turn}
use Rattle.forms.proofs.numbers.numbers.Goals as goal

pub loop-number-preserved : goal.loop-number-preserved
loop-number-preserved g c =
    let l = c.loop-number in
    record {
      whole = search rules;
      so_far = numbers_turn l.number-items l.number-index g.row.N c.in_ok-number.field-0 _ _ (omega arith) l.invariant.whole (search rules) ∙ l.invariant.so_far;
    }
