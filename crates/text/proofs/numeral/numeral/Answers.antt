use Rattle.std.proofs.Common.{◌+◌, drop, sym, ap, ◌∙◌}
use Rattle.std.proofs.lemmas.List.{at_drop_more}
use Rattle.text.proofs.Digits.{never_fits}
use Rattle.text.specs.Numerals.{fitting, value_after}
use Rattle.text.proofs.numeral.numeral.Goals as goal

pub returns-in_err-value : goal.returns-in_err-value
returns-in_err-value c =
    let e = at_drop_more (value_after c.loop-digit.value) c.args.digits.now c.loop-digit.digit-index 0 c.loop-digit-test.true in
    let n = never_fits _ (drop (c.loop-digit.digit-index + 1) c.args.digits.now) c.in_err-value.ensures in
    c.from_residual.ensures ∙ n ∙ ap fitting (sym e ∙ c.loop-digit.invariant.1)
