use Rattle.std.proofs.Common.{◌≡◌, ◌<◌, drop}
use Rattle.text.specs.Numerals.{value_after}
use Rattle.text.proofs.numeral.numeral.Given as goal

abbrev pub invariant-loop-digit : goal.invariant-loop-digit
invariant-loop-digit l =
    (l.value < 4294967296) × (value_after l.value (drop l.digit-index l.digits) ≡ value_after 0 l.digits)
