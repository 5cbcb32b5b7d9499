use Rattle.std.proofs.Common.{◌≡◌, ◌+◌, drop}
use Rattle.text.specs.Verdicts.{reached}
use Rattle.text.specs.declared.place.Place.TheVariants.{Start}
use Rattle.text.proofs.place.reached.Given as goal

abbrev pub invariant-loop-i : goal.invariant-loop-i
invariant-loop-i l = reached l.place (l.i + 1) (drop l.i l.bytes) ≡ reached Start 1 l.bytes
