use Rattle.std.proofs.Common.{rules}
use Rattle.std.proofs.lemmas.Iterator.{IsFirst-from_position, YieldsList-from_slice}
use borrow.Author.Tests.{tests}
use Rattle.layout.proofs.Places.{Has, Lacks, place}
use Rattle.layout.proofs.lookup.position.Goals as goal

pub returns : goal.returns
returns g c =
    place g.E.Keyed.key c.args.key c.args.entries.now c.position.result
    (IsFirst-from_position _ _ c.position.result (Has g.E.Keyed.key c.args.key) (Lacks g.E.Keyed.key c.args.key) c.position.ensures.ran
    (YieldsList-from_slice c.args.entries.now cc) (λ x q k. search (rules, tests)) (λ x q k. search (rules, tests)))
