use Rattle.std.proofs.Common.{ap, ◌∙◌}
use Rattle.session.proofs.Openings.{small_accepted}
use Rattle.session.proofs.open_line.open_engine.Goals as goal
use Rattle.session.specs.Openings.{set_up_opening}

pub returns : goal.returns
returns c = small_accepted c.args.engine c.in_ok-set_up.set_up _ ∙ ap (set_up_opening c.args.engine) c.in_ok-set_up.ensures
