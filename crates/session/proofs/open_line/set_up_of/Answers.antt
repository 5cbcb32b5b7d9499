use Rattle.session.proofs.SetUps.{is_set_up_of}
use Rattle.session.proofs.open_line.set_up_of.Goals as goal

pub returns : goal.returns
returns c =
    is_set_up_of c.args.engine.threads c.args.engine.stripes c.args.engine.shift c.args.engine.limit
    c.new.result c.new.ensures
