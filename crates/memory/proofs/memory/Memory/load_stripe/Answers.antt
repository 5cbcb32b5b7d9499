use Rattle.std.proofs.Common.{◌≡◌, rules}
use Rattle.memory.proofs.Keeps.{refresh_keeps, contend_keeps}
use Rattle.memory.proofs.memory.Memory.load_stripe.Goals as goal
use Rattle.memory.specs.Views.{engine_view, owner_number, stripe_table}
use Rattle.rules.specs.Conflicts.{rival_of}

pub returns-in_err-contend : goal.returns-in_err-contend
returns-in_err-contend g c =
    let kept : stripe_table c.refresh.new.self.stripes.all ≡ stripe_table c.args.self.now.engine.stripes.all =
    refresh_keeps _ _ _ _ _ c.in_ok-refresh.ensures in
    search rules

pub returns : goal.returns
returns g c =
    let kept : stripe_table c.refresh.new.self.stripes.all ≡ stripe_table c.args.self.now.engine.stripes.all =
    refresh_keeps _ _ _ _ _ c.in_ok-refresh.ensures in
    let still : stripe_table c.contend.new.self.engine.stripes.all ≡ stripe_table c.refresh.new.self.stripes.all =
    contend_keeps (g.P.Policy.table c.args.self.now.policy) (engine_view c.refresh.new.self)
    (engine_view c.contend.new.self.engine) c.args.thread.number
    (rival_of (engine_view c.refresh.new.self) c.args.thread.number (owner_number c.index-stripe.result.now.owner)) _
    c.in_ok-contend.ensures.step in
    search rules
