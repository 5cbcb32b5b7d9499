use Rattle.std.proofs.Common.{ℕ, List, ap, ◌∙◌, subst}
use Rattle.rules.specs.NewEngine.{new_world}
use Rattle.session.proofs.Stores.{cells_of_zeros, registers_of_zeros}
use Rattle.session.proofs.on_engine.make_engine.Goals as goal
use Rattle.session.specs.Policies.{by_policy}
use Rattle.stores.specs.Registers.{paired}
use Rattle.stores.specs.Words.{held}

pub returns-in-Plain : goal.returns-in-Plain
returns-in-Plain g c =
    let opening = c.args.opening in
    let words = opening.engine.words in
    let lent = ap (λ x. x.now) c.new-store.ensures in
    let zeros = ap held lent ∙ cells_of_zeros words opening.small in
    subst (λ (ws : List ℕ). by_policy g.T.OnEngine.does opening.engine.policy (new_world opening.set_up ws) c.args.then c.args.beside.now c.make_over.new.beside c.make_over.result) zeros c.make_over.ensures

pub returns-in-Registers : goal.returns-in-Registers
returns-in-Registers g c =
    let opening = c.args.opening in
    let words = opening.engine.words in
    let lent = ap (λ x. x.now) c.new-store-in-Registers.ensures in
    let zeros = ap (λ l. held (paired l)) lent ∙ registers_of_zeros words opening.small in
    subst (λ (ws : List ℕ). by_policy g.T.OnEngine.does opening.engine.policy (new_world opening.set_up ws) c.args.then c.args.beside.now c.make_over-in-Registers.new.beside c.make_over-in-Registers.result) zeros c.make_over-in-Registers.ensures
