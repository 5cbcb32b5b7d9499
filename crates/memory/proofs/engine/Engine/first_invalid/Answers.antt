use Rattle.std.proofs.Common.{◌≡◌, ◌∙◌, sym, ap, rules, tests, arith}
use Rattle.memory.proofs.Checks.{first_found, is_invalid}
use Rattle.memory.proofs.engine.Engine.first_invalid.Goals as goal
use Rattle.memory.specs.Views.{engine_view, stripe_numbered}
use Rattle.std.proofs.lemmas.Grind.{common_steps}
use Rattle.std.proofs.lemmas.Iterator.{YieldsList-from_slice}
use Rattle.std.proofs.lemmas.Iterator.Search.{find_from_yields_List}
use Rattle.std.specs.List.{find}
use Rattle.std.specs.Option.{option_map}

pub returns : goal.returns
returns c =
    let mapped : stripe_numbered c.map.result ≡
    option_map (λ e. e.stripe.number) (option_map (λ e. e.now) c.find.result) =
    grind (arith, common_steps) in
    let found : option_map (λ e. e.now) c.find.result ≡
    find (is_invalid (engine_view c.args.self.now) c.args.thread.number) c.args.entries.now =
    find_from_yields_List (is_invalid (engine_view c.args.self.now) c.args.thread.number) _ _ _ c.find.ensures.ran
    (YieldsList-from_slice c.args.entries.now cc) (λ x b q k. search (rules, tests)) in
    mapped ∙ ap (option_map (λ e. e.stripe.number)) found ∙
    sym (first_found (engine_view c.args.self.now) c.args.thread.number c.args.entries.now)
