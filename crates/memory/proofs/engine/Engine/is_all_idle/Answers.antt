use Rattle.std.proofs.Common.{◌∙◌, take, rules, tests, arith}
use Rattle.memory.proofs.Idles.{is_idle_cell, idle_threads}
use Rattle.memory.proofs.engine.Engine.is_all_idle.Goals as goal
use Rattle.std.proofs.lemmas.Iterator.{YieldsList-from_slice}
use Rattle.std.proofs.lemmas.Iterator.Search.{all_from_yields_List}

pub returns : goal.returns
returns c =
    all_from_yields_List is_idle_cell _ _ _ c.all.ensures.ran
    (YieldsList-from_slice (take c.args.self.now.set_up.threads c.args.self.now.threads.all) cc)
    (λ x b q k. search (rules, tests)) ∙
    idle_threads c.args.self.now c.args.self.now.set_up.threads (omega arith)
