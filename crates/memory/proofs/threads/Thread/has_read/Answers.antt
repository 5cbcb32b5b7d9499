use Rattle.std.proofs.Common.{ℕ, is_some, ap, ◌∙◌}
use Rattle.layout.specs.Logs.{logged}
use Rattle.layout.specs.Lookups.{first_with}
use Rattle.layout.specs.declared.entries.ReadEntry.{ReadEntry}
use Rattle.memory.proofs.Logs.{map_found}
use Rattle.memory.proofs.threads.Thread.has_read.Goals as goal
use Rattle.memory.specs.Views.{read_mark}

pub returns : goal.returns
returns c =
    c.is_some.ensures ∙
    ap is_some c.find.ensures ∙
    ap (λ (k : ℕ). is_some (first_with {E = ReadEntry} (λ e. e.stripe.number) k (logged c.args.self.now.reads)))
    c.number.ensures ∙
    map_found read_mark (λ e. e.stripe) c.args.stripe.number (logged c.args.self.now.reads)
