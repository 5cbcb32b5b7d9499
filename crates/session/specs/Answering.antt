-- What answering a script prints.
use Rattle.std.specs.Prelude.{ℕ, Bool, List}
use Rattle.contention.specs.Events.{Event}
use Rattle.contention.specs.declared.policy.Points.{Points}
use Rattle.printing.specs.Pages.{Printed}
use Rattle.printing.specs.declared.page.Page.{Page}
use Rattle.rules.specs.States.{World}
use Rattle.session.specs.Lengths.{BriefLines}
use Rattle.session.specs.Scripts.{engine_text}
use Rattle.text.specs.Lines.{lines}

-- what an engine with a policy prints for the lines of a script is printed; each line, and the one that made the engine,
-- prints at most 31 bytes
pub record Answered (text : List ℕ) (script : List ℕ) (before after : Page) : Type 0 where
  pub printed : Printed text before after
  pub brief : BriefLines 1 script text

-- so it is said of an engine with any policy
abbrev pub AnswersOn : (P : Type 0) → Points → (P → ℕ → ℕ → Bool) → (P → Event → P) → P → World → List ℕ → Page → Page → Unit {0} → Type 0
AnswersOn P points table moved policy w script before after done = Answered (engine_text points table moved policy w (lines script)) script before after
