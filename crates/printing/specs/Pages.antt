-- What printing does to a page.
use Rattle.std.specs.Prelude.{◌≡◌, ℕ, List, ◌++◌, length}
use Rattle.printing.specs.Laid.{laid, end_of}
use Rattle.printing.specs.declared.page.Page.{Page}

-- the text was laid over the page's output from its place on, and the page goes on behind it. The page keeps its lender;
-- whatever is laid from there on is laid as if both were one text
pub record Printed (text : List ℕ) (before after : Page) : Type 0 where
  pub lender : after.output.ghost_name ≡ before.output.ghost_name
  pub output : after.output.now ≡ laid before.at text before.output.now
  pub place : after.at ≡ end_of before.at text (length before.output.now)
  pub goes_on : (more : List ℕ) → laid after.at more after.output.now ≡ laid before.at (text ++ more) before.output.now
  pub ends_on : (more : List ℕ) → end_of after.at more (length after.output.now) ≡ end_of before.at (text ++ more) (length before.output.now)
