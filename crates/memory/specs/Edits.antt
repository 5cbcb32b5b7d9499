-- What an edit of one thread in its place leaves of the table.
use Rattle.std.specs.Prelude.{◌≡◌, ℕ, List}
use Rattle.memory.specs.Views.{thread_table, thread_view}
use Rattle.memory.specs.declared.threads.Thread.{Thread as ThreadCell}
use Rattle.rules.specs.Maps.{at, put}

-- thread n went by this step from one value to another, and nothing else in the table changed
pub record Edited (step : ThreadCell → ThreadCell → Type 0) (before after : List ThreadCell) (n : ℕ) : Type 0 where
  pub cell : ThreadCell
  pub edited : ThreadCell
  pub found : thread_view cell ≡ at (thread_table before) n
  pub stepped : step cell edited
  pub left : thread_table after ≡ put (thread_table before) n (thread_view edited)
