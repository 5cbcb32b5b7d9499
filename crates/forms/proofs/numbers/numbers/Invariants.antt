use Rattle.std.proofs.Common.{◌≡◌, ◌-◌, length, take}
use Rattle.forms.specs.Numbers.{numbers_at, numbers_behind}
use Rattle.text.specs.Views.{spot}
use Rattle.forms.proofs.numbers.numbers.Given as goal

-- the numbers so far, with those that are still to come, are the numbers of the form
abbrev pub invariant-loop-number : goal.invariant-loop-number
invariant-loop-number g l = record {
  whole : length l.number-items ≡ g.row.N;
  so_far : numbers_behind (take l.number-index l.number-items) (g.row.N - l.number-index) (spot l.cursor) ≡ numbers_at g.row.N (spot l.fn.cursor);
}
