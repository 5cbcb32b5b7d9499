-- Forms that take numbers alone, and then the closing bracket.
use Rattle.std.specs.Prelude.{ℕ, zero, suc, List, [], ◌∷◌, ◌++◌, Ok, Result}
use Rattle.forms.specs.Items.{bracket_at, item_at, number_in}
use Rattle.forms.specs.Views.{◌>>=◌}
use Rattle.forms.specs.declared.form_fault.FormFault.{FormFault}
use Rattle.forms.specs.declared.item.Bracket.TheVariants.{Close}
use Rattle.text.specs.Tokens.{Spot}

-- the numbers that are read, with those that are still to come; they stand once the form is closed
abbrev pub numbers_behind : List ℕ → ℕ → Spot → Result (List ℕ) FormFault
numbers_behind ns zero s = bracket_at Close s >>= λ c. Ok ns
numbers_behind ns (suc k) s = item_at number_in s >>= λ n. numbers_behind (ns ++ (n.value ∷ [])) k n.after

-- so many numbers
abbrev pub numbers_at : ℕ → Spot → Result (List ℕ) FormFault
numbers_at n s = numbers_behind [] n s
