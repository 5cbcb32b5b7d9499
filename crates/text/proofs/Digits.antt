-- The number that digits write only grows, so that one past 32 bits stays there.
use Rattle.std.proofs.Common.{◌≡◌, ℕ, ◌+◌, ◌-◌, ◌*◌, ◌≤◌, List, [], ◌∷◌, None, arith}
use Rattle.std.proofs.lemmas.Bool.Decides.{nat_tests}
use Rattle.text.specs.Numerals.{fitting, value_after}

value_grows : (n : ℕ) (ds : List ℕ) → n ≤ value_after n ds
value_grows n [] = omega arith
value_grows n (d ∷ ds) = omega (arith, value_grows (n * 10 + (d - 48)) ds)

-- what does not fit does not fit with more digits
pub never_fits : (n : ℕ) (ds : List ℕ) → None ≡ fitting n → None ≡ fitting (value_after n ds)
never_fits n ds e = let more = value_grows n ds in grind (arith, nat_tests)
