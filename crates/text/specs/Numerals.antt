-- Numbers in digits.
use Rattle.std.specs.Prelude.{ℕ, ◌+◌, ◌-◌, ◌*◌, cond, List, [], ◌∷◌, Some, None, Option, nat_lt}

-- the number that digits write behind those that wrote n
abbrev pub value_after : ℕ → List ℕ → ℕ
value_after n [] = n
value_after n (d ∷ ds) = value_after (n * 10 + (d - 48)) ds

-- a number, if it fits 32 bits
abbrev pub fitting : ℕ → Option ℕ
fitting n = cond (nat_lt n 4294967296) (Some n) None

-- the number that digits write, if it fits
abbrev pub numeral : List ℕ → Option ℕ
numeral ds = fitting (value_after 0 ds)
