-- Where the words of a store lie.
use Rattle.std.specs.Prelude.{ℕ, List}

-- the memory that a store stands on, with all of it that is no word of the store.
-- A reference goes by its ghost name: who lent the memory learns from it what the memory holds in the end
pub data Home : Type 0 where
  -- lent memory: the reference to it, and the cells that hold no word
  lent : ℕ → List ℕ → Home
  -- a lent store: the reference to it, and its home
  behind : ℕ → Home → Home
  -- a part of another store: the home of that one, where the part begins, how many words it has at most, and the words before and after it
  within : Home → ℕ → ℕ → List ℕ → List ℕ → Home
