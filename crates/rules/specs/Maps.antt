-- Tables by number, as threads and stripes have them. The operations stay shut: what a call leaves is
-- stated by them, and only lemmas about tables look inside.
use Rattle.std.specs.Prelude.{ℕ, cond, ◌==◌}

-- a table: something at every number
pub record Map (A : Type 0) : Type 0 where
  pub fun : ℕ → A

-- what stands at a number
unfoldable pub at : {A : Type 0} → Map A → ℕ → A
at m n = m.fun n

-- the table with this at that number
unfoldable pub put : {A : Type 0} → Map A → ℕ → A → Map A
put m n x = record { fun = λ k. cond (k == n) x (m.fun k) }

-- the table with each entry moved
unfoldable pub each : {A : Type 0} → (A → A) → Map A → Map A
each f m = record { fun = λ k. f (m.fun k) }

-- the table with the same at every number
unfoldable pub everywhere : {A : Type 0} → A → Map A
everywhere x = record { fun = λ k. x }
