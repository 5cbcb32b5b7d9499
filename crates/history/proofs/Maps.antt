-- What stands in a table after an edit.
use Rattle.std.proofs.Common.{◌≡◌, ℕ, eqb, refl}
use Rattle.rules.specs.Maps.{Map, at, put, each, everywhere}
use Rattle.std.proofs.lemmas.Bool.{eq-eqb, ne_eqb, cond-true, cond-false}

-- the place that was put holds what was put
pub at_put_same : {A : Type 0} (m : Map A) (n : ℕ) (x : A) → at (put m n x) n ≡ x
unfolding at put
at_put_same m n x = cond-true (eqb n n) x (m.fun n) (eq-eqb n n refl)

-- any other holds what it held
pub at_put_other : {A : Type 0} (m : Map A) (n k : ℕ) (x : A) → (k ≡ n → ⊥) → at (put m n x) k ≡ at m k
unfolding at put
at_put_other m n k x d = cond-false (eqb k n) x (m.fun k) (ne_eqb k n d)

-- each place of a changed table holds what it held, changed
pub at_each : {A : Type 0} (f : A → A) (m : Map A) (n : ℕ) → at (each f m) n ≡ f (at m n)
unfolding at each
at_each f m n = refl

-- a table with one thing everywhere holds it
pub at_everywhere : {A : Type 0} (x : A) (n : ℕ) → at (everywhere x) n ≡ x
unfolding at everywhere
at_everywhere x n = refl
