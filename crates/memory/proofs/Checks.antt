-- The first entry of a read log that is not valid, as a look through the list finds it.
use Rattle.std.proofs.Common.{◌≡◌, ℕ, Bool, true, false, cond, not, List, [], ◌∷◌, map, Some, Option, refl}
use Rattle.layout.specs.declared.entries.ReadEntry.{ReadEntry}
use Rattle.memory.specs.Views.{read_mark}
use Rattle.rules.specs.Conflicts.{is_valid, first_invalid}
use Rattle.rules.specs.States.{State}
use Rattle.std.specs.List.{find}
use Rattle.std.specs.Option.{option_map}

-- whether an entry is no longer valid
abbrev pub is_invalid : State → ℕ → ReadEntry → Bool
is_invalid st n e = not (is_valid st n (read_mark e))

one_more : (x : ReadEntry) (valid : Bool) (a : Option ℕ) (b : Option ReadEntry) →
    a ≡ option_map (λ e. e.stripe.number) b →
    cond valid a (Some x.stripe.number) ≡ option_map (λ e. e.stripe.number) (cond (not valid) (Some x) b)
one_more x true a b e = e
one_more x false a b e = refl

pub first_found : (st : State) (n : ℕ) (xs : List ReadEntry) →
    first_invalid st n (map read_mark xs) ≡ option_map (λ e. e.stripe.number) (find (is_invalid st n) xs)
first_found st n [] = refl
first_found st n (x ∷ xs) =
    one_more x (is_valid st n (read_mark x)) (first_invalid st n (map read_mark xs)) (find (is_invalid st n) xs)
    (first_found st n xs)
