-- A log seen through a view of its entries.
use Rattle.std.proofs.Common.{◌≡◌, ℕ, Bool, true, false, cond, eqb, ltb, List, [], ◌∷◌, ◌++◌, map, length, is_some, Some, Option, refl}
use Rattle.layout.specs.Lookups.{first_with}
use Rattle.rules.specs.Load.{grown}
use Rattle.std.proofs.lemmas.List.{map_push, length-map}

grown_by : {A B : Type 0} (f : A → B) (xs : List A) (e : A) (room : Bool) →
    map f (cond room (xs ++ e ∷ []) xs) ≡ cond room (map f xs ++ f e ∷ []) (map f xs)
grown_by f xs e true = map_push f xs e
grown_by f xs e false = refl

-- an entry is logged: so is its view
pub map_grown : {A B : Type 0} (f : A → B) (xs : List A) (e : A) → map f (grown xs e) ≡ grown (map f xs) (f e)
map_grown f xs e = rw (length-map xs f) (grown_by f xs e (ltb (length xs) 32))

found_by : {A : Type 0} {B : Type 0} (x : A) (y : B) (o : Option A) (p : Option B) (here : Bool) →
    is_some o ≡ is_some p → is_some (cond here (Some x) o) ≡ is_some (cond here (Some y) p)
found_by x y o p true e = refl
found_by x y o p false e = e

-- a key is found among entries exactly where it is found among their views
pub map_found : {A B : Type 0} (f : A → B) (key : B → ℕ) (k : ℕ) (xs : List A) →
    is_some (first_with (λ x. key (f x)) k xs) ≡ is_some (first_with key k (map f xs))
map_found f key k [] = refl
map_found f key k (x ∷ xs) =
    found_by x (f x) (first_with (λ y. key (f y)) k xs) (first_with key k (map f xs)) (eqb (key (f x)) k) (map_found f key k xs)
