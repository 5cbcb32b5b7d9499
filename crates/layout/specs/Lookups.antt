-- Entries found by their key: the first that has it counts.
use Rattle.std.specs.Prelude.{◌≡◌, ℕ, ◌<◌, Bool, false, cond, ◌||◌, List, [], ◌∷◌, length, Some, None, Option, ◌==◌, slice_index_or, slice_set}

-- the first entry with a key
abbrev pub first_with : {E : Type 0} → (E → ℕ) → ℕ → List E → Option E
first_with key k [] = None
first_with key k (e ∷ es) = cond (key e == k) (Some e) (first_with key k es)

-- whether some entry has a key
abbrev pub has_key : {E : Type 0} → (E → ℕ) → ℕ → List E → Bool
has_key key k [] = false
has_key key k (e ∷ es) = key e == k || has_key key k es

-- the first entry with the key of the new one gives way to it
abbrev pub replaced : {E : Type 0} → (E → ℕ) → E → List E → List E
replaced key new [] = []
replaced key new (e ∷ es) = cond (key e == key new) (new ∷ es) (e ∷ replaced key new es)

-- what the place of a key tells: the first entry with the key stands there, and a new one written there replaces it;
-- with no place no entry has the key, so a new one replaces nothing
abbrev pub Place : {E : Type 0} → (E → ℕ) → ℕ → List E → Option ℕ → Type 0
Place {E} key k es (Some i) =
    (i < length es) ×
    ((d : E) → Some (slice_index_or es i d) ≡ first_with key k es) ×
    ((new : E) → key new ≡ k → slice_set es i new ≡ replaced key new es)
Place {E} key k es None =
    (None ≡ first_with key k es) ×
    ((new : E) → key new ≡ k → es ≡ replaced key new es)
