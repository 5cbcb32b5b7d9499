-- Printed forms: a name and numbers in brackets, as the console writes them.
use Rattle.std.specs.Prelude.{ℕ, List, [], ◌∷◌, ◌++◌, decimal}
use Rattle.std.specs.List.{flat_map}

-- numbers one after another, each as its type prints it, with a space before it
abbrev pub items_of : {N : Type 0} → (N → List ℕ) → List N → List ℕ
items_of text numbers = flat_map (λ n. 32 ∷ text n) numbers

-- a form: its name, and numbers in brackets, with a line feed behind it
abbrev pub form_of : {N : Type 0} → (N → List ℕ) → List ℕ → List N → List ℕ
form_of text name numbers = 40 ∷ (name ++ (items_of text numbers ++ (41 ∷ (10 ∷ []))))

-- numbers in decimal
abbrev pub items_text : List ℕ → List ℕ
items_text numbers = items_of decimal numbers

-- a form of numbers in decimal
abbrev pub form_text : List ℕ → List ℕ → List ℕ
form_text name numbers = form_of decimal name numbers
