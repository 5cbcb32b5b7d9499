-- The texts of numbers: one number more.
use Rattle.std.proofs.Common.{◌≡◌, ℕ, ◌+◌, ◌*◌, ◌<◌, ◌≤◌, List, [], ◌∷◌, ◌++◌, length, get_or, take, sym, ap, ◌∙◌, arith}
use Rattle.std.proofs.lemmas.List.{take_more, flat_map_more}
use Rattle.printing.specs.Forms.{items_of}

pub items_more : {N : Type 0} (text : N → List ℕ) (numbers : List N) (i : ℕ) (d : N) → i < length numbers → items_of text (take (i + 1) numbers) ≡ items_of text (take i numbers) ++ (32 ∷ text (get_or numbers i d))
items_more text numbers i d h = ap (items_of text) (take_more numbers i d h) ∙ sym (flat_map_more (λ n. 32 ∷ text n) [] (take i numbers) (get_or numbers i d))

-- items of at most so many bytes each, and one more
pub longer : (a b i m : ℕ) → a ≤ i * (m + 1) → b ≤ m → a + (1 + b) ≤ (i + 1) * (m + 1)
longer a b i m h k = grind (arith)
