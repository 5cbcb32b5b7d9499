-- How numbers are read one by one.
use Rattle.std.proofs.Common.{◌≡◌, ℕ, zero, suc, ◌+◌, ◌-◌, ◌<◌, List, [], ◌∷◌, ◌++◌, length, take, slice_set, Ok, ap, arith, sym, ◌∙◌}
use Rattle.std.proofs.lemmas.List.{take_more_set}
use Rattle.forms.specs.Items.{bracket_at, item_at, number_in}
use Rattle.forms.specs.Numbers.{numbers_behind}
use Rattle.forms.specs.Views.{Read, ◌>>=◌}
use Rattle.forms.specs.declared.item.Bracket.TheVariants.{Close}
use Rattle.text.specs.Tokens.{Spot}

-- where a number is still to come, it is the next item
pub numbers_more : (ns : List ℕ) (m : ℕ) (s : Spot) → 0 < m → numbers_behind ns m s ≡ (item_at number_in s >>= λ n. numbers_behind (ns ++ (n.value ∷ [])) (m - 1) n.after)
numbers_more ns zero s h = absurd (omega arith)
numbers_more ns (suc k) s h = ap (λ j. item_at number_in s >>= λ n. numbers_behind (ns ++ (n.value ∷ [])) j n.after) (omega arith)

-- where none is, the closing bracket is
pub numbers_done : (ns : List ℕ) (m : ℕ) (s : Spot) → m ≡ 0 → numbers_behind ns m s ≡ (bracket_at Close s >>= λ c. Ok ns)
numbers_done ns m s h = ap (λ j. numbers_behind ns j s) h

-- a number that is read and set in its place is one of those that are read
pub numbers_turn : (xs : List ℕ) (i n v : ℕ) (s t : Spot) → i < n → length xs ≡ n → item_at number_in s ≡ Ok (record { value = v; after = t }) → numbers_behind (take (i + 1) (slice_set xs i v)) (n - (i + 1)) t ≡ numbers_behind (take i xs) (n - i) s
numbers_turn xs i n v s t h e r =
    ap (λ (ns : List ℕ). numbers_behind ns (n - (i + 1)) t) (take_more_set xs i v (omega arith))
    ∙ ap (λ (j : ℕ). numbers_behind (take i xs ++ (v ∷ [])) j t) (omega arith)
    ∙ sym (numbers_more (take i xs) (n - i) s (omega arith) ∙ ap (λ (o : Read ℕ). o >>= λ a. numbers_behind (take i xs ++ (a.value ∷ [])) (n - i - 1) a.after) r)
