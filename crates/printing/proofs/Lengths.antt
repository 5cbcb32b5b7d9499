-- How long printed forms are.
use Rattle.std.proofs.Common.{◌≡◌, ℕ, ◌+◌, ◌^◌, ◌<◌, ◌≤◌, List, [], ◌∷◌, length, decimal, arith, length-append}
use Rattle.std.proofs.lemmas.Fmt.{length-decimal-le}
use Rattle.printing.specs.Forms.{items_text, form_text}

-- a form has its name, its numbers, two brackets and a line feed
pub length_form : (name numbers : List ℕ) → length (form_text name numbers) ≡ length name + length (items_text numbers) + 3
length_form name numbers = simp length-append (omega arith)

pub length_form_none : (name : List ℕ) → length (form_text name []) ≡ length name + 3
length_form_none name = simp length-append (omega arith)

pub length_form_one : (name : List ℕ) (n : ℕ) → n < 2 ^ 64 → length (form_text name (n ∷ [])) ≤ length name + 24
length_form_one name n h = let digits : length (decimal n) ≤ 20 = length-decimal-le 20 n (omega arith) (omega arith) h in simp length-append (omega arith)

pub length_form_two : (name : List ℕ) (m n : ℕ) → m < 2 ^ 32 → n < 2 ^ 32 → length (form_text name (m ∷ (n ∷ []))) ≤ length name + 25
length_form_two name m n g h =
    let before : length (decimal m) ≤ 10 = length-decimal-le 10 m (omega arith) (omega arith) (omega arith) in
    let behind : length (decimal n) ≤ 10 = length-decimal-le 10 n (omega arith) (omega arith) (omega arith) in
    simp length-append (omega arith)
