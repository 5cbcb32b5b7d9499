-- How long printed faults are.
use Rattle.std.proofs.Common.{◌≡◌, ℕ, ◌+◌, ◌^◌, ◌<◌, ◌≤◌, [], ◌∷◌, length, refl, arith, lit<, length-append}
use Rattle.forms.specs.Faults.{fault_number, fault_column}
use Rattle.forms.specs.declared.form_fault.FormFault.{FormFault}
use Rattle.forms.specs.declared.form_fault.FormFault.TheVariants.{Text, Name, Item, Order}
use Rattle.printing.proofs.Lengths.{length_form}
use Rattle.printing.specs.Forms.{items_text}
use Rattle.session.specs.Replies.{fault_layer, fault_text}
use Rattle.std.proofs.lemmas.Fmt.{length-decimal-le}

-- two numbers of at most so many digits
items_le : (j k m n : ℕ) → 0 < j → 0 < k → m < 10 ^ j → n < 10 ^ k → m < 2 ^ 64 → n < 2 ^ 64 → length (items_text (m ∷ (n ∷ []))) ≤ 2 + j + k
items_le j k m n some-j some-k h i small-m small_n =
    let first = length-decimal-le j m some-j h small-m in
    let second = length-decimal-le k n some-k i small_n in
    simp length-append (omega arith)

layer_length : (f : FormFault) → length (fault_layer f) ≡ 10
layer_length (Text t) = refl
layer_length (Name c) = refl
layer_length (Item c) = refl
layer_length Order = refl

number_small : (f : FormFault) → fault_number f < 100
number_small (Text t) = lit< tt
number_small (Name c) = lit< tt
number_small (Item c) = lit< tt
number_small Order = lit< tt

-- a fault of a line of at most 32,768 bytes prints at most 31 bytes
pub fault_brief : (f : FormFault) → fault_column f ≤ 32769 → length (fault_text f) ≤ 31
fault_brief f h =
    let number = number_small f in
    let layer = layer_length f in
    let items = items_le 2 5 (fault_number f) (fault_column f) (omega arith) (omega arith) (omega arith) (omega arith) (omega arith) (omega arith) in
    omega (arith, length_form (fault_layer f) (fault_number f ∷ (fault_column f ∷ [])))
