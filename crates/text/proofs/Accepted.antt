-- A form leads from the start to the end.
use Rattle.std.proofs.Common.{◌≡◌, ℕ, true, false, List, [], ◌∷◌, ◌++◌, Some, sym, refl, ap, ◌∙◌, subst, append_assoc, arith}
use Rattle.std.proofs.lemmas.Bool.{ne_eqb}
use Rattle.std.proofs.lemmas.Bool.Decides.{nat_tests}
use Rattle.text.proofs.Roads.{Ends, after}
use Rattle.text.specs.Bytes.{is_letter, is_digit}
use Rattle.text.specs.Grammar.{Letters, Digits, Name, letters, Number, nought, digits, Plain, name, number, Items, none, more, Bracketed, bracketed, Item, plain, form, Form}
use Rattle.text.specs.declared.place.Depth.{Depth}
use Rattle.text.specs.declared.place.Depth.TheVariants.{Outer, Inner}
use Rattle.text.specs.declared.place.Place.TheVariants.{Start, Opened, InName, InNumber, Complete, Spaced}

-- from behind an item, of whatever kind it was, the bytes lead to the end
record Onward (d : Depth) (bs : List ℕ) : Type 0 where
  complete : Ends (Some (Complete d)) bs
  in_name : Ends (Some (InName d)) bs
  in_number : Ends (Some (InNumber d)) bs

not_letter : (b : ℕ) → is_digit b ≡ true → is_letter b ≡ false
not_letter b e = grind (arith, nat_tests)

letters_lead : (d : Depth) (l rest : List ℕ) → Letters l → Ends (Some (InName d)) rest → Ends (Some (InName d)) (l ++ rest)
letters_lead d [] rest ls h = h
letters_lead d (b ∷ l) rest ls h = rw (ls.0, after) (letters_lead d l rest ls.1 h)

digits_lead : (d : Depth) (l rest : List ℕ) → Digits l → Ends (Some (InNumber d)) rest → Ends (Some (InNumber d)) (l ++ rest)
digits_lead d [] rest ls h = h
digits_lead d (b ∷ l) rest ls h = rw (ls.0, after) (digits_lead d l rest ls.1 h)

name_leads : (d : Depth) (n rest : List ℕ) → Name n → Onward d rest → Ends (Some (Opened d)) (n ++ rest)
name_leads d n rest (letters b bs ls) on = rw (ls.0, after) (letters_lead d bs rest ls.1 on.in_name)

number_leads : (d : Depth) (i rest : List ℕ) → Number i → Onward d rest → Ends (Some (Spaced d)) (i ++ rest)
number_leads d i rest nought on = on.complete
number_leads d i rest (digits b bs ne ls) on =
    rw (not_letter b ls.0, ne_eqb b 48 ne, ls.0, after) (digits_lead d bs rest ls.1 on.in_number)

name_item_leads : (d : Depth) (i rest : List ℕ) → Name i → Onward d rest → Ends (Some (Spaced d)) (i ++ rest)
name_item_leads d i rest (letters b bs ls) on = rw (ls.0, after) (letters_lead d bs rest ls.1 on.in_name)

plain_leads : (d : Depth) (i rest : List ℕ) → Plain i → Onward d rest → Ends (Some (Spaced d)) (i ++ rest)
plain_leads d i rest (name bs n) on = name_item_leads d bs rest n on
plain_leads d i rest (number bs n) on = number_leads d bs rest n on

-- each item leads on, and so do items
module _ (I : List ℕ → Type 0) (d : Depth)
    (leads : (i rest : List ℕ) → I i → Onward d rest → Ends (Some (Spaced d)) (i ++ rest)) where
  items_lead : (is rest : List ℕ) → Items I is → Onward d rest → Onward d (is ++ rest)
  items_lead is rest none on = on
  items_lead is rest (more i more-is x xs) on =
      let h : Ends (Some (Spaced d)) ((i ++ more-is) ++ rest) =
      subst (λ (bs : List ℕ). Ends (Some (Spaced d)) bs) (sym (append_assoc i more-is rest)) (leads i (more-is ++ rest) x (items_lead more-is rest xs on)) in
      record { complete = h; in_name = h; in_number = h }

item_leads : (i rest : List ℕ) → Item i → Onward Outer rest → Ends (Some (Spaced Outer)) (i ++ rest)
item_leads i rest (plain bs p) on = plain_leads Outer bs rest p on
item_leads i rest (form bs f) on = go bs f
  where
    go : (bs : List ℕ) → Bracketed Plain bs → Ends (Some (Spaced Outer)) (bs ++ rest)
    go bs (bracketed n is m xs) =
        let h = on.complete in
        let closing : Onward Inner (41 ∷ rest) = record { complete = h; in_name = h; in_number = h } in
        subst (λ (bs : List ℕ). Ends (Some (Opened Inner)) bs)
        (sym (append_assoc n (is ++ (41 ∷ [])) rest ∙ ap (λ (bs : List ℕ). n ++ bs) (append_assoc is (41 ∷ []) rest)))
        (name_leads Inner n (is ++ (41 ∷ rest)) m (items_lead Plain Inner (plain_leads Inner) is (41 ∷ rest) xs closing))

pub form_ends : (bs : List ℕ) → Form bs → Ends (Some Start) bs
form_ends bs (bracketed n is m xs) =
    name_leads Outer n (is ++ (41 ∷ [])) m
    (items_lead Item Outer item_leads is (41 ∷ []) xs (record { complete = refl; in_name = refl; in_number = refl }))
