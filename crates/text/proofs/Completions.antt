-- Bytes that lead from a place to the end of a form complete a form from there.
use Rattle.std.proofs.Common.{◌≡◌, ℕ, true, eqb, List, [], ◌∷◌, ◌++◌, Some, sym, ap, ◌∙◌, subst, append_assoc}
use Rattle.std.proofs.lemmas.Bool.{eqb-true, eqb-false}
use Rattle.text.proofs.Roads.{Ends, by_test, never_ends}
use Rattle.text.specs.Bytes.{is_letter, is_digit}
use Rattle.text.specs.Grammar.{Letters, Digits, Name, letters, nought, digits, Plain, name, number, Items, none, more, bracketed, Item, plain, form, Form}
use Rattle.text.specs.Places.{bracketed as bracket-at, closed, ended, item as item-at}
use Rattle.text.specs.declared.place.Depth.{Depth}
use Rattle.text.specs.declared.place.Depth.TheVariants.{Outer, Inner}
use Rattle.text.specs.declared.place.Place.{Place}
use Rattle.text.specs.declared.place.Place.TheVariants.{Start, Opened, InName, InNumber, Complete, Spaced, Done}

-- an item at a depth
abbrev ItemAt : Depth → List ℕ → Type 0
ItemAt Outer bs = Item bs
ItemAt Inner bs = Plain bs

plain_at : (d : Depth) (bs : List ℕ) → Plain bs → ItemAt d bs
plain_at Outer bs p = plain bs p
plain_at Inner bs p = p

-- what is left of a form behind an item or the name: items, the closing bracket, and what is left of the outer form
data Tail : Depth → List ℕ → Type 0 where
  outer : (is : List ℕ) → Items Item is → Tail Outer (is ++ (41 ∷ []))
  inner : (is rest : List ℕ) → Items Plain is → Tail Outer rest → Tail Inner (is ++ (41 ∷ rest))

-- what completes a form from a place
data Completes : Place → List ℕ → Type 0 where
  whole : (bs : List ℕ) → Form bs → Completes Start bs
  called : (d : Depth) (n rest : List ℕ) → Name n → Tail d rest → Completes (Opened d) (n ++ rest)
  in_name : (d : Depth) (l rest : List ℕ) → Letters l → Tail d rest → Completes (InName d) (l ++ rest)
  in_number : (d : Depth) (l rest : List ℕ) → Digits l → Tail d rest → Completes (InNumber d) (l ++ rest)
  complete : (d : Depth) (rest : List ℕ) → Tail d rest → Completes (Complete d) rest
  spaced : (d : Depth) (i rest : List ℕ) → ItemAt d i → Tail d rest → Completes (Spaced d) (i ++ rest)
  done : Completes Done []

-- one item more
tail_more : (d : Depth) (i rest : List ℕ) → ItemAt d i → Tail d rest → Tail d (32 ∷ (i ++ rest))
tail_more Outer i rest x (outer is xs) =
    subst (λ (bs : List ℕ). Tail Outer (32 ∷ bs)) (append_assoc i is (41 ∷ [])) (outer (32 ∷ (i ++ is)) (more i is x xs))
tail_more Inner i rest x (inner is k xs t) =
    subst (λ (bs : List ℕ). Tail Inner (32 ∷ bs)) (append_assoc i is (41 ∷ k)) (inner (32 ∷ (i ++ is)) k (more i is x xs) t)

-- behind an item: a space, or the closing bracket
spaced_tail : (d : Depth) (bs : List ℕ) → Completes (Spaced d) bs → Tail d (32 ∷ bs)
spaced_tail d bs (spaced e i rest x t) = tail_more e i rest x t

closed_tail : (d : Depth) (bs : List ℕ) → Completes (closed d) bs → Tail d (41 ∷ bs)
closed_tail Outer bs done = outer [] none
closed_tail Inner bs (complete d rest t) = inner [] rest none t

-- one letter or digit more
name_more : (d : Depth) (b : ℕ) (bs : List ℕ) → is_letter b ≡ true → Completes (InName d) bs → Completes (InName d) (b ∷ bs)
name_more d b bs e (in_name f l rest ls t) = in_name f (b ∷ l) rest (e, ls) t

number_more : (d : Depth) (b : ℕ) (bs : List ℕ) → is_digit b ≡ true → Completes (InNumber d) bs → Completes (InNumber d) (b ∷ bs)
number_more d b bs e (in_number f l rest ls t) = in_number f (b ∷ l) rest (e, ls) t

name_begun : (d : Depth) (b : ℕ) (bs : List ℕ) → is_letter b ≡ true → Completes (InName d) bs → Completes (Opened d) (b ∷ bs)
name_begun d b bs e (in_name f l rest ls t) = called f (b ∷ l) rest (letters b l (e, ls)) t

-- an item begun
item_name : (d : Depth) (b : ℕ) (bs : List ℕ) → is_letter b ≡ true → Completes (InName d) bs → Completes (Spaced d) (b ∷ bs)
item_name d b bs e (in_name f l rest ls t) =
    spaced f (b ∷ l) rest (plain_at f (b ∷ l) (name (b ∷ l) (letters b l (e, ls)))) t

item_nought : (d : Depth) (bs : List ℕ) → Completes (Complete d) bs → Completes (Spaced d) (48 ∷ bs)
item_nought d bs (complete f rest t) = spaced f (48 ∷ []) rest (plain_at f (48 ∷ []) (number (48 ∷ []) nought)) t

item_number : (d : Depth) (b : ℕ) (bs : List ℕ) → (b ≡ 48 → ⊥) → is_digit b ≡ true → Completes (InNumber d) bs → Completes (Spaced d) (b ∷ bs)
item_number d b bs ne e (in_number f l rest ls t) =
    spaced f (b ∷ l) rest (plain_at f (b ∷ l) (number (b ∷ l) (digits b l ne (e, ls)))) t

item_form : (bs : List ℕ) → Completes (Opened Inner) bs → Completes (Spaced Outer) (40 ∷ bs)
item_form bs (called f n rest m t) = go n m rest t
  where
    go : (n : List ℕ) → Name n → (rest : List ℕ) → Tail Inner rest → Completes (Spaced Outer) (40 ∷ (n ++ rest))
    go n m rest (inner is k xs t) =
        subst (λ (bs : List ℕ). Completes (Spaced Outer) (40 ∷ bs))
        (append_assoc n (is ++ (41 ∷ [])) k ∙ ap (λ (bs : List ℕ). n ++ bs) (append_assoc is (41 ∷ []) k))
        (spaced Outer (40 ∷ (n ++ (is ++ (41 ∷ [])))) k (form _ (bracketed n is m xs)) t)

opened_form : (bs : List ℕ) → Completes (Opened Outer) bs → Form (40 ∷ bs)
opened_form bs (called f n rest m t) = go n m rest t
  where
    go : (n : List ℕ) → Name n → (rest : List ℕ) → Tail Outer rest → Form (40 ∷ (n ++ rest))
    go n m rest (outer is xs) = bracketed n is m xs

-- the first byte by its code
at_byte : (P : List ℕ → Type 0) (b n : ℕ) (bs : List ℕ) → eqb b n ≡ true → P (n ∷ bs) → P (b ∷ bs)
at_byte P b n bs e h = subst (λ (x : ℕ). P (x ∷ bs)) (sym (eqb-true b n e)) h

-- what leads to the end completes a form
abbrev Onward : List ℕ → Type 0
Onward bs = (p : Place) → Ends (Some p) bs → Completes p bs

ended_tail : (d : Depth) (b : ℕ) (bs : List ℕ) → Onward bs → Ends (ended d b) bs → Tail d (b ∷ bs)
ended_tail d b bs go =
    by_test (eqb b 32) _ _ bs
    (λ is h. at_byte (Tail d) b 32 bs is (spaced_tail d bs (go (Spaced d) h)))
    (λ _.
    by_test (eqb b 41) _ _ bs
    (λ is h. at_byte (Tail d) b 41 bs is (closed_tail d bs (go (closed d) h)))
    (λ _ h. absurd (never_ends bs h)))

bracket_item : (d : Depth) (b : ℕ) (bs : List ℕ) → Onward bs → Ends (bracket-at d b) bs → Completes (Spaced d) (b ∷ bs)
bracket_item Outer b bs go =
    by_test (eqb b 40) _ _ bs
    (λ is h. at_byte (Completes (Spaced Outer)) b 40 bs is (item_form bs (go (Opened Inner) h)))
    (λ _ h. absurd (never_ends bs h))
bracket_item Inner b bs go = λ h. absurd (never_ends bs h)

begun_item : (d : Depth) (b : ℕ) (bs : List ℕ) → Onward bs → Ends (item-at d b) bs → Completes (Spaced d) (b ∷ bs)
begun_item d b bs go =
    by_test (is_letter b) _ _ bs
    (λ is h. item_name d b bs is (go (InName d) h))
    (λ _.
    by_test (eqb b 48) _ _ bs
    (λ is h. at_byte (Completes (Spaced d)) b 48 bs is (item_nought d bs (go (Complete d) h)))
    (λ not.
    by_test (is_digit b) _ _ bs
    (λ is h. item_number d b bs (eqb-false b 48 not) is (go (InNumber d) h))
    (λ _. bracket_item d b bs go)))

completes : (bs : List ℕ) (p : Place) → Ends (Some p) bs → Completes p bs
completes [] p h = let e : p ≡ Done = cc in subst (λ (q : Place). Completes q []) (sym e) done
completes (b ∷ bs) Start h =
    by_test (eqb b 40) _ _ bs
    (λ is k. at_byte (Completes Start) b 40 bs is (whole (40 ∷ bs) (opened_form bs (completes bs (Opened Outer) k))))
    (λ _ k. absurd (never_ends bs k))
    h
completes (b ∷ bs) (Opened d) h =
    by_test (is_letter b) _ _ bs
    (λ is k. name_begun d b bs is (completes bs (InName d) k))
    (λ _ k. absurd (never_ends bs k))
    h
completes (b ∷ bs) (InName d) h =
    by_test (is_letter b) _ _ bs
    (λ is k. name_more d b bs is (completes bs (InName d) k))
    (λ _ k. in_name d [] (b ∷ bs) tt (ended_tail d b bs (completes bs) k))
    h
completes (b ∷ bs) (InNumber d) h =
    by_test (is_digit b) _ _ bs
    (λ is k. number_more d b bs is (completes bs (InNumber d) k))
    (λ _ k. in_number d [] (b ∷ bs) tt (ended_tail d b bs (completes bs) k))
    h
completes (b ∷ bs) (Complete d) h = complete d (b ∷ bs) (ended_tail d b bs (completes bs) h)
completes (b ∷ bs) (Spaced d) h = begun_item d b bs (completes bs) h
completes (b ∷ bs) Done h = absurd (never_ends bs h)

pub form_from_end : (bs : List ℕ) → Ends (Some Start) bs → Form bs
form_from_end bs h = go bs (completes bs Start h)
  where
    go : (bs : List ℕ) → Completes Start bs → Form bs
    go bs (whole xs f) = f
