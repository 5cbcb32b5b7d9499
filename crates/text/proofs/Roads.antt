-- The place to which bytes lead from a place, if they lead anywhere.
use Rattle.std.proofs.Common.{◌≡◌, ℕ, suc, ◌+◌, ◌<◌, Bool, true, false, cond, List, [], ◌∷◌, ◌++◌, length, take, Some, None, Ok, Err, Option, Result, refl, ap, ◌∙◌, arith}
use Rattle.std.proofs.lemmas.Bool.{cond_both}
use Rattle.text.specs.Places.{next}
use Rattle.text.specs.Verdicts.{reached}
use Rattle.text.specs.declared.place.Place.{Place}
use Rattle.text.specs.declared.place.Place.TheVariants.{Done}
use Rattle.text.specs.declared.text_fault.TextFault.{TextFault}

abbrev step : Option Place → ℕ → Option Place
step None b = None
step (Some p) b = next p b

abbrev pub after : Option Place → List ℕ → Option Place
after o [] = o
after o (b ∷ bs) = after (step o b) bs

pub after_append : (o : Option Place) (xs ys : List ℕ) → after o (xs ++ ys) ≡ after (after o xs) ys
after_append o [] ys = refl
after_append o (x ∷ xs) ys = after_append (step o x) xs ys

pub after_none : (bs : List ℕ) → after None bs ≡ None
after_none [] = refl
after_none (b ∷ bs) = after_none bs

-- the bytes lead to the end of a form
abbrev pub Ends : Option Place → List ℕ → Type 0
Ends o bs = after o bs ≡ Some Done

pub never_ends : (bs : List ℕ) → Ends None bs → ⊥
never_ends bs h = cc (after_none bs)

-- by a test on the first byte
pub by_test : {A : Type 0} (t : Bool) (x y : Option Place) (bs : List ℕ) → (t ≡ true → Ends x bs → A) → (t ≡ false → Ends y bs → A) → Ends (cond t x y) bs → A
by_test {A} t x y bs = cond_both t x y (λ o. Ends o bs → A)

-- what the place reached from a column says, or the column at which there is none
abbrev pub Road : Place → ℕ → List ℕ → Result Place TextFault → Type 0
Road p c bs (Ok q) = after (Some p) bs ≡ Some q
Road p c bs (Err f) =
    (k : ℕ) × (f.column ≡ c + k) × (k < length bs) × ((q : Place) × (after (Some p) (take k bs) ≡ Some q)) × (after (Some p) (take (suc k) bs) ≡ None)

road_more : (p q : Place) (c b : ℕ) (bs : List ℕ) (r : Result Place TextFault) → next p b ≡ Some q → Road q (c + 1) bs r → Road p c (b ∷ bs) r
road_more p q c b bs (Ok s) e h = ap (λ (o : Option Place). after o bs) e ∙ h
road_more p q c b bs (Err f) e h = (
  suc h.0,
  omega (arith, h.1),
  omega (arith, h.2),
  (h.3.0, ap (λ (o : Option Place). after o (take h.0 bs)) e ∙ h.3.1),
  ap (λ (o : Option Place). after o (take (suc h.0) bs)) e ∙ h.4,
)

pub road : (p : Place) (c : ℕ) (bs : List ℕ) → Road p c bs (reached p c bs)
unfolding reached
road p c [] = refl
road p c (b ∷ bs) = go (next p b) refl (λ q. road q (c + 1) bs)
  where
    go : (o : Option Place) → next p b ≡ o → ((q : Place) → Road q (c + 1) bs (reached q (c + 1) bs)) →
        Road p c (b ∷ bs) (elim o [ None ↦ Err (record { column = c }) | Some q ↦ reached q (c + 1) bs ])
    go None e onward = (0, omega arith, omega arith, (p, refl), e)
    go (Some q) e onward = road_more p q c b bs (reached q (c + 1) bs) e (onward q)
