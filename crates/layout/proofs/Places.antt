-- The place of the first entry with a key: what it tells of reads and of writes.
use Rattle.std.proofs.Common.{◌≡◌, ℕ, ◌<◌, zero, suc, eqb, List, [], ◌∷◌, length, Option, Some, None, refl, sym, ap, ◌∙◌, arith}
use Rattle.layout.specs.Lookups.{first_with, Place}
use Rattle.std.proofs.lemmas.Bool.{cond-true, cond-false, eq-eqb, ne_eqb}
use Rattle.std.specs.List.{AllWithin, HoldsAt}
use Rattle.std.specs.Option.{MatchOption, option_map}

-- whether an entry has the key
abbrev pub Has : {E : Type 0} → (E → ℕ) → ℕ → E → Type 0
Has key k e = key e ≡ k

abbrev pub Lacks : {E : Type 0} → (E → ℕ) → ℕ → E → Type 0
Lacks key k e = key e ≡ k → ⊥

-- the first entry with the key stands at i
at_first : {E : Type 0} (key : E → ℕ) (k : ℕ) (es : List E) (i : ℕ) → i < length es → HoldsAt (Has key k) es i → AllWithin (Lacks key k) es 0 i → Place key k es (Some i)
at_first key k [] i h here before = absurd (omega arith)
at_first key k (e ∷ es) zero h here before = (
  h,
  (λ d. sym (cond-true (eqb (key e) k) _ _ (eq-eqb (key e) k (here e)))),
  (λ new n. sym (cond-true (eqb (key e) (key new)) _ _ (eq-eqb (key e) (key new) (here e ∙ sym n)))),
)
at_first key k (e ∷ es) (suc i) h here before =
    let other = before 0 e (omega arith) (omega arith) in
    let rest = at_first key k es i (omega arith) here (λ j d low high. before (suc j) d (omega arith) (omega arith)) in (
      h,
      (λ d. rest.1 d ∙ sym (cond-false (eqb (key e) k) _ _ (ne_eqb (key e) k other))),
      (λ new n. ap (λ l. e ∷ l) (rest.2 new n) ∙ sym (cond-false (eqb (key e) (key new)) _ _ (ne_eqb (key e) (key new) (λ q. other (q ∙ n))))),
    )

-- no entry has the key
nowhere : {E : Type 0} (key : E → ℕ) (k : ℕ) (es : List E) → AllWithin (Lacks key k) es 0 (length es) → Place key k es None
nowhere key k [] all = (refl, (λ new n. refl))
nowhere key k (e ∷ es) all =
    let other = all 0 e (omega arith) (omega arith) in
    let rest = nowhere key k es (λ j d low high. all (suc j) d (omega arith) (omega arith)) in (
      rest.0 ∙ sym (cond-false (eqb (key e) k) _ _ (ne_eqb (key e) k other)),
      (λ new n. ap (λ l. e ∷ l) (rest.1 new n) ∙ sym (cond-false (eqb (key e) (key new)) _ _ (ne_eqb (key e) (key new) (λ q. other (q ∙ n))))),
    )

-- what a walk that stops at the first entry with the key found
pub place : {E : Type 0} (key : E → ℕ) (k : ℕ) (es : List E) (r : Option ℕ) → MatchOption r (AllWithin (Lacks key k) es 0 (length es)) (λ i. (i < length es) × HoldsAt (Has key k) es i × AllWithin (Lacks key k) es 0 i) → Place key k es r
place key k es None all = nowhere key k es all
place key k es (Some i) f = at_first key k es i f.0 f.1 f.2

-- what a walk that stops at the first entry with the key gives, read by v
pub first : {E A : Type 0} (v : A → E) (key : E → ℕ) (k : ℕ) (es : List E) (r : Option A) →
    MatchOption r (AllWithin (Lacks key k) es 0 (length es)) (λ x. Has key k (v x) × (i : ℕ) × (i < length es) × HoldsAt (λ y. y ≡ v x) es i × AllWithin (Lacks key k) es 0 i) →
    option_map v r ≡ first_with key k es
first v key k es None all = (nowhere key k es all).0
first v key k es (Some x) f =
    ap Some (sym (f.3 (v x))) ∙ (at_first key k es f.1 f.2 (λ d. ap key (f.3 d) ∙ f.0) f.4).1 (v x)
