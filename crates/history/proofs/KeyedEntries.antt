-- Entries with a key: which keys a list has, and what is found under one.
use Rattle.std.proofs.Common.{◌≡◌, ℕ, zero, suc, Bool, true, false, cond, ◌||◌, eqb, ltb, ◌⊎◌, List, [], ◌∷◌, ◌++◌, length, drop, is_some, Some, None, Option, sym, refl, ap, ◌∙◌, inl, inr}
use Rattle.layout.specs.Lookups.{first_with, has_key, replaced}
use Rattle.rules.specs.Load.{capacity, grown, is_full}
use Rattle.std.proofs.lemmas.Bool.{both_ways, cond-true, eq-eqb, eqb-false, eqb-true, false_from_ne_true, leb-false, lt-ltb, ne_eqb, or_cases, or_from, or_left, or_parts, or_right}
use Rattle.std.specs.List.{AllByRecursion}

-- no two entries have the same key
abbrev pub Once : {E : Type 0} → (E → ℕ) → List E → Type 0
Once key [] = Unit {0}
Once key (e ∷ es) = (has_key key (key e) es ≡ false) × Once key es

-- two tests that do not both hold may be made in either order
either_first : {A : Type 0} (a b : Bool) (x y z : A) → (a ≡ true → b ≡ true → ⊥) → cond a x (cond b y z) ≡ cond b y (cond a x z)
either_first true true x y z d = absurd (d refl refl)
either_first true false x y z d = refl
either_first false true x y z d = refl
either_first false false x y z d = refl

-- what the first test takes never reaches the second
tested_twice : {A : Type 0} (a : Bool) (x y z : A) → cond a x z ≡ cond a x (cond a y z)
tested_twice true x y z = refl
tested_twice false x y z = refl

-- two keys that differ are not both the one that is looked for
not_both : (i j k : ℕ) → eqb i j ≡ false → eqb i k ≡ true → eqb j k ≡ true → ⊥
not_both i j k d p q = eqb-false i j d (eqb-true i k p ∙ sym (eqb-true j k q))

module _ {E : Type 0} (key : E → ℕ) where
  -- a list that cannot have a key does not have it
  pub never_has : (k : ℕ) (es : List E) → (has_key key k es ≡ true → ⊥) → has_key key k es ≡ false
  never_has k es d = false_from_ne_true (has_key key k es) d

  -- what holds of every entry holds of one that has the key
  pub entry_with_key : (k : ℕ) (P : E → Type 0) (es : List E) → AllByRecursion P es → has_key key k es ≡ true → (e : E) × (key e ≡ k) × P e
  entry_with_key k P [] x has = absurd (both_ways false refl has)
  entry_with_key k P (e ∷ es) x has = go (or_cases (eqb (key e) k) (has_key key k es) has) (entry_with_key k P es x.1)
    where
      go : (eqb (key e) k ≡ true) ⊎ (has_key key k es ≡ true) → (has_key key k es ≡ true → (y : E) × (key y ≡ k) × P y) →
          (y : E) × (key y ≡ k) × P y
      go (inl p) later = (e, eqb-true (key e) k p, x.0)
      go (inr p) later = later p

  -- an entry is found where there is one
  pub found_has : (k : ℕ) (es : List E) → is_some (first_with key k es) ≡ has_key key k es
  found_has k [] = refl
  found_has k (e ∷ es) = go (eqb (key e) k) (found_has k es)
    where
      go : (b : Bool) → is_some (first_with key k es) ≡ has_key key k es →
          is_some (cond b (Some e) (first_with key k es)) ≡ (b || has_key key k es)
      go true x = refl
      go false x = x

  -- and none where there is none
  pub finds_none : (k : ℕ) (es : List E) → has_key key k es ≡ false → first_with key k es ≡ None
  finds_none k [] h = refl
  finds_none k (e ∷ es) h =
      let d = or_parts (eqb (key e) k) (has_key key k es) h in
      ap (λ (b : Bool). cond b (Some e) (first_with key k es)) d.0 ∙ finds_none k es d.1

  -- a list has a key if one of its parts has it
  has_append : (k : ℕ) (xs ys : List E) → has_key key k (xs ++ ys) ≡ (has_key key k xs || has_key key k ys)
  has_append k [] ys = refl
  has_append k (x ∷ xs) ys = go (eqb (key x) k) (has_append k xs ys)
    where
      go : (b : Bool) → has_key key k (xs ++ ys) ≡ (has_key key k xs || has_key key k ys) →
          (b || has_key key k (xs ++ ys)) ≡ ((b || has_key key k xs) || has_key key k ys)
      go true e = refl
      go false e = e

  -- with one more entry a list has its key
  pub has_pushed : (k : ℕ) (xs : List E) (x : E) → key x ≡ k → has_key key k (xs ++ x ∷ []) ≡ true
  has_pushed k xs x e =
      has_append k xs (x ∷ [])
      ∙ or_right (has_key key k xs) (has_key key k (x ∷ [])) (or_left (eqb (key x) k) false (eq-eqb (key x) k e))

  -- and the keys that it had
  pub has_before : (k : ℕ) (xs : List E) (x : E) → has_key key k xs ≡ true → has_key key k (xs ++ x ∷ []) ≡ true
  has_before k xs x e = has_append k xs (x ∷ []) ∙ or_left (has_key key k xs) (has_key key k (x ∷ [])) e

  -- and no others
  pub pushed_cases : (k : ℕ) (xs : List E) (x : E) → has_key key k (xs ++ x ∷ []) ≡ true → (has_key key k xs ≡ true) ⊎ (key x ≡ k)
  pushed_cases k xs x e = go (or_cases (has_key key k xs) (has_key key k (x ∷ [])) (sym (has_append k xs (x ∷ [])) ∙ e))
    where
      last : (eqb (key x) k ≡ true) ⊎ (false ≡ true) → key x ≡ k
      last (inl p) = eqb-true (key x) k p
      last (inr p) = absurd (both_ways false refl p)

      go : (has_key key k xs ≡ true) ⊎ (has_key key k (x ∷ []) ≡ true) → (has_key key k xs ≡ true) ⊎ (key x ≡ k)
      go (inl p) = inl p
      go (inr p) = inr (last (or_cases (eqb (key x) k) false p))

  -- the end of a list has only keys of the list
  pub has_dropped : (k d : ℕ) (es : List E) → has_key key k (drop d es) ≡ true → has_key key k es ≡ true
  has_dropped k zero es h = h
  has_dropped k (suc d) [] h = h
  has_dropped k (suc d) (e ∷ es) h = or_right (eqb (key e) k) (has_key key k es) (has_dropped k d es h)

  -- an entry that gives way to one of its key leaves the same keys
  pub has_replaced : (k : ℕ) (new : E) (es : List E) → has_key key k (replaced key new es) ≡ has_key key k es
  has_replaced k new [] = refl
  has_replaced k new (e ∷ es) = go (eqb (key e) (key new)) refl (has_replaced k new es)
    where
      go : (b : Bool) → eqb (key e) (key new) ≡ b → has_key key k (replaced key new es) ≡ has_key key k es →
          has_key key k (cond b (new ∷ es) (e ∷ replaced key new es)) ≡ has_key key k (e ∷ es)
      go true p r = ap (λ (j : ℕ). eqb j k || has_key key k es) (sym (eqb-true (key e) (key new) p))
      go false p r = ap (λ (b : Bool). eqb (key e) k || b) r

  -- the entry that took its place is found under its key, and the others as before
  pub finds_replaced : (k : ℕ) (new : E) (es : List E) → has_key key (key new) es ≡ true →
      first_with key k (replaced key new es) ≡ cond (eqb (key new) k) (Some new) (first_with key k es)
  finds_replaced k new [] h = absurd (both_ways false refl h)
  finds_replaced k new (e ∷ es) h = go (eqb (key e) (key new)) refl h (λ x. finds_replaced k new es x)
    where
      go : (b : Bool) → eqb (key e) (key new) ≡ b → (b || has_key key (key new) es) ≡ true →
          (has_key key (key new) es ≡ true →
          first_with key k (replaced key new es) ≡ cond (eqb (key new) k) (Some new) (first_with key k es)) →
          first_with key k (cond b (new ∷ es) (e ∷ replaced key new es)) ≡ cond (eqb (key new) k) (Some new) (first_with key k (e ∷ es))
      go true p x r =
          tested_twice (eqb (key new) k) (Some new) (Some e) (first_with key k es)
          ∙ ap (λ (j : ℕ). cond (eqb (key new) k) (Some new) (cond (eqb j k) (Some e) (first_with key k es)))
          (sym (eqb-true (key e) (key new) p))
      go false p x r =
          ap (λ (o : Option E). cond (eqb (key e) k) (Some e) o) (r x)
          ∙ either_first (eqb (key e) k) (eqb (key new) k) (Some e) (Some new) (first_with key k es) (not_both (key e) (key new) k p)

  -- an entry with a new key at the end is found under its key, and the others as before
  pub finds_pushed : (k : ℕ) (new : E) (es : List E) → has_key key (key new) es ≡ false →
      first_with key k (es ++ new ∷ []) ≡ cond (eqb (key new) k) (Some new) (first_with key k es)
  finds_pushed k new [] h = refl
  finds_pushed k new (e ∷ es) h =
      let d = or_parts (eqb (key e) (key new)) (has_key key (key new) es) h in
      ap (λ (o : Option E). cond (eqb (key e) k) (Some e) o) (finds_pushed k new es d.1)
      ∙ either_first (eqb (key e) k) (eqb (key new) k) (Some e) (Some new) (first_with key k es) (not_both (key e) (key new) k d.0)

  -- where each key stands once, it does so after an entry gave way to one of its key
  pub once_replaced : (new : E) (es : List E) → Once key es → Once key (replaced key new es)
  once_replaced new [] o = tt
  once_replaced new (e ∷ es) o = go (eqb (key e) (key new)) refl (once_replaced new es o.1)
    where
      go : (b : Bool) → eqb (key e) (key new) ≡ b → Once key (replaced key new es) → Once key (cond b (new ∷ es) (e ∷ replaced key new es))
      go true p r = (ap (λ (j : ℕ). has_key key j es) (sym (eqb-true (key e) (key new) p)) ∙ o.0, o.1)
      go false p r = (has_replaced (key e) new es ∙ o.0, r)

  -- and with an entry of a new key at the end
  pub once_pushed : (new : E) (es : List E) → has_key key (key new) es ≡ false → Once key es → Once key (es ++ new ∷ [])
  once_pushed new [] h o = (refl, tt)
  once_pushed new (e ∷ es) h o =
      let d = or_parts (eqb (key e) (key new)) (has_key key (key new) es) h in
      let apart = ne_eqb (key new) (key e) (λ x. eqb-false (key e) (key new) d.0 (sym x)) in (
        has_append (key e) es (new ∷ [])
            ∙ or_from (has_key key (key e) es) (has_key key (key e) (new ∷ [])) o.0 (or_from (eqb (key new) (key e)) false apart refl),
        once_pushed new es d.1 o.1,
      )

-- two facts of every entry
pub all_both : {E : Type 0} (P Q : E → Type 0) (es : List E) → AllByRecursion P es → AllByRecursion Q es → AllByRecursion (λ e. P e × Q e) es
all_both P Q [] x y = tt
all_both P Q (e ∷ es) x y = ((x.0, y.0), all_both P Q es x.1 y.1)

-- a log that is not full grows by the entry
pub grown_roomy : {E : Type 0} (es : List E) (e : E) → is_full es ≡ false → grown es e ≡ es ++ e ∷ []
grown_roomy es e roomy =
    cond-true (ltb (length es) capacity) (es ++ e ∷ []) es (lt-ltb (length es) capacity (leb-false capacity (length es) roomy))
