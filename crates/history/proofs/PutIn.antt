-- Entries put into words, one after another: what stands at an address after that.
use Rattle.std.proofs.Common.{◌≡◌, ℕ, zero, suc, ◌<◌, Bool, true, false, cond, eqb, List, [], ◌∷◌, ◌++◌, length, get_or, set, Some, Option, sym, refl, ap, ◌∙◌, subst, arith}
use Rattle.history.proofs.KeyedEntries.{Once, finds_none}
use Rattle.history.specs.Law.{updater}
use Rattle.history.specs.Record.{Work}
use Rattle.history.specs.Serial.{all_not_drained, not_drained, put_in, word_or}
use Rattle.layout.specs.Lookups.{first_with, has_key}
use Rattle.layout.specs.declared.entries.WriteEntry.{WriteEntry}
use Rattle.std.proofs.lemmas.List.{get_or-set_other, get_or-set_same, length-set}
use Rattle.std.proofs.lemmas.Bool.{eqb-false, eqb-true, or_parts}

-- the address of an entry
abbrev pub address_of : WriteEntry → ℕ
address_of e = e.address

-- some entry is for the address
abbrev pub has_address : ℕ → List WriteEntry → Bool
has_address a es = has_key address_of a es

-- the words with an entry written
abbrev pub written_in : List ℕ → WriteEntry → List ℕ
written_in xs e = set xs e.address e.word

-- the word at an address after an entry was written
pub written_word : (xs : List ℕ) (e : WriteEntry) (a : ℕ) → a < length xs →
    get_or (written_in xs e) a 0 ≡ cond (eqb e.address a) e.word (get_or xs a 0)
written_word xs e a l = go (eqb e.address a) refl
  where
    go : (b : Bool) → eqb e.address a ≡ b → get_or (written_in xs e) a 0 ≡ cond b e.word (get_or xs a 0)
    go true p =
        subst (λ (j : ℕ). get_or (set xs j e.word) a 0 ≡ e.word) (sym (eqb-true e.address a p)) (get_or-set_same xs a e.word 0 l)
    go false p = get_or-set_other xs e.address a e.word 0 (λ x. eqb-false e.address a p (sym x))

-- a test on whether an entry was found is one on its word
pub word_or_cond : (b : Bool) (v : ℕ) (e : WriteEntry) (o : Option WriteEntry) →
    word_or v (cond b (Some e) o) ≡ cond b e.word (word_or v o)
word_or_cond true v e o = refl
word_or_cond false v e o = refl

-- there are as many words as before
pub put_in_length : (xs : List ℕ) (es : List WriteEntry) → length (put_in xs es) ≡ length xs
put_in_length xs [] = refl
put_in_length xs (e ∷ es) = put_in_length (written_in xs e) es ∙ length-set xs e.address e.word

-- entries in two parts go in one part after the other
put_in_append : (ws : List ℕ) (xs ys : List WriteEntry) → put_in ws (xs ++ ys) ≡ put_in (put_in ws xs) ys
put_in_append ws [] ys = refl
put_in_append ws (x ∷ xs) ys = put_in_append (written_in ws x) xs ys

-- entries for other addresses leave the word
pub put_in_misses : (xs : List ℕ) (es : List WriteEntry) (a : ℕ) → has_address a es ≡ false → get_or (put_in xs es) a 0 ≡ get_or xs a 0
put_in_misses xs [] a h = refl
put_in_misses xs (e ∷ es) a h =
    let d = or_parts (eqb e.address a) (has_address a es) h in
    put_in_misses (written_in xs e) es a d.1
    ∙ get_or-set_other xs e.address a e.word 0 (λ x. eqb-false e.address a d.0 (sym x))

-- the same entries put in where the words agree leave words that agree
pub put_in_same : (xs ys : List ℕ) (es : List WriteEntry) (a : ℕ) → a < length xs → a < length ys → get_or xs a 0 ≡ get_or ys a 0 →
    get_or (put_in xs es) a 0 ≡ get_or (put_in ys es) a 0
put_in_same xs ys [] a l m h = h
put_in_same xs ys (e ∷ es) a l m h =
    put_in_same (written_in xs e) (written_in ys e) es a
    (omega (arith, length-set xs e.address e.word)) (omega (arith, length-set ys e.address e.word))
    (written_word xs e a l ∙ ap (cond (eqb e.address a) e.word) h ∙ sym (written_word ys e a m))

-- where each address stands once, the entry at the address counts
pub put_in_finds : (xs : List ℕ) (es : List WriteEntry) (a : ℕ) → Once address_of es → a < length xs →
    get_or (put_in xs es) a 0 ≡ word_or (get_or xs a 0) (first_with address_of a es)
put_in_finds xs [] a o l = refl
put_in_finds xs (e ∷ es) a o l =
    put_in_finds (written_in xs e) es a o.1 (omega (arith, length-set xs e.address e.word))
    ∙ ap (λ (v : ℕ). word_or v (first_with address_of a es)) (written_word xs e a l)
    ∙ go (eqb e.address a) refl
  where
    go : (b : Bool) → eqb e.address a ≡ b →
        word_or (cond b e.word (get_or xs a 0)) (first_with address_of a es)
        ≡ word_or (get_or xs a 0) (cond b (Some e) (first_with address_of a es))
    go true p =
        ap (word_or e.word)
        (finds_none address_of a es (ap (λ (j : ℕ). has_address j es) (sym (eqb-true e.address a p)) ∙ o.0))
    go false p = refl

-- where no updater has to drain to the address, its word is the stored one
pub none_undrained : (now : List ℕ) (us : List Work) (a : ℕ) →
    ((k : ℕ) → k < length us → has_address a (not_drained (updater us k)) ≡ false) →
    get_or (put_in now (all_not_drained us)) a 0 ≡ get_or now a 0
none_undrained now [] a none = refl
none_undrained now (w ∷ us) a none =
    ap (λ xs. get_or xs a 0) (put_in_append now (not_drained w) (all_not_drained us))
    ∙ none_undrained (put_in now (not_drained w)) us a (λ k l. none (suc k) (omega arith))
    ∙ put_in_misses now (not_drained w) a (none 0 (omega arith))

-- where one updater at most has to drain to the address, its entries alone count
pub one_undrained : (now : List ℕ) (us : List Work) (p a : ℕ) → a < length now →
    ((k : ℕ) → k < length us → (k ≡ p → ⊥) → has_address a (not_drained (updater us k)) ≡ false) → p < length us →
    get_or (put_in now (all_not_drained us)) a 0 ≡ get_or (put_in now (not_drained (updater us p))) a 0
one_undrained now [] p a l none m = absurd (omega arith)
one_undrained now (w ∷ us) zero a l none m =
    ap (λ xs. get_or xs a 0) (put_in_append now (not_drained w) (all_not_drained us))
    ∙ none_undrained (put_in now (not_drained w)) us a (λ k i. none (suc k) (omega arith) (λ e. omega arith))
one_undrained now (w ∷ us) (suc p) a l none m =
    let long : a < length (put_in now (not_drained w)) = omega (arith, put_in_length now (not_drained w)) in
    ap (λ xs. get_or xs a 0) (put_in_append now (not_drained w) (all_not_drained us))
    ∙ one_undrained (put_in now (not_drained w)) us p a long (λ k i d. none (suc k) (omega arith) (λ e. d (omega arith))) (omega arith)
    ∙ put_in_same (put_in now (not_drained w)) now (not_drained (updater us p)) a long l
    (put_in_misses now (not_drained w) a (none 0 (omega arith) (λ e. omega arith)))
