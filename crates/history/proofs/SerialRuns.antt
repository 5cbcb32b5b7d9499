-- The serial run: the words at an address, with an updater more or one that has drained once more, and from a moment on.
use Rattle.std.proofs.Common.{◌≡◌, ℕ, zero, suc, ◌<◌, ◌≤◌, false, cond, eqb, ◌⊎◌, List, [], ◌∷◌, ◌++◌, length, get_or, take, set, sym, refl, ap, ◌∙◌, subst, inl, inr, arith}
use Rattle.history.proofs.Growth.{Grows}
use Rattle.history.proofs.Invariant.{stores_in}
use Rattle.history.proofs.Logs.{log_finds_kept, log_once}
use Rattle.history.proofs.PutIn.{address_of, put_in_finds, word_or_cond, written_word}
use Rattle.history.specs.Law.{updater, words_at}
use Rattle.history.specs.Record.{Work, no_work, called}
use Rattle.history.specs.Serial.{kept, moved_into, put_in, serial_run, word_or, write_log}
use Rattle.layout.specs.Lookups.{first_with, has_key}
use Rattle.layout.specs.SetUps.{stripe_of}
use Rattle.layout.specs.declared.entries.WriteEntry.{WriteEntry}
use Rattle.layout.specs.declared.set_up.SetUp.{SetUp}
use Rattle.rules.specs.declared.call.Call.TheVariants.{Drain}
use Rattle.std.proofs.lemmas.List.{length-set, length_push, get_or_append_left, get_or-set_same, get_or-set_other, take-append-le}
use Rattle.std.proofs.lemmas.Bool.{cases_eq, eqb-false, or_parts}

-- there are as many words with others moved in
moved_length : (xs : List ℕ) (es : List WriteEntry) → length (moved_into xs es) ≡ length xs
moved_length xs [] = refl
moved_length xs (e ∷ es) = length-set (moved_into xs es) e.address e.word ∙ moved_length xs es

-- there are as many words after the serial run
pub serial_length : (ws : List ℕ) (us : List Work) → length (serial_run ws us) ≡ length ws
serial_length ws [] = refl
serial_length ws (w ∷ us) = serial_length (moved_into ws (kept w.calls)) us ∙ moved_length ws (kept w.calls)

-- words that were moved in: the latest one at the address counts
moved_finds : (xs : List ℕ) (es : List WriteEntry) (a : ℕ) → a < length xs →
    get_or (moved_into xs es) a 0 ≡ word_or (get_or xs a 0) (first_with address_of a es)
moved_finds xs [] a l = refl
moved_finds xs (e ∷ es) a l =
    written_word (moved_into xs es) e a (omega (arith, moved_length xs es))
    ∙ ap (cond (eqb e.address a) e.word) (moved_finds xs es a l)
    ∙ sym (word_or_cond (eqb e.address a) (get_or xs a 0) e (first_with address_of a es))

-- the serial run with one more updater moves in what it kept
serial_pushed : (ws : List ℕ) (us : List Work) (w : Work) →
    serial_run ws (us ++ w ∷ []) ≡ moved_into (serial_run ws us) (kept w.calls)
serial_pushed ws [] w = refl
serial_pushed ws (x ∷ us) w = serial_pushed (moved_into ws (kept x.calls)) us w

-- at an address that comes to putting in its write log
pub serial_pushed_word : (ws : List ℕ) (us : List Work) (w : Work) (a : ℕ) → a < length (serial_run ws us) →
    get_or (serial_run ws (us ++ w ∷ [])) a 0 ≡ get_or (put_in (serial_run ws us) (write_log w.calls)) a 0
serial_pushed_word ws us w a l =
    ap (λ (xs : List ℕ). get_or xs a 0) (serial_pushed ws us w)
    ∙ moved_finds (serial_run ws us) (kept w.calls) a l
    ∙ ap (word_or (get_or (serial_run ws us) a 0)) (sym (log_finds_kept w.calls a))
    ∙ sym (put_in_finds (serial_run ws us) (write_log w.calls) a (log_once w.calls) l)

-- with one more updater the updaters only grow
pub push_grows : (ws : List ℕ) (us : List Work) (w : Work) → Grows ws us (us ++ w ∷ [])
push_grows ws us w = record {
  longer = omega (arith, length_push us w);
  threads = λ k l. ap (λ (x : Work). x.thread) (get_or_append_left us (w ∷ []) (no_work 0 0) k l);
  stores = λ k l. ap (λ (x : Work). kept x.calls) (get_or_append_left us (w ∷ []) (no_work 0 0) k l);
  words = λ m l. ap (serial_run ws) (take-append-le m us (w ∷ []) l);
}

-- an updater that gives way to one that kept the same words leaves the serial run as it is
words_rewritten : (ws : List ℕ) (us : List Work) (k : ℕ) (w : Work) (m : ℕ) →
    kept w.calls ≡ kept (updater us k).calls → words_at ws (set us k w) m ≡ words_at ws us m
words_rewritten ws [] k w m e = refl
words_rewritten ws (x ∷ us) zero w zero e = refl
words_rewritten ws (x ∷ us) zero w (suc m) e = ap (λ (es : List WriteEntry). serial_run (moved_into ws es) (take m us)) e
words_rewritten ws (x ∷ us) (suc k) w zero e = refl
words_rewritten ws (x ∷ us) (suc k) w (suc m) e = words_rewritten (moved_into ws (kept x.calls)) us k w m e

-- an updater that gives way to one that agrees with it in something leaves that of all updaters as it is
same_rewritten : {A : Type 0} (of : Work → A) (us : List Work) (k : ℕ) (w : Work) (j : ℕ) → k < length us →
    of w ≡ of (updater us k) → of (updater (set us k w) j) ≡ of (updater us j)
same_rewritten of us k w j l e = go (cases_eq j k)
  where
    go : (j ≡ k) ⊎ (j ≡ k → ⊥) → of (updater (set us k w) j) ≡ of (updater us j)
    go (inl p) =
        subst (λ (i : ℕ). of (updater (set us k w) i) ≡ of (updater us i)) (sym p) (ap of (get_or-set_same us k w (no_work 0 0) l) ∙ e)
    go (inr d) = ap of (get_or-set_other us k j w (no_work 0 0) d)

-- with an updater that drains once more they only grow too
pub drain_grows : (ws : List ℕ) (us : List Work) (k n : ℕ) → k < length us → Grows ws us (set us k (called (Drain n) (updater us k)))
drain_grows ws us k n l = record {
  longer = omega (arith, length-set us k (called (Drain n) (updater us k)));
  threads = λ j m. same_rewritten (λ x. x.thread) us k (called (Drain n) (updater us k)) j l refl;
  stores = λ j m. same_rewritten (λ x. kept x.calls) us k (called (Drain n) (updater us k)) j l refl;
  words = λ m x. words_rewritten ws us k (called (Drain n) (updater us k)) m refl;
}

module _ (u : SetUp) (s a : ℕ) (here : stripe_of u a ≡ s) where
  -- entries of other stripes that are moved in leave a word as it is
  moved_elsewhere : (ws : List ℕ) (es : List WriteEntry) → has_key (λ e. stripe_of u e.address) s es ≡ false →
      get_or (moved_into ws es) a 0 ≡ get_or ws a 0
  moved_elsewhere ws [] k = refl
  moved_elsewhere ws (x ∷ xs) k =
      let p = or_parts (eqb (stripe_of u x.address) s) (has_key (λ (y : WriteEntry). stripe_of u y.address) s xs) k in
      get_or-set_other (moved_into ws xs) x.address a x.word 0
      (λ q. eqb-false (stripe_of u x.address) s p.0 (ap (stripe_of u) (sym q) ∙ here))
      ∙ moved_elsewhere ws xs p.1

  -- and so do updaters of which none stored in its stripe
  run_elsewhere : (ws : List ℕ) (us : List Work) → ((k : ℕ) → k < length us → stores_in u s (updater us k) ≡ false) →
      get_or (serial_run ws us) a 0 ≡ get_or ws a 0
  run_elsewhere ws [] none = refl
  run_elsewhere ws (w ∷ us) none =
      run_elsewhere (moved_into ws (kept w.calls)) us (λ k l. none (suc k) (omega arith))
      ∙ moved_elsewhere ws (kept w.calls) (none 0 (omega arith))

  -- so a word is what it was at a moment since which no updater stored in its stripe
  pub since_moment : (ws : List ℕ) (us : List Work) (m : ℕ) →
      ((k : ℕ) → m ≤ k → k < length us → stores_in u s (updater us k) ≡ false) →
      get_or (serial_run ws us) a 0 ≡ get_or (words_at ws us m) a 0
  since_moment ws us zero none = run_elsewhere ws us (λ k l. none k (omega arith) l)
  since_moment ws [] (suc m) none = refl
  since_moment ws (w ∷ us) (suc m) none =
      since_moment (moved_into ws (kept w.calls)) us m (λ k low high. none (suc k) (omega arith) (omega arith))
