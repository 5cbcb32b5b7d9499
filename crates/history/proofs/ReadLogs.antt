-- What a read log says of the words at other moments.
use Rattle.std.proofs.Common.{◌≡◌, ℕ, ◌+◌, ◌<◌, ◌≤◌, Bool, true, false, cond, not, eqb, ◌⊎◌, List, [], ◌∷◌, length, get_or, Some, None, sym, refl, ap, ◌∙◌, subst, inl, inr, arith}
use Rattle.common.specs.declared.loss.Loss.TheVariants.{Invalid}
use Rattle.history.proofs.Holders.{free_not_busy, free_word_stored, not_busy_free}
use Rattle.history.proofs.Invariant.{Fits, Marked, Overtaken, front, top, top_of}
use Rattle.history.proofs.KeyedEntries.{all_both, entry_with_key}
use Rattle.history.proofs.Phases.{running_fits}
use Rattle.history.proofs.SerialRuns.{since_moment}
use Rattle.history.specs.Law.{Excused, LoadsAt, words_at}
use Rattle.history.specs.Record.{History, Work}
use Rattle.history.specs.Serial.{loaded_on, serial_run}
use Rattle.layout.specs.SetUps.{stripe_of}
use Rattle.rules.specs.Conflicts.{busy, first_invalid, is_valid}
use Rattle.rules.specs.States.{State, World, ReadMark, thread_of, stripe_at}
use Rattle.rules.specs.declared.phase.Phase.TheVariants.{Running}
use Rattle.std.proofs.ByRecursion.{All-weaker}
use Rattle.std.proofs.lemmas.List.{take_all}
use Rattle.std.proofs.lemmas.Bool.{and_parts, eq-eqb, eqb-true, and_from, both_ways, not-true, not_from_false}
use Rattle.std.specs.List.{AllByRecursion}

module _ (ws : List ℕ) (base : ℕ) (w : World) (h : History) (f : Fits ws base w h) where
  -- the words of a stripe that is not held are those of every moment from its version on
  word_stays : (s a m : ℕ) → stripe_of w.engine.set_up a ≡ s → (front w.engine s).hold ≡ None →
      base + (stripe_at w.engine s).version ≤ m →
      get_or (serial_run ws h.updaters) a 0 ≡ get_or (words_at ws h.updaters m) a 0
  word_stays s a m here free low =
      let e : top (front w.engine s) ≡ (stripe_at w.engine s).version = ap (top_of (stripe_at w.engine s).version) free in
      since_moment w.engine.set_up s a here ws h.updaters m
      (λ k from high. (f.stripes s).untouched k (omega (arith, e, low, from)) high)

-- the stored word of such a stripe is what a transaction loads at a moment from its version on
pub free_word_agrees : (ws : List ℕ) (base : ℕ) (w : World) (h : History) (a m : ℕ) → Fits ws base w h → a < length w.words →
    (front w.engine (stripe_of w.engine.set_up a)).hold ≡ None →
    base + (stripe_at w.engine (stripe_of w.engine.set_up a)).version ≤ m →
    get_or (words_at ws h.updaters m) a 0 ≡ get_or w.words a 0
free_word_agrees ws base w h a m f l free low =
    sym (word_stays ws base w h f (stripe_of w.engine.set_up a) a m refl free low) ∙ free_word_stored f a l free

-- a read log with no invalid entry has only valid ones
valid_entries : (st : State) (n : ℕ) (es : List ReadMark) → first_invalid st n es ≡ None → AllByRecursion (λ e. is_valid st n e ≡ true) es
valid_entries st n [] x = tt
valid_entries st n (e ∷ es) x = go (is_valid st n e) refl x (valid_entries st n es)
  where
    go : (b : Bool) → is_valid st n e ≡ b → cond b (first_invalid st n es) (Some e.stripe) ≡ None →
        (first_invalid st n es ≡ None → AllByRecursion (λ y. is_valid st n y ≡ true) es) →
        (is_valid st n e ≡ true) × AllByRecursion (λ y. is_valid st n y ≡ true) es
    go true p q later = (p, later q)
    go false p q later = absurd (cc)

-- the first invalid entry is one of them
invalid_entry : (st : State) (n s : ℕ) (P : ReadMark → Type 0) (es : List ReadMark) → AllByRecursion P es → first_invalid st n es ≡ Some s →
    (e : ReadMark) × (e.stripe ≡ s) × (is_valid st n e ≡ false) × P e
invalid_entry st n s P [] all x = absurd (cc)
invalid_entry st n s P (e ∷ es) all x = go (is_valid st n e) refl x (invalid_entry st n s P es all.1)
  where
    go : (b : Bool) → is_valid st n e ≡ b → cond b (first_invalid st n es) (Some e.stripe) ≡ Some s →
        (first_invalid st n es ≡ Some s → (y : ReadMark) × (y.stripe ≡ s) × (is_valid st n y ≡ false) × P y) →
        (y : ReadMark) × (y.stripe ≡ s) × (is_valid st n y ≡ false) × P y
    go true p q later = later q
    go false p q later = (e, cc, p, all.0)

module _ (ws : List ℕ) (base : ℕ) (w : World) (h : History) (n : ℕ) (f : Fits ws base w h)
    (run : (thread_of w.engine n).phase ≡ Running) where
  -- the words of a valid entry's stripe are at the present moment what they were at the snapshot end
  valid_words : (a : ℕ) (e : ReadMark) → e.stripe ≡ stripe_of w.engine.set_up a → is_valid w.engine n e ≡ true →
      e.version ≤ (thread_of w.engine n).snapshot →
      get_or (serial_run ws h.updaters) a 0 ≡ get_or (words_at ws h.updaters (base + (thread_of w.engine n).snapshot)) a 0
  valid_words a e here valid old =
      let p = and_parts (eqb (stripe_at w.engine e.stripe).version e.version) (not (busy w.engine n e.stripe)) valid in
      let v = eqb-true (stripe_at w.engine e.stripe).version e.version p.0 in
      word_stays ws base w h f e.stripe a (base + (thread_of w.engine n).snapshot) (sym here)
      (not_busy_free ws base w h n e.stripe f run (not-true (busy w.engine n e.stripe) p.1))
      (omega (arith, v, old))

  -- so with valid entries only the loads agree at the present moment
  abbrev ValidOld : ReadMark → Type 0
  ValidOld e = (is_valid w.engine n e ≡ true) × (e.version ≤ (thread_of w.engine n).snapshot)

  present_loads : AllByRecursion (λ e. is_valid w.engine n e ≡ true) (thread_of w.engine n).reads →
      loaded_on (serial_run ws h.updaters) (h.present n).work.calls ≡ (h.present n).work.loaded
  present_loads valid =
      (running_fits (f.seats n) run).covered
      (serial_run ws h.updaters) (words_at ws h.updaters (base + (thread_of w.engine n).snapshot))
      (λ a has. agrees a
      (entry_with_key (λ (e : ReadMark). e.stripe) (stripe_of w.engine.set_up a) ValidOld (thread_of w.engine n).reads old has))
      ∙ (running_fits (f.seats n) run).loads
    where
      agrees : (a : ℕ) → (e : ReadMark) × (e.stripe ≡ stripe_of w.engine.set_up a) × ValidOld e →
          get_or (serial_run ws h.updaters) a 0 ≡ get_or (words_at ws h.updaters (base + (thread_of w.engine n).snapshot)) a 0
      agrees a x = valid_words a x.0 x.1 x.2.0 x.2.1

      old : AllByRecursion ValidOld (thread_of w.engine n).reads
      old =
          all_both (λ e. is_valid w.engine n e ≡ true) (λ e. e.version ≤ (thread_of w.engine n).snapshot)
          (thread_of w.engine n).reads valid
          (All-weaker _ _ (λ e m. m.old) (thread_of w.engine n).reads (running_fits (f.seats n) run).marks)

  -- an entry that is no longer as it was read was overtaken
  invalid_overtaken : (e : ReadMark) → is_valid w.engine n e ≡ false →
      Marked w h n (thread_of w.engine n).snapshot e →
      Overtaken w.engine.set_up h.updaters n (h.present n).work.begun e.stripe
  invalid_overtaken e bad m = go m.state
    where
      go : (((stripe_at w.engine e.stripe).version ≡ e.version) × ((front w.engine e.stripe).hold ≡ None))
          ⊎ Overtaken w.engine.set_up h.updaters n (h.present n).work.begun e.stripe →
          Overtaken w.engine.set_up h.updaters n (h.present n).work.begun e.stripe
      go (inl x) = absurd (both_ways (is_valid w.engine n e) bad
          (and_from (eqb (stripe_at w.engine e.stripe).version e.version) (not (busy w.engine n e.stripe))
          (eq-eqb (stripe_at w.engine e.stripe).version e.version x.0)
          (not_from_false (busy w.engine n e.stripe) (free_not_busy w.engine n e.stripe x.1))))
      go (inr x) = x

-- a read log with no invalid entry lets the snapshot end be the present moment
pub refresh_agrees : (ws : List ℕ) (base : ℕ) (w : World) (h : History) (n : ℕ) → Fits ws base w h →
    (thread_of w.engine n).phase ≡ Running → first_invalid w.engine n (thread_of w.engine n).reads ≡ None →
    LoadsAt ws h.updaters (length h.updaters) (h.present n).work
refresh_agrees ws base w h n f run none =
    ap (λ (us : List Work). loaded_on (serial_run ws us) (h.present n).work.calls)
    (take_all (length h.updaters) h.updaters (omega arith))
    ∙ present_loads ws base w h n f run (valid_entries w.engine n (thread_of w.engine n).reads none)

-- and one with an invalid entry excuses a leader's loss
pub invalid_excuses : (ws : List ℕ) (base : ℕ) (w : World) (h : History) (n s : ℕ) → Fits ws base w h →
    (thread_of w.engine n).phase ≡ Running → first_invalid w.engine n (thread_of w.engine n).reads ≡ Some s →
    Excused w.engine.set_up h.updaters (h.present n).work (length h.updaters) (Invalid s)
invalid_excuses ws base w h n s f run some =
    let x =
    invalid_entry w.engine n s (Marked w h n (thread_of w.engine n).snapshot) (thread_of w.engine n).reads
    (running_fits (f.seats n) run).marks some in
    subst (λ (t : ℕ). Overtaken w.engine.set_up h.updaters t (h.present n).work.begun s) (sym (f.seats n).named)
    (subst (λ (t : ℕ). Overtaken w.engine.set_up h.updaters n (h.present n).work.begun t) x.1
    (invalid_overtaken ws base w h n f run x.0 x.2 x.3))
