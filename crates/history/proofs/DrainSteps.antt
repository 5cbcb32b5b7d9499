-- What a drain has to leave for the invariant to be kept: the same for the last word and for the ones before.
use Rattle.std.proofs.Common.{◌≡◌, ℕ, ◌<◌, ◌≤◌, Bool, true, ◌⊎◌, List, [], length, get_or, drop, set, Some, None, Option, sym, refl, ap, ◌∙◌, subst, inl, inr, arith}
use Rattle.history.proofs.Growth.{Grows, all_spared_grow, loads_grow, point_alike, point_grows, points_grow, stores_same}
use Rattle.history.proofs.Holders.{held_by}
use Rattle.history.proofs.Invariant.{Draining, Fits, Front, Hold, PhaseFits, SealedFits, Seat, Spent, StripeFits, WordFits, front, left_in, left_of, top, top_of}
use Rattle.history.proofs.Lines.{leads_at, present_unlost, work_other}
use Rattle.history.proofs.Plan.{Kept, then}
use Rattle.history.proofs.PutIn.{put_in_same}
use Rattle.history.proofs.Quiet.{quiet_state}
use Rattle.history.proofs.Seats.{Apart, draining_on, seat_apart, seats_after}
use Rattle.history.proofs.SerialRuns.{drain_grows}
use Rattle.history.specs.Law.{updater, LoadsAt, Spared}
use Rattle.history.specs.Record.{History, Line, Transaction, Work, Fall, called, with_work, watched, rewritten, no_work}
use Rattle.history.specs.Runs.{loss_in, line_of}
use Rattle.history.specs.Serial.{put_in, serial_run, not_drained}
use Rattle.layout.specs.SetUps.{stripe_of}
use Rattle.layout.specs.declared.set_up.SetUp.{SetUp}
use Rattle.rules.specs.Admission.{is_thread}
use Rattle.rules.specs.Conflicts.{owner_of}
use Rattle.rules.specs.Maps.{Map, at}
use Rattle.rules.specs.Outcomes.{Outcome, Table}
use Rattle.rules.specs.States.{State, World, Stripe, Thread, thread_of}
use Rattle.rules.specs.declared.answer.Answer.TheVariants.{Left}
use Rattle.rules.specs.declared.call.Call.TheVariants.{Drain}
use Rattle.rules.specs.declared.phase.Phase.TheVariants.{Sealed}
use Rattle.std.proofs.lemmas.List.{length-set, get_or-set_same, get_or-set_other, take_all}
use Rattle.std.proofs.lemmas.Bool.{both_ways, cases_eq}

-- the engine with these stripes and threads
abbrev pub drained_engine : World → Map Stripe → Map Thread → State
drained_engine w ss ts = quiet_state w.engine w.engine.mark ss ts

-- the outcome of a drain that leaves them and these words, with so many left to drain
abbrev pub drained_outcome : World → ℕ → List ℕ → Map Stripe → Map Thread → Outcome
drained_outcome w j now ss ts = record { answer = Left j; told = []; after = record { engine = drained_engine w ss ts; words = now } }

-- the updaters with one more call of this one
abbrev pub drained_once : History → ℕ → ℕ → List Work
drained_once h n place = set h.updaters place (called (Drain n) (h.present n).work)

-- the thread has drained all of its work, or is sealed still
abbrev pub GoesOnDraining : Thread → Work → Type 0
GoesOnDraining t x = (not_drained x ≡ []) ⊎ ((k : ℕ) × (d : ℕ) × (t.phase ≡ Sealed k d))

-- what the drain leaves: the stripes of the thread show its ticket and what it has still to drain, all else is as it was
pub record DrainStep (ws : List ℕ) (base : ℕ) (w : World) (h : History) (n ticket drained place : ℕ) (now : List ℕ) (ss : Map Stripe)
    (ts : Map Thread) : Type 0 where
  pub sized : length now ≡ length w.words
  pub apart : (k : ℕ) → (k ≡ n → ⊥) → at ts k ≡ thread_of w.engine k
  pub fronts_other : (s : ℕ) → (owner_of w.engine s ≡ n → ⊥) → front (drained_engine w ss ts) s ≡ front w.engine s
  pub tops : (s : ℕ) → owner_of w.engine s ≡ n → top (front (drained_engine w ss ts) s) ≡ ticket
  pub rises : (s : ℕ) → owner_of w.engine s ≡ n → (front (drained_engine w ss ts) s).version ≤ ticket
  pub lefts : (s : ℕ) → owner_of w.engine s ≡ n →
      put_in w.words (drop drained (thread_of w.engine n).writes) ≡ put_in now (left_in (front (drained_engine w ss ts) s))
  pub words_other : (a : ℕ) → (owner_of w.engine (stripe_of w.engine.set_up a) ≡ n → ⊥) → get_or w.words a 0 ≡ get_or now a 0
  pub gains : (k s : ℕ) → (k ≡ 0 → ⊥) → (k ≡ n → ⊥) → owner_of (drained_engine w ss ts) s ≡ k → owner_of w.engine s ≡ k
  pub keeps : (k s : ℕ) → (k ≡ n → ⊥) → owner_of w.engine s ≡ k → owner_of (drained_engine w ss ts) s ≡ k
  pub phase : PhaseFits w.engine.set_up ws (drained_once h n place) base (front (drained_engine w ss ts))
      (owner_of (drained_engine w ss ts)) n (at ts n) (called (Drain n) (h.present n).work) (h.present n).fall (at ts n).phase
  pub unlost : loss_in (at ts n).phase ≡ None
  pub goes_on : GoesOnDraining (at ts n) (called (Drain n) (h.present n).work)

module _ (ws : List ℕ) (base : ℕ) (w : World) (h : History) (beats : Table) (n ticket drained j : ℕ) (now : List ℕ) (ss : Map Stripe)
    (ts : Map Thread) (f : Fits ws base w h)
    (inside : is_thread w.engine.set_up n ≡ true)
    (q : SealedFits w.engine.set_up h.updaters base (owner_of w.engine) n ticket drained (thread_of w.engine n)
    (h.present n).work (h.present n).fall)
    (sealed : (thread_of w.engine n).phase ≡ Sealed ticket drained)
    (x : DrainStep ws base w h n ticket drained q.place now ss ts) where
  abbrev u : SetUp
  u = w.engine.set_up

  abbrev us : List Work
  us = h.updaters

  -- the work with the drain, and the updaters with it
  abbrev mine : Work
  mine = called (Drain n) (h.present n).work

  abbrev vs : List Work
  vs = drained_once h n q.place

  -- the engine, the line and the history after the drain
  abbrev after : State
  after = drained_engine w ss ts

  abbrev line : Line
  line = line_of beats (Drain n) (drained_outcome w j now ss ts)

  abbrev next : History
  next = record { stored = now; updaters = vs; present = (then w h beats (Drain n) (drained_outcome w j now ss ts)).present; past = h.past }

  -- the updaters only grow, and not in number
  grown : Grows ws us vs
  grown =
      subst (λ (y : Work). Grows ws us (set us q.place (called (Drain n) y))) q.same
      (drain_grows ws us q.place n q.so_far)

  same_length : length vs ≡ length us
  same_length = length-set us q.place mine

  -- the updater that drained, and the others
  drained_own : updater vs q.place ≡ mine
  drained_own = get_or-set_same us q.place mine (no_work 0 0) q.so_far

  drained_other : (k : ℕ) → (k ≡ q.place → ⊥) → updater vs k ≡ updater us k
  drained_other k d = get_or-set_other us q.place k mine (no_work 0 0) d

  -- the serial run is as it was
  same_serial : serial_run ws vs ≡ serial_run ws us
  same_serial =
      ap (serial_run ws) (sym (take_all (length us) vs (omega (arith, same_length))))
      ∙ grown.words (length us) (omega arith)
      ∙ ap (serial_run ws) (take_all (length us) us (omega arith))

  -- every stripe fits
  drained_stripe : (s : ℕ) → (owner_of w.engine s ≡ n) ⊎ (owner_of w.engine s ≡ n → ⊥) →
      StripeFits u vs base w.engine.clock s (front after s)
  drained_stripe s (inl e) =
      let old : top (front w.engine s) ≡ ticket =
      ap (top_of (front w.engine s).version) (held_by w.engine n ticket drained s sealed e) in
      record {
        rises = omega (arith, x.rises s e, x.tops s e);
        by_clock = omega (arith, (f.stripes s).by_clock, old, x.tops s e);
        untouched = λ k low high.
            let l : k < length us = omega (arith, same_length) in
            stores_same grown u s k l ∙ (f.stripes s).untouched k (omega (arith, old, x.tops s e)) l;
      }
  drained_stripe s (inr d) =
      subst (λ (y : Front). StripeFits u vs base w.engine.clock s y) (sym (x.fronts_other s d))
      (record {
        rises = (f.stripes s).rises;
        by_clock = (f.stripes s).by_clock;
        untouched = λ k low high.
            let l : k < length us = omega (arith, same_length) in
            stores_same grown u s k l ∙ (f.stripes s).untouched k low l;
      })

  -- every word fits
  drained_words : (a : ℕ) → a < length w.words →
      (owner_of w.engine (stripe_of u a) ≡ n) ⊎ (owner_of w.engine (stripe_of u a) ≡ n → ⊥) →
      WordFits u ws vs now (front after) a
  drained_words a l (inl e) =
      let s = stripe_of u a in
      ap (λ (xs : List ℕ). get_or xs a 0) same_serial
      ∙ f.words a l
      ∙ ap (λ (o : Option Hold). get_or (put_in w.words (left_of o)) a 0) (held_by w.engine n ticket drained s sealed e)
      ∙ ap (λ (xs : List ℕ). get_or xs a 0) (x.lefts s e)
  drained_words a l (inr d) =
      let s = stripe_of u a in
      ap (λ (xs : List ℕ). get_or xs a 0) same_serial
      ∙ f.words a l
      ∙ put_in_same w.words now (left_in (front w.engine s)) a l (omega (arith, x.sized)) (x.words_other a d)
      ∙ ap (λ (y : Front). get_or (put_in now (left_in y)) a 0) (sym (x.fronts_other s d))

  -- the caller's thread
  drained_seat_own : (b : Bool) → Seat u ws vs base (front after) (owner_of after) n (at ts n) (with_work (watched b (h.present n)) mine)
  drained_seat_own b =
      record {
        named = (f.seats n).named;
        inside = λ e. absurd (both_ways (is_thread u n) e inside);
        phase = x.phase;
        point =
            point_alike (h.present n).work mine refl refl (λ m e. e) (point_grows grown (h.present n).work (f.seats n).point);
        spared = subst (λ (o : Option Fall). Spared u vs mine o) (sym q.standing) tt;
      }

  -- a stripe that nobody held is not the caller's
  free_not_own : (s : ℕ) → (front w.engine s).hold ≡ None → owner_of w.engine s ≡ n → ⊥
  free_not_own s none e = let p = held_by w.engine n ticket drained s sealed e in cc

  -- so the other threads are apart from the drain
  others_apart : (k : ℕ) → (k ≡ 0 → ⊥) → (k ≡ n → ⊥) →
      Apart u ws us vs (front w.engine) (front after) (owner_of w.engine) (owner_of after) k (thread_of w.engine k).phase
  others_apart k z d = record {
    grows = grown;
    newer = λ i low high e. absurd (omega (arith, same_length));
    same = λ i l e. drained_other i (λ p.
        d (sym e ∙ ap (λ (y : ℕ). (updater us y).thread) p ∙ ap (λ (y : Work). y.thread) q.same ∙ (f.seats n).named));
    gains = λ s e. x.gains k s z d e;
    keeps = λ busy s e. x.keeps k s d e;
    fronts = λ s e. inl (x.fronts_other s (free_not_own s e));
  }

  -- the caller's transaction has one call more
  drained_present : next.present n ≡ with_work (watched (leads_at u line n) (h.present n)) mine
  drained_present = present_unlost u h line refl x.unlost

  -- the caller's updater
  spent_own : GoesOnDraining (at ts n) mine → Spent after next q.place
  spent_own (inl e) = inl (ap not_drained drained_own ∙ e)
  spent_own (inr y) = inr (record {
    thread = n;
    ticket = y.0;
    drained = y.1;
    sealed = y.2;
    numbered = ap (λ (t : Transaction). t.work.number) drained_present ∙ q.numbered;
  })

  -- any other updater is not the caller's
  not_caller : (k : ℕ) → (k ≡ q.place → ⊥) → (y : Draining w.engine h k) → y.thread ≡ n → ⊥
  not_caller k d y e =
      let p : Some k ≡ Some q.place = sym y.numbered ∙ ap (λ (i : ℕ). (h.present i).work.number) e ∙ q.numbered in
      d cc

  -- what was drained or is being drained
  drained_spent : (k : ℕ) → k < length us → (k ≡ q.place) ⊎ (k ≡ q.place → ⊥) → Spent after next k
  drained_spent k l (inl e) = subst (λ (i : ℕ). Spent after next i) (sym e) (spent_own x.goes_on)
  drained_spent k l (inr d) = go (f.spent k l)
    where
      go : Spent w.engine h k → Spent after next k
      go (inl e) = inl (ap not_drained (drained_other k d) ∙ e)
      go (inr y) =
          inr (draining_on y (x.apart y.thread (not_caller k d y)) (work_other u h line y.thread (not_caller k d y)))

  -- every updater loads in the serial run what it loaded
  drained_loads : (k : ℕ) → k < length us → (k ≡ q.place) ⊎ (k ≡ q.place → ⊥) → LoadsAt ws vs k (updater vs k)
  drained_loads k l (inl e) =
      subst (λ (i : ℕ). LoadsAt ws vs i (updater vs i)) (sym e)
      (subst (λ (y : Work). LoadsAt ws vs q.place y) (sym drained_own)
      (loads_grow grown q.place (h.present n).work (omega (arith, q.so_far))
      (subst (λ (y : Work). LoadsAt ws us q.place y) q.same (f.loads q.place q.so_far))))
  drained_loads k l (inr d) =
      subst (λ (y : Work). LoadsAt ws vs k y) (sym (drained_other k d))
      (loads_grow grown k (updater us k) (omega arith) (f.loads k l))

  -- such a drain keeps the invariant
  pub step_keeps : Kept ws base w h beats (Drain n) (drained_outcome w j now ss ts)
  step_keeps = record {
    same_set_up = refl;
    fits =
        subst (λ (xs : List Work). Fits ws base (record { engine = after; words = now })
        (record { stored = now; updaters = xs; present = next.present; past = h.past }))
        (ap (λ (o : Option ℕ). rewritten o mine us) (sym q.numbered))
        (record {
          stored = refl;
          sized = x.sized ∙ f.sized;
          count = same_length ∙ f.count;
          stripes = λ s. drained_stripe s (cases_eq (owner_of w.engine s) n);
          words = λ a l. drained_words a (omega (arith, x.sized)) (cases_eq (owner_of w.engine (stripe_of u a)) n);
          seats =
              seats_after h line (λ k. thread_of w.engine k) (λ k. at ts k) x.apart (λ k. refl)
              (subst (λ (y : Transaction). Seat u ws vs base (front after) (owner_of after) n (at ts n) y) (sym drained_present)
              (drained_seat_own (leads_at u line n)))
              (λ k d. seat_apart grown (λ z live. others_apart k z d) (f.seats k));
          spent = λ k l. drained_spent k (omega (arith, same_length)) (cases_eq k q.place);
          loads = λ k l. drained_loads k (omega (arith, same_length)) (cases_eq k q.place);
          past_points = points_grow grown h.past f.past_points;
          past_spared = all_spared_grow grown u h.past f.past_spared;
        });
  }
