-- The seal of a transaction that stored something, with loads that agree at its moment, keeps the invariant.
use Rattle.std.proofs.Common.{◌≡◌, ℕ, ◌+◌, ◌<◌, ◌≤◌, Bool, true, false, ◌⊎◌, List, [], ◌∷◌, ◌++◌, length, get_or, Some, None, Option, sym, refl, ap, ◌∙◌, subst, inl, inr, arith}
use Rattle.contention.specs.Events.{seal_of}
use Rattle.history.proofs.Growth.{Grows, all_spared_grow, loads_grow, point_alike, point_grows, points_grow}
use Rattle.history.proofs.Holders.{free_by_phase, free_not_draining, free_word_stored}
use Rattle.history.proofs.Invariant.{Fits, Front, Overtaken, OwnsLog, RunningFits, Seat, Spent, StripeFits, WordFits, front, hold_of, left_of, stores_in, top}
use Rattle.history.proofs.Lines.{leads_at, present_unlost, work_other}
use Rattle.history.proofs.Logs.{misses_unowned, unowned_unstored}
use Rattle.history.proofs.Phases.{running_fits}
use Rattle.history.proofs.Plan.{Kept, then}
use Rattle.history.proofs.PutIn.{put_in_misses, put_in_same}
use Rattle.history.proofs.Seats.{Apart, draining_on, seat_apart, seats_after}
use Rattle.history.proofs.SerialRuns.{push_grows, serial_length, serial_pushed_word}
use Rattle.history.specs.Law.{updater, LoadsAt, Spared}
use Rattle.history.specs.Record.{History, Line, Transaction, Work, Fall, called_seal, with_work, watched, rewritten, no_work}
use Rattle.history.specs.Runs.{loss_in, line_of}
use Rattle.history.specs.Serial.{put_in, serial_run, write_log, not_drained}
use Rattle.layout.specs.SetUps.{stripe_of}
use Rattle.layout.specs.declared.entries.WriteEntry.{WriteEntry}
use Rattle.layout.specs.declared.set_up.SetUp.{SetUp}
use Rattle.rules.specs.Admission.{is_thread}
use Rattle.rules.specs.Conflicts.{owner_of}
use Rattle.rules.specs.Maps.{Map, at}
use Rattle.rules.specs.Outcomes.{Outcome, Table, over}
use Rattle.rules.specs.States.{State, World, Thread, thread_of, stripe_at, with_phase, with_snapshot}
use Rattle.rules.specs.declared.answer.Answer.TheVariants.{Sealed}
use Rattle.rules.specs.declared.call.Call.TheVariants.{Seal}
use Rattle.rules.specs.declared.ending.Sealed.TheVariants.{Updater}
use Rattle.rules.specs.declared.phase.Phase.TheVariants.{Running, Sealed as Holding}
use Rattle.std.proofs.lemmas.List.{length_push, get_or_append_left, get_or_push}
use Rattle.std.proofs.lemmas.Bool.{both_ways, cases_eq, cases_lt}

-- the engine with the clock one higher, and these threads
abbrev stamped : State → Map Thread → State
stamped st ts =
    record st { clock = st.clock + 1; threads = ts }

-- the outcome of the seal
abbrev updater_sealed : World → ℕ → Map Thread → Outcome
updater_sealed w n ts =
    record { answer = Sealed (Updater (w.engine.clock + 1)); told = seal_of n ∷ []; after = over w (stamped w.engine ts) }

-- the thread with its ticket, at any snapshot end
abbrev pub ticketed : State → ℕ → ℕ → Thread
ticketed st n e = with_phase (with_snapshot (thread_of st n) e) (Holding (st.clock + 1) 0)

-- the work of the new updater, and the updaters with it
abbrev new_updater : History → ℕ → Work
new_updater h n = called_seal (Seal n) (length h.updaters) (h.present n).work

abbrev one_more : History → ℕ → List Work
one_more h n = h.updaters ++ new_updater h n ∷ []

-- what a stripe of the new updater shows
abbrev own_front : State → ℕ → ℕ → Front
own_front st n s =
    record { version = (stripe_at st s).version; hold = Some (record { ticket = st.clock + 1; left = (thread_of st n).writes }) }

-- the one that was added
pushed_new : (h : History) (n k : ℕ) → length h.updaters ≤ k → k < length (one_more h n) → updater (one_more h n) k ≡ new_updater h n
pushed_new h n k low high =
    get_or_push h.updaters (new_updater h n) (no_work 0 0) k (omega (arith, length_push h.updaters (new_updater h n)))

-- the ones before
pushed_old : (h : History) (n k : ℕ) → k < length h.updaters → updater (one_more h n) k ≡ updater h.updaters k
pushed_old h n k l = get_or_append_left h.updaters (new_updater h n ∷ []) (no_work 0 0) k l

module _ (ws : List ℕ) (base : ℕ) (w : World) (h : History) (beats : Table) (n end : ℕ) (ts : Map Thread) (f : Fits ws base w h)
    (inside : is_thread w.engine.set_up n ≡ true)
    (running : (thread_of w.engine n).phase ≡ Running)
    (agrees : LoadsAt ws h.updaters (length h.updaters) (h.present n).work)
    (own : at ts n ≡ ticketed w.engine n end)
    (apart : (k : ℕ) → (k ≡ n → ⊥) → at ts k ≡ thread_of w.engine k) where
  abbrev u : SetUp
  u = w.engine.set_up

  abbrev us : List Work
  us = h.updaters

  abbrev owners : ℕ → ℕ
  owners = owner_of w.engine

  -- the work before the seal, and the updaters after it
  abbrev mine : Work
  mine = (h.present n).work

  abbrev more : List Work
  more = one_more h n

  -- the engine, the line and the history after the seal
  abbrev after : State
  after = stamped w.engine ts

  abbrev line : Line
  line = line_of beats (Seal n) (updater_sealed w n ts)

  abbrev next : History
  next = record { stored = w.words; updaters = more; present = (then w h beats (Seal n) (updater_sealed w n ts)).present; past = h.past }

  -- what is known of the caller and of the number of updaters
  run : RunningFits u ws us base (front w.engine) owners n (thread_of w.engine n) mine (h.present n).fall
  run = running_fits (f.seats n) running

  longer : length more ≡ length us + 1
  longer = length_push us (new_updater h n)

  -- what stripes show: the caller's own, and the others
  front_own : (s : ℕ) → owners s ≡ n → front after s ≡ own_front w.engine n s
  front_own s e = λ i. record {
    version = (stripe_at w.engine s).version;
    hold = (ap (λ (k : ℕ). hold_of (at ts k)) e ∙ ap hold_of own) i;
  }

  front_other : (s : ℕ) → (owners s ≡ n → ⊥) → front after s ≡ front w.engine s
  front_other s d = λ i. record {
    version = (stripe_at w.engine s).version;
    hold = ap hold_of (apart (owners s) d) i;
  }

  -- the new updater's write log has only addresses of its own stripes
  owns : OwnsLog u owners n (write_log mine.calls)
  owns = subst (λ (es : List WriteEntry). OwnsLog u owners n es) run.log run.owns_log

  -- a stripe of another thread, or of none: the new updater stored nothing there
  untouched_other : (s : ℕ) → (owners s ≡ n → ⊥) → (k : ℕ) → base + top (front w.engine s) ≤ k → k < length more →
      (k < length us) ⊎ (length us ≤ k) → stores_in u s (updater more k) ≡ false
  untouched_other s d k low high (inl l) =
      ap (stores_in u s) (pushed_old h n k l) ∙ (f.stripes s).untouched k low l
  untouched_other s d k low high (inr l) = ap (stores_in u s) (pushed_new h n k l high) ∙ unowned_unstored u owners n s mine.calls owns d

  -- every stripe fits
  sealed_stripe : (s : ℕ) → (owners s ≡ n) ⊎ (owners s ≡ n → ⊥) →
      StripeFits u more base (w.engine.clock + 1) s (front after s)
  sealed_stripe s (inl e) =
      subst (λ (x : Front). StripeFits u more base (w.engine.clock + 1) s x) (sym (front_own s e))
      (record {
        rises = omega (arith, (f.stripes s).rises, (f.stripes s).by_clock);
        by_clock = omega arith;
        untouched = λ k low high. absurd (omega (arith, longer, f.count));
      })
  sealed_stripe s (inr d) =
      subst (λ (x : Front). StripeFits u more base (w.engine.clock + 1) s x) (sym (front_other s d))
      (record {
        rises = (f.stripes s).rises;
        by_clock = omega (arith, (f.stripes s).by_clock);
        untouched = λ k low high. untouched_other s d k low high (cases_lt k (length us));
      })

  -- no sealed thread holds a stripe of a running one
  held_by_none : (s : ℕ) → owners s ≡ n → (front w.engine s).hold ≡ None
  held_by_none s e =
      ap (λ (k : ℕ). hold_of (thread_of w.engine k)) e ∙ free_by_phase (thread_of w.engine n) Running running refl

  -- every word fits
  sealed_words : (a : ℕ) → a < length w.words →
      (owners (stripe_of u a) ≡ n) ⊎ (owners (stripe_of u a) ≡ n → ⊥) →
      WordFits u ws more w.words (front after) a
  sealed_words a l (inl e) =
      let s = stripe_of u a in
      let long : a < length (serial_run ws us) = omega (arith, serial_length ws us, f.sized) in
      serial_pushed_word ws us (new_updater h n) a long
      ∙ put_in_same (serial_run ws us) w.words (write_log mine.calls) a long l
      (free_word_stored f a l (held_by_none s e))
      ∙ ap (λ (es : List WriteEntry). get_or (put_in w.words es) a 0) (sym run.log)
      ∙ ap (λ (x : Front). get_or (put_in w.words (left_of x.hold)) a 0) (sym (front_own s e))
  sealed_words a l (inr d) =
      serial_pushed_word ws us (new_updater h n) a (omega (arith, serial_length ws us, f.sized))
      ∙ put_in_misses (serial_run ws us) (write_log mine.calls) a (misses_unowned u owners n (write_log mine.calls) a owns d)
      ∙ f.words a l
      ∙ ap (λ (x : Front). get_or (put_in w.words (left_of x.hold)) a 0) (sym (front_other (stripe_of u a) d))

  -- the updaters only grow
  grown : Grows ws us more
  grown = push_grows ws us (new_updater h n)

  -- at its moment the new updater loads what it loaded
  new_loads : LoadsAt ws more (length us) mine
  new_loads = loads_grow grown (length us) mine (omega arith) agrees

  -- the caller's thread is sealed, with the new updater as its transaction
  sealed_own : (b : Bool) →
      Seat u ws more base (front after) owners n (ticketed w.engine n end)
      (with_work (watched b (h.present n)) (new_updater h n))
  sealed_own b =
      let s = f.seats n in
      record {
        named = s.named;
        inside = λ e. absurd (both_ways (is_thread u n) e inside);
        phase = record {
          place = length us;
          numbered = refl;
          standing = run.standing;
          by_ticket = omega (arith, f.count);
          so_far = omega (arith, longer);
          same = pushed_new h n (length us) (omega arith) (omega (arith, longer));
          log = run.log;
          drains = sym run.undrained;
          owns_log = run.owns_log;
        };
        point = point_alike mine (new_updater h n) refl refl (λ m e. e) (point_grows grown mine s.point);
        spared = subst (λ (o : Option Fall). Spared u more (new_updater h n) o) (sym run.standing) tt;
      }

  -- a read entry of another thread at a stripe of the new updater is overtaken
  overtakes : (k s : ℕ) → (k ≡ n → ⊥) → owners s ≡ n → Overtaken u more k (length us) s
  overtakes k s d e =
      let new = pushed_new h n (length us) (omega arith) (omega (arith, longer)) in (
        length us,
        omega arith,
        omega (arith, longer),
        record {
          other = λ x. d (sym x ∙ ap (λ (y : Work). y.thread) new ∙ (f.seats n).named);
          stored = ap (stores_in u s) new ∙ run.owns_stored s e;
        },
      )

  -- so a stripe shows other threads what it showed, or it is overtaken for them
  fronts_apart : (k s : ℕ) → (k ≡ n → ⊥) → (owners s ≡ n) ⊎ (owners s ≡ n → ⊥) →
      (front after s ≡ front w.engine s) ⊎ Overtaken u more k (length us) s
  fronts_apart k s d (inl e) = inr (overtakes k s d e)
  fronts_apart k s d (inr x) = inl (front_other s x)

  -- so the other threads are apart from the seal
  others_apart : (k : ℕ) → (k ≡ n → ⊥) →
      Apart u ws us more (front w.engine) (front after) owners owners k (thread_of w.engine k).phase
  others_apart k d = record {
    grows = grown;
    newer = λ j low high e. d (sym e ∙ ap (λ (x : Work). x.thread) (pushed_new h n j low high) ∙ (f.seats n).named);
    same = λ j l e. pushed_old h n j l;
    gains = λ s e. e;
    keeps = λ busy s e. e;
    fronts = λ s e. fronts_apart k s d (cases_eq (owners s) n);
  }

  -- the caller's transaction is the new updater
  sealed_present : next.present n ≡ with_work (watched (leads_at u line n) (h.present n)) (new_updater h n)
  sealed_present = present_unlost u h line refl (ap (λ (t : Thread). loss_in t.phase) own)

  -- what was drained or is being drained, with the new updater
  sealed_spent : (k : ℕ) → k < length more → (k < length us) ⊎ (length us ≤ k) →
      Spent after next k
  sealed_spent k high (inl l) = go (f.spent k l)
    where
      go : Spent w.engine h k → Spent after next k
      go (inl e) = inl (ap not_drained (pushed_old h n k l) ∙ e)
      go (inr x) =
          let d = free_not_draining x (free_by_phase (thread_of w.engine n) Running running refl) in
          inr (draining_on x (apart x.thread d) (work_other u h line x.thread d))
  sealed_spent k high (inr l) = inr (record {
    thread = n;
    ticket = w.engine.clock + 1;
    drained = 0;
    sealed = ap (λ (t : Thread). t.phase) own;
    numbered =
        ap (λ (x : Transaction). x.work.number) sealed_present
        ∙ ap Some (omega (arith, longer));
  })

  -- every updater loads in the serial run what it loaded
  sealed_loads : (k : ℕ) → k < length more → (k < length us) ⊎ (length us ≤ k) →
      LoadsAt ws more k (updater more k)
  sealed_loads k high (inl l) =
      subst (λ (x : Work). LoadsAt ws more k x) (sym (pushed_old h n k l))
      (loads_grow grown k (updater us k) (omega arith) (f.loads k l))
  sealed_loads k high (inr l) =
      let e : length us ≡ k = omega (arith, longer) in
      subst (λ (x : Work). LoadsAt ws more k x) (sym (pushed_new h n k l high))
      (subst (λ (j : ℕ). LoadsAt ws more j (new_updater h n)) e new_loads)

  -- such a seal keeps the invariant
  pub updater_keeps : Kept ws base w h beats (Seal n) (updater_sealed w n ts)
  updater_keeps = record {
    same_set_up = refl;
    fits =
        subst (λ (vs : List Work). Fits ws base (over w after)
        (record { stored = w.words; updaters = vs; present = next.present; past = h.past }))
        (ap (λ (o : Option ℕ). rewritten o (new_updater h n) us ++ new_updater h n ∷ []) (sym run.unnumbered))
        (record {
          stored = refl;
          sized = f.sized;
          count = omega (arith, longer, f.count);
          stripes = λ s. sealed_stripe s (cases_eq (owners s) n);
          words = λ a l. sealed_words a l (cases_eq (owners (stripe_of u a)) n);
          seats =
              seats_after h line (λ k. thread_of w.engine k) (λ k. at ts k) apart (λ k. refl)
              (subst (λ (t : Thread). Seat u ws more base (front after) owners n t (next.present n)) (sym own)
              (subst (λ (x : Transaction). Seat u ws more base (front after) owners n (ticketed w.engine n end) x)
              (sym sealed_present) (sealed_own (leads_at u line n))))
              (λ k d. seat_apart grown (λ z live. others_apart k d) (f.seats k));
          spent = λ k l. sealed_spent k l (cases_lt k (length us));
          loads = λ k l. sealed_loads k l (cases_lt k (length us));
          past_points = points_grow grown h.past f.past_points;
          past_spared = all_spared_grow grown u h.past f.past_spared;
        });
  }
