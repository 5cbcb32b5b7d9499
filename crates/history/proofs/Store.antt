-- A store keeps what holds between engine and history.
use Rattle.std.proofs.Common.{◌≡◌, ℕ, Bool, true, false, eqb, ltb, ◌⊎◌, List, [], ◌∷◌, ◌++◌, length, None, Option, sym, refl, ap, ◌∙◌, subst, inl, inr}
use Rattle.common.specs.declared.refusal.Refusal.TheVariants.{NoSuchPlace, LogFull, StripeBusy}
use Rattle.contention.specs.Events.{Event, stripe_taken}
use Rattle.history.proofs.GoingOn.{LeftOrBeaten, TakenBy, goes_on_keeps}
use Rattle.history.proofs.Holders.{not_busy_free}
use Rattle.history.proofs.Invariant.{Fits, Front, RunningFits, RunsOn, front, stores_in}
use Rattle.history.proofs.KeyedEntries.{found_has, grown_roomy, has_replaced, pushed_cases}
use Rattle.history.proofs.Maps.{at_put_other, at_put_same}
use Rattle.history.proofs.Phases.{Admitted, running_fits, running_phase}
use Rattle.history.proofs.Plan.{Kept, StoreKeeps}
use Rattle.history.proofs.PutIn.{address_of, has_address}
use Rattle.history.proofs.Quiet.{quiet_outcome, quiet_state}
use Rattle.history.proofs.Refusals.{admitted_or_refused, refused_keeps}
use Rattle.history.proofs.Wins.{Won, contend_keeps, threaded, won_then}
use Rattle.history.specs.Record.{History, Work, Fall, called}
use Rattle.history.specs.Serial.{write_log}
use Rattle.layout.specs.Lookups.{replaced}
use Rattle.layout.specs.SetUps.{stripe_of}
use Rattle.layout.specs.declared.entries.WriteEntry.{WriteEntry}
use Rattle.layout.specs.declared.set_up.SetUp.{SetUp}
use Rattle.rules.specs.Admission.{is_running}
use Rattle.rules.specs.Conflicts.{busy, owner_of}
use Rattle.rules.specs.Load.{grown, is_full}
use Rattle.rules.specs.Maps.{Map, at, put}
use Rattle.rules.specs.Outcomes.{Table, goes}
use Rattle.rules.specs.States.{Stripe, Thread, World, stripe_at, thread_of, with_writes}
use Rattle.rules.specs.Store.{entry, has_written, note_write, store_admitted, store_free, store_logged, store_placed, store_roomy, store_taken, store_won}
use Rattle.rules.specs.declared.answer.Answer.TheVariants.{Done}
use Rattle.rules.specs.declared.call.Call.TheVariants.{Store}
use Rattle.rules.specs.declared.kind.Kind.TheVariants.{Store as Storing}
use Rattle.rules.specs.declared.phase.Phase.TheVariants.{Running}
use Rattle.std.proofs.lemmas.Bool.{cases_eq, cond-false, cond-true, eq-eqb, eqb-true, or_left, or_right}

-- what is left to show of a transaction that stored: its log is the one that its stores make, of the addresses that it
-- had and the new one, and of stripes it gained at most that of the new one
record Logged (u : SetUp) (owner owner' : ℕ → ℕ) (n a v : ℕ) (t : Thread) (w : Work) (es : List WriteEntry) : Type 0 where
  log : es ≡ write_log (Store n a v ∷ w.calls)
  keys : (b : ℕ) → has_address b es ≡ true → (has_address b t.writes ≡ true) ⊎ (a ≡ b)
  keeps : (s : ℕ) → owner s ≡ n → owner' s ≡ n
  gains : (s : ℕ) → owner' s ≡ n → (owner s ≡ n) ⊎ (stripe_of u a ≡ s)
  owned : owner' (stripe_of u a) ≡ n

-- such a transaction runs on, with one store more
logged_fits : (u : SetUp) (ws : List ℕ) (us : List Work) (base : ℕ) (fs : ℕ → Front) (owner owner' : ℕ → ℕ) (n a v : ℕ)
    (t : Thread) (w : Work) (f : Option Fall) (es : List WriteEntry) → RunningFits u ws us base fs owner n t w f →
    Logged u owner owner' n a v t w es →
    RunningFits u ws us base fs owner' n (with_writes t es) (called (Store n a v) w) f
logged_fits u ws us base fs owner owner' n a v t w f es r x = record {
  unnumbered = r.unnumbered;
  standing = r.standing;
  log = x.log;
  undrained = r.undrained;
  owns_log = λ b has. owns b (x.keys b has);
  owns_stored = λ s o. stored s (x.gains s o);
  since_begin = r.since_begin;
  by_last_load = r.by_last_load;
  so_far = r.so_far;
  loads = r.loads;
  covered = r.covered;
  marks = r.marks;
  others = r.others;
}
  where
    owns : (b : ℕ) → (has_address b t.writes ≡ true) ⊎ (a ≡ b) → owner' (stripe_of u b) ≡ n
    owns b (inl has) = x.keeps (stripe_of u b) (r.owns_log b has)
    owns b (inr e) = ap (λ (c : ℕ). owner' (stripe_of u c)) (sym e) ∙ x.owned

    stored : (s : ℕ) → (owner s ≡ n) ⊎ (stripe_of u a ≡ s) → stores_in u s (called (Store n a v) w) ≡ true
    stored s (inl o) = or_right (eqb (stripe_of u a) s) (stores_in u s w) (r.owns_stored s o)
    stored s (inr e) = or_left (eqb (stripe_of u a) s) (stores_in u s w) (eq-eqb (stripe_of u a) s e)

module _ (ws : List ℕ) (base : ℕ) (w : World) (h : History) (beats : Table) (n a v : ℕ)
    (f : Fits ws base w h) (run : (thread_of w.engine n).phase ≡ Running) where
  -- a store that is done
  logged_keeps : (log : List WriteEntry) (es : List Event) (ss : Map Stripe) (ts : Map Thread) →
      at ts n ≡ with_writes (thread_of w.engine n) log →
      ((k : ℕ) → (k ≡ n → ⊥) → LeftOrBeaten beats n k (thread_of w.engine k) (at ts k)) →
      ((s : ℕ) → (at ss s ≡ stripe_at w.engine s) ⊎ TakenBy w.engine n s (at ss s) ts) →
      Logged w.engine.set_up (owner_of w.engine) (λ s. (at ss s).owner) n a v (thread_of w.engine n) (h.present n).work log →
      Kept ws base w h beats (Store n a v) (quiet_outcome w Done es (quiet_state w.engine w.engine.mark ss ts))
  logged_keeps log es ss ts own others stripes x =
      goes_on_keeps ws base w h beats (Store n a v) Done es (called (Store n a v))
      w.engine.mark ss ts f run
      (record { acts = λ t. refl; thread = λ y. refl; updaters = λ y us. refl; past = λ t us. refl; told = refl })
      (record {
        others = others;
        stripes = stripes;
        running = ap (λ (t : Thread). t.phase) own ∙ run;
        fits =
            subst (λ (t : Thread). RunsOn ws base w h (λ s. (at ss s).owner) n t
            (called (Store n a v) (h.present n).work) (h.present n).fall) (sym own)
            (logged_fits w.engine.set_up ws h.updaters base (front w.engine) (owner_of w.engine) (λ s. (at ss s).owner) n a v
            (thread_of w.engine n) (h.present n).work (h.present n).fall log (running_fits (f.seats n) run) x);
      })

  -- whether the address is logged is whether it was stored to
  logged_before : (b : Bool) → has_written (thread_of w.engine n) a ≡ b →
      has_address a (write_log (h.present n).work.calls) ≡ b
  logged_before b e =
      ap (has_address a) (sym (running_fits (f.seats n) run).log)
      ∙ sym (found_has address_of a (thread_of w.engine n).writes) ∙ e

  -- a store to an address that is logged
  rewrite_keeps : has_written (thread_of w.engine n) a ≡ true → Kept ws base w h beats (Store n a v) (store_logged beats w n a v true)
  rewrite_keeps has =
      logged_keeps log [] w.engine.stripes (put w.engine.threads n rewritten)
      (at_put_same w.engine.threads n rewritten)
      (λ k d. inl (at_put_other w.engine.threads n k rewritten d))
      (λ s. inl refl)
      (record {
        log =
            ap (replaced address_of (entry a v)) (running_fits (f.seats n) run).log
            ∙ sym (cond-true _ _ _ (logged_before true has));
        keys = λ b key. inl (sym (has_replaced address_of b (entry a v) (thread_of w.engine n).writes) ∙ key);
        keeps = λ s o. o;
        gains = λ s o. inl o;
        owned =
            (running_fits (f.seats n) run).owns_log a (sym (found_has address_of a (thread_of w.engine n).writes) ∙ has);
      })
    where
      log : List WriteEntry
      log = replaced address_of (entry a v) (thread_of w.engine n).writes

      rewritten : Thread
      rewritten = with_writes (thread_of w.engine n) log

  -- a store to another address, once its stripe is won
  module _ (fresh : has_written (thread_of w.engine n) a ≡ false) (roomy : is_full (thread_of w.engine n).writes ≡ false)
      (free : (front w.engine (stripe_of w.engine.set_up a)).hold ≡ None) (ts : Map Thread)
      (won : Won beats w.engine n (stripe_of w.engine.set_up a) (thread_of w.engine n).snapshot ts) where
    -- the stripe, the log with the new entry, and the thread with it
    abbrev stored_stripe : ℕ
    stored_stripe = stripe_of w.engine.set_up a

    abbrev longer : List WriteEntry
    longer = (thread_of w.engine n).writes ++ entry a v ∷ []

    abbrev noted : Thread
    noted = with_writes (at ts n) (grown (at ts n).writes (entry a v))

    -- the caller's thread after the call
    own_noted : at (put ts n noted) n ≡ with_writes (thread_of w.engine n) longer
    own_noted =
        at_put_same ts n noted ∙ ap (λ (t : Thread). with_writes t (grown t.writes (entry a v))) won.own
        ∙ ap (with_writes (thread_of w.engine n)) (grown_roomy (thread_of w.engine n).writes (entry a v) roomy)

    -- its log is the one that its stores make
    log_noted : (owner' : ℕ → ℕ) → ((s : ℕ) → owner_of w.engine s ≡ n → owner' s ≡ n) →
        ((s : ℕ) → owner' s ≡ n → (owner_of w.engine s ≡ n) ⊎ (stored_stripe ≡ s)) → owner' stored_stripe ≡ n →
        Logged w.engine.set_up (owner_of w.engine) owner' n a v (thread_of w.engine n) (h.present n).work longer
    log_noted owner' keeps gains owned = record {
      log =
          ap (λ (es : List WriteEntry). es ++ entry a v ∷ []) (running_fits (f.seats n) run).log
          ∙ sym (cond-false _ _ _ (logged_before false fresh));
      keys = λ b key. pushed_cases address_of b (thread_of w.engine n).writes (entry a v) key;
      keeps = keeps;
      gains = gains;
      owned = owned;
    }

    -- the stripe is owned already
    owned_keeps : (es : List Event) → owner_of w.engine stored_stripe ≡ n →
        Kept ws base w h beats (Store n a v) (store_taken w n stored_stripe es (note_write (threaded w.engine ts) n a v) true)
    owned_keeps es owned =
        logged_keeps longer es w.engine.stripes (put ts n noted) own_noted
        (won_then beats w.engine n stored_stripe (thread_of w.engine n).snapshot ts noted won) (λ s. inl refl)
        (log_noted (owner_of w.engine) (λ s o. o) (λ s o. inl o) owned)

    -- the stripe when it is taken
    abbrev claimed : Stripe
    claimed = record { version = (stripe_at w.engine stored_stripe).version; owner = n }

    -- its former owner does not run any more
    claimed_settled : (owner_of w.engine stored_stripe ≡ n → ⊥) →
        is_running (at (put ts n noted) (owner_of w.engine stored_stripe)).phase ≡ false
    claimed_settled d =
        ap (λ (t : Thread). is_running t.phase) (at_put_other ts n (owner_of w.engine stored_stripe) noted d) ∙ won.settled d

    -- only this stripe was taken
    claimed_stripes : (s : ℕ) → (s ≡ stored_stripe) ⊎ (s ≡ stored_stripe → ⊥) →
        (at (put w.engine.stripes stored_stripe claimed) s ≡ stripe_at w.engine s)
        ⊎ TakenBy w.engine n s (at (put w.engine.stripes stored_stripe claimed) s) (put ts n noted)
    claimed_stripes s (inl e) =
        inr (subst (λ (x : ℕ). TakenBy w.engine n x (at (put w.engine.stripes stored_stripe claimed) x) (put ts n noted)) (sym e)
        (record {
          version = ap (λ (x : Stripe). x.version) (at_put_same w.engine.stripes stored_stripe claimed);
          owner = ap (λ (x : Stripe). x.owner) (at_put_same w.engine.stripes stored_stripe claimed);
          free = free;
          settled = claimed_settled;
        }))
    claimed_stripes s (inr d) = inl (at_put_other w.engine.stripes stored_stripe s claimed d)

    -- the caller keeps its stripes, and gains only this one
    claimed_keeps : (s : ℕ) → (s ≡ stored_stripe) ⊎ (s ≡ stored_stripe → ⊥) → owner_of w.engine s ≡ n →
        (at (put w.engine.stripes stored_stripe claimed) s).owner ≡ n
    claimed_keeps s (inl e) o =
        ap (λ (x : ℕ). (at (put w.engine.stripes stored_stripe claimed) x).owner) e
        ∙ ap (λ (x : Stripe). x.owner) (at_put_same w.engine.stripes stored_stripe claimed)
    claimed_keeps s (inr d) o = ap (λ (x : Stripe). x.owner) (at_put_other w.engine.stripes stored_stripe s claimed d) ∙ o

    claimed_gains : (s : ℕ) → (s ≡ stored_stripe) ⊎ (s ≡ stored_stripe → ⊥) →
        (at (put w.engine.stripes stored_stripe claimed) s).owner ≡ n → (owner_of w.engine s ≡ n) ⊎ (stored_stripe ≡ s)
    claimed_gains s (inl e) o = inr (sym e)
    claimed_gains s (inr d) o = inl (ap (λ (x : Stripe). x.owner) (sym (at_put_other w.engine.stripes stored_stripe s claimed d)) ∙ o)

    -- the stripe is taken
    taken_keeps : (es : List Event) →
        Kept ws base w h beats (Store n a v) (store_taken w n stored_stripe es (note_write (threaded w.engine ts) n a v) false)
    taken_keeps es =
        logged_keeps longer (stripe_taken n ∷ es) (put w.engine.stripes stored_stripe claimed) (put ts n noted) own_noted
        (won_then beats w.engine n stored_stripe (thread_of w.engine n).snapshot ts noted won)
        (λ s. claimed_stripes s (cases_eq s stored_stripe))
        (log_noted (λ s. (at (put w.engine.stripes stored_stripe claimed) s).owner)
        (λ s o. claimed_keeps s (cases_eq s stored_stripe) o)
        (λ s o. claimed_gains s (cases_eq s stored_stripe) o)
        (ap (λ (x : Stripe). x.owner) (at_put_same w.engine.stripes stored_stripe claimed)))

    -- whichever it is
    won_keeps : (es : List Event) →
        Kept ws base w h beats (Store n a v) (store_won w n a v stored_stripe (goes (threaded w.engine ts) es))
    won_keeps es = go (eqb (owner_of w.engine stored_stripe) n) refl
      where
        go : (b : Bool) → eqb (owner_of w.engine stored_stripe) n ≡ b →
            Kept ws base w h beats (Store n a v) (store_taken w n stored_stripe es (note_write (threaded w.engine ts) n a v) b)
        go true p = owned_keeps es (eqb-true (owner_of w.engine stored_stripe) n p)
        go false p = taken_keeps es

-- the checks of a store, one after another
module _ (ws : List ℕ) (base : ℕ) (w : World) (h : History) (beats : Table)
    (n a v : ℕ) (f : Fits ws base w h) where
  module _ (run : (thread_of w.engine n).phase ≡ Running) where
    -- the stripe is busy or not
    free_keeps : has_written (thread_of w.engine n) a ≡ false → is_full (thread_of w.engine n).writes ≡ false →
        (b : Bool) → busy w.engine n (stripe_of w.engine.set_up a) ≡ b →
        Kept ws base w h beats (Store n a v) (store_free beats w n a v (stripe_of w.engine.set_up a) b)
    free_keeps fresh roomy true p = refused_keeps ws base w h beats (Store n a v) f StripeBusy
    free_keeps fresh roomy false p =
        contend_keeps ws base w h beats (Store n a v) (stripe_of w.engine.set_up a) (thread_of w.engine n).snapshot
        w.engine.threads f run (record { own = refl; others = λ k d. refl })
        (store_won w n a v (stripe_of w.engine.set_up a)) (λ l st. refl)
        (λ ts es won. won_keeps ws base w h beats n a v f run fresh roomy
        (not_busy_free ws base w h n (stripe_of w.engine.set_up a) f run p) ts won es)

    -- the write log has room or not
    roomy_keeps : has_written (thread_of w.engine n) a ≡ false → (b : Bool) → is_full (thread_of w.engine n).writes ≡ b →
        Kept ws base w h beats (Store n a v) (store_roomy beats w n a v (stripe_of w.engine.set_up a) b)
    roomy_keeps fresh true p = refused_keeps ws base w h beats (Store n a v) f LogFull
    roomy_keeps fresh false p = free_keeps fresh p (busy w.engine n (stripe_of w.engine.set_up a)) refl

    -- the address is in the write log or not
    entry_keeps : (b : Bool) → has_written (thread_of w.engine n) a ≡ b →
        Kept ws base w h beats (Store n a v) (store_logged beats w n a v b)
    entry_keeps true p = rewrite_keeps ws base w h beats n a v f run p
    entry_keeps false p = roomy_keeps p (is_full (thread_of w.engine n).writes) refl

  -- there is such an address or not
  placed_keeps : Admitted w.engine Storing n → (b : Bool) → Kept ws base w h beats (Store n a v) (store_placed beats w n a v b)
  placed_keeps x false = refused_keeps ws base w h beats (Store n a v) f NoSuchPlace
  placed_keeps x true =
      entry_keeps (running_phase (thread_of w.engine n).phase x.fits) (has_written (thread_of w.engine n) a) refl

-- a store is refused, or it keeps everything whatever it meets
pub store_keeps : StoreKeeps
store_keeps ws base w h beats n a v f =
    admitted_or_refused ws base w h beats (Store n a v) f Storing n (store_admitted beats w n a v) (λ r. refl)
    (λ x. placed_keeps ws base w h beats n a v f x (ltb a (length w.words)))
