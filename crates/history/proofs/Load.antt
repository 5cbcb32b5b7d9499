-- A load keeps what holds between engine and history.
use Rattle.std.proofs.Common.{◌≡◌, ℕ, ◌+◌, ◌<◌, ◌≤◌, Bool, true, false, cond, not, ◌&&◌, ltb, List, [], ◌∷◌, ◌++◌, length, get_or, Some, None, Option, sym, refl, ap, ◌∙◌, subst, inl, arith}
use Rattle.common.specs.declared.loss.Loss.TheVariants.{Invalid}
use Rattle.common.specs.declared.refusal.Refusal.TheVariants.{NoSuchPlace, LogFull, StripeBusy}
use Rattle.contention.specs.Events.{Event, word_loaded}
use Rattle.history.proofs.GoingOn.{LeftOrBeaten, goes_on_keeps}
use Rattle.history.proofs.Holders.{not_busy_free}
use Rattle.history.proofs.Invariant.{Fits, Front, MarkFits, Marked, RunningFits, RunsOn, SameRead, front, has_stripe}
use Rattle.history.proofs.KeyedEntries.{found_has, grown_roomy, has_before, has_pushed}
use Rattle.history.proofs.Logs.{log_finds_kept}
use Rattle.history.proofs.Losses.{lose_keeps}
use Rattle.history.proofs.Maps.{at_put_other, at_put_same}
use Rattle.history.proofs.Phases.{Admitted, running_fits, running_phase}
use Rattle.history.proofs.Plan.{Kept, LoadKeeps}
use Rattle.history.proofs.PutIn.{address_of}
use Rattle.history.proofs.Quiet.{quiet_outcome}
use Rattle.history.proofs.ReadLogs.{free_word_agrees, invalid_excuses, refresh_agrees}
use Rattle.history.proofs.Refusals.{admitted_or_refused, refused_keeps}
use Rattle.history.proofs.Wins.{Refreshed, Won, contend_keeps, threaded, won_then}
use Rattle.history.specs.Law.{LoadsAt, words_at}
use Rattle.history.specs.Record.{History, Work, Fall, called_load}
use Rattle.history.specs.Serial.{kept, seen, word_or}
use Rattle.layout.specs.Lookups.{first_with}
use Rattle.layout.specs.SetUps.{stripe_of}
use Rattle.layout.specs.declared.entries.WriteEntry.{WriteEntry}
use Rattle.layout.specs.declared.set_up.SetUp.{SetUp}
use Rattle.rules.specs.Conflicts.{busy, first_invalid, owner_of, recheck, rechecked, refresh}
use Rattle.rules.specs.Load.{grown, has_read, is_full, load_admitted, load_free, load_fresh, load_logged, load_placed, load_roomy, load_won, written}
use Rattle.rules.specs.Maps.{Map, at, put}
use Rattle.rules.specs.Outcomes.{Table, goes}
use Rattle.rules.specs.States.{ReadMark, Thread, World, stripe_at, thread_of, with_reads, with_snapshot}
use Rattle.rules.specs.declared.answer.Answer.TheVariants.{Word}
use Rattle.rules.specs.declared.call.Call.TheVariants.{Load}
use Rattle.rules.specs.declared.kind.Kind.TheVariants.{Load as Loading}
use Rattle.rules.specs.declared.phase.Phase.TheVariants.{Running}
use Rattle.std.proofs.ByRecursion.{All-push, All-weaker}
use Rattle.std.proofs.lemmas.Bool.{ltb-false, ltb-true}
use Rattle.std.specs.List.{AllByRecursion}

-- a thread with another snapshot end and read log
abbrev read_on : Thread → ℕ → List ReadMark → Thread
read_on t end rs = record t { snapshot = end; reads = rs }

-- what is left to show of a transaction that was answered a word: it loads it at its snapshot end, and wherever the
-- words that its read log looks at are the same
record Answered (u : SetUp) (ws : List ℕ) (us : List Work) (base : ℕ) (fs : ℕ → Front) (n a v end : ℕ) (t : Thread) (w : Work)
    (rs : List ReadMark) : Type 0 where
  later : t.snapshot ≤ end
  so_far : base + end ≤ length us
  loads : LoadsAt ws us (base + end) w
  here : seen (words_at ws us (base + end)) (kept w.calls) a ≡ v
  only : (xs ys : List ℕ) → SameRead u rs xs ys → seen xs (kept w.calls) a ≡ seen ys (kept w.calls) a
  more : (s : ℕ) → has_stripe s t.reads ≡ true → has_stripe s rs ≡ true
  marks : AllByRecursion (λ e. MarkFits u us n w.begun end (fs e.stripe) e) rs

-- such a transaction runs on, with one loaded word more
answered_fits : (u : SetUp) (ws : List ℕ) (us : List Work) (base : ℕ) (fs : ℕ → Front) (owner : ℕ → ℕ) (n a v end : ℕ)
    (t : Thread) (w : Work) (f : Option Fall) (rs : List ReadMark) → RunningFits u ws us base fs owner n t w f →
    Answered u ws us base fs n a v end t w rs →
    RunningFits u ws us base fs owner n (read_on t end rs) (called_load (Load n a) (length us) v w) f
answered_fits u ws us base fs owner n a v end t w f rs r x = record {
  unnumbered = r.unnumbered;
  standing = r.standing;
  log = r.log;
  undrained = r.undrained;
  owns_log = r.owns_log;
  owns_stored = r.owns_stored;
  since_begin = omega (arith, r.since_begin, x.later);
  by_last_load = x.so_far;
  so_far = omega arith;
  loads = λ i. x.here i ∷ x.loads i;
  covered = λ xs ys same. λ i. x.only xs ys same i ∷ r.covered xs ys (λ b has. same b (x.more (stripe_of u b) has)) i;
  marks = x.marks;
  others = r.others;
}

module _ (ws : List ℕ) (base : ℕ) (w : World) (h : History) (beats : Table) (n a : ℕ)
    (f : Fits ws base w h) (run : (thread_of w.engine n).phase ≡ Running) where
  -- a load that is answered
  answered_keeps : (v end : ℕ) (rs : List ReadMark) (es : List Event) (ts : Map Thread) →
      at ts n ≡ read_on (thread_of w.engine n) end rs →
      ((k : ℕ) → (k ≡ n → ⊥) → LeftOrBeaten beats n k (thread_of w.engine k) (at ts k)) →
      Answered w.engine.set_up ws h.updaters base (front w.engine) n a v end (thread_of w.engine n) (h.present n).work rs →
      Kept ws base w h beats (Load n a) (quiet_outcome w (Word v) es (threaded w.engine ts))
  answered_keeps v end rs es ts own others x =
      goes_on_keeps ws base w h beats (Load n a) (Word v) es (called_load (Load n a) (length h.updaters) v)
      w.engine.mark w.engine.stripes ts f run
      (record { acts = λ t. refl; thread = λ y. refl; updaters = λ y us. refl; past = λ t us. refl; told = refl })
      (record {
        others = others;
        stripes = λ s. inl refl;
        running = ap (λ (t : Thread). t.phase) own ∙ run;
        fits =
            subst (λ (t : Thread). RunsOn ws base w h (owner_of w.engine) n t
            (called_load (Load n a) (length h.updaters) v (h.present n).work) (h.present n).fall) (sym own)
            (answered_fits w.engine.set_up ws h.updaters base (front w.engine) (owner_of w.engine) n a v end
            (thread_of w.engine n) (h.present n).work (h.present n).fall rs (running_fits (f.seats n) run) x);
      })

  -- what the write log finds is what the transaction kept
  finds_kept : (o : Option WriteEntry) → written (thread_of w.engine n) a ≡ o →
      first_with address_of a (kept (h.present n).work.calls) ≡ o
  finds_kept o e =
      sym (log_finds_kept (h.present n).work.calls a)
      ∙ ap (first_with address_of a) (sym (running_fits (f.seats n) run).log) ∙ e

  -- a load from the own log
  own_log_keeps : (e : WriteEntry) → written (thread_of w.engine n) a ≡ Some e →
      Kept ws base w h beats (Load n a) (load_logged beats w n a (Some e))
  own_log_keeps e found =
      let r = running_fits (f.seats n) run in
      answered_keeps e.word (thread_of w.engine n).snapshot (thread_of w.engine n).reads (word_loaded n ∷ [])
      w.engine.threads refl (λ k d. inl refl)
      (record {
        later = omega arith;
        so_far = omega (arith, r.by_last_load, r.so_far);
        loads = r.loads;
        here = ap (word_or _) (finds_kept (Some e) found);
        only = λ xs ys same.
            ap (word_or (get_or xs a 0)) (finds_kept (Some e) found) ∙ sym (ap (word_or (get_or ys a 0)) (finds_kept (Some e) found));
        more = λ s has. has;
        marks = r.marks;
      })

  -- a load from a stripe that no sealed thread holds, at a snapshot end that its version does not pass
  module _ (s end : ℕ) (here : stripe_of w.engine.set_up a ≡ s) (inside : a < length w.words)
      (logless : written (thread_of w.engine n) a ≡ None) (free : (front w.engine s).hold ≡ None)
      (later : (thread_of w.engine n).snapshot ≤ end) (fresh : (stripe_at w.engine s).version ≤ end)
      (so_far : base + end ≤ length h.updaters) (loads : LoadsAt ws h.updaters (base + end) (h.present n).work) where
    -- the stored word is the one that the transaction loads
    stored_word : seen (words_at ws h.updaters (base + end)) (kept (h.present n).work.calls) a ≡ get_or w.words a 0
    stored_word =
        ap (word_or (get_or (words_at ws h.updaters (base + end)) a 0)) (finds_kept None logless)
        ∙ free_word_agrees ws base w h a (base + end) f inside
        (ap (λ (x : ℕ). (front w.engine x).hold) here ∙ free)
        (omega (arith, fresh, ap (λ (x : ℕ). (stripe_at w.engine x).version) here))

    -- the marks stay, at a later snapshot end
    marks_later : AllByRecursion (Marked w h n end) (thread_of w.engine n).reads
    marks_later =
        All-weaker _ _ (λ e m. record { old = omega (arith, later, m.old); state = m.state }) (thread_of w.engine n).reads
        (running_fits (f.seats n) run).marks

    -- so the transaction is answered that word, if its read log has the stripe now
    answered_stored : (rs : List ReadMark) → has_stripe s rs ≡ true →
        ((x : ℕ) → has_stripe x (thread_of w.engine n).reads ≡ true → has_stripe x rs ≡ true) →
        AllByRecursion (Marked w h n end) rs →
        Answered w.engine.set_up ws h.updaters base (front w.engine) n a (get_or w.words a 0) end (thread_of w.engine n)
        (h.present n).work rs
    answered_stored rs has more marks = record {
      later = later;
      so_far = so_far;
      loads = loads;
      here = stored_word;
      only = λ xs ys same.
          ap (word_or (get_or xs a 0)) (finds_kept None logless)
          ∙ same a (subst (λ (x : ℕ). has_stripe x rs ≡ true) (sym here) has)
          ∙ sym (ap (word_or (get_or ys a 0)) (finds_kept None logless));
      more = more;
      marks = marks;
    }

    -- the read entry of the stripe
    abbrev mark : ReadMark
    mark = record { stripe = s; version = (stripe_at w.engine s).version }

    -- a stripe that is known
    known_keeps : (ts : Map Thread) (es : List Event) → has_read (thread_of w.engine n) s ≡ true → Won beats w.engine n s end ts →
        Kept ws base w h beats (Load n a) (load_won w n a s true (goes (threaded w.engine ts) es))
    known_keeps ts es known won =
        answered_keeps (get_or w.words a 0) end (thread_of w.engine n).reads (word_loaded n ∷ es) ts won.own won.others
        (answered_stored (thread_of w.engine n).reads (sym (found_has (λ e. e.stripe) s (thread_of w.engine n).reads) ∙ known)
        (λ x has. has) marks_later)

    -- a stripe that is noted now
    noted_keeps : (ts : Map Thread) (es : List Event) → is_full (thread_of w.engine n).reads ≡ false →
        Won beats w.engine n s end ts →
        Kept ws base w h beats (Load n a) (load_won w n a s false (goes (threaded w.engine ts) es))
    noted_keeps ts es roomy won =
        answered_keeps (get_or w.words a 0) end ((thread_of w.engine n).reads ++ mark ∷ []) (word_loaded n ∷ es) (put ts n noted)
        (at_put_same ts n noted ∙ ap (λ (t : Thread). with_reads t (grown t.reads mark)) won.own
        ∙ ap (λ (rs : List ReadMark). read_on (thread_of w.engine n) end rs) (grown_roomy (thread_of w.engine n).reads mark roomy))
        (won_then beats w.engine n s end ts noted won)
        (answered_stored ((thread_of w.engine n).reads ++ mark ∷ [])
        (has_pushed (λ e. e.stripe) s (thread_of w.engine n).reads mark refl)
        (λ x has. has_before (λ e. e.stripe) x (thread_of w.engine n).reads mark has)
        (All-push (Marked w h n end) (thread_of w.engine n).reads mark marks_later (record { old = fresh; state = inl (refl, free) })))
      where
        noted : Thread
        noted = with_reads (at ts n) (grown (at ts n).reads mark)

    -- the stripe is won: known before or not
    won_keeps : (known : Bool) → has_read (thread_of w.engine n) s ≡ known →
        (not known && is_full (thread_of w.engine n).reads) ≡ false →
        (ts : Map Thread) (es : List Event) → Won beats w.engine n s end ts →
        Kept ws base w h beats (Load n a) (load_won w n a s known (goes (threaded w.engine ts) es))
    won_keeps true e roomy ts es won = known_keeps ts es e won
    won_keeps false e roomy ts es won = noted_keeps ts es roomy won

    -- from the snapshot end on: the meeting, then the word
    fresh_keeps : (known : Bool) → has_read (thread_of w.engine n) s ≡ known →
        (not known && is_full (thread_of w.engine n).reads) ≡ false → (ts : Map Thread) → Refreshed w.engine n end ts →
        (es : List Event) → Kept ws base w h beats (Load n a) (load_fresh beats w n a s known (goes (threaded w.engine ts) es))
    fresh_keeps known e roomy ts r es =
        contend_keeps ws base w h beats (Load n a) s end ts f run r (load_won w n a s known) (λ l st. refl) (won_keeps known e roomy)

-- the checks of a load, one after another
module _ (ws : List ℕ) (base : ℕ) (w : World) (h : History) (beats : Table) (n a : ℕ) (f : Fits ws base w h) where
  -- the stripe of the address
  abbrev loaded_stripe : ℕ
  loaded_stripe = stripe_of w.engine.set_up a

  module _ (run : (thread_of w.engine n).phase ≡ Running) (inside : a < length w.words)
      (logless : written (thread_of w.engine n) a ≡ None) (known : Bool) (e : has_read (thread_of w.engine n) loaded_stripe ≡ known)
      (roomy : (not known && is_full (thread_of w.engine n).reads) ≡ false) where
    -- the transaction as it was
    r : RunsOn ws base w h (owner_of w.engine) n (thread_of w.engine n) (h.present n).work (h.present n).fall
    r = running_fits (f.seats n) run

    module _ (free : (front w.engine loaded_stripe).hold ≡ None) where
      -- the stripe is not newer than the snapshot end
      old_keeps : (stripe_at w.engine loaded_stripe).version ≤ (thread_of w.engine n).snapshot →
          Kept ws base w h beats (Load n a) (load_fresh beats w n a loaded_stripe known (goes w.engine []))
      old_keeps old =
          fresh_keeps ws base w h beats n a f run loaded_stripe (thread_of w.engine n).snapshot refl inside logless free
          (omega arith) old (omega (arith, r.by_last_load, r.so_far)) r.loads
          known e roomy w.engine.threads (record { own = refl; others = λ k d. refl }) []

      -- it is newer, and the read log has no invalid entry
      checked_keeps : (thread_of w.engine n).snapshot < (stripe_at w.engine loaded_stripe).version →
          first_invalid w.engine n (thread_of w.engine n).reads ≡ None →
          Kept ws base w h beats (Load n a) (load_fresh beats w n a loaded_stripe known (rechecked w.engine n None))
      checked_keeps newer valid =
          let by_clock : (stripe_at w.engine loaded_stripe).version ≤ w.engine.clock =
          omega (arith, (f.stripes loaded_stripe).rises, (f.stripes loaded_stripe).by_clock) in
          fresh_keeps ws base w h beats n a f run loaded_stripe w.engine.clock refl inside logless free
          (omega (arith, newer, by_clock)) by_clock (omega (arith, f.count))
          (subst (λ (m : ℕ). LoadsAt ws h.updaters m (h.present n).work) f.count (refresh_agrees ws base w h n f run valid))
          known e roomy (put w.engine.threads n (with_snapshot (thread_of w.engine n) w.engine.clock))
          (record {
            own = at_put_same w.engine.threads n (with_snapshot (thread_of w.engine n) w.engine.clock);
            others = λ k d. at_put_other w.engine.threads n k (with_snapshot (thread_of w.engine n) w.engine.clock) d;
          })
          []

      -- it is newer, and the read log has an invalid entry
      invalid_keeps : (x : ℕ) → first_invalid w.engine n (thread_of w.engine n).reads ≡ Some x →
          Kept ws base w h beats (Load n a) (load_fresh beats w n a loaded_stripe known (rechecked w.engine n (Some x)))
      invalid_keeps x bad =
          lose_keeps ws base w h beats (Load n a) (Invalid x) w.engine.mark w.engine.threads f run (λ k d. refl)
          (λ led. invalid_excuses ws base w h n x f run bad)

      -- whichever it is
      refresh_keeps : Kept ws base w h beats (Load n a) (load_fresh beats w n a loaded_stripe known (refresh w.engine n loaded_stripe))
      refresh_keeps = go (ltb (thread_of w.engine n).snapshot (stripe_at w.engine loaded_stripe).version) refl
        where
          check : (thread_of w.engine n).snapshot < (stripe_at w.engine loaded_stripe).version →
              (o : Option ℕ) → first_invalid w.engine n (thread_of w.engine n).reads ≡ o →
              Kept ws base w h beats (Load n a) (load_fresh beats w n a loaded_stripe known (rechecked w.engine n o))
          check newer None p = checked_keeps newer p
          check newer (Some x) p = invalid_keeps x p

          go : (b : Bool) → ltb (thread_of w.engine n).snapshot (stripe_at w.engine loaded_stripe).version ≡ b →
              Kept ws base w h beats (Load n a)
              (load_fresh beats w n a loaded_stripe known (cond b (recheck w.engine n) (goes w.engine [])))
          go true p =
              check (ltb-true (thread_of w.engine n).snapshot (stripe_at w.engine loaded_stripe).version p)
              (first_invalid w.engine n (thread_of w.engine n).reads) refl
          go false p = old_keeps (ltb-false (thread_of w.engine n).snapshot (stripe_at w.engine loaded_stripe).version p)

    -- the stripe is busy or not
    free_keeps : (b : Bool) → busy w.engine n loaded_stripe ≡ b →
        Kept ws base w h beats (Load n a) (load_free beats w n a loaded_stripe known b)
    free_keeps true p = refused_keeps ws base w h beats (Load n a) f StripeBusy
    free_keeps false p = refresh_keeps (not_busy_free ws base w h n loaded_stripe f run p)

  -- the read log has room for it or not
  roomy_keeps : (thread_of w.engine n).phase ≡ Running → a < length w.words →
      written (thread_of w.engine n) a ≡ None → (known : Bool) → has_read (thread_of w.engine n) loaded_stripe ≡ known →
      (b : Bool) → (not known && is_full (thread_of w.engine n).reads) ≡ b →
      Kept ws base w h beats (Load n a) (load_roomy beats w n a loaded_stripe known b)
  roomy_keeps run inside logless known e true p = refused_keeps ws base w h beats (Load n a) f LogFull
  roomy_keeps run inside logless known e false p =
      free_keeps run inside logless known e p (busy w.engine n loaded_stripe) refl

  -- the address is in the write log or not
  logged_keeps : (thread_of w.engine n).phase ≡ Running → a < length w.words →
      (o : Option WriteEntry) → written (thread_of w.engine n) a ≡ o → Kept ws base w h beats (Load n a) (load_logged beats w n a o)
  logged_keeps run inside (Some e) p = own_log_keeps ws base w h beats n a f run e p
  logged_keeps run inside None p =
      roomy_keeps run inside p (has_read (thread_of w.engine n) loaded_stripe) refl
      (not (has_read (thread_of w.engine n) loaded_stripe) && is_full (thread_of w.engine n).reads) refl

  -- there is such an address or not
  placed_keeps : Admitted w.engine Loading n → (b : Bool) → ltb a (length w.words) ≡ b →
      Kept ws base w h beats (Load n a) (load_placed beats w n a b)
  placed_keeps x false p = refused_keeps ws base w h beats (Load n a) f NoSuchPlace
  placed_keeps x true p =
      logged_keeps (running_phase (thread_of w.engine n).phase x.fits) (ltb-true a (length w.words) p)
      (written (thread_of w.engine n) a) refl

-- a load is refused, or it keeps everything whatever it meets
pub load_keeps : LoadKeeps
load_keeps ws base w h beats n a f =
    admitted_or_refused ws base w h beats (Load n a) f Loading n (load_admitted beats w n a) (λ r. refl)
    (λ x. placed_keeps ws base w h beats n a f x (ltb a (length w.words)) refl)
