-- A drain keeps the invariant.
use Rattle.std.proofs.Common.{◌≡◌, ℕ, ◌+◌, ◌-◌, ◌≤◌, Bool, true, false, cond, eqb, List, [], ◌∷◌, length, get_or, drop, set, Some, None, Option, sym, refl, ap, ◌∙◌, subst, inl, inr, arith}
use Rattle.common.specs.declared.refusal.Refusal.TheVariants.{WrongState}
use Rattle.history.proofs.DrainSteps.{DrainStep, drained_engine, drained_once, drained_outcome, step_keeps}
use Rattle.history.proofs.Holders.{free_by_phase, held_by}
use Rattle.history.proofs.Invariant.{Fits, Front, PhaseFits, SealedFits, front, hold_of, left_in, top, top_of}
use Rattle.history.proofs.KeyedEntries.{has_dropped, never_has}
use Rattle.history.proofs.Maps.{at_put_other, at_put_same}
use Rattle.history.proofs.Phases.{sealed_fits, thread_not_zero}
use Rattle.history.proofs.Plan.{DrainKeeps, Kept}
use Rattle.history.proofs.PutIn.{address_of, has_address, put_in_length, put_in_misses}
use Rattle.history.proofs.Refusals.{admitted_or_refused, refused_keeps}
use Rattle.history.proofs.Releases.{released_gains, released_keeps, released_nothing, released_other, released_own}
use Rattle.history.specs.Record.{History, Work, called, no_work}
use Rattle.history.specs.Runs.{loss_in}
use Rattle.history.specs.Serial.{put_in, write_log, drain_count}
use Rattle.layout.specs.SetUps.{stripe_of}
use Rattle.layout.specs.declared.entries.WriteEntry.{WriteEntry}
use Rattle.layout.specs.declared.set_up.SetUp.{SetUp}
use Rattle.rules.specs.Admission.{is_thread}
use Rattle.rules.specs.Conflicts.{owner_of}
use Rattle.rules.specs.Drain.{freed, release, drain_next, drain_sealed, drain_admitted}
use Rattle.rules.specs.Maps.{Map, at, put, each}
use Rattle.rules.specs.Outcomes.{Table}
use Rattle.rules.specs.States.{State, World, Stripe, Thread, thread_of, stripe_at, with_phase, enter}
use Rattle.rules.specs.declared.answer.Answer.TheVariants.{Left}
use Rattle.rules.specs.declared.call.Call.TheVariants.{Drain}
use Rattle.rules.specs.declared.kind.Kind.TheVariants.{Drain as Draining}
use Rattle.rules.specs.declared.phase.Phase.{Phase}
use Rattle.rules.specs.declared.phase.Phase.TheVariants.{Idle, Running, Sealed, Lost}
use Rattle.std.proofs.lemmas.List.{length-set, get_or-set_same, get_or-set_other, drop_all, drop_more}
use Rattle.std.proofs.lemmas.Option.{get_or_from_slice_get, slice_get_cases, slice_get_within}
use Rattle.std.proofs.lemmas.Bool.{eqb-true, eqb-false, or_parts}
use Rattle.std.specs.List.{slice_get}

-- the next element of a list, after some were taken, is the first of the rest
next_some : {X : Type 0} (xs : List X) (i : ℕ) (x : X) → slice_get xs i ≡ Some x → drop i xs ≡ x ∷ drop (i + 1) xs
next_some {X} xs i x e =
    drop_more xs i x (slice_get_within xs i x e) ∙
    ap (λ (y : X). y ∷ drop (i + 1) xs) (get_or_from_slice_get xs i x x e)

-- with no next one the list is at its end
next_none : {X : Type 0} (xs : List X) (i : ℕ) → slice_get xs i ≡ None → length xs ≤ i
next_none xs i e = elim (slice_get_cases xs i).1 as (λ _. length xs ≤ i) [ inl p ↦ absurd (cc) | inr p ↦ p.0 ]

-- the threads with one of them in another phase
abbrev entered : State → ℕ → Phase → Map Thread
entered st n p = put st.threads n (with_phase (thread_of st n) p)

-- the stripes without those of the thread, which have the ticket as their version
abbrev all_freed : State → ℕ → ℕ → Map Stripe
all_freed st n ticket = each (freed n (Some ticket)) st.stripes

module _ (ws : List ℕ) (base : ℕ) (w : World) (h : History) (beats : Table) (n ticket drained : ℕ) (f : Fits ws base w h)
    (inside : is_thread w.engine.set_up n ≡ true) (sealed : (thread_of w.engine n).phase ≡ Sealed ticket drained) where
  abbrev u : SetUp
  u = w.engine.set_up

  abbrev owners : ℕ → ℕ
  owners = owner_of w.engine

  -- the thread's write log, and its work with the drain
  abbrev log : List WriteEntry
  log = (thread_of w.engine n).writes

  abbrev mine : Work
  mine = called (Drain n) (h.present n).work

  -- what is known of the caller
  q : SealedFits u h.updaters base owners n ticket drained (thread_of w.engine n) (h.present n).work (h.present n).fall
  q = sealed_fits (f.seats n) ticket drained sealed

  -- the thread that entered a phase, and the others
  own_entered : (p : Phase) → at (entered w.engine n p) n ≡ with_phase (thread_of w.engine n) p
  own_entered p = at_put_same w.engine.threads n (with_phase (thread_of w.engine n) p)

  other_entered : (p : Phase) (k : ℕ) → (k ≡ n → ⊥) → at (entered w.engine n p) k ≡ thread_of w.engine k
  other_entered p k d = at_put_other w.engine.threads n k (with_phase (thread_of w.engine n) p) d

  -- an address of a stripe that is another's is not to be drained
  not_left : (a : ℕ) → (owners (stripe_of u a) ≡ n → ⊥) → has_address a (drop drained log) ≡ false
  not_left a d = never_has address_of a (drop drained log) (λ has. d (q.owns_log a (has_dropped address_of a drained log has)))

  -- a word that is not the last: the thread stays sealed and holds its stripes with one entry less
  module _ (e : WriteEntry) (next : drop drained log ≡ e ∷ drop (drained + 1) log) where
    -- the words, the thread's phase and the engine after it
    abbrev now_on : List ℕ
    now_on = set w.words e.address e.word

    abbrev still : Phase
    still = Sealed ticket (drained + 1)

    abbrev on : State
    on = drained_engine w w.engine.stripes (entered w.engine n still)

    -- what its stripes show
    front_on : (s : ℕ) → owners s ≡ n →
        front on s
        ≡ record { version = (stripe_at w.engine s).version; hold = Some (record { ticket = ticket; left = drop (drained + 1) log }) }
    front_on s p = λ i. record {
      version = (stripe_at w.engine s).version;
      hold = (ap (λ (k : ℕ). hold_of (at (entered w.engine n still) k)) p ∙ ap hold_of (own_entered still)) i;
    }

    -- the next entry is not for an address of another stripe
    on_words : (a : ℕ) → (owners (stripe_of u a) ≡ n → ⊥) → get_or w.words a 0 ≡ get_or now_on a 0
    on_words a d =
        let none : has_address a (e ∷ drop (drained + 1) log) ≡ false = ap (has_address a) (sym next) ∙ not_left a d in
        let apart = (or_parts (eqb e.address a) (has_address a (drop (drained + 1) log)) none).0 in
        sym (get_or-set_other w.words e.address a e.word 0 (λ x. eqb-false e.address a apart (sym x)))

    -- it is sealed as before, with one call more
    on_phase : SealedFits u (drained_once h n q.place) base owners n ticket (drained + 1)
        (with_phase (thread_of w.engine n) still) mine (h.present n).fall
    on_phase = record {
      place = q.place;
      numbered = q.numbered;
      standing = q.standing;
      by_ticket = q.by_ticket;
      so_far = omega (arith, q.so_far, length-set h.updaters q.place mine);
      same = get_or-set_same h.updaters q.place mine (no_work 0 0) q.so_far;
      log = q.log;
      drains = ap (λ (k : ℕ). k + 1) q.drains;
      owns_log = q.owns_log;
    }

    -- so all is as a drain has to leave it
    on_step : DrainStep ws base w h n ticket drained q.place now_on w.engine.stripes (entered w.engine n still)
    on_step = record {
      sized = length-set w.words e.address e.word;
      apart = other_entered still;
      fronts_other = λ s d i. record {
        version = (stripe_at w.engine s).version;
        hold = ap hold_of (other_entered still (owners s) d) i;
      };
      tops = λ s p. ap top (front_on s p);
      rises = λ s p.
          omega (
            arith,
            (f.stripes s).rises,
            ap (top_of (stripe_at w.engine s).version) (held_by w.engine n ticket drained s sealed p),
          );
      lefts = λ s p. ap (put_in w.words) next ∙ ap (λ (y : Front). put_in now_on (left_in y)) (sym (front_on s p));
      words_other = on_words;
      gains = λ k s z d p. p;
      keeps = λ k s d p. p;
      phase =
          subst (λ (t : Thread).
          PhaseFits u ws (drained_once h n q.place) base (front on) owners n t mine (h.present n).fall t.phase)
          (sym (own_entered still)) on_phase;
      unlost = ap (λ (t : Thread). loss_in t.phase) (own_entered still);
      goes_on = inr (ticket, drained + 1, ap (λ (t : Thread). t.phase) (own_entered still));
    }

    on_keeps : (j : ℕ) →
        Kept ws base w h beats (Drain n) (drained_outcome w j now_on w.engine.stripes (entered w.engine n still))
    on_keeps j =
        step_keeps ws base w h beats n ticket drained j now_on w.engine.stripes (entered w.engine n still) f inside q sealed on_step

  -- the last word, or none: the thread is idle, and its stripes have the ticket as version and no owner
  module _ (now : List ℕ) (all : put_in w.words (drop drained log) ≡ now) (last : length log ≤ drained + 1) where
    -- the engine after it
    abbrev off : State
    off = drained_engine w (all_freed w.engine n ticket) (entered w.engine n Idle)

    -- nobody holds a stripe that has no owner
    held_by_nobody : hold_of (at (entered w.engine n Idle) 0) ≡ None
    held_by_nobody =
        ap hold_of (other_entered Idle 0 (λ e. thread_not_zero u n inside (sym e)))
        ∙ free_by_phase (thread_of w.engine 0) Idle ((f.seats 0).inside refl) refl

    -- what its stripes show
    front_off : (s : ℕ) → owners s ≡ n → front off s ≡ record { version = ticket; hold = None }
    front_off s p = λ i. record {
      version = ap (λ (y : Stripe). y.version) (released_own w.engine n (Some ticket) s p) i;
      hold =
          (ap (λ (y : Stripe). hold_of (at (entered w.engine n Idle) y.owner)) (released_own w.engine n (Some ticket) s p)
          ∙ held_by_nobody) i;
    }

    -- so all is as a drain has to leave it
    off_step : DrainStep ws base w h n ticket drained q.place now (all_freed w.engine n ticket) (entered w.engine n Idle)
    off_step = record {
      sized = ap length (sym all) ∙ put_in_length w.words (drop drained log);
      apart = other_entered Idle;
      fronts_other = λ s d i. record {
        version = ap (λ (y : Stripe). y.version) (released_other w.engine n (Some ticket) s d) i;
        hold =
            (ap (λ (y : Stripe). hold_of (at (entered w.engine n Idle) y.owner)) (released_other w.engine n (Some ticket) s d)
            ∙ ap hold_of (other_entered Idle (owners s) d)) i;
      };
      tops = λ s p. ap top (front_off s p);
      rises = λ s p. omega (arith, ap (λ (y : Front). y.version) (front_off s p));
      lefts = λ s p. all ∙ ap (λ (y : Front). put_in now (left_in y)) (sym (front_off s p));
      words_other = λ a d.
          sym (put_in_misses w.words (drop drained log) a (not_left a d)) ∙ ap (λ (xs : List ℕ). get_or xs a 0) all;
      gains = λ k s z d p. released_gains w.engine n (Some ticket) s k z p;
      keeps = λ k s d p. released_keeps w.engine n (Some ticket) s k d p;
      phase =
          subst (λ (t : Thread).
          PhaseFits u ws (drained_once h n q.place) base (front off) (owner_of off) n t mine (h.present n).fall t.phase)
          (sym (own_entered Idle)) (λ s p. released_nothing w.engine n (Some ticket) s p);
      unlost = ap (λ (t : Thread). loss_in t.phase) (own_entered Idle);
      goes_on = inl (drop_all (drain_count (h.present n).work.calls + 1) (write_log (h.present n).work.calls)
          (omega (arith, ap length q.log, q.drains, last)));
    }

    off_keeps : (j : ℕ) →
        Kept ws base w h beats (Drain n) (drained_outcome w j now (all_freed w.engine n ticket) (entered w.engine n Idle))
    off_keeps j =
        step_keeps ws base w h beats n ticket drained j now (all_freed w.engine n ticket) (entered w.engine n Idle) f inside q sealed
        off_step

  -- how many words are left decides whether the thread is released
  settled_keeps : (e : WriteEntry) → drop drained log ≡ e ∷ drop (drained + 1) log → (b : Bool) →
      eqb (length log - (drained + 1)) 0 ≡ b →
      Kept ws base w h beats (Drain n) (record {
        answer = Left (length log - (drained + 1));
        told = [];
        after = record {
          engine = cond b (release w.engine n (Some ticket)) (enter w.engine n (Sealed ticket (drained + 1)));
          words = set w.words e.address e.word;
        };
      })
  settled_keeps e next true p =
      let last : length log ≤ drained + 1 = omega (arith, eqb-true (length log - (drained + 1)) 0 p) in
      off_keeps (set w.words e.address e.word)
      (ap (put_in w.words) (next ∙ ap (λ (es : List WriteEntry). e ∷ es) (drop_all (drained + 1) log last)))
      last (length log - (drained + 1))
  settled_keeps e next false p = on_keeps e next (length log - (drained + 1))

  -- with no next word the thread is released all the same
  next_keeps : (o : Option WriteEntry) → slice_get log drained ≡ o →
      Kept ws base w h beats (Drain n) (drain_next w n ticket drained (length log) o)
  next_keeps None p =
      let end = next_none log drained p in
      off_keeps w.words (ap (put_in w.words) (drop_all drained log end)) (omega (arith, end)) 0
  next_keeps (Some e) p = settled_keeps e (next_some log drained e p) (eqb (length log - (drained + 1)) 0) refl

-- in the state of a sealed thread the next word is drained; no other state lets a drain in
sealed_keeps : (ws : List ℕ) (base : ℕ) (w : World) (h : History) (beats : Table) (n : ℕ) → Fits ws base w h →
    is_thread w.engine.set_up n ≡ true → (p : Phase) → (thread_of w.engine n).phase ≡ p →
    Kept ws base w h beats (Drain n) (drain_sealed w n p)
sealed_keeps ws base w h beats n f inside Idle e = refused_keeps ws base w h beats (Drain n) f WrongState
sealed_keeps ws base w h beats n f inside Running e = refused_keeps ws base w h beats (Drain n) f WrongState
sealed_keeps ws base w h beats n f inside (Sealed ticket drained) e =
    next_keeps ws base w h beats n ticket drained f inside e (slice_get (thread_of w.engine n).writes drained) refl
sealed_keeps ws base w h beats n f inside (Lost l) e = refused_keeps ws base w h beats (Drain n) f WrongState

-- a drain is refused, or the next word is drained
pub drain_keeps : DrainKeeps
drain_keeps ws base w h beats n f =
    admitted_or_refused ws base w h beats (Drain n) f Draining n (drain_admitted w n) (λ r. refl)
    (λ x. sealed_keeps ws base w h beats n f x.inside (thread_of w.engine n).phase refl)
