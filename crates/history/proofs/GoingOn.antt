-- Calls that go on: one call more of a running transaction, after it may have beaten another one.
use Rattle.std.proofs.Common.{◌≡◌, ℕ, ◌+◌, Bool, true, false, ◌||◌, ◌⊎◌, List, length, None, Option, sym, refl, ap, ◌∙◌, subst, inl, inr, arith}
use Rattle.common.specs.declared.loss.Loss.TheVariants.{Stolen}
use Rattle.contention.specs.Events.{Event}
use Rattle.history.proofs.Holders.{free_by_phase, free_not_draining, free_unsealed}
use Rattle.history.proofs.Invariant.{Draining, Fits, PhaseFits, RunsOn, Seated, front, hold_of}
use Rattle.history.proofs.Leaders.{leader_beats}
use Rattle.history.proofs.Lines.{leads_at, present_other, present_unlost, work_other}
use Rattle.history.proofs.Losses.{seat_lost}
use Rattle.history.proofs.Phases.{running_fits, running_inside}
use Rattle.history.proofs.Plan.{Kept, then}
use Rattle.history.proofs.Quiet.{quiet_keeps, quiet_outcome, quiet_state}
use Rattle.history.proofs.Seats.{draining_on, seat_other, seat_owners}
use Rattle.history.specs.Law.{Point, Spared}
use Rattle.history.specs.Record.{History, Line, Transaction, Work, Fall, acted, caller, deed, fallen, leads, past_after, sealed_after, told_loss, watched, with_work}
use Rattle.history.specs.Runs.{line_of, loss_in}
use Rattle.rules.specs.Admission.{is_running, is_sealed, is_thread}
use Rattle.rules.specs.Conflicts.{owner_of}
use Rattle.rules.specs.Maps.{Map, at}
use Rattle.rules.specs.Outcomes.{Table}
use Rattle.rules.specs.States.{State, Stripe, Thread, World, stripe_at, thread_of}
use Rattle.rules.specs.declared.answer.Answer.{Answer}
use Rattle.rules.specs.declared.call.Call.{Call}
use Rattle.rules.specs.declared.phase.Phase.{Phase}
use Rattle.rules.specs.declared.phase.Phase.TheVariants.{Running, Lost}
use Rattle.std.proofs.lemmas.Bool.{both_ways, cases_eq, or_cases}
use Rattle.std.specs.List.{AllByRecursion}

-- the call, by its answer, is one call more of its thread's transaction, and does this to its work
pub record Goes_on (c : Call) (a : Answer) (m : ℕ) (more : Work → Work) : Type 0 where
  pub acts : (t : Transaction) → acted c m t (deed c a) ≡ with_work t (more t.work)
  pub thread : (x : Work) → (more x).thread ≡ x.thread
  pub updaters : (x : Work) (us : List Work) → sealed_after (deed c a) None x us ≡ us
  pub past : (t : Transaction) (ts : List Transaction) → past_after (deed c a) t ts ≡ ts
  pub told : told_loss a ≡ None

-- thread k ran, and thread n beat it
pub record BeatenBy (beats : Table) (n k : ℕ) (was is : Thread) : Type 0 where
  pub ran : was.phase ≡ Running
  pub stolen : is.phase ≡ Lost (Stolen n)
  pub beaten : beats n k ≡ true

-- thread k is as it was, or thread n beat it
abbrev pub LeftOrBeaten : Table → ℕ → ℕ → Thread → Thread → Type 0
LeftOrBeaten beats n k was is = (is ≡ was) ⊎ BeatenBy beats n k was is

-- the stripe was taken from nobody that runs or is sealed
pub record TakenBy (st : State) (n s : ℕ) (x : Stripe) (ts : Map Thread) : Type 0 where
  pub version : x.version ≡ (stripe_at st s).version
  pub owner : x.owner ≡ n
  pub free : (front st s).hold ≡ None
  pub settled : (owner_of st s ≡ n → ⊥) → is_running (at ts (owner_of st s)).phase ≡ false

-- the stripes and threads that such a call leaves
pub record GoesThrough (ws : List ℕ) (base : ℕ) (w : World) (h : History) (beats : Table) (n : ℕ) (more : Work → Work)
    (ss : Map Stripe) (ts : Map Thread) : Type 0 where
  pub others : (k : ℕ) → (k ≡ n → ⊥) → LeftOrBeaten beats n k (thread_of w.engine k) (at ts k)
  pub stripes : (s : ℕ) → (at ss s ≡ stripe_at w.engine s) ⊎ TakenBy w.engine n s (at ss s) ts
  pub running : (at ts n).phase ≡ Running
  pub fits : RunsOn ws base w h (λ s. (at ss s).owner) n (at ts n) (more (h.present n).work) (h.present n).fall

module _ (ws : List ℕ) (base : ℕ) (w : World) (h : History) (beats : Table) (c : Call) (a : Answer)
    (es : List Event) (more : Work → Work) (m : Bool) (ss : Map Stripe) (ts : Map Thread) (f : Fits ws base w h)
    (run : (thread_of w.engine (caller c)).phase ≡ Running)
    (goes : Goes_on c a (length h.updaters) more) (x : GoesThrough ws base w h beats (caller c) more ss ts) where
  -- the engine, the line and the history after the call
  abbrev after : State
  after = quiet_state w.engine m ss ts

  abbrev line : Line
  line = line_of beats c (quiet_outcome w a es after)

  abbrev next : History
  next = then w h beats c (quiet_outcome w a es after)

  -- each thread holds what it held
  holds_kept : (k : ℕ) → hold_of (at ts k) ≡ hold_of (thread_of w.engine k)
  holds_kept k = go (cases_eq k (caller c))
    where
      other : LeftOrBeaten beats (caller c) k (thread_of w.engine k) (at ts k) → hold_of (at ts k) ≡ hold_of (thread_of w.engine k)
      other (inl e) = ap hold_of e
      other (inr b) =
          free_by_phase (at ts k) (Lost (Stolen (caller c))) b.stolen refl
          ∙ sym (free_by_phase (thread_of w.engine k) Running b.ran refl)

      go : (k ≡ caller c) ⊎ (k ≡ caller c → ⊥) → hold_of (at ts k) ≡ hold_of (thread_of w.engine k)
      go (inl e) =
          subst (λ (j : ℕ). hold_of (at ts j) ≡ hold_of (thread_of w.engine j)) (sym e)
          (free_by_phase (at ts (caller c)) Running x.running refl
          ∙ sym (free_by_phase (thread_of w.engine (caller c)) Running run refl))
      go (inr d) = other (x.others k d)

  -- so the stripes show what they showed
  fronts_stay : (s : ℕ) → front after s ≡ front w.engine s
  fronts_stay s = go (x.stripes s)
    where
      go : (at ss s ≡ stripe_at w.engine s) ⊎ TakenBy w.engine (caller c) s (at ss s) ts → front after s ≡ front w.engine s
      go (inl e) = λ i. record {
        version = (e i).version;
        hold = (ap (λ (y : Stripe). hold_of (at ts y.owner)) e ∙ holds_kept (owner_of w.engine s)) i;
      }
      go (inr y) = λ i. record {
        version = y.version i;
        hold =
            (ap (λ (k : ℕ). hold_of (at ts k)) y.owner ∙ free_by_phase (at ts (caller c)) Running x.running refl
            ∙ sym y.free) i;
      }

  -- another thread gains no stripe
  gains_none : (k s : ℕ) → (k ≡ caller c → ⊥) → (at ss s).owner ≡ k → owner_of w.engine s ≡ k
  gains_none k s d e = go (x.stripes s)
    where
      go : (at ss s ≡ stripe_at w.engine s) ⊎ TakenBy w.engine (caller c) s (at ss s) ts → owner_of w.engine s ≡ k
      go (inl p) = sym (ap (λ (y : Stripe). y.owner) p) ∙ e
      go (inr y) = absurd (d (sym e ∙ y.owner))

  -- and it keeps each one, unless it was taken from it, when it was neither running nor sealed
  keeps_all : (k s : ℕ) → (k ≡ caller c → ⊥) → at ts k ≡ thread_of w.engine k →
      (is_running (thread_of w.engine k).phase || is_sealed (thread_of w.engine k).phase) ≡ true →
      owner_of w.engine s ≡ k → (at ss s).owner ≡ k
  keeps_all k s d same busy e = go (x.stripes s)
    where
      was : (y : TakenBy w.engine (caller c) s (at ss s) ts) →
          (is_running (thread_of w.engine k).phase ≡ true) ⊎ (is_sealed (thread_of w.engine k).phase ≡ true) → ⊥
      was y (inl r) =
          both_ways (is_running (thread_of w.engine k).phase)
          (ap (λ (t : Thread). is_running t.phase) (sym same) ∙ ap (λ (j : ℕ). is_running (at ts j).phase) (sym e)
          ∙ y.settled (λ p. d (sym e ∙ p)))
          r
      was y (inr r) =
          both_ways (is_sealed (thread_of w.engine k).phase)
          (free_unsealed (thread_of w.engine k).writes (thread_of w.engine k).phase
          (ap (λ (j : ℕ). hold_of (thread_of w.engine j)) (sym e) ∙ y.free))
          r

      go : (at ss s ≡ stripe_at w.engine s) ⊎ TakenBy w.engine (caller c) s (at ss s) ts → (at ss s).owner ≡ k
      go (inl p) = ap (λ (y : Stripe). y.owner) p ∙ e
      go (inr y) = absurd (was y (or_cases (is_running (thread_of w.engine k).phase) (is_sealed (thread_of w.engine k).phase) busy))

  -- a thread that is as it was is apart from the call, and so keeps its seat
  seat_left : (k : ℕ) → (k ≡ caller c → ⊥) → at ts k ≡ thread_of w.engine k →
      Seated ws base w h (owner_of after) k (at ts k) (next.present k)
  seat_left k d same =
      seat_other h line d refl
      (subst (λ (t : Thread). Seated ws base w h (owner_of after) k t (h.present k)) (sym same)
      (seat_owners (λ z s e. gains_none k s d e) (λ busy s e. keeps_all k s d same busy e) (f.seats k)))

  -- a leader is beaten by nobody
  leader_unbeaten : (k : ℕ) → (k ≡ caller c → ⊥) → beats (caller c) k ≡ true → leads beats k w.engine.set_up.threads ≡ true → ⊥
  leader_unbeaten k d wins led =
      both_ways (beats (caller c) k)
      (leader_beats w.engine.set_up beats k (caller c) led (running_inside (f.seats (caller c)) run) (λ e. d (sym e))).1 wins

  -- a thread that was beaten is lost, and its fall is on record; it did not lead, so it is spared nothing
  seat_beaten : (k : ℕ) → (k ≡ caller c → ⊥) → BeatenBy beats (caller c) k (thread_of w.engine k) (at ts k) →
      Seated ws base w h (owner_of after) k (at ts k) (next.present k)
  seat_beaten k d b =
      subst (λ (y : Transaction). Seated ws base w h (owner_of after) k (at ts k) y)
      (sym (present_other w.engine.set_up h line k d
      ∙ ap (λ (p : Phase). fallen (length h.updaters) (watched (leads_at w.engine.set_up line k) (h.present k)) (loss_in p))
      b.stolen))
      (seat_lost (h.present k) (Stolen (caller c)) (length h.updaters) (leads_at w.engine.set_up line k) (f.seats k)
      b.ran b.stolen (λ led. leader_unbeaten k d b.beaten led))

  -- the caller's transaction has one call more
  abbrev went : Transaction
  went = with_work (watched (leads_at w.engine.set_up line (caller c)) (h.present (caller c))) (more (h.present (caller c)).work)

  present_went : next.present (caller c) ≡ went
  present_went =
      present_unlost w.engine.set_up h line goes.told (ap loss_in x.running)
      ∙ goes.acts (watched (leads_at w.engine.set_up line (caller c)) (h.present (caller c)))

  seat_went : Seated ws base w h (owner_of after) (caller c) (at ts (caller c)) (next.present (caller c))
  seat_went =
      subst (λ (y : Transaction). Seated ws base w h (owner_of after) (caller c) (at ts (caller c)) y) (sym present_went)
      (record {
        named = goes.thread (h.present (caller c)).work ∙ (f.seats (caller c)).named;
        inside = λ e. absurd (both_ways (is_thread w.engine.set_up (caller c)) e (running_inside (f.seats (caller c)) run));
        phase =
            subst (λ (p : Phase). PhaseFits w.engine.set_up ws h.updaters base (front w.engine) (owner_of after) (caller c)
            (at ts (caller c)) went.work went.fall p)
            (sym x.running) x.fits;
        point = record {
          moment = base + (at ts (caller c)).snapshot;
          since_begin = x.fits.since_begin;
          by_last_load = x.fits.by_last_load;
          so_far = omega (arith, x.fits.by_last_load, x.fits.so_far);
          loads = x.fits.loads;
        };
        spared = subst (λ (o : Option Fall). Spared w.engine.set_up h.updaters went.work o) (sym x.fits.standing) tt;
      })

  -- every thread's seat after the call
  seat_next : (k : ℕ) → Seated ws base w h (owner_of after) k (at ts k) (next.present k)
  seat_next k = go (cases_eq k (caller c))
    where
      other : (k ≡ caller c → ⊥) → LeftOrBeaten beats (caller c) k (thread_of w.engine k) (at ts k) →
          Seated ws base w h (owner_of after) k (at ts k) (next.present k)
      other d (inl e) = seat_left k d e
      other d (inr b) = seat_beaten k d b

      go : (k ≡ caller c) ⊎ (k ≡ caller c → ⊥) →
          Seated ws base w h (owner_of after) k (at ts k) (next.present k)
      go (inl e) =
          subst (λ (j : ℕ). Seated ws base w h (owner_of after) j (at ts j) (next.present j)) (sym e) seat_went
      go (inr d) = other d (x.others k d)

  -- a sealed thread is neither the caller nor beaten
  drains_on : (k : ℕ) → Draining w.engine h k → Draining after next k
  drains_on k y = draining_on y (same (x.others y.thread apart)) (work_other w.engine.set_up h line y.thread apart)
    where
      apart : y.thread ≡ caller c → ⊥
      apart e = free_not_draining y (free_by_phase (thread_of w.engine (caller c)) Running run refl) e

      same : LeftOrBeaten beats (caller c) y.thread (thread_of w.engine y.thread) (at ts y.thread) →
          at ts y.thread ≡ thread_of w.engine y.thread
      same (inl e) = e
      same (inr b) = absurd (free_not_draining y (free_by_phase (thread_of w.engine y.thread) Running b.ran refl) refl)

  -- a call that goes on keeps everything
  pub goes_on_keeps : Kept ws base w h beats c (quiet_outcome w a es after)
  goes_on_keeps = quiet_keeps ws base w h beats c a es m ss ts f (record {
    fronts = fronts_stay;
    updaters =
        ap (λ (o : Option ℕ).
        sealed_after (deed c a) o (acted c (length h.updaters) (h.present (caller c)) (deed c a)).work h.updaters)
        (running_fits (f.seats (caller c)) run).unnumbered
        ∙ goes.updaters (acted c (length h.updaters) (h.present (caller c)) (deed c a)).work h.updaters;
    seats = seat_next;
    drains = drains_on;
    past_points = subst (AllByRecursion (λ t. Point ws h.updaters t.work)) (sym (goes.past (h.present (caller c)) h.past)) f.past_points;
    past_spared =
        subst (AllByRecursion (λ t. Spared w.engine.set_up h.updaters t.work t.fall))
        (sym (goes.past (h.present (caller c)) h.past)) f.past_spared;
  })
