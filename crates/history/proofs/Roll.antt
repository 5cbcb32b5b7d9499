-- What a roll keeps.
use Rattle.std.proofs.Common.{◌≡◌, ℕ, zero, suc, ◌<◌, ◌≤◌, Bool, true, false, ◌⊎◌, List, [], length, None, sym, refl, ap, ◌∙◌, subst, inl, inr, arith}
use mathlib.Core.Path.{fun_ext}
use Rattle.common.specs.declared.refusal.Refusal.TheVariants.{RollNotDue, ThreadsActive}
use Rattle.history.proofs.Holders.{bare_fits, bare_front, free_by_phase, free_not_draining, free_word_stored}
use Rattle.history.proofs.Invariant.{Fits, Front, PhaseFits, Seat, Spent, StripeFits, WordFits, front, hold_of}
use Rattle.history.proofs.Lines.{leads_at, present_caller}
use Rattle.history.proofs.Maps.{at_each}
use Rattle.history.proofs.Phases.{idle_fits, idle_phase, thread_bounds}
use Rattle.history.proofs.Plan.{Kept, RollKeeps, then}
use Rattle.history.proofs.Refusals.{refused_keeps}
use Rattle.history.proofs.Seats.{seat_watched, seats_after}
use Rattle.history.specs.Record.{History, Line, Transaction}
use Rattle.history.specs.Runs.{line_of}
use Rattle.layout.specs.SetUps.{stripe_of}
use Rattle.rules.specs.Admission.{is_idle, is_thread}
use Rattle.rules.specs.Conflicts.{owner_of}
use Rattle.rules.specs.Outcomes.{Table, done}
use Rattle.rules.specs.Roll.{idle_to, roll_due, roll_idle, rolled, rolled_stripe}
use Rattle.rules.specs.States.{State, World, Stripe, thread_of}
use Rattle.rules.specs.declared.answer.Answer.TheVariants.{Done}
use Rattle.rules.specs.declared.call.Call.TheVariants.{Roll}
use Rattle.rules.specs.declared.phase.Phase.{Phase}
use Rattle.rules.specs.declared.phase.Phase.TheVariants.{Idle}
use Rattle.std.proofs.lemmas.Bool.{and_parts, cases_Bool, cases_order}

-- where the threads up to a number are idle, each of them is
idle_each : (st : State) (t n : ℕ) → idle_to st t ≡ true → 1 ≤ n → n ≤ t → (thread_of st n).phase ≡ Idle
idle_each st zero n e low high = absurd (omega arith)
idle_each st (suc t) n e low high = go (λ l. idle_each st t n parts.1 low l) (cases_order n (suc t))
  where
    parts : (is_idle (thread_of st (suc t)).phase ≡ true) × (idle_to st t ≡ true)
    parts = and_parts (is_idle (thread_of st (suc t)).phase) (idle_to st t) e

    go : (n ≤ t → (thread_of st n).phase ≡ Idle) → (n ≡ suc t) ⊎ ((n < suc t) ⊎ (suc t < n)) → (thread_of st n).phase ≡ Idle
    go before (inl p) =
        subst (λ (k : ℕ). (thread_of st k).phase ≡ Idle) (sym p) (idle_phase (thread_of st (suc t)).phase parts.0)
    go before (inr (inl l)) = before (omega arith)
    go before (inr (inr l)) = absurd (omega arith)

module _ (ws : List ℕ) (base : ℕ) (w : World) (h : History) (beats : Table) (f : Fits ws base w h)
    (idle : idle_to w.engine w.engine.set_up.threads ≡ true) where
  -- the line of the roll, and the history with it
  abbrev rolled_line : Line
  rolled_line = line_of beats Roll (done w Done [] (rolled w.engine))

  abbrev rolled_history : History
  rolled_history = then w h beats Roll (done w Done [] (rolled w.engine))

  -- every thread is idle: those of the set-up by the test, all others always
  all_idle : (n : ℕ) → (thread_of w.engine n).phase ≡ Idle
  all_idle n = go (cases_Bool (is_thread w.engine.set_up n))
    where
      go : (is_thread w.engine.set_up n ≡ true) ⊎ (is_thread w.engine.set_up n ≡ false) → (thread_of w.engine n).phase ≡ Idle
      go (inl e) =
          let b = thread_bounds w.engine.set_up n e in
          idle_each w.engine w.engine.set_up.threads n idle b.0 b.1
      go (inr e) = (f.seats n).inside e

  -- so no thread holds anything
  all_free : (n : ℕ) → hold_of (thread_of w.engine n) ≡ None
  all_free n = free_by_phase (thread_of w.engine n) Idle (all_idle n) refl

  -- stripes have the owners that they had, and show version 0
  rolled_owner : (s : ℕ) → owner_of (rolled w.engine) s ≡ owner_of w.engine s
  rolled_owner s = ap (λ (x : Stripe). x.owner) (at_each rolled_stripe w.engine.stripes s)

  rolled_fronts : (s : ℕ) → front (rolled w.engine) s ≡ bare_front
  rolled_fronts s = λ i. record {
    version = ap (λ (x : Stripe). x.version) (at_each rolled_stripe w.engine.stripes s) i;
    hold = all_free (owner_of (rolled w.engine) s) i;
  }

  -- a thread's seat after the roll
  abbrev RolledSeat : ℕ → Transaction → Type 0
  RolledSeat n x =
      Seat w.engine.set_up ws h.updaters (length h.updaters) (front (rolled w.engine)) (owner_of (rolled w.engine)) n
      (thread_of w.engine n) x

  -- an idle thread's seat does not depend on the moment of the last roll
  rolled_idle_seat : (n : ℕ) → RolledSeat n (h.present n)
  rolled_idle_seat n = record {
    named = (f.seats n).named;
    inside = (f.seats n).inside;
    phase =
        subst (λ (p : Phase). PhaseFits w.engine.set_up ws h.updaters (length h.updaters) (front (rolled w.engine))
        (owner_of (rolled w.engine)) n (thread_of w.engine n) (h.present n).work (h.present n).fall p)
        (sym (all_idle n)) (λ s e. idle_fits (f.seats n) (all_idle n) s (sym (rolled_owner s) ∙ e));
    point = (f.seats n).point;
    spared = (f.seats n).spared;
  }

  -- the roll does nothing to any transaction
  rolled_seat : (n : ℕ) → RolledSeat n (rolled_history.present n)
  rolled_seat =
      seats_after h rolled_line (λ k. thread_of w.engine k) (λ k. thread_of w.engine k) (λ k d. refl) (λ k. refl)
      (subst (λ (y : Transaction). RolledSeat 0 y) (sym (present_caller w.engine.set_up h rolled_line 0 refl))
      (seat_watched (length h.updaters) (leads_at w.engine.set_up rolled_line 0) (h.present 0) (rolled_idle_seat 0)))
      (λ k d. rolled_idle_seat k)

  -- nothing is left to drain, so the stored words are the serial run's
  rolled_word : (a : ℕ) → a < length w.words → WordFits w.engine.set_up ws h.updaters w.words (front (rolled w.engine)) a
  rolled_word a l =
      subst (λ (fs : ℕ → Front). WordFits w.engine.set_up ws h.updaters w.words fs a) (sym (fun_ext rolled_fronts))
      (free_word_stored f a l (all_free (owner_of w.engine (stripe_of w.engine.set_up a))))

  -- no updater has words to drain
  rolled_spent : (k : ℕ) → Spent w.engine h k → Spent (rolled w.engine) rolled_history k
  rolled_spent k (inl e) = inl e
  rolled_spent k (inr x) = absurd (free_not_draining x (all_free x.thread) refl)

  -- a roll that is not refused keeps the invariant
  roll_rolls : Kept ws (length h.updaters) w h beats Roll (roll_idle w true)
  roll_rolls = record {
    same_set_up = refl;
    fits = record {
      stored = refl;
      sized = f.sized;
      count = omega arith;
      stripes = λ s.
          subst (λ (x : Front). StripeFits w.engine.set_up h.updaters (length h.updaters) 0 s x) (sym (rolled_fronts s))
          (bare_fits w.engine.set_up h.updaters s);
      words = rolled_word;
      seats = rolled_seat;
      spent = λ k l. rolled_spent k (f.spent k l);
      loads = f.loads;
      past_points = f.past_points;
      past_spared = f.past_spared;
    };
  }

-- a roll is refused, or moves the base to its own moment
pub roll_keeps : RollKeeps
roll_keeps ws base w h beats f = due w.engine.mark
  where
    still : (b : Bool) → idle_to w.engine w.engine.set_up.threads ≡ b → (next : ℕ) × Kept ws next w h beats Roll (roll_idle w b)
    still false e = (base, refused_keeps ws base w h beats Roll f ThreadsActive)
    still true e = (length h.updaters, roll_rolls ws base w h beats f e)

    due : (b : Bool) → (next : ℕ) × Kept ws next w h beats Roll (roll_due w b)
    due false = (base, refused_keeps ws base w h beats Roll f RollNotDue)
    due true = still (idle_to w.engine w.engine.set_up.threads) refl
