-- What a back keeps.
use Rattle.std.proofs.Common.{◌≡◌, ℕ, true, ◌⊎◌, List, [], length, Some, None, Ok, Option, sym, refl, ap, ◌∙◌, subst, inl, inr}
use Rattle.common.specs.declared.loss.Loss.{Loss}
use Rattle.common.specs.declared.loss.Loss.TheVariants.{Beaten, Invalid, ClockSpent, Stolen}
use Rattle.history.proofs.Alone.{alone_holds, alone_keeps_owners}
use Rattle.history.proofs.Growth.{point_alike}
use Rattle.history.proofs.Holders.{free_by_phase}
use Rattle.history.proofs.Invariant.{Fits, Seated, front, hold_of}
use Rattle.history.proofs.Lines.{fallen_before}
use Rattle.history.proofs.Maps.{at_put_other, at_put_same}
use Rattle.history.proofs.Phases.{lost_fits, running_fits}
use Rattle.history.proofs.Plan.{BackKeeps, Kept}
use Rattle.history.proofs.Refusals.{admitted_or_refused}
use Rattle.history.proofs.Releases.{released_gains, released_keeps, released_nothing, released_other, released_own}
use Rattle.history.proofs.Seats.{seat_owners}
use Rattle.history.specs.Law.{Excused, Spared}
use Rattle.history.specs.Record.{History, Transaction, Work, Fall, called, ended_loss, fallen, leads, or_else, rewritten, watched, with_work}
use Rattle.history.specs.Runs.{loss_in}
use Rattle.layout.specs.declared.set_up.SetUp.{SetUp}
use Rattle.rules.specs.Admission.{is_for}
use Rattle.rules.specs.Back.{back_admitted, ending_of}
use Rattle.rules.specs.Conflicts.{owner_of}
use Rattle.rules.specs.Drain.{freed, release}
use Rattle.rules.specs.Maps.{Map, at, each, put}
use Rattle.rules.specs.Outcomes.{Table}
use Rattle.rules.specs.States.{State, World, Stripe, Thread, stripe_at, thread_of, with_phase}
use Rattle.rules.specs.declared.answer.Answer.TheVariants.{Back as WentBack}
use Rattle.rules.specs.declared.call.Call.{Call}
use Rattle.rules.specs.declared.call.Call.TheVariants.{Back}
use Rattle.rules.specs.declared.kind.Kind.TheVariants.{Back as Backing}
use Rattle.rules.specs.declared.phase.Phase.{Phase}
use Rattle.rules.specs.declared.phase.Phase.TheVariants.{Idle, Running, Sealed, Lost}
use Rattle.std.proofs.lemmas.Bool.{cases_eq}

-- one more call changes nothing of what excuses a loss
spared_called : (u : SetUp) (us : List Work) (c : Call) (w : Work) (f : Option Fall) → Spared u us w f → Spared u us (called c w) f
spared_called u us c w None x = x
spared_called u us c w (Some f) x = λ e. go f.cause (x e)
  where
    go : (l : Loss) → Excused u us w f.moment l → Excused u us (called c w) f.moment l
    go (Beaten k) y = y
    go (Invalid s) y = y
    go ClockSpent y = y
    go (Stolen k) y = y

-- a state that a back is for is running or lost
back_phase : (p : Phase) → is_for Backing p ≡ true → (p ≡ Running) ⊎ ((l : Loss) × (p ≡ Lost l))
back_phase Idle e = absurd (cc)
back_phase Running e = inl refl
back_phase (Sealed t d) e = absurd (cc)
back_phase (Lost l) e = inr (l, refl)

-- what a running or lost transaction has in common
record Leaves (w : Work) (f : Option Fall) (t : Thread) : Type 0 where
  unnumbered : w.number ≡ None
  free : hold_of t ≡ None
  -- the loss that its back tells is on record
  told : (m : ℕ) (x : Transaction) → x.fall ≡ f → fallen m x (or_else (ended_loss (ending_of t.phase)) None) ≡ x

module _ (ws : List ℕ) (base : ℕ) (w : World) (h : History) (n : ℕ) (f : Fits ws base w h) where
  -- a running transaction has this, and a lost one too
  leaves : ((thread_of w.engine n).phase ≡ Running) ⊎ ((l : Loss) × ((thread_of w.engine n).phase ≡ Lost l)) →
      Leaves (h.present n).work (h.present n).fall (thread_of w.engine n)
  leaves (inl e) = record {
    unnumbered = (running_fits (f.seats n) e).unnumbered;
    free = free_by_phase (thread_of w.engine n) Running e refl;
    told = λ m x p. ap (λ (q : Phase). fallen m x (or_else (ended_loss (ending_of q)) None)) e;
  }
  leaves (inr x) =
      let fits = lost_fits (f.seats n) x.0 x.1 in
      record {
        unnumbered = fits.unnumbered;
        free = free_by_phase (thread_of w.engine n) (Lost x.0) x.1 refl;
        told = λ m y p.
            ap (λ (q : Phase). fallen m y (or_else (ended_loss (ending_of q)) None)) x.1
            ∙ fallen_before m y (Some x.0) fits.fall (p ∙ fits.fallen);
      }

module _ (ws : List ℕ) (base : ℕ) (w : World) (h : History) (beats : Table) (n : ℕ) (f : Fits ws base w h)
    (x : Leaves (h.present n).work (h.present n).fall (thread_of w.engine n)) where
  -- the engine and the threads after the back
  abbrev back_state : State
  back_state = release w.engine n None

  abbrev back_threads : Map Thread
  back_threads = put w.engine.threads n (with_phase (thread_of w.engine n) Idle)

  -- a thread's seat when the stripes are let go
  abbrev BackSeat : ℕ → Thread → Transaction → Type 0
  BackSeat k t y = Seated ws base w h (owner_of back_state) k t y

  -- no other thread changed, and the caller is idle
  back_others : (k : ℕ) → (k ≡ n → ⊥) → at back_threads k ≡ thread_of w.engine k
  back_others k d = at_put_other w.engine.threads n k (with_phase (thread_of w.engine n) Idle) d

  back_caller : at back_threads n ≡ with_phase (thread_of w.engine n) Idle
  back_caller = at_put_same w.engine.threads n (with_phase (thread_of w.engine n) Idle)

  -- the thread of no owner is idle, since the set-up does not have it
  no_owner_idle : (thread_of w.engine 0).phase ≡ Idle
  no_owner_idle = (f.seats 0).inside refl

  -- each thread holds as it held
  back_holds : (k : ℕ) → hold_of (at back_threads k) ≡ hold_of (thread_of w.engine k)
  back_holds =
      alone_holds ws base w h beats (Back n) (WentBack (ending_of (thread_of w.engine n).phase)) [] w.engine.mark
      (each (freed n None) w.engine.stripes) back_threads f back_others x.free (ap hold_of back_caller)

  -- stripes show what they showed: the thread held nothing of what it lets go
  back_front : (s : ℕ) → front back_state s ≡ front w.engine s
  back_front s = go (cases_eq (owner_of w.engine s) n)
    where
      show : (version : ℕ) (owner : ℕ) → stripe_at back_state s ≡ record { version = version; owner = owner } →
          version ≡ (stripe_at w.engine s).version →
          hold_of (thread_of w.engine owner) ≡ hold_of (thread_of w.engine (owner_of w.engine s)) →
          front back_state s ≡ front w.engine s
      show version owner e p q = λ i. record {
        version = (ap (λ (y : Stripe). y.version) e ∙ p) i;
        hold = (back_holds (owner_of back_state s) ∙ ap (λ (y : Stripe). hold_of (thread_of w.engine y.owner)) e ∙ q) i;
      }

      go : (owner_of w.engine s ≡ n) ⊎ (owner_of w.engine s ≡ n → ⊥) → front back_state s ≡ front w.engine s
      go (inl e) =
          show (stripe_at w.engine s).version 0 (released_own w.engine n None s e) refl
          (free_by_phase (thread_of w.engine 0) Idle no_owner_idle refl
          ∙ sym (ap (λ (k : ℕ). hold_of (thread_of w.engine k)) e ∙ x.free))
      go (inr d) =
          show (stripe_at w.engine s).version (owner_of w.engine s) (released_other w.engine n None s d) refl refl

  -- another thread owns what it owned
  back_rest : (k : ℕ) → (k ≡ n → ⊥) → BackSeat k (thread_of w.engine k) (h.present k)
  back_rest k d =
      seat_owners (λ z s e. released_gains w.engine n None s k z e) (λ busy s e. released_keeps w.engine n None s k d e) (f.seats k)

  -- the caller's transaction: one more call, and the loss that it is told is on record
  abbrev went_back : Transaction
  went_back =
      with_work (watched (leads beats n w.engine.set_up.threads) (h.present n)) (called (Back n) (h.present n).work)

  -- the caller's seat, before and after the loss that it is told is looked at
  back_own : BackSeat n (with_phase (thread_of w.engine n) Idle) went_back
  back_own = record {
    named = (f.seats n).named;
    inside = λ e. refl;
    phase = λ s e. released_nothing w.engine n None s e;
    point = point_alike (h.present n).work (called (Back n) (h.present n).work) refl refl (λ m e. e) (f.seats n).point;
    spared = spared_called w.engine.set_up h.updaters (Back n) (h.present n).work (h.present n).fall (f.seats n).spared;
  }

  back_seat : BackSeat n (at back_threads n)
      (fallen (length h.updaters) went_back
      (or_else (ended_loss (ending_of (thread_of w.engine n).phase)) (loss_in (at back_threads n).phase)))
  back_seat =
      subst (λ (t : Thread). BackSeat n t
      (fallen (length h.updaters) went_back (or_else (ended_loss (ending_of (thread_of w.engine n).phase)) (loss_in t.phase))))
      (sym back_caller)
      (subst (λ (y : Transaction). BackSeat n (with_phase (thread_of w.engine n) Idle) y)
      (sym (x.told (length h.updaters) went_back refl)) back_own)

  -- an admitted back keeps the invariant
  back_leaves : Kept ws base w h beats (Back n) (back_admitted w n (Ok tt))
  back_leaves =
      alone_keeps_owners ws base w h beats (Back n) (WentBack (ending_of (thread_of w.engine n).phase)) [] w.engine.mark
      (each (freed n None) w.engine.stripes) back_threads f back_others x.free
      back_front (ap (λ (o : Option ℕ). rewritten o (called (Back n) (h.present n).work) h.updaters) x.unnumbered)
      back_seat back_rest f.past_points f.past_spared

-- a back is refused, or its thread lets all its stripes go
pub back_keeps : BackKeeps
back_keeps ws base w h beats n f =
    admitted_or_refused ws base w h beats (Back n) f Backing n (back_admitted w n) (λ r. refl)
    (λ x. back_leaves ws base w h beats n f (leaves ws base w h n f (back_phase (thread_of w.engine n).phase x.fits)))
