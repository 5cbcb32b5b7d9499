-- Quiet calls that change no thread but the caller's, which is not sealed.
use Rattle.std.proofs.Common.{◌≡◌, ℕ, Bool, ◌⊎◌, List, length, None, sym, refl, ap, ◌∙◌, subst, inl, inr}
use Rattle.contention.specs.Events.{Event}
use Rattle.history.proofs.Holders.{free_not_draining, fronts_kept}
use Rattle.history.proofs.Invariant.{Draining, Fits, Seated, front, hold_of}
use Rattle.history.proofs.Lines.{present_caller, work_other}
use Rattle.history.proofs.Plan.{Kept, then}
use Rattle.history.proofs.Quiet.{quiet_keeps, quiet_outcome, quiet_state}
use Rattle.history.proofs.Seats.{draining_on, seats_after}
use Rattle.history.specs.Law.{Point, Spared}
use Rattle.history.specs.Record.{History, Line, Transaction, acted, caller, deed, fallen, leads, or_else, told_loss, watched}
use Rattle.history.specs.Runs.{line_of, loss_in}
use Rattle.rules.specs.Conflicts.{owner_of}
use Rattle.rules.specs.Maps.{Map, at}
use Rattle.rules.specs.Outcomes.{Table}
use Rattle.rules.specs.States.{State, World, Stripe, Thread, thread_of}
use Rattle.rules.specs.declared.answer.Answer.{Answer}
use Rattle.rules.specs.declared.call.Call.{Call}
use Rattle.std.proofs.lemmas.Bool.{cases_eq}
use Rattle.std.specs.List.{AllByRecursion}

module _ (ws : List ℕ) (base : ℕ) (w : World) (h : History) (beats : Table) (c : Call) (a : Answer) (es : List Event)
    (m : Bool) (ss : Map Stripe) (ts : Map Thread) (f : Fits ws base w h)
    (others : (k : ℕ) → (k ≡ caller c → ⊥) → at ts k ≡ thread_of w.engine k)
    (free : hold_of (thread_of w.engine (caller c)) ≡ None) where
  -- what the call leaves: the engine, the line and the history
  abbrev alone_state : State
  alone_state = quiet_state w.engine m ss ts

  abbrev alone_line : Line
  alone_line = line_of beats c (quiet_outcome w a es alone_state)

  abbrev alone_history : History
  alone_history = then w h beats c (quiet_outcome w a es alone_state)

  -- the caller's transaction after the call
  abbrev pub caller_after : Transaction
  caller_after =
      fallen (length h.updaters)
      (acted c (length h.updaters) (watched (leads beats (caller c) w.engine.set_up.threads) (h.present (caller c))) (deed c a))
      (or_else (told_loss a) (loss_in (at ts (caller c)).phase))

  -- no thread holds otherwise than before, if the caller holds nothing
  pub alone_holds : hold_of (at ts (caller c)) ≡ None → (n : ℕ) → hold_of (at ts n) ≡ hold_of (thread_of w.engine n)
  alone_holds e n = go (cases_eq n (caller c))
    where
      go : (n ≡ caller c) ⊎ (n ≡ caller c → ⊥) → hold_of (at ts n) ≡ hold_of (thread_of w.engine n)
      go (inl p) = subst (λ (k : ℕ). hold_of (at ts k) ≡ hold_of (thread_of w.engine k)) (sym p) (e ∙ sym free)
      go (inr d) = ap hold_of (others n d)

  -- a sealed thread is not the caller, so it drains as before
  alone_drains : (k : ℕ) → Draining w.engine h k → Draining alone_state alone_history k
  alone_drains k x = draining_on x (others x.thread apart) (work_other w.engine.set_up h alone_line x.thread apart)
    where
      apart : x.thread ≡ caller c → ⊥
      apart e = free_not_draining x free e

  -- such a call keeps the invariant, once its caller's seat is known, and those of the others with the new owners
  pub alone_keeps_owners : ((s : ℕ) → front alone_state s ≡ front w.engine s) → alone_history.updaters ≡ h.updaters →
      Seated ws base w h (owner_of alone_state) (caller c) (at ts (caller c)) caller_after →
      ((n : ℕ) → (n ≡ caller c → ⊥) → Seated ws base w h (owner_of alone_state) n (thread_of w.engine n) (h.present n)) →
      AllByRecursion (λ t. Point ws h.updaters t.work) alone_history.past →
      AllByRecursion (λ t. Spared w.engine.set_up h.updaters t.work t.fall) alone_history.past →
      Kept ws base w h beats c (quiet_outcome w a es alone_state)
  alone_keeps_owners fronts updaters own rest points spared = quiet_keeps ws base w h beats c a es m ss ts f (record {
    fronts = fronts;
    updaters = updaters;
    seats =
        seats_after h alone_line (λ k. thread_of w.engine k) (λ k. at ts k) others (λ k. refl)
        (subst (λ (y : Transaction). Seated ws base w h (owner_of alone_state) (caller c) (at ts (caller c)) y)
        (sym (present_caller w.engine.set_up h alone_line (caller c) refl)) own) rest;
    drains = alone_drains;
    past_points = points;
    past_spared = spared;
  })

-- the history that such a call leaves if it leaves the stripes too
abbrev pub alone_left : World → History → Table → Call → Answer → List Event → Bool → Map Thread → History
alone_left w h beats c a es m ts = then w h beats c (quiet_outcome w a es (quiet_state w.engine m w.engine.stripes ts))

-- such a call that leaves the stripes too keeps the invariant, once its caller's seat is known
pub alone_keeps : (ws : List ℕ) (base : ℕ) (w : World) (h : History) (beats : Table) (c : Call) (a : Answer) (es : List Event)
    (m : Bool) (ts : Map Thread) (f : Fits ws base w h)
    (others : (k : ℕ) → (k ≡ caller c → ⊥) → at ts k ≡ thread_of w.engine k)
    (free : hold_of (thread_of w.engine (caller c)) ≡ None) →
    hold_of (at ts (caller c)) ≡ None →
    (alone_left w h beats c a es m ts).updaters ≡ h.updaters →
    Seated ws base w h (owner_of w.engine) (caller c) (at ts (caller c))
    (caller_after ws base w h beats c a es m w.engine.stripes ts f others free) →
    AllByRecursion (λ t. Point ws h.updaters t.work) (alone_left w h beats c a es m ts).past →
    AllByRecursion (λ t. Spared w.engine.set_up h.updaters t.work t.fall) (alone_left w h beats c a es m ts).past →
    Kept ws base w h beats c (quiet_outcome w a es (quiet_state w.engine m w.engine.stripes ts))
alone_keeps ws base w h beats c a es m ts f others free held updaters own points spared =
    alone_keeps_owners ws base w h beats c a es m w.engine.stripes ts f others free
    (fronts_kept w.engine (quiet_state w.engine m w.engine.stripes ts) refl
    (alone_holds ws base w h beats c a es m w.engine.stripes ts f others free held))
    updaters own (λ n d. f.seats n) points spared
