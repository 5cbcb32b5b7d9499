-- Calls that lose their thread's running transaction.
use Rattle.std.proofs.Common.{◌≡◌, ℕ, Bool, true, ◌&&◌, List, [], length, Some, Option, sym, refl, ap, ◌∙◌, subst}
use Rattle.common.specs.declared.loss.Loss.{Loss}
use Rattle.history.proofs.Alone.{alone_keeps}
use Rattle.history.proofs.Holders.{free_by_phase}
use Rattle.history.proofs.Invariant.{Fits, Front, PhaseFits, Seat}
use Rattle.history.proofs.Maps.{at_put_other, at_put_same}
use Rattle.history.proofs.Phases.{running_fits, running_inside}
use Rattle.history.proofs.Plan.{Kept}
use Rattle.history.proofs.Quiet.{quiet_state}
use Rattle.history.specs.Law.{Excused}
use Rattle.history.specs.Record.{History, Transaction, Work, Fall, caller, fallen, first_fall, watched, leads}
use Rattle.layout.specs.declared.set_up.SetUp.{SetUp}
use Rattle.rules.specs.Admission.{is_thread}
use Rattle.rules.specs.Maps.{Map, at, put}
use Rattle.rules.specs.Outcomes.{Table, lost}
use Rattle.rules.specs.States.{Thread, World, thread_of, with_phase}
use Rattle.rules.specs.declared.answer.Answer.TheVariants.{Lost as AnsweredLost}
use Rattle.rules.specs.declared.call.Call.{Call}
use Rattle.rules.specs.declared.phase.Phase.{Phase}
use Rattle.rules.specs.declared.phase.Phase.TheVariants.{Running, Lost}
use Rattle.std.proofs.lemmas.Bool.{and_parts, both_ways}

-- the fall of a transaction that is lost now
abbrev fall_of : Loss → ℕ → Bool → Transaction → Fall
fall_of l m b x = record { cause = l; moment = m; led = x.led && b }

-- a running thread that is lost: its fall goes on record, and a leader is to be excused
pub seat_lost : {u : SetUp} {ws : List ℕ} {us : List Work} {base : ℕ} {fs : ℕ → Front} {owner owner' : ℕ → ℕ} {n : ℕ}
    {t t' : Thread} (x : Transaction) (l : Loss) (m : ℕ) (b : Bool) → Seat u ws us base fs owner n t x →
    t.phase ≡ Running → t'.phase ≡ Lost l → (b ≡ true → Excused u us x.work m l) →
    Seat u ws us base fs owner' n t' (fallen m (watched b x) (Some l))
seat_lost {u} {ws} {us} {base} {fs} {owner} {owner'} {n} {t} {t'} x l m b s was is excused =
    subst (λ (o : Option Fall). Seat u ws us base fs owner' n t' (first_fall l m (watched b x) o)) (sym (running_fits s was).standing)
    (record {
      named = s.named;
      inside = λ e. absurd (both_ways (is_thread u n) e (running_inside s was));
      phase =
          subst (λ (p : Phase). PhaseFits u ws us base fs owner' n t' x.work (Some (fall_of l m b x)) p) (sym is)
          (record { unnumbered = (running_fits s was).unnumbered; fall = fall_of l m b x; fallen = refl });
      point = s.point;
      spared = λ e. excused (and_parts x.led b e).1;
    })

-- a losing call: only the caller's thread changed, its fall is on record, and a leader is excused
lost_keeps : (ws : List ℕ) (base : ℕ) (w : World) (h : History) (beats : Table) (c : Call) (l : Loss) (m : Bool) (ts : Map Thread) →
    Fits ws base w h →
    (thread_of w.engine (caller c)).phase ≡ Running →
    (at ts (caller c)).phase ≡ Lost l →
    ((k : ℕ) → (k ≡ caller c → ⊥) → at ts k ≡ thread_of w.engine k) →
    (leads beats (caller c) w.engine.set_up.threads ≡ true →
    Excused w.engine.set_up h.updaters (h.present (caller c)).work (length h.updaters) l) →
    Kept ws base w h beats c (lost w l (quiet_state w.engine m w.engine.stripes ts))
lost_keeps ws base w h beats c l m ts f was is others excused =
    alone_keeps ws base w h beats c (AnsweredLost l) [] m ts f others
    (free_by_phase (thread_of w.engine (caller c)) Running was refl)
    (free_by_phase (at ts (caller c)) (Lost l) is refl) refl
    (seat_lost (h.present (caller c)) l (length h.updaters) (leads beats (caller c) w.engine.set_up.threads)
    (f.seats (caller c)) was is excused)
    f.past_points f.past_spared

-- so a call that puts its thread among the lost keeps the invariant
pub lose_keeps : (ws : List ℕ) (base : ℕ) (w : World) (h : History) (beats : Table) (c : Call) (l : Loss) (m : Bool) (ts : Map Thread) →
    Fits ws base w h →
    (thread_of w.engine (caller c)).phase ≡ Running →
    ((k : ℕ) → (k ≡ caller c → ⊥) → at ts k ≡ thread_of w.engine k) →
    (leads beats (caller c) w.engine.set_up.threads ≡ true →
    Excused w.engine.set_up h.updaters (h.present (caller c)).work (length h.updaters) l) →
    Kept ws base w h beats c
    (lost w l (quiet_state w.engine m w.engine.stripes (put ts (caller c) (with_phase (at ts (caller c)) (Lost l)))))
lose_keeps ws base w h beats c l m ts f was others excused =
    let t = with_phase (at ts (caller c)) (Lost l) in
    lost_keeps ws base w h beats c l m (put ts (caller c) t) f was (ap (λ (x : Thread). x.phase) (at_put_same ts (caller c) t))
    (λ k d. at_put_other ts (caller c) k t d ∙ others k d) excused
