-- A refused call keeps everything.
use Rattle.std.proofs.Common.{◌≡◌, ℕ, ◌⊎◌, List, [], length, Ok, Err, Result, sym, refl, ap, ◌∙◌, subst, inl, inr}
use Rattle.common.specs.declared.refusal.Refusal.{Refusal}
use Rattle.history.proofs.Invariant.{Fits, Seated}
use Rattle.history.proofs.Lines.{fallen_work, leads_at, present_caller, work_other}
use Rattle.history.proofs.Phases.{Admitted, admitted_parts}
use Rattle.history.proofs.Plan.{Kept, then}
use Rattle.history.proofs.Quiet.{quiet_keeps}
use Rattle.history.proofs.Seats.{draining_on, seat_watched, seats_after}
use Rattle.history.specs.Record.{History, Transaction, caller, watched, fallen}
use Rattle.history.specs.Runs.{line_of, losses_of}
use Rattle.rules.specs.Admission.{admitted}
use Rattle.rules.specs.Conflicts.{owner_of}
use Rattle.rules.specs.Outcomes.{Outcome, Table, refuse}
use Rattle.rules.specs.States.{World, thread_of}
use Rattle.rules.specs.declared.answer.Answer.TheVariants.{Refused}
use Rattle.rules.specs.declared.call.Call.{Call}
use Rattle.rules.specs.declared.kind.Kind.{Kind}
use Rattle.std.proofs.lemmas.Bool.{cases_eq}

module _ (ws : List ℕ) (base : ℕ) (w : World) (h : History) (beats : Table) (c : Call) (f : Fits ws base w h) where
  -- the caller's transaction is only watched
  refused_caller : (r : Refusal) (n : ℕ) → n ≡ caller c →
      (then w h beats c (refuse w r)).present n
      ≡ fallen (length h.updaters) (watched (leads_at w.engine.set_up (line_of beats c (refuse w r)) n) (h.present n))
      (losses_of w.engine n)
  refused_caller r n e = present_caller w.engine.set_up h (line_of beats c (refuse w r)) n e

  -- so each work is as it was
  refused_work : (r : Refusal) (n : ℕ) → (n ≡ caller c) ⊎ (n ≡ caller c → ⊥) →
      ((then w h beats c (refuse w r)).present n).work ≡ (h.present n).work
  refused_work r n (inl e) =
      ap (λ (y : Transaction). y.work) (refused_caller r n e)
      ∙ fallen_work (length h.updaters) (watched (leads_at w.engine.set_up (line_of beats c (refuse w r)) n) (h.present n))
      (losses_of w.engine n)
  refused_work r n (inr d) = work_other w.engine.set_up h (line_of beats c (refuse w r)) n d

  -- a refused call keeps the invariant
  pub refused_keeps : (r : Refusal) → Kept ws base w h beats c (refuse w r)
  refused_keeps r = quiet_keeps ws base w h beats c (Refused r) [] w.engine.mark w.engine.stripes w.engine.threads f (record {
    fronts = λ s. refl;
    updaters = refl;
    seats =
        seats_after h (line_of beats c (refuse w r)) (λ k. thread_of w.engine k) (λ k. thread_of w.engine k) (λ k d. refl) (λ k. refl)
        (subst (λ (y : Transaction). Seated ws base w h (owner_of w.engine) (caller c) (thread_of w.engine (caller c)) y)
        (sym (refused_caller r (caller c) refl))
        (seat_watched (length h.updaters) (leads_at w.engine.set_up (line_of beats c (refuse w r)) (caller c))
        (h.present (caller c)) (f.seats (caller c))))
        (λ k d. f.seats k);
    drains = λ k x. draining_on x refl (refused_work r x.thread (cases_eq x.thread (caller c)));
    past_points = f.past_points;
    past_spared = f.past_spared;
  })

  -- a call is refused at its admission, or it is admitted, and the rest is to be shown
  pub admitted_or_refused : (k : Kind) (n : ℕ) (rest : Result (Unit {0}) Refusal → Outcome) → ((r : Refusal) → rest (Err r) ≡ refuse w r) →
      (Admitted w.engine k n → Kept ws base w h beats c (rest (Ok tt))) → Kept ws base w h beats c (rest (admitted w.engine k n))
  admitted_or_refused k n rest ends goes_on = go (admitted w.engine k n) refl
    where
      go : (x : Result (Unit {0}) Refusal) → admitted w.engine k n ≡ x → Kept ws base w h beats c (rest x)
      go (Err x) e = subst (λ (o : Outcome). Kept ws base w h beats c o) (sym (ends x)) (refused_keeps x)
      go (Ok x) e = goes_on (admitted_parts w.engine k n x e)
