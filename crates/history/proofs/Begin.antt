-- What a begin keeps.
use Rattle.std.proofs.Common.{◌≡◌, ℕ, Bool, true, false, List, [], length, sym, refl, ap, subst, arith}
use Rattle.common.specs.declared.refusal.Refusal.TheVariants.{RollPending}
use Rattle.history.proofs.Alone.{alone_keeps}
use Rattle.history.proofs.Holders.{free_by_phase}
use Rattle.history.proofs.Invariant.{Fits, Seated, hold_of}
use Rattle.history.proofs.Maps.{at_put_other, at_put_same}
use Rattle.history.proofs.Phases.{Admitted, idle_fits, idle_phase, thread_not_zero}
use Rattle.history.proofs.Plan.{BeginKeeps, Kept}
use Rattle.history.proofs.Refusals.{admitted_or_refused, refused_keeps}
use Rattle.history.specs.Record.{History, fallen, newborn}
use Rattle.history.specs.Runs.{loss_in}
use Rattle.rules.specs.Admission.{is_thread}
use Rattle.rules.specs.Begin.{begin_admitted, begin_unmarked, fresh}
use Rattle.rules.specs.Conflicts.{owner_of}
use Rattle.rules.specs.Maps.{at, put}
use Rattle.rules.specs.Outcomes.{Table}
use Rattle.rules.specs.States.{World, Thread, thread_of}
use Rattle.rules.specs.declared.answer.Answer.TheVariants.{Done}
use Rattle.rules.specs.declared.call.Call.TheVariants.{Begin}
use Rattle.rules.specs.declared.kind.Kind.TheVariants.{Begin as Beginning}
use Rattle.rules.specs.declared.phase.Phase.TheVariants.{Idle}
use Rattle.std.proofs.lemmas.Bool.{both_ways}

module _ (ws : List ℕ) (base : ℕ) (w : World) (h : History) (beats : Table) (n : ℕ) (f : Fits ws base w h)
    (inside : is_thread w.engine.set_up n ≡ true) (idle : (thread_of w.engine n).phase ≡ Idle) where
  -- an idle thread owns nothing
  owns_nothing : (s : ℕ) → owner_of w.engine s ≡ n → ⊥
  owns_nothing s e = thread_not_zero w.engine.set_up n inside (idle_fits (f.seats n) idle s e)

  -- a transaction that has done nothing fits at the present moment
  fresh_seat : Seated ws base w h (owner_of w.engine) n (fresh w.engine.clock) (newborn n (length h.updaters))
  fresh_seat = record {
    named = refl;
    inside = λ e. absurd (both_ways (is_thread w.engine.set_up n) e inside);
    phase = record {
      unnumbered = refl;
      standing = refl;
      log = refl;
      undrained = refl;
      owns_log = λ a e. absurd (both_ways false refl e);
      owns_stored = λ s e. absurd (owns_nothing s e);
      since_begin = omega (arith, f.count);
      by_last_load = omega (arith, f.count);
      so_far = omega arith;
      loads = refl;
      covered = λ xs ys e. refl;
      marks = tt;
      others = λ k low high e. omega arith;
    };
    point = record {
      moment = length h.updaters;
      since_begin = omega arith;
      by_last_load = omega arith;
      so_far = omega arith;
      loads = refl;
    };
    spared = tt;
  }

  -- a begin that is not refused keeps the invariant
  begin_runs : Kept ws base w h beats (Begin n) (begin_unmarked w n false)
  begin_runs =
      alone_keeps ws base w h beats (Begin n) Done [] w.engine.mark (put w.engine.threads n (fresh w.engine.clock)) f
      (λ k d. at_put_other w.engine.threads n k (fresh w.engine.clock) d)
      (free_by_phase (thread_of w.engine n) Idle idle refl)
      (ap hold_of same) refl
      (subst (λ (t : Thread). Seated ws base w h (owner_of w.engine) n t
      (fallen (length h.updaters) (newborn n (length h.updaters)) (loss_in t.phase)))
      (sym same) fresh_seat)
      ((f.seats n).point, f.past_points) ((f.seats n).spared, f.past_spared)
    where
      same : at (put w.engine.threads n (fresh w.engine.clock)) n ≡ fresh w.engine.clock
      same = at_put_same w.engine.threads n (fresh w.engine.clock)

-- a begin is refused, or starts a transaction that has done nothing
pub begin_keeps : BeginKeeps
begin_keeps ws base w h beats n f =
    admitted_or_refused ws base w h beats (Begin n) f Beginning n (begin_admitted w n) (λ r. refl) (unmarked w.engine.mark)
  where
    unmarked : (m : Bool) → Admitted w.engine Beginning n → Kept ws base w h beats (Begin n) (begin_unmarked w n m)
    unmarked true x = refused_keeps ws base w h beats (Begin n) f RollPending
    unmarked false x = begin_runs ws base w h beats n f x.inside (idle_phase (thread_of w.engine n).phase x.fits)
