-- A seal keeps the invariant.
use Rattle.std.proofs.Common.{◌≡◌, ℕ, ◌+◌, Bool, true, false, eqb, leb, List, [], ◌∷◌, length, Some, None, Option, sym, refl, ap, ◌∙◌, subst, arith}
use Rattle.common.specs.declared.loss.Loss.{Loss}
use Rattle.common.specs.declared.loss.Loss.TheVariants.{Invalid, ClockSpent}
use Rattle.contention.specs.Events.{seal_of}
use Rattle.history.proofs.Alone.{alone_keeps}
use Rattle.history.proofs.Growth.{point_alike}
use Rattle.history.proofs.Holders.{free_by_phase}
use Rattle.history.proofs.Invariant.{Fits, Seated, hold_of}
use Rattle.history.proofs.Logs.{stored_logged}
use Rattle.history.proofs.Losses.{lose_keeps}
use Rattle.history.proofs.Maps.{at_put_other, at_put_same}
use Rattle.history.proofs.Phases.{running_fits, running_phase}
use Rattle.history.proofs.Plan.{Kept, SealKeeps}
use Rattle.history.proofs.PutIn.{has_address}
use Rattle.history.proofs.Quiet.{quiet_state}
use Rattle.history.proofs.ReadLogs.{invalid_excuses, refresh_agrees}
use Rattle.history.proofs.Refusals.{admitted_or_refused}
use Rattle.history.proofs.UpdaterSeal.{ticketed, updater_keeps}
use Rattle.history.specs.Law.{Excused, LoadsAt, Spared}
use Rattle.history.specs.Record.{History, Transaction, Fall, called, fallen, leads, rewritten, watched, with_work}
use Rattle.history.specs.Runs.{loss_in}
use Rattle.history.specs.Serial.{write_log}
use Rattle.layout.specs.declared.entries.WriteEntry.{WriteEntry}
use Rattle.rules.specs.Admission.{is_thread}
use Rattle.rules.specs.Conflicts.{first_invalid, owner_of, rechecked}
use Rattle.rules.specs.Maps.{at, put}
use Rattle.rules.specs.Outcomes.{Table, lost}
use Rattle.rules.specs.Seal.{seal_admitted, seal_updates, seal_unspent, seal_checked, seal_check}
use Rattle.rules.specs.States.{World, Thread, thread_of, with_phase, with_snapshot}
use Rattle.rules.specs.declared.answer.Answer.TheVariants.{Sealed as AnsweredSealed}
use Rattle.rules.specs.declared.call.Call.TheVariants.{Seal}
use Rattle.rules.specs.declared.ending.Sealed.TheVariants.{Reader}
use Rattle.rules.specs.declared.kind.Kind.TheVariants.{Seal as Sealing}
use Rattle.rules.specs.declared.phase.Phase.TheVariants.{Idle, Running, Sealed, Lost}
use Rattle.std.proofs.lemmas.List.{nil_from_length}
use Rattle.std.proofs.lemmas.Bool.{both_ways, eqb-true}

module _ (ws : List ℕ) (base : ℕ) (w : World) (h : History) (beats : Table) (n : ℕ) (f : Fits ws base w h)
    (inside : is_thread w.engine.set_up n ≡ true) (running : (thread_of w.engine n).phase ≡ Running) where
  -- a transaction that stored nothing owns nothing
  owns_nothing : length (thread_of w.engine n).writes ≡ 0 → (s : ℕ) → owner_of w.engine s ≡ n → ⊥
  owns_nothing empty s e =
      let r = running_fits (f.seats n) running in
      let x = stored_logged w.engine.set_up s (h.present n).work.calls (r.owns_stored s e) in
      let none : write_log (h.present n).work.calls ≡ [] = sym r.log ∙ nil_from_length (thread_of w.engine n).writes empty in
      both_ways false refl (subst (λ (es : List WriteEntry). has_address x.0 es ≡ true) none x.1)

  -- its seal leaves it idle, with one call more
  reader_keeps : length (thread_of w.engine n).writes ≡ 0 → Kept ws base w h beats (Seal n) (seal_updates w n true)
  reader_keeps empty =
      alone_keeps ws base w h beats (Seal n) (AnsweredSealed (Reader (thread_of w.engine n).snapshot)) (seal_of n ∷ [])
      w.engine.mark (put w.engine.threads n idle) f (λ k d. at_put_other w.engine.threads n k idle d)
      (free_by_phase (thread_of w.engine n) Running running refl) (ap hold_of same)
      (ap (λ (o : Option ℕ). rewritten o reader.work h.updaters) (running_fits (f.seats n) running).unnumbered)
      (subst (λ (t : Thread). Seated ws base w h (owner_of w.engine) n t (fallen (length h.updaters) reader (loss_in t.phase)))
      (sym same)
      (record {
        named = (f.seats n).named;
        inside = λ e. refl;
        phase = λ s e. absurd (owns_nothing empty s e);
        point = point_alike (h.present n).work reader.work refl refl (λ m e. e) (f.seats n).point;
        spared =
            subst (λ (o : Option Fall). Spared w.engine.set_up h.updaters reader.work o)
            (sym (running_fits (f.seats n) running).standing) tt;
      }))
      f.past_points f.past_spared
    where
      idle : Thread
      idle = with_phase (thread_of w.engine n) Idle

      same : at (put w.engine.threads n idle) n ≡ idle
      same = at_put_same w.engine.threads n idle

      reader : Transaction
      reader = with_work (watched (leads beats n w.engine.set_up.threads) (h.present n)) (called (Seal n) (h.present n).work)

  -- nothing was sealed since the snapshot end: its moment is the present one
  unchecked_keeps : w.engine.clock ≡ (thread_of w.engine n).snapshot →
      Kept ws base w h beats (Seal n) (seal_checked w n (seal_check w.engine n true))
  unchecked_keeps e =
      let t = ticketed w.engine n (thread_of w.engine n).snapshot in
      let r = running_fits (f.seats n) running in
      let now : base + (thread_of w.engine n).snapshot ≡ length h.updaters = omega (arith, f.count, e) in
      updater_keeps ws base w h beats n (thread_of w.engine n).snapshot (put w.engine.threads n t) f inside running
      (subst (λ (m : ℕ). LoadsAt ws h.updaters m (h.present n).work) now r.loads)
      (at_put_same w.engine.threads n t) (λ k d. at_put_other w.engine.threads n k t d)

  -- the check has moved the snapshot end to the present moment
  checked_keeps : LoadsAt ws h.updaters (length h.updaters) (h.present n).work →
      Kept ws base w h beats (Seal n) (seal_checked w n (rechecked w.engine n None))
  checked_keeps agrees =
      let t = with_snapshot (thread_of w.engine n) w.engine.clock in
      let ts = put w.engine.threads n t in
      let t' = with_phase (at ts n) (Sealed (w.engine.clock + 1) 0) in
      updater_keeps ws base w h beats n w.engine.clock (put ts n t') f inside running agrees
      (at_put_same ts n t' ∙ ap (λ (x : Thread). with_phase x (Sealed (w.engine.clock + 1) 0)) (at_put_same w.engine.threads n t))
      (λ k d. at_put_other ts n k t' d ∙ at_put_other w.engine.threads n k t d)

  -- a seal that loses the transaction
  loses_keeps : (l : Loss) (m : Bool) → Excused w.engine.set_up h.updaters (h.present n).work (length h.updaters) l →
      Kept ws base w h beats (Seal n)
      (lost w l (quiet_state w.engine m w.engine.stripes
      (put w.engine.threads n (with_phase (thread_of w.engine n) (Lost l)))))
  loses_keeps l m x =
      lose_keeps ws base w h beats (Seal n) l m w.engine.threads f running (λ k d. refl) (λ led. x)

  -- the read log has an invalid entry or not
  rechecked_keeps : (o : Option ℕ) → first_invalid w.engine n (thread_of w.engine n).reads ≡ o →
      Kept ws base w h beats (Seal n) (seal_checked w n (rechecked w.engine n o))
  rechecked_keeps None e = checked_keeps (refresh_agrees ws base w h n f running e)
  rechecked_keeps (Some s) e = loses_keeps (Invalid s) w.engine.mark (invalid_excuses ws base w h n s f running e)

  -- something was sealed since the snapshot end or not
  check_keeps : (b : Bool) → eqb w.engine.clock (thread_of w.engine n).snapshot ≡ b →
      Kept ws base w h beats (Seal n) (seal_checked w n (seal_check w.engine n b))
  check_keeps true e = unchecked_keeps (eqb-true w.engine.clock (thread_of w.engine n).snapshot e)
  check_keeps false e = rechecked_keeps (first_invalid w.engine n (thread_of w.engine n).reads) refl

  -- the clock is spent or not
  unspent_keeps : (b : Bool) → Kept ws base w h beats (Seal n) (seal_unspent w n b)
  unspent_keeps true = loses_keeps ClockSpent true tt
  unspent_keeps false = check_keeps (eqb w.engine.clock (thread_of w.engine n).snapshot) refl

  -- the transaction stored something or not
  updates_keeps : (b : Bool) → eqb (length (thread_of w.engine n).writes) 0 ≡ b →
      Kept ws base w h beats (Seal n) (seal_updates w n b)
  updates_keeps true e = reader_keeps (eqb-true (length (thread_of w.engine n).writes) 0 e)
  updates_keeps false e = unspent_keeps (leb w.engine.set_up.limit w.engine.clock)

-- a seal is refused, or it keeps the invariant whatever it finds
pub seal_keeps : SealKeeps
seal_keeps ws base w h beats n f =
    admitted_or_refused ws base w h beats (Seal n) f Sealing n (seal_admitted w n) (λ r. refl)
    (λ x. updates_keeps ws base w h beats n f x.inside (running_phase (thread_of w.engine n).phase x.fits)
    (eqb (length (thread_of w.engine n).writes) 0) refl)
