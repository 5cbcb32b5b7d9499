-- Where a running thread meets the holder of a stripe: one of them is lost, and the rest is as it was.
use Rattle.std.proofs.Common.{◌≡◌, ℕ, Bool, true, false, cond, not, ◌&&◌, eqb, ◌⊎◌, List, [], ◌∷◌, Some, None, Option, sym, refl, ap, ◌∙◌, subst, inl, inr}
use Rattle.common.specs.declared.loss.Loss.{Loss}
use Rattle.common.specs.declared.loss.Loss.TheVariants.{Beaten, Stolen}
use Rattle.contention.specs.Events.{Event, win_over}
use Rattle.history.proofs.GoingOn.{LeftOrBeaten}
use Rattle.history.proofs.Holders.{not_other}
use Rattle.history.proofs.Invariant.{Fits}
use Rattle.history.proofs.Leaders.{leader_beats}
use Rattle.history.proofs.Losses.{lose_keeps}
use Rattle.history.proofs.Maps.{at_put_other, at_put_same}
use Rattle.history.proofs.Phases.{running_inside, running_phase, thread_not_zero}
use Rattle.history.proofs.Plan.{Kept}
use Rattle.history.proofs.Quiet.{quiet_state}
use Rattle.history.specs.Record.{History, caller, leads}
use Rattle.rules.specs.Admission.{is_running}
use Rattle.rules.specs.Conflicts.{clash, contend, contended, is_other, owner_of, rival}
use Rattle.rules.specs.Maps.{Map, at, put}
use Rattle.rules.specs.Outcomes.{Outcome, Step, Table, goes, loses, lost}
use Rattle.rules.specs.States.{State, Thread, World, lose, thread_of, with_phase, with_snapshot}
use Rattle.rules.specs.declared.call.Call.{Call}
use Rattle.rules.specs.declared.phase.Phase.TheVariants.{Idle, Running, Lost}
use Rattle.std.proofs.lemmas.Bool.{and_cases, and_parts, both_ways, cases_eq, eq-eqb, not-true}

-- the engine with these threads
abbrev pub threaded : State → Map Thread → State
threaded st ts = quiet_state st st.mark st.stripes ts

-- the threads with another snapshot end of one of them
pub record Refreshed (st : State) (n end : ℕ) (ts : Map Thread) : Type 0 where
  pub own : at ts n ≡ with_snapshot (thread_of st n) end
  pub others : (k : ℕ) → (k ≡ n → ⊥) → at ts k ≡ thread_of st k

-- the threads when it has also won the stripe: another owner does not run
pub record Won (beats : Table) (st : State) (n s end : ℕ) (ts : Map Thread) : Type 0 where
  pub own : at ts n ≡ with_snapshot (thread_of st n) end
  pub others : (k : ℕ) → (k ≡ n → ⊥) → LeftOrBeaten beats n k (thread_of st k) (at ts k)
  pub settled : (owner_of st s ≡ n → ⊥) → is_running (at ts (owner_of st s)).phase ≡ false

-- and then one thing more of the winner changes
pub won_then : (beats : Table) (st : State) (n s end : ℕ) (ts : Map Thread) (t : Thread) → Won beats st n s end ts →
    (k : ℕ) → (k ≡ n → ⊥) → LeftOrBeaten beats n k (thread_of st k) (at (put ts n t) k)
won_then beats st n s end ts t won k d =
    subst (λ (x : Thread). LeftOrBeaten beats n k (thread_of st k) x) (sym (at_put_other ts n k t d)) (won.others k d)

-- a rival is another running owner
record Rivals (st : State) (n s k : ℕ) : Type 0 where
  owner : owner_of st s ≡ k
  other : k ≡ n → ⊥
  running : (thread_of st k).phase ≡ Running

-- the rival that is found is one
rival_parts : (st : State) (n s k : ℕ) → rival st n s ≡ Some k → Rivals st n s k
rival_parts st n s k e = go (is_other n o && is_running (thread_of st o).phase) refl e
  where
    o : ℕ
    o = owner_of st s

    go : (b : Bool) → (is_other n o && is_running (thread_of st o).phase) ≡ b → cond b (Some o) None ≡ Some k → Rivals st n s k
    go true p q =
        let same : o ≡ k = cc in
        let x = and_parts (is_other n o) (is_running (thread_of st o).phase) p in
        let y = and_parts (not (eqb o 0)) (not (eqb o n)) x.0 in
        record {
          owner = same;
          other = λ z. both_ways (eqb o n) (not-true (eqb o n) y.1) (eq-eqb o n (same ∙ z));
          running = ap (λ (j : ℕ). (thread_of st j).phase) (sym same) ∙ running_phase (thread_of st o).phase x.1;
        }
    go false p q = absurd (cc)

-- with no rival, another owner does not run
rival_none : (st : State) (n s : ℕ) → (thread_of st 0).phase ≡ Idle → rival st n s ≡ None → (owner_of st s ≡ n → ⊥) →
    is_running (thread_of st (owner_of st s)).phase ≡ false
rival_none st n s idle e d = go (is_other n o && is_running (thread_of st o).phase) refl e
  where
    o : ℕ
    o = owner_of st s

    nobody : (o ≡ 0) ⊎ (o ≡ n) → is_running (thread_of st o).phase ≡ false
    nobody (inl p) = ap (λ (j : ℕ). is_running (thread_of st j).phase) p ∙ ap is_running idle
    nobody (inr p) = absurd (d p)

    parts : (is_other n o ≡ false) ⊎ (is_running (thread_of st o).phase ≡ false) → is_running (thread_of st o).phase ≡ false
    parts (inl p) = nobody (not_other n o p)
    parts (inr p) = p

    go : (b : Bool) → (is_other n o && is_running (thread_of st o).phase) ≡ b → cond b (Some o) None ≡ None →
        is_running (thread_of st o).phase ≡ false
    go true p q = absurd (cc)
    go false p q = parts (and_cases (is_other n o) (is_running (thread_of st o).phase) p)

module _ (ws : List ℕ) (base : ℕ) (w : World) (h : History) (beats : Table) (n s end : ℕ) (ts : Map Thread)
    (f : Fits ws base w h) (run : (thread_of w.engine n).phase ≡ Running) (r : Refreshed w.engine n end ts) where
  -- there is no thread 0, so it does not run
  nobody_idle : (at ts 0).phase ≡ Idle
  nobody_idle =
      ap (λ (t : Thread). t.phase)
      (r.others 0 (λ e. thread_not_zero w.engine.set_up n (running_inside (f.seats n) run) (sym e)))
      ∙ (f.seats 0).inside refl

  -- a stripe with no rival is won
  won_unopposed : rival (threaded w.engine ts) n s ≡ None → Won beats w.engine n s end ts
  won_unopposed e = record {
    own = r.own;
    others = λ k d. inl (r.others k d);
    settled = λ d. rival_none (threaded w.engine ts) n s nobody_idle e d;
  }

  -- a rival that is beaten leaves it
  won_over : (k : ℕ) → Rivals (threaded w.engine ts) n s k → beats n k ≡ true →
      Won beats w.engine n s end (put ts k (with_phase (at ts k) (Lost (Stolen n))))
  won_over k x wins = record {
    own = at_put_other ts k n victim (λ e. x.other (sym e)) ∙ r.own;
    others = λ j d. other j d (cases_eq j k);
    settled = λ d.
        ap (λ (j : ℕ). is_running (at (put ts k victim) j).phase) x.owner
        ∙ ap (λ (t : Thread). is_running t.phase) (at_put_same ts k victim);
  }
    where
      victim : Thread
      victim = with_phase (at ts k) (Lost (Stolen n))

      other : (j : ℕ) → (j ≡ n → ⊥) → (j ≡ k) ⊎ (j ≡ k → ⊥) → LeftOrBeaten beats n j (thread_of w.engine j) (at (put ts k victim) j)
      other j d (inl e) =
          subst (λ (i : ℕ). LeftOrBeaten beats n i (thread_of w.engine i) (at (put ts k victim) i)) (sym e)
          (inr (record {
            ran = ap (λ (t : Thread). t.phase) (sym (r.others k x.other)) ∙ x.running;
            stolen = ap (λ (t : Thread). t.phase) (at_put_same ts k victim);
            beaten = wins;
          }))
      other j d (inr e) = inl (at_put_other ts k j victim e ∙ r.others j d)

-- what comes after the meeting: a loss ends the call, and a won stripe lets it go on
module _ (ws : List ℕ) (base : ℕ) (w : World) (h : History) (beats : Table) (c : Call)
    (s end : ℕ) (ts : Map Thread) (f : Fits ws base w h) (run : (thread_of w.engine (caller c)).phase ≡ Running)
    (r : Refreshed w.engine (caller c) end ts) (rest : Step → Outcome)
    (ends : (l : Loss) (st : State) → rest (loses l st) ≡ lost w l st)
    (goes_on : (ts' : Map Thread) (es : List Event) → Won beats w.engine (caller c) s end ts' →
    Kept ws base w h beats c (rest (goes (threaded w.engine ts') es))) where
  -- a leader beats its rivals
  leader_wins : (k : ℕ) → Rivals (threaded w.engine ts) (caller c) s k → beats (caller c) k ≡ false →
      leads beats (caller c) w.engine.set_up.threads ≡ true → ⊥
  leader_wins k x beaten led =
      let ran : (thread_of w.engine k).phase ≡ Running = ap (λ (t : Thread). t.phase) (sym (r.others k x.other)) ∙ x.running in
      both_ways (beats (caller c) k) beaten
      (leader_beats w.engine.set_up beats (caller c) k led (running_inside (f.seats k) ran) x.other).0

  -- so the loss to a rival keeps everything
  lost_to : (k : ℕ) → Rivals (threaded w.engine ts) (caller c) s k → beats (caller c) k ≡ false →
      Kept ws base w h beats c (lost w (Beaten k) (lose (threaded w.engine ts) (caller c) (Beaten k)))
  lost_to k x beaten =
      lose_keeps ws base w h beats c (Beaten k) w.engine.mark ts f run r.others
      (λ led. absurd (leader_wins k x beaten led))

  -- however the meeting ends, the whole call keeps everything
  pub contend_keeps : Kept ws base w h beats c (rest (contend beats (threaded w.engine ts) (caller c) s))
  contend_keeps = go (rival (threaded w.engine ts) (caller c) s) refl
    where
      clashes : (k : ℕ) → Rivals (threaded w.engine ts) (caller c) s k → (b : Bool) → beats (caller c) k ≡ b →
          Kept ws base w h beats c (rest (clash (threaded w.engine ts) (caller c) k b))
      clashes k x true e =
          goes_on (put ts k (with_phase (at ts k) (Lost (Stolen (caller c))))) (win_over (caller c) k ∷ [])
          (won_over ws base w h beats (caller c) s end ts f run r k x e)
      clashes k x false e =
          subst (λ (o : Outcome). Kept ws base w h beats c o)
          (sym (ends (Beaten k) (lose (threaded w.engine ts) (caller c) (Beaten k)))) (lost_to k x e)

      go : (o : Option ℕ) → rival (threaded w.engine ts) (caller c) s ≡ o →
          Kept ws base w h beats c (rest (contended beats (threaded w.engine ts) (caller c) o))
      go None e = goes_on ts [] (won_unopposed ws base w h beats (caller c) s end ts f run r e)
      go (Some k) e =
          clashes k (rival_parts (threaded w.engine ts) (caller c) s k e) (beats (caller c) k) refl
