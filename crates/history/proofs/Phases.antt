-- What a thread's state says of its transaction, and what an admitted call says of the state.
use Rattle.std.proofs.Common.{◌≡◌, ℕ, ◌≤◌, Bool, true, false, cond, ◌&&◌, leb, ◌⊎◌, List, Ok, Err, Result, refl, ap, subst, inl, inr}
use Rattle.common.specs.declared.loss.Loss.{Loss}
use Rattle.common.specs.declared.refusal.Refusal.{Refusal}
use Rattle.common.specs.declared.refusal.Refusal.TheVariants.{NoSuchThread, WrongState, AlreadyLost}
use Rattle.history.proofs.Invariant.{Front, LostFits, PhaseFits, RunningFits, SealedFits, Seat}
use Rattle.history.specs.Record.{Transaction, Work}
use Rattle.layout.specs.declared.set_up.SetUp.{SetUp}
use Rattle.rules.specs.Admission.{admitted, is_for, is_idle, is_running, is_lost, is_thread, tells_loss}
use Rattle.rules.specs.States.{State, Thread, thread_of}
use Rattle.rules.specs.declared.kind.Kind.{Kind}
use Rattle.rules.specs.declared.phase.Phase.{Phase}
use Rattle.rules.specs.declared.phase.Phase.TheVariants.{Idle, Running, Sealed, Lost}
use Rattle.std.proofs.lemmas.Bool.{and_parts, both_ways, cases_Bool, leb-true}

-- a call that is admitted is of a thread of the set-up, in a state that it is for
pub record Admitted (st : State) (k : Kind) (n : ℕ) : Type 0 where
  pub inside : is_thread st.set_up n ≡ true
  pub fits : is_for k (thread_of st n).phase ≡ true

-- a refusal is no consent
never_ok : (r : Refusal) (x : Unit {0}) → ◌≡◌ {A = Result (Unit {0}) Refusal} (Err r) (Ok x) → ⊥
never_ok r x e = cc

-- nor is either refusal of a call that its state does not let in
refused_never_ok : (b : Bool) (x : Unit {0}) → cond b (Err AlreadyLost) (Err WrongState) ≡ Ok x → ⊥
refused_never_ok true x e = never_ok AlreadyLost x e
refused_never_ok false x e = never_ok WrongState x e

-- a call that the engine admits is such a call
pub admitted_parts : (st : State) (k : Kind) (n : ℕ) (x : Unit {0}) → admitted st k n ≡ Ok x → Admitted st k n
admitted_parts st k n x e = go (is_thread st.set_up n) (is_for k (thread_of st n).phase) refl refl e
  where
    go : (a b : Bool) → is_thread st.set_up n ≡ a → is_for k (thread_of st n).phase ≡ b →
        cond a (cond b (Ok tt) (cond (tells_loss k && is_lost (thread_of st n).phase) (Err AlreadyLost) (Err WrongState)))
        (Err NoSuchThread) ≡ Ok x →
        Admitted st k n
    go true true p q r = record { inside = p; fits = q }
    go true false p q r = absurd (refused_never_ok (tells_loss k && is_lost (thread_of st n).phase) x r)
    go false true p q r = absurd (never_ok NoSuchThread x r)
    go false false p q r = absurd (never_ok NoSuchThread x r)

-- a phase that is tested as running is so
pub running_phase : (p : Phase) → is_running p ≡ true → p ≡ Running
running_phase Idle e = absurd (cc)
running_phase Running e = refl
running_phase (Sealed t d) e = absurd (cc)
running_phase (Lost l) e = absurd (cc)

-- a phase that is tested as idle is so
pub idle_phase : (p : Phase) → is_idle p ≡ true → p ≡ Idle
idle_phase Idle e = refl
idle_phase Running e = absurd (cc)
idle_phase (Sealed t d) e = absurd (cc)
idle_phase (Lost l) e = absurd (cc)

-- a thread of the set-up is not 0
pub thread_not_zero : (u : SetUp) (n : ℕ) → is_thread u n ≡ true → n ≡ 0 → ⊥
thread_not_zero u n e z = both_ways (is_thread u n) (ap (is_thread u) z) e

-- and its number is one from 1 to the number of threads
pub thread_bounds : (u : SetUp) (n : ℕ) → is_thread u n ≡ true → (1 ≤ n) × (n ≤ u.threads)
thread_bounds u n e =
    let p = and_parts (leb 1 n) (leb n u.threads) e in
    (leb-true 1 n p.0, leb-true n u.threads p.1)

module _ {u : SetUp} {ws : List ℕ} {us : List Work} {base : ℕ} {fs : ℕ → Front} {owner : ℕ → ℕ} {n : ℕ} {t : Thread} {x : Transaction}
    (s : Seat u ws us base fs owner n t x) where
  -- an idle thread owns nothing, unless it is 0, which stands for no owner
  pub idle_fits : t.phase ≡ Idle → (k : ℕ) → owner k ≡ n → n ≡ 0
  idle_fits e = subst (λ (p : Phase). PhaseFits u ws us base fs owner n t x.work x.fall p) e s.phase

  -- a running thread's transaction
  pub running_fits : t.phase ≡ Running → RunningFits u ws us base fs owner n t x.work x.fall
  running_fits e = subst (λ (p : Phase). PhaseFits u ws us base fs owner n t x.work x.fall p) e s.phase

  -- a sealed thread's transaction
  pub sealed_fits : (k d : ℕ) → t.phase ≡ Sealed k d → SealedFits u us base owner n k d t x.work x.fall
  sealed_fits k d e = subst (λ (p : Phase). PhaseFits u ws us base fs owner n t x.work x.fall p) e s.phase

  -- a lost thread's transaction
  pub lost_fits : (l : Loss) → t.phase ≡ Lost l → LostFits x.work x.fall
  lost_fits l e = subst (λ (p : Phase). PhaseFits u ws us base fs owner n t x.work x.fall p) e s.phase

  -- a running thread is one of the set-up
  pub running_inside : t.phase ≡ Running → is_thread u n ≡ true
  running_inside e = go (cases_Bool (is_thread u n))
    where
      never_both : t.phase ≡ Running → t.phase ≡ Idle → ⊥
      never_both p q = cc

      go : (is_thread u n ≡ true) ⊎ (is_thread u n ≡ false) → is_thread u n ≡ true
      go (inl p) = p
      go (inr p) = absurd (never_both e (s.inside p))
