-- Which threads hold stripes, and what the front of a stripe shows of that.
use Rattle.std.proofs.Common.{◌≡◌, ℕ, ◌<◌, false, not, eqb, ◌⊎◌, List, length, get_or, drop, Some, None, Option, sym, refl, ap, ◌∙◌, inl, inr, arith}
use Rattle.history.proofs.Invariant.{Draining, Fits, Front, Hold, StripeFits, front, hold_in, hold_of, left_of}
use Rattle.history.specs.Record.{History, Work}
use Rattle.history.specs.Serial.{put_in, serial_run}
use Rattle.layout.specs.SetUps.{stripe_of}
use Rattle.layout.specs.declared.entries.WriteEntry.{WriteEntry}
use Rattle.layout.specs.declared.set_up.SetUp.{SetUp}
use Rattle.rules.specs.Admission.{is_sealed}
use Rattle.rules.specs.Conflicts.{busy, is_other, owner_of}
use Rattle.rules.specs.Maps.{Map, at}
use Rattle.rules.specs.States.{State, Stripe, Thread, World, stripe_at, thread_of}
use Rattle.rules.specs.declared.phase.Phase.{Phase}
use Rattle.rules.specs.declared.phase.Phase.TheVariants.{Idle, Running, Sealed, Lost}
use Rattle.std.proofs.lemmas.Bool.{and_cases, and_right, eqb-true, not-false}

-- a stripe at version 0 that no sealed thread holds
abbrev pub bare_front : Front
bare_front = record { version = 0; hold = None }

-- it fits at the moment of a roll
pub bare_fits : (u : SetUp) (us : List Work) (s : ℕ) → StripeFits u us (length us) 0 s bare_front
bare_fits u us s = record { rises = omega arith; by_clock = omega arith; untouched = λ k low high. absurd (omega arith) }

-- a thread in a phase that holds nothing
pub free_by_phase : (t : Thread) (p : Phase) → t.phase ≡ p → hold_in t.writes p ≡ None → hold_of t ≡ None
free_by_phase t p e h = ap (hold_in t.writes) e ∙ h

-- stripes that are as they were show the same, if each thread holds as it held
pub fronts_kept : (st st' : State) → st'.stripes ≡ st.stripes →
    ((n : ℕ) → hold_of (thread_of st' n) ≡ hold_of (thread_of st n)) → (s : ℕ) → front st' s ≡ front st s
fronts_kept st st' e h s = λ i. record {
  version = ap (λ (x : Stripe). x.version) (same s) i;
  hold = (h (owner_of st' s) ∙ ap (λ (x : Stripe). hold_of (thread_of st x.owner)) (same s)) i;
}
  where
    same : (k : ℕ) → stripe_at st' k ≡ stripe_at st k
    same k = ap (λ (m : Map Stripe). at m k) e

-- a thread that is not sealed holds nothing
unsealed_free : (es : List WriteEntry) (p : Phase) → is_sealed p ≡ false → hold_in es p ≡ None
unsealed_free es Idle e = refl
unsealed_free es Running e = refl
unsealed_free es (Sealed t d) e = absurd (cc)
unsealed_free es (Lost l) e = refl

-- and one that holds nothing is not sealed
pub free_unsealed : (es : List WriteEntry) (p : Phase) → hold_in es p ≡ None → is_sealed p ≡ false
free_unsealed es Idle e = refl
free_unsealed es Running e = refl
free_unsealed es (Sealed t d) e = absurd (cc)
free_unsealed es (Lost l) e = refl

-- who is not another thread is nobody or the thread itself
pub not_other : (n o : ℕ) → is_other n o ≡ false → (o ≡ 0) ⊎ (o ≡ n)
not_other n o e = go (and_cases (not (eqb o 0)) (not (eqb o n)) e)
  where
    go : (not (eqb o 0) ≡ false) ⊎ (not (eqb o n) ≡ false) → (o ≡ 0) ⊎ (o ≡ n)
    go (inl p) = inl (eqb-true o 0 (not-false (eqb o 0) p))
    go (inr p) = inr (eqb-true o n (not-false (eqb o n) p))

module _ (ws : List ℕ) (base : ℕ) (w : World) (h : History) (n s : ℕ) (f : Fits ws base w h)
    (run : (thread_of w.engine n).phase ≡ Running) where
  -- a stripe that is not busy for a running thread shows no hold
  pub not_busy_free : busy w.engine n s ≡ false → (front w.engine s).hold ≡ None
  not_busy_free free = go (and_cases (is_other n o) (is_sealed (thread_of w.engine o).phase) free)
    where
      o : ℕ
      o = owner_of w.engine s

      holds_at : (k : ℕ) → o ≡ k → (p : Phase) → (thread_of w.engine k).phase ≡ p → hold_in (thread_of w.engine k).writes p ≡ None →
          hold_of (thread_of w.engine o) ≡ None
      holds_at k e p q x = ap (λ (j : ℕ). hold_of (thread_of w.engine j)) e ∙ free_by_phase (thread_of w.engine k) p q x

      own : (o ≡ 0) ⊎ (o ≡ n) → hold_of (thread_of w.engine o) ≡ None
      own (inl e) = holds_at 0 e Idle ((f.seats 0).inside refl) refl
      own (inr e) = holds_at n e Running run refl

      go : (is_other n o ≡ false) ⊎ (is_sealed (thread_of w.engine o).phase ≡ false) → hold_of (thread_of w.engine o) ≡ None
      go (inl e) = own (not_other n o e)
      go (inr e) = unsealed_free (thread_of w.engine o).writes (thread_of w.engine o).phase e

-- a stripe that shows no hold is busy for nobody
pub free_not_busy : (st : State) (n s : ℕ) → (front st s).hold ≡ None → busy st n s ≡ false
free_not_busy st n s e =
    and_right (is_other n (owner_of st s)) (is_sealed (thread_of st (owner_of st s)).phase)
    (free_unsealed (thread_of st (owner_of st s)).writes (thread_of st (owner_of st s)).phase e)

-- the stored word of a stripe that shows no hold is the serial run's
pub free_word_stored : {ws : List ℕ} {base : ℕ} {w : World} {h : History} → Fits ws base w h → (a : ℕ) → a < length w.words →
    (front w.engine (stripe_of w.engine.set_up a)).hold ≡ None → get_or (serial_run ws h.updaters) a 0 ≡ get_or w.words a 0
free_word_stored {w = w} f a l free = f.words a l ∙ ap (λ (o : Option Hold). get_or (put_in w.words (left_of o)) a 0) free

-- a thread is sealed, or holds nothing
pub sealed_or_free : (t : Thread) → ((k : ℕ) × (d : ℕ) × (t.phase ≡ Sealed k d)) ⊎ (hold_of t ≡ None)
sealed_or_free t = go t.phase refl
  where
    go : (p : Phase) → t.phase ≡ p → ((k : ℕ) × (d : ℕ) × (t.phase ≡ Sealed k d)) ⊎ (hold_of t ≡ None)
    go Idle e = inr (ap (hold_in t.writes) e)
    go Running e = inr (ap (hold_in t.writes) e)
    go (Sealed k d) e = inl (k, d, e)
    go (Lost l) e = inr (ap (hold_in t.writes) e)

-- how a sealed thread holds its stripes
pub held_by : (st : State) (n ticket drained s : ℕ) → (thread_of st n).phase ≡ Sealed ticket drained → owner_of st s ≡ n →
    (front st s).hold ≡ Some (record { ticket = ticket; left = drop drained (thread_of st n).writes })
held_by st n ticket drained s p e =
    ap (λ (k : ℕ). hold_of (thread_of st k)) e ∙ ap (hold_in (thread_of st n).writes) p

-- a thread that holds nothing drains no updater
pub free_not_draining : {st : State} {h : History} {k n : ℕ} (x : Draining st h k) → hold_of (thread_of st n) ≡ None → x.thread ≡ n → ⊥
free_not_draining {st} {n = n} x free e =
    let p : (thread_of st n).phase ≡ Sealed x.ticket x.drained = ap (λ (j : ℕ). (thread_of st j).phase) (sym e) ∙ x.sealed in
    let q : hold_in (thread_of st n).writes (Sealed x.ticket x.drained) ≡ None =
    ap (hold_in (thread_of st n).writes) (sym p) ∙ free in
    cc
