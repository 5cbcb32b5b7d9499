-- Threads that a call leaves as they are.
use Rattle.std.proofs.Common.{◌≡◌, ℕ, ◌<◌, ◌≤◌, Bool, true, false, ◌||◌, ◌⊎◌, List, length, Some, None, Option, sym, refl, ap, ◌∙◌, subst, inl, inr, arith}
use Rattle.history.proofs.Growth.{Grows, grows_none, loads_grow, overtaken_grows, point_grows, spared_grows}
use Rattle.history.proofs.Invariant.{Draining, Front, MarkFits, Overtaken, PhaseFits, RunningFits, SealedFits, Seat}
use Rattle.history.proofs.Lines.{fallen_before, leads_at, present_other}
use Rattle.history.proofs.Phases.{lost_fits}
use Rattle.history.specs.Law.{updater}
use Rattle.history.specs.Record.{History, Line, Transaction, Work, Fall, watched, fallen, caller, after_line}
use Rattle.history.specs.Runs.{loss_in}
use Rattle.layout.specs.declared.set_up.SetUp.{SetUp}
use Rattle.rules.specs.Admission.{is_lost, is_running, is_sealed, is_thread}
use Rattle.rules.specs.States.{ReadMark, State, Thread, thread_of}
use Rattle.rules.specs.declared.phase.Phase.{Phase}
use Rattle.rules.specs.declared.phase.Phase.TheVariants.{Idle, Running, Sealed, Lost}
use Rattle.std.proofs.ByRecursion.{All-weaker}
use Rattle.std.proofs.lemmas.Bool.{cases_eq, cases_lt}

-- what a change of the whole means for a thread in this phase other than the caller's: if it runs or is sealed, it keeps
-- its stripes too
pub record Apart (u : SetUp) (ws : List ℕ) (us vs : List Work) (fs gs : ℕ → Front) (owner owner' : ℕ → ℕ) (n : ℕ) (p : Phase) : Type 0 where
  pub grows : Grows ws us vs
  pub newer : (k : ℕ) → length us ≤ k → k < length vs → (updater vs k).thread ≡ n → ⊥
  pub same : (k : ℕ) → k < length us → (updater us k).thread ≡ n → updater vs k ≡ updater us k
  pub gains : (s : ℕ) → owner' s ≡ n → owner s ≡ n
  pub keeps : (is_running p || is_sealed p) ≡ true → (s : ℕ) → owner s ≡ n → owner' s ≡ n
  pub fronts : (s : ℕ) → (fs s).hold ≡ None → (gs s ≡ fs s) ⊎ Overtaken u vs n (length us) s

module _ {u : SetUp} {ws : List ℕ} {us vs : List Work} {fs gs : ℕ → Front} {owner owner' : ℕ → ℕ} {n : ℕ} where
  -- a read entry fits still
  mark_apart : {p : Phase} (a : Apart u ws us vs fs gs owner owner' n p) (begun end : ℕ) (e : ReadMark) → begun ≤ length us →
      MarkFits u us n begun end (fs e.stripe) e → MarkFits u vs n begun end (gs e.stripe) e
  mark_apart a begun end e le x = record { old = x.old; state = go x.state }
    where
      stays : ((fs e.stripe).version ≡ e.version) → ((fs e.stripe).hold ≡ None) →
          (gs e.stripe ≡ fs e.stripe) ⊎ Overtaken u vs n (length us) e.stripe →
          (((gs e.stripe).version ≡ e.version) × ((gs e.stripe).hold ≡ None)) ⊎ Overtaken u vs n begun e.stripe
      stays p q (inl r) = inl (ap (λ (f : Front). f.version) r ∙ p, ap (λ (f : Front). f.hold) r ∙ q)
      stays p q (inr r) = inr (r.0, omega (arith, le, r.1), r.2, r.3)

      go : (((fs e.stripe).version ≡ e.version) × ((fs e.stripe).hold ≡ None)) ⊎ Overtaken u us n begun e.stripe →
          (((gs e.stripe).version ≡ e.version) × ((gs e.stripe).hold ≡ None)) ⊎ Overtaken u vs n begun e.stripe
      go (inl p) = stays p.0 p.1 (a.fronts e.stripe p.1)
      go (inr x) = inr (overtaken_grows a.grows u n begun e.stripe x)

  -- a running transaction fits still
  running_apart : (a : Apart u ws us vs fs gs owner owner' n Running) (base : ℕ) (t : Thread) (w : Work) (f : Option Fall) →
      RunningFits u ws us base fs owner n t w f → RunningFits u ws vs base gs owner' n t w f
  running_apart a base t w f r = record {
    unnumbered = r.unnumbered;
    standing = r.standing;
    log = r.log;
    undrained = r.undrained;
    owns_log = λ x e. a.keeps refl _ (r.owns_log x e);
    owns_stored = λ s e. r.owns_stored s (a.gains s e);
    since_begin = r.since_begin;
    by_last_load = r.by_last_load;
    so_far = omega (arith, r.so_far, a.grows.longer);
    loads = loads_grow a.grows _ w (omega (arith, r.so_far, r.by_last_load)) r.loads;
    covered = r.covered;
    marks =
        All-weaker _ _ (λ e x. mark_apart a w.begun t.snapshot e (omega (arith, r.since_begin, r.by_last_load, r.so_far)) x)
        t.reads r.marks;
    others = λ k low high e. others_apart k low high e (cases_lt k (length us));
  }
    where
      others_apart : (k : ℕ) → w.begun ≤ k → k < length vs → (updater vs k).thread ≡ n → (k < length us) ⊎ (length us ≤ k) → ⊥
      others_apart k low high e (inl l) = r.others k low l (sym (a.grows.threads k l) ∙ e)
      others_apart k low high e (inr l) = a.newer k l high e

  -- a sealed transaction fits still
  sealed_apart : (base k d : ℕ) (a : Apart u ws us vs fs gs owner owner' n (Sealed k d)) (t : Thread) (w : Work) (f : Option Fall) →
      w.thread ≡ n → SealedFits u us base owner n k d t w f → SealedFits u vs base owner' n k d t w f
  sealed_apart base k d a t w f named r = record {
    place = r.place;
    numbered = r.numbered;
    standing = r.standing;
    by_ticket = r.by_ticket;
    so_far = omega (arith, r.so_far, a.grows.longer);
    same = a.same r.place r.so_far (ap (λ (x : Work). x.thread) r.same ∙ named) ∙ r.same;
    log = r.log;
    drains = r.drains;
    owns_log = λ x e. a.keeps refl _ (r.owns_log x e);
  }

  -- a thread that is not lost keeps its facts if it is apart from the change; a lost one has none to keep
  phase_apart : (base : ℕ) (t : Thread) (w : Work) (f : Option Fall) (p : Phase) → w.thread ≡ n →
      (is_lost p ≡ false → Apart u ws us vs fs gs owner owner' n p) →
      PhaseFits u ws us base fs owner n t w f p → PhaseFits u ws vs base gs owner' n t w f p
  phase_apart base t w f Idle e a x = λ s o. x s ((a refl).gains s o)
  phase_apart base t w f Running e a x = running_apart (a refl) base t w f x
  phase_apart base t w f (Sealed k d) e a x = sealed_apart base k d (a refl) t w f e x
  phase_apart base t w f (Lost l) e a x = x

  -- so it keeps its seat. Number 0, which no thread has, keeps its own whatever stripes have no owner
  pub seat_apart : {base : ℕ} {t : Thread} {x : Transaction} → Grows ws us vs →
      ((n ≡ 0 → ⊥) → is_lost t.phase ≡ false → Apart u ws us vs fs gs owner owner' n t.phase) →
      Seat u ws us base fs owner n t x → Seat u ws vs base gs owner' n t x
  seat_apart {base} {t} {x} g a s = record {
    named = s.named;
    inside = s.inside;
    phase = go (cases_eq n 0);
    point = point_grows g x.work s.point;
    spared = spared_grows g u x.work x.fall s.spared;
  }
    where
      go : (n ≡ 0) ⊎ (n ≡ 0 → ⊥) → PhaseFits u ws vs base gs owner' n t x.work x.fall t.phase
      go (inl z) =
          subst (λ (p : Phase). PhaseFits u ws vs base gs owner' n t x.work x.fall p)
          (sym (s.inside (ap (is_thread u) z))) (λ k e. z)
      go (inr z) = phase_apart base t x.work x.fall t.phase s.named (a z) s.phase

-- where only owners changed, a thread keeps its seat if it gained no stripe and, if it runs or is sealed, lost none
pub seat_owners : {u : SetUp} {ws : List ℕ} {us : List Work} {base : ℕ} {fs : ℕ → Front} {owner owner' : ℕ → ℕ} {n : ℕ} {t : Thread}
    {x : Transaction} → ((n ≡ 0 → ⊥) → (s : ℕ) → owner' s ≡ n → owner s ≡ n) →
    ((is_running t.phase || is_sealed t.phase) ≡ true → (s : ℕ) → owner s ≡ n → owner' s ≡ n) →
    Seat u ws us base fs owner n t x → Seat u ws us base fs owner' n t x
seat_owners {ws = ws} {us = us} gains keeps s = seat_apart (grows_none ws us) (λ z live. record {
  grows = grows_none ws us;
  newer = λ k low high e. omega arith;
  same = λ k l e. refl;
  gains = gains z;
  keeps = keeps;
  fronts = λ k e. inl refl;
}) s

module _ {u : SetUp} {ws : List ℕ} {us : List Work} {base : ℕ} {fs : ℕ → Front} {owner : ℕ → ℕ} {n : ℕ} {t : Thread} where
  -- a call that changes nothing of a thread leaves its seat: the loss that the engine keeps for it is on record already
  pub seat_watched : (m : ℕ) (b : Bool) (x : Transaction) → Seat u ws us base fs owner n t x →
      Seat u ws us base fs owner n t (fallen m (watched b x) (loss_in t.phase))
  seat_watched m b x s =
      subst (λ (y : Transaction). Seat u ws us base fs owner n t y) (sym (same t.phase refl))
      (record { named = s.named; inside = s.inside; phase = s.phase; point = s.point; spared = s.spared })
    where
      same : (p : Phase) → t.phase ≡ p → fallen m (watched b x) (loss_in p) ≡ watched b x
      same Idle e = refl
      same Running e = refl
      same (Sealed k d) e = refl
      same (Lost l) e = fallen_before m (watched b x) (Some l) (lost_fits s l e).fall (lost_fits s l e).fallen

  -- the seat of a thread that does not make the call, and that the call does not change
  pub seat_other : (h : History) (l : Line) → (n ≡ caller l.call → ⊥) → l.losses n ≡ loss_in t.phase →
      Seat u ws us base fs owner n t (h.present n) → Seat u ws us base fs owner n t ((after_line u h l).present n)
  seat_other h l d e s =
      subst (λ (y : Transaction). Seat u ws us base fs owner n t y)
      (sym (present_other u h l n d ∙ ap (fallen (length h.updaters) (watched (leads_at u l n) (h.present n))) e))
      (seat_watched (length h.updaters) (leads_at u l n) (h.present n) s)

-- every thread's seat after a line, from the caller's and from those of the others before it, whose threads did not change
pub seats_after : {u : SetUp} {ws : List ℕ} {us : List Work} {base : ℕ} {fs : ℕ → Front} {owner : ℕ → ℕ} (h : History) (l : Line)
    (was is : ℕ → Thread) → ((k : ℕ) → (k ≡ caller l.call → ⊥) → is k ≡ was k) → ((k : ℕ) → l.losses k ≡ loss_in (is k).phase) →
    Seat u ws us base fs owner (caller l.call) (is (caller l.call)) ((after_line u h l).present (caller l.call)) →
    ((k : ℕ) → (k ≡ caller l.call → ⊥) → Seat u ws us base fs owner k (was k) (h.present k)) →
    (k : ℕ) → Seat u ws us base fs owner k (is k) ((after_line u h l).present k)
seats_after {u} {ws} {us} {base} {fs} {owner} h l was is same losses own rest k = go (cases_eq k (caller l.call))
  where
    go : (k ≡ caller l.call) ⊎ (k ≡ caller l.call → ⊥) → Seat u ws us base fs owner k (is k) ((after_line u h l).present k)
    go (inl e) = subst (λ (j : ℕ). Seat u ws us base fs owner j (is j) ((after_line u h l).present j)) (sym e) own
    go (inr d) =
        seat_other h l d (losses k) (subst (λ (t : Thread). Seat u ws us base fs owner k t (h.present k)) (sym (same k d)) (rest k d))

-- a sealed thread that is left in its phase, and with its work, goes on draining its updater
pub draining_on : {st st' : State} {h g : History} {k : ℕ} (x : Draining st h k) →
    thread_of st' x.thread ≡ thread_of st x.thread → (g.present x.thread).work ≡ (h.present x.thread).work →
    Draining st' g k
draining_on x same work = record {
  thread = x.thread;
  ticket = x.ticket;
  drained = x.drained;
  sealed = ap (λ (t : Thread). t.phase) same ∙ x.sealed;
  numbered = ap (λ (y : Work). y.number) work ∙ x.numbered;
}
