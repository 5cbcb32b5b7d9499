-- Calls that leave the clock, the words and what stripes show as they are: all but the seal of an updater, drain and roll.
use Rattle.std.proofs.Common.{◌≡◌, ℕ, ◌<◌, Bool, List, [], length, sym, refl, ap, ◌∙◌, subst, inl, inr}
use mathlib.Core.Path.{fun_ext}
use Rattle.contention.specs.Events.{Event}
use Rattle.history.proofs.Invariant.{Draining, Fits, Front, Seat, Seated, Spent, StripeFits, WordFits, front}
use Rattle.history.proofs.Plan.{Kept, then}
use Rattle.history.specs.Law.{updater, LoadsAt, Point, Spared}
use Rattle.history.specs.Record.{History, Work}
use Rattle.history.specs.Serial.{not_drained}
use Rattle.layout.specs.declared.set_up.SetUp.{SetUp}
use Rattle.rules.specs.Conflicts.{owner_of}
use Rattle.rules.specs.Maps.{Map}
use Rattle.rules.specs.Outcomes.{Outcome, Table, over}
use Rattle.rules.specs.States.{State, World, Stripe, Thread, thread_of}
use Rattle.rules.specs.declared.answer.Answer.{Answer}
use Rattle.rules.specs.declared.call.Call.{Call}
use Rattle.std.specs.List.{AllByRecursion}

-- the engine with its clock, and other marks, stripes and threads
abbrev pub quiet_state : State → Bool → Map Stripe → Map Thread → State
quiet_state st m ss ts = record st { mark = m; stripes = ss; threads = ts }

-- the outcome of a call that leaves the words
abbrev pub quiet_outcome : World → Answer → List Event → State → Outcome
quiet_outcome w a es st = record { answer = a; told = es; after = over w st }

-- what is left to show of a quiet call
pub record Quiet (ws : List ℕ) (base : ℕ) (w : World) (h : History) (st : State) (g : History) : Type 0 where
  pub fronts : (s : ℕ) → front st s ≡ front w.engine s
  pub updaters : g.updaters ≡ h.updaters
  pub seats : (n : ℕ) → Seated ws base w h (owner_of st) n (thread_of st n) (g.present n)
  pub drains : (k : ℕ) → Draining w.engine h k → Draining st g k
  pub past_points : AllByRecursion (λ t. Point ws h.updaters t.work) g.past
  pub past_spared : AllByRecursion (λ t. Spared w.engine.set_up h.updaters t.work t.fall) g.past

-- a quiet call keeps the invariant, once that is shown
pub quiet_keeps : (ws : List ℕ) (base : ℕ) (w : World) (h : History) (beats : Table) (c : Call) (a : Answer) (es : List Event)
    (m : Bool) (ss : Map Stripe) (ts : Map Thread) → Fits ws base w h →
    Quiet ws base w h (quiet_state w.engine m ss ts) (then w h beats c (quiet_outcome w a es (quiet_state w.engine m ss ts))) →
    Kept ws base w h beats c (quiet_outcome w a es (quiet_state w.engine m ss ts))
quiet_keeps ws base w h beats c a es m ss ts f q = record {
  same_set_up = refl;
  fits = record {
    stored = refl;
    sized = f.sized;
    count = ap length q.updaters ∙ f.count;
    stripes = λ s.
        subst (λ (vs : List Work). StripeFits u vs base w.engine.clock s (front st s)) (sym q.updaters)
        (subst (λ (x : Front). StripeFits u h.updaters base w.engine.clock s x) (sym (q.fronts s)) (f.stripes s));
    words = λ x l.
        subst (λ (vs : List Work). WordFits u ws vs w.words (front st) x) (sym q.updaters)
        (subst (λ (fs : ℕ → Front). WordFits u ws h.updaters w.words fs x) (sym fp) (f.words x l));
    seats = λ n.
        subst (λ (vs : List Work). Seat u ws vs base (front st) (owner_of st) n (thread_of st n) (g.present n)) (sym q.updaters)
        (subst (λ (fs : ℕ → Front). Seat u ws h.updaters base fs (owner_of st) n (thread_of st n) (g.present n)) (sym fp) (q.seats n));
    spent = λ k l. spent_quiet k (f.spent k (subst (λ (vs : List Work). k < length vs) q.updaters l));
    loads = λ k l.
        subst (λ (vs : List Work). LoadsAt ws vs k (updater vs k)) (sym q.updaters)
        (f.loads k (subst (λ (vs : List Work). k < length vs) q.updaters l));
    past_points = subst (λ (vs : List Work). AllByRecursion (λ t. Point ws vs t.work) g.past) (sym q.updaters) q.past_points;
    past_spared = subst (λ (vs : List Work). AllByRecursion (λ t. Spared u vs t.work t.fall) g.past) (sym q.updaters) q.past_spared;
  };
}
  where
    u : SetUp
    u = w.engine.set_up

    st : State
    st = quiet_state w.engine m ss ts

    g : History
    g = then w h beats c (quiet_outcome w a es st)

    fp : front st ≡ front w.engine
    fp = fun_ext q.fronts

    spent_quiet : (k : ℕ) → Spent w.engine h k → Spent st g k
    spent_quiet k (inl e) = inl (subst (λ (vs : List Work). not_drained (updater vs k) ≡ []) (sym q.updaters) e)
    spent_quiet k (inr d) = inr (q.drains k d)
