-- What it is to lead.
use Rattle.std.proofs.Common.{◌≡◌, ℕ, zero, suc, ◌<◌, ◌≤◌, true, false, not, ◌&&◌, ◌||◌, eqb, ◌⊎◌, sym, ◌∙◌, subst, inl, inr, arith}
use Rattle.history.proofs.Phases.{thread_bounds}
use Rattle.history.specs.Record.{leads}
use Rattle.layout.specs.declared.set_up.SetUp.{SetUp}
use Rattle.rules.specs.Admission.{is_thread}
use Rattle.rules.specs.Outcomes.{Table}
use Rattle.std.proofs.lemmas.Bool.{and_parts, cases_order, eqb-true, not-true, or_cases}

-- the first thread beats the second, and not the other way round
abbrev BeatsOnly : Table → ℕ → ℕ → Type 0
BeatsOnly beats n m = (beats n m ≡ true) × (beats m n ≡ false)

-- what one step of the test says of the thread that it is about
beats_here : (beats : Table) (n m : ℕ) → (m ≡ n → ⊥) →
    (eqb m n || (beats n m && not (beats m n))) ≡ true → BeatsOnly beats n m
beats_here beats n m d e = go (or_cases (eqb m n) (beats n m && not (beats m n)) e)
  where
    go : (eqb m n ≡ true) ⊎ ((beats n m && not (beats m n)) ≡ true) → BeatsOnly beats n m
    go (inl q) = absurd (d (eqb-true m n q))
    go (inr q) =
        let r = and_parts (beats n m) (not (beats m n)) q in
        (r.0, not-true (beats m n) r.1)

-- a leader beats each other thread up to this number, and none of them beats it
leads_up_to : (beats : Table) (n m t : ℕ) → leads beats n t ≡ true → 1 ≤ m → m ≤ t → (m ≡ n → ⊥) → BeatsOnly beats n m
leads_up_to beats n m zero e low high d = absurd (omega arith)
leads_up_to beats n m (suc t) e low high d =
    go (λ l. leads_up_to beats n m t parts.1 low l d) (cases_order m (suc t))
  where
    parts : ((eqb (suc t) n || (beats n (suc t) && not (beats (suc t) n))) ≡ true) × (leads beats n t ≡ true)
    parts = and_parts (eqb (suc t) n || (beats n (suc t) && not (beats (suc t) n))) (leads beats n t) e

    go : (m ≤ t → BeatsOnly beats n m) → (m ≡ suc t) ⊎ ((m < suc t) ⊎ (suc t < m)) → BeatsOnly beats n m
    go before (inl p) =
        subst (λ (k : ℕ). BeatsOnly beats n k) (sym p) (beats_here beats n (suc t) (λ q. d (p ∙ q)) parts.0)
    go before (inr (inl l)) = before (omega arith)
    go before (inr (inr l)) = absurd (omega arith)

-- a leader beats each other thread of the set-up, and none of them beats it
pub leader_beats : (u : SetUp) (beats : Table) (n m : ℕ) → leads beats n u.threads ≡ true → is_thread u m ≡ true → (m ≡ n → ⊥) →
    (beats n m ≡ true) × (beats m n ≡ false)
leader_beats u beats n m led inside d =
    let b = thread_bounds u m inside in
    leads_up_to beats n m u.threads led b.0 b.1 d
