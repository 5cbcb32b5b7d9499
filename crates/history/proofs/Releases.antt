-- Stripes that their owner lets go.
use Rattle.std.proofs.Common.{◌≡◌, ℕ, eqb, ◌⊎◌, Option, unwrap_or, sym, ap, ◌∙◌, inl, inr}
use Rattle.history.proofs.Maps.{at_each}
use Rattle.rules.specs.Conflicts.{owner_of}
use Rattle.rules.specs.Drain.{freed, release}
use Rattle.rules.specs.States.{State, Stripe, stripe_at}
use Rattle.std.proofs.lemmas.Bool.{cases_eq, cond-false, cond-true, eq-eqb, ne_eqb}

module _ (st : State) (n : ℕ) (v : Option ℕ) (s : ℕ) where
  -- a stripe of the thread has no owner any more
  pub released_own : owner_of st s ≡ n → stripe_at (release st n v) s ≡ record { version = unwrap_or v (stripe_at st s).version; owner = 0 }
  released_own e =
      at_each (freed n v) st.stripes s
      ∙ cond-true (eqb (owner_of st s) n) (record { version = unwrap_or v (stripe_at st s).version; owner = 0 }) (stripe_at st s)
      (eq-eqb (owner_of st s) n e)

  -- any other stripe is as it was
  pub released_other : (owner_of st s ≡ n → ⊥) → stripe_at (release st n v) s ≡ stripe_at st s
  released_other d =
      at_each (freed n v) st.stripes s
      ∙ cond-false (eqb (owner_of st s) n) (record { version = unwrap_or v (stripe_at st s).version; owner = 0 }) (stripe_at st s)
      (ne_eqb (owner_of st s) n d)

  -- another thread owns what it owned
  pub released_keeps : (k : ℕ) → (k ≡ n → ⊥) → owner_of st s ≡ k → owner_of (release st n v) s ≡ k
  released_keeps k d e = ap (λ (x : Stripe). x.owner) (released_other (λ p. d (sym e ∙ p))) ∙ e

  -- and owns no more than that
  pub released_gains : (k : ℕ) → (k ≡ 0 → ⊥) → owner_of (release st n v) s ≡ k → owner_of st s ≡ k
  released_gains k z e = go (cases_eq (owner_of st s) n)
    where
      go : (owner_of st s ≡ n) ⊎ (owner_of st s ≡ n → ⊥) → owner_of st s ≡ k
      go (inl p) = absurd (z (sym e ∙ ap (λ (x : Stripe). x.owner) (released_own p)))
      go (inr d) = sym (ap (λ (x : Stripe). x.owner) (released_other d)) ∙ e

  -- the thread itself owns nothing, unless it is 0, which stands for no owner
  pub released_nothing : owner_of (release st n v) s ≡ n → n ≡ 0
  released_nothing e = go (cases_eq (owner_of st s) n)
    where
      go : (owner_of st s ≡ n) ⊎ (owner_of st s ≡ n → ⊥) → n ≡ 0
      go (inl p) = sym e ∙ ap (λ (x : Stripe). x.owner) (released_own p)
      go (inr d) = absurd (d (sym (ap (λ (x : Stripe). x.owner) (released_other d)) ∙ e))
