-- A new engine fits a history with no line.
use Rattle.std.proofs.Common.{◌≡◌, ℕ, List, [], sym, refl, ap, ◌∙◌, subst, arith}
use mathlib.Core.Path.{fun_ext}
use Rattle.history.proofs.Holders.{bare_fits, bare_front}
use Rattle.history.proofs.Invariant.{Front, Seat, StripeFits, WordFits, front, hold_of}
use Rattle.history.proofs.Maps.{at_everywhere}
use Rattle.history.proofs.Plan.{NewFits}
use Rattle.history.specs.Record.{newborn}
use Rattle.layout.specs.declared.set_up.SetUp.{SetUp}
use Rattle.rules.specs.Conflicts.{owner_of}
use Rattle.rules.specs.NewEngine.{new_engine, new_thread, new_stripe}
use Rattle.rules.specs.States.{Thread, Stripe}

-- its stripes are at version 0, and nobody holds them
new_fronts : (u : SetUp) (s : ℕ) → front (new_engine u) s ≡ bare_front
new_fronts u s = λ i. record {
  version = ap (λ (x : Stripe). x.version) (at_everywhere new_stripe s) i;
  hold = ap hold_of (at_everywhere new_thread (owner_of (new_engine u) s)) i;
}

-- nobody owns them either
new_owner : (u : SetUp) (s : ℕ) → owner_of (new_engine u) s ≡ 0
new_owner u s = ap (λ (x : Stripe). x.owner) (at_everywhere new_stripe s)

-- every thread is idle, and has begun nothing
new_seat : (u : SetUp) (ws : List ℕ) (n : ℕ) →
    Seat u ws [] 0 (front (new_engine u)) (owner_of (new_engine u)) n new_thread (newborn n 0)
new_seat u ws n = record {
  named = refl;
  inside = λ e. refl;
  phase = λ s e. sym e ∙ new_owner u s;
  point = record { moment = 0; since_begin = omega arith; by_last_load = omega arith; so_far = omega arith; loads = refl };
  spared = tt;
}

-- so the invariant holds of it
pub new_fits : NewFits
new_fits u ws = record {
  stored = refl;
  sized = refl;
  count = refl;
  stripes = λ s.
      subst (λ (f : Front). StripeFits u [] 0 0 s f) (sym (new_fronts u s)) (bare_fits u [] s);
  words = λ a l. subst (λ (fs : ℕ → Front). WordFits u ws [] ws fs a) (sym (fun_ext (new_fronts u))) refl;
  seats = λ n.
      subst (λ (t : Thread). Seat u ws [] 0 (front (new_engine u)) (owner_of (new_engine u)) n t (newborn n 0))
      (sym (at_everywhere new_thread n)) (new_seat u ws n);
  spent = λ k l. absurd (omega arith);
  loads = λ k l. absurd (omega arith);
  past_points = tt;
  past_spared = tt;
}
