-- Every beginning of a run's record is the record of a beginning of its calls, and so keeps the law.
use Rattle.std.proofs.Common.{◌≡◌, ℕ, zero, suc, List, [], ◌∷◌, take, sym, refl, ap, ◌∙◌, subst}
use Rattle.contention.specs.Events.{Event, after_events}
use Rattle.history.proofs.Induction.{lawful}
use Rattle.history.specs.Law.{Law}
use Rattle.history.specs.Record.{Line}
use Rattle.history.specs.Runs.{Asked, line_of, recorded_from}
use Rattle.history.specs.Turns.{run_from, run_of}
use Rattle.layout.specs.declared.set_up.SetUp.{SetUp}
use Rattle.rules.specs.Calls.{perform}
use Rattle.rules.specs.NewEngine.{new_world}
use Rattle.rules.specs.Outcomes.{Table}
use Rattle.rules.specs.States.{World}
use Rattle.rules.specs.declared.call.Call.{Call}

-- the first lines of a record are the record of the first calls
take_recorded : (n : ℕ) (w : World) (qs : List Asked) → take n (recorded_from w qs) ≡ recorded_from w (take n qs)
take_recorded zero w qs = refl
take_recorded (suc n) w [] = refl
take_recorded (suc n) w (q ∷ qs) =
    ap (λ ls. line_of q.table q.call (perform q.table w q.call) ∷ ls)
    (take_recorded n (perform q.table w q.call).after qs)

module _ {P : Type 0} (table : P → Table) (moved : P → Event → P) where
  -- the calls with the tables that they meet
  asked : World → P → List Call → List Asked
  asked w p [] = []
  asked w p (c ∷ cs) =
      record { table = table p; call = c } ∷
      asked (perform (table p) w c).after (after_events moved p (perform (table p) w c).told) cs

  -- the lines of a run are the record of its calls
  lines_recorded : (w : World) (p : P) (cs : List Call) → (run_from table moved w p cs).lines ≡ recorded_from w (asked w p cs)
  unfolding asked
  lines_recorded w p [] = refl
  lines_recorded w p (c ∷ cs) =
      ap (λ ls. line_of (table p) c (perform (table p) w c) ∷ ls)
      (lines_recorded (perform (table p) w c).after (after_events moved p (perform (table p) w c).told) cs)

  -- every beginning of the record of a run keeps the law
  pub beginnings_are_lawful : (u : SetUp) (ws : List ℕ) (p : P) (cs : List Call) (n : ℕ) →
      Law u ws (take n (run_of table moved u ws p cs).lines)
  beginnings_are_lawful u ws p cs n =
      subst (λ (ls : List Line). Law u ws ls)
      (sym (ap (take n) (lines_recorded (new_world u ws) p cs) ∙ take_recorded n (new_world u ws) (asked (new_world u ws) p cs)))
      (lawful u ws (take n (asked (new_world u ws) p cs)))
