-- From what each call keeps to the law of every run.
use Rattle.std.proofs.Common.{◌≡◌, ℕ, List, [], ◌∷◌, refl, ◌∙◌, subst}
use Rattle.history.proofs.Back.{back_keeps}
use Rattle.history.proofs.Begin.{begin_keeps}
use Rattle.history.proofs.Drain.{drain_keeps}
use Rattle.history.proofs.Holds.{fits_holds}
use Rattle.history.proofs.Invariant.{Fits}
use Rattle.history.proofs.Load.{load_keeps}
use Rattle.history.proofs.NewEngine.{new_fits}
use Rattle.history.proofs.Plan.{CallKeeps}
use Rattle.history.proofs.Roll.{roll_keeps}
use Rattle.history.proofs.Seal.{seal_keeps}
use Rattle.history.proofs.Store.{store_keeps}
use Rattle.history.specs.Law.{Holds}
use Rattle.history.specs.Record.{History, after_line, after_lines, no_history}
use Rattle.history.specs.Runs.{Asked, RunsAreLawful, line_of, recorded_from}
use Rattle.layout.specs.declared.set_up.SetUp.{SetUp}
use Rattle.rules.specs.Calls.{perform}
use Rattle.rules.specs.NewEngine.{new_world}
use Rattle.rules.specs.States.{World}
use Rattle.rules.specs.declared.call.Call.TheVariants.{Begin, Load, Store, Seal, Drain, Back, Roll}

-- every call keeps the invariant
call_keeps : CallKeeps
unfolding perform
call_keeps ws base w h beats (Begin n) f = (base, begin_keeps ws base w h beats n f)
call_keeps ws base w h beats (Load n a) f = (base, load_keeps ws base w h beats n a f)
call_keeps ws base w h beats (Store n a v) f = (base, store_keeps ws base w h beats n a v f)
call_keeps ws base w h beats (Seal n) f = (base, seal_keeps ws base w h beats n f)
call_keeps ws base w h beats (Drain n) f = (base, drain_keeps ws base w h beats n f)
call_keeps ws base w h beats (Back n) f = (base, back_keeps ws base w h beats n f)
call_keeps ws base w h beats Roll f = roll_keeps ws base w h beats f

-- from where the invariant holds, the law holds after any calls
lawful_from : (u : SetUp) (ws : List ℕ) (base : ℕ) (w : World) (h : History) (qs : List Asked) →
    w.engine.set_up ≡ u → Fits ws base w h → Holds u ws (after_lines u h (recorded_from w qs))
lawful_from u ws base w h [] e f = subst (λ (v : SetUp). Holds v ws h) e (fits_holds ws base w h f)
lawful_from u ws base w h (q ∷ qs) e f =
    let k = call_keeps ws base w h q.table q.call f in
    lawful_from u ws k.0 (perform q.table w q.call).after
    (after_line u h (line_of q.table q.call (perform q.table w q.call))) qs (k.1.same_set_up ∙ e)
    (subst
    (λ (v : SetUp). Fits ws k.0 (perform q.table w q.call).after
    (after_line v h (line_of q.table q.call (perform q.table w q.call))))
    e k.1.fits)

-- so every run of a new engine keeps the law
pub lawful : RunsAreLawful
lawful u ws qs = lawful_from u ws 0 (new_world u ws) (no_history ws) qs refl (new_fits u ws)
