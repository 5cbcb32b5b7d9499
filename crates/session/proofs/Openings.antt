-- An engine of at most 256 words is accepted, however that is known.
use Rattle.std.proofs.Common.{◌≡◌, ◌≤◌, Bool, true, false, leb, Ok, ap, arith, leb-true, leb-false, refl}
use native.Mathlib.Bridge.{le_prop}
use mathlib.Core.HLevel.{is_prop→PathP}
use Rattle.forms.specs.declared.form.EngineForm.{EngineForm}
use Rattle.layout.specs.declared.set_up.SetUp.{SetUp}
use Rattle.session.specs.Openings.{sized_opening}
use Rattle.session.specs.declared.opening.Opening.{Opening}

same_small : (e : EngineForm) (u : SetUp) (a b : e.words ≤ 256) → ◌≡◌ {A = Opening} (record { set_up = u; engine = e; small = a }) (record { set_up = u; engine = e; small = b })
same_small e u a b = λ i. record { set_up = u; engine = e; small = is_prop→PathP (λ k. e.words ≤ 256) (λ k. le_prop) a b i }

accepted : (e : EngineForm) (u : SetUp) (small : e.words ≤ 256) (ok : Bool) (q : leb e.words 256 ≡ ok) → Ok (record { set_up = u; engine = e; small = small }) ≡ sized_opening e u ok q
accepted e u small true q = ap Ok (same_small e u small (leb-true e.words 256 q))
accepted e u small false q = absurd (omega (arith, small, leb-false e.words 256 q))

-- an engine of at most 256 words is accepted
pub small_accepted : (e : EngineForm) (u : SetUp) (small : e.words ≤ 256) → Ok (record { set_up = u; engine = e; small = small }) ≡ sized_opening e u (leb e.words 256) refl
small_accepted e u small = accepted e u small (leb e.words 256) refl
