-- Where the columns of a line's reply lie.
use Rattle.std.proofs.Common.{◌≡◌, ℕ, ◌+◌, ◌≤◌, Bool, true, false, cond, eqb, leb, List, [], ◌∷◌, length, Ok, Err, Result, refl, ap, arith}
use Rattle.common.specs.declared.refusal.Refusal.{Refusal}
use Rattle.forms.proofs.Columns.{columns_within}
use Rattle.forms.specs.Forms.{form_of}
use Rattle.forms.specs.declared.form.EngineForm.{EngineForm}
use Rattle.forms.specs.declared.form.Form.{Form}
use Rattle.forms.specs.declared.form.Form.TheVariants.{Engine, Call, Peek}
use Rattle.forms.specs.declared.form_fault.FormFault.{FormFault}
use Rattle.layout.specs.declared.set_up.SetUp.{SetUp}
use Rattle.rules.specs.Outcomes.{Table}
use Rattle.rules.specs.Peek.{peek}
use Rattle.rules.specs.States.{World}
use Rattle.session.specs.Lengths.{reply_column}
use Rattle.session.specs.Openings.{opening, form_opening, set_up_opening, sized_opening}
use Rattle.session.specs.SetUps.{set_up_of}
use Rattle.session.specs.Turns.{form_turn, line_turn, peek_reply}
use Rattle.session.specs.declared.opening.Opening.{Opening}
use Rattle.session.specs.declared.reply.Reply.{Reply}
use Rattle.text.specs.Lines.{Line, lengthened, lines}

peek_column : (r : Result ℕ Refusal) → reply_column (peek_reply r) ≡ 0
peek_column (Ok b) = refl
peek_column (Err d) = refl

form_turn_column : (beats : Table) (w : World) (l : Line) (r : Result Form FormFault) → form_of l true ≡ r → reply_column (form_turn beats w r).reply ≤ length l.bytes + 1
form_turn_column beats w l (Err f) e = columns_within l true f e
form_turn_column beats w l (Ok (Call c)) e = omega arith
form_turn_column beats w l (Ok (Peek s)) e = omega (arith, peek_column (peek w.engine s))
form_turn_column beats w l (Ok (Engine g)) e = omega arith

-- a line's reply names a column of the line, or one past its end
pub line_turn_column : (beats : Table) (w : World) (l : Line) → reply_column (line_turn beats w l).reply ≤ length l.bytes + 1
line_turn_column beats w l = form_turn_column beats w l (form_of l true) refl

-- the column that an opening names
opening_column : Result Opening Reply → ℕ
opening_column (Err r) = reply_column r
opening_column (Ok p) = 0

sized_column : (e : EngineForm) (u : SetUp) (ok : Bool) (q : leb e.words 256 ≡ ok) → opening_column (sized_opening e u ok q) ≡ 0
unfolding opening_column
sized_column e u true q = refl
sized_column e u false q = refl

set_up_column : (e : EngineForm) (r : Result SetUp Refusal) → opening_column (set_up_opening e r) ≡ 0
unfolding opening_column
set_up_column e (Ok u) = sized_column e u (leb e.words 256) refl
set_up_column e (Err d) = refl

form_opening_column : (l : Line) (r : Result Form FormFault) → form_of l false ≡ r → opening_column (form_opening r) ≤ length l.bytes + 1
unfolding opening_column
form_opening_column l (Err f) e = columns_within l false f e
form_opening_column l (Ok (Engine g)) e =
    omega (arith, set_up_column g (set_up_of g.threads g.stripes g.shift g.limit))
form_opening_column l (Ok (Call c)) e = omega arith
form_opening_column l (Ok (Peek s)) e = omega arith

-- so does the reply to a line before there is an engine
pub opening_within : (l : Line) (r : Reply) → Err r ≡ opening l → reply_column r ≤ length l.bytes + 1
unfolding opening_column
opening_within l r o = omega (arith, ap opening_column o, form_opening_column l (form_of l false) refl)

-- how long the first line is

first_length : List Line → ℕ
first_length [] = 0
first_length (l ∷ ls) = length l.bytes

lengthened_first : (b : ℕ) (ls : List Line) → first_length (lengthened b ls) ≤ first_length ls + 1
unfolding first_length
lengthened_first b [] = omega arith
lengthened_first b (l ∷ ls) = omega arith

first_within : (bs : List ℕ) → first_length (lines bs) ≤ length bs
unfolding first_length lines
first_within [] = omega arith
first_within (b ∷ bs) =
    elim (eqb b 10) as (λ t. first_length (cond t (record { bytes = []; ended = true } ∷ lines bs) (lengthened b (lines bs))) ≤ length (b ∷ bs)) [
      | true ↦ omega arith
      | false ↦ omega (arith, lengthened_first b (lines bs), first_within bs)
    ]

-- a line is no longer than its script
pub line_within : (l : Line) (ls : List Line) (bs : List ℕ) → l ∷ ls ≡ lines bs → length l.bytes ≤ length bs
unfolding first_length
line_within l ls bs e = omega (arith, ap first_length e, first_within bs)

lengthened_few : (b : ℕ) (ls : List Line) → length (lengthened b ls) ≤ length ls + 1
lengthened_few b [] = omega arith
lengthened_few b (l ∷ ls) = omega arith

-- a script has no more lines than bytes
pub lines_few : (bs : List ℕ) → length (lines bs) ≤ length bs
unfolding lines
lines_few [] = omega arith
lines_few (b ∷ bs) =
    elim (eqb b 10) as (λ t. length (cond t (record { bytes = []; ended = true } ∷ lines bs) (lengthened b (lines bs))) ≤ length (b ∷ bs)) [
      | true ↦ omega (arith, lines_few bs)
      | false ↦ omega (arith, lengthened_few b (lines bs), lines_few bs)
    ]
