-- Whether a line is a form.
use Rattle.std.specs.Prelude.{ℕ, ◌+◌, Bool, false, cond, List, [], ◌∷◌, length, Some, None, Ok, Err, Result}
use Rattle.text.specs.Lines.{Line}
use Rattle.text.specs.Places.{next}
use Rattle.text.specs.declared.place.Place.{Place}
use Rattle.text.specs.declared.place.Place.TheVariants.{Start, Opened, InName, InNumber, Complete, Spaced, Done}
use Rattle.text.specs.declared.text_fault.TextFault.{TextFault}

-- the place to which bytes lead that begin at a place and a column; or the column of the first that leads nowhere
unfoldable pub reached : Place → ℕ → List ℕ → Result Place TextFault
reached p c [] = Ok p
reached p c (b ∷ bs) = elim (next p b) [ None ↦ Err (record { column = c }) | Some q ↦ reached q (c + 1) bs ]

-- where the line ends: a form is done, and a line feed stands behind it
abbrev pub is_over : Place → Bool → Bool
is_over Start e = false
is_over (Opened d) e = false
is_over (InName d) e = false
is_over (InNumber d) e = false
is_over (Complete d) e = false
is_over (Spaced d) e = false
is_over Done e = e

-- whether a line is a form, or the first column at which none goes on, or one past the end
abbrev pub text_verdict : Line → Result (Unit {0}) TextFault
text_verdict l = elim (reached Start 1 l.bytes) [
  | Err f ↦ Err f
  | Ok p ↦ cond (is_over p l.ended) (Ok tt) (Err (record { column = length l.bytes + 1 }))
]
