-- Which byte may follow which in a form: an opening bracket, a name of lower-case letters, items each behind one
-- space, and a closing bracket. An item is a number without leading zeros, a name, or, in the outer form, a form.
use Rattle.std.specs.Prelude.{ℕ, cond, Some, None, Option, ◌==◌}
use Rattle.text.specs.Bytes.{is_letter, is_digit}
use Rattle.text.specs.declared.place.Depth.{Depth}
use Rattle.text.specs.declared.place.Depth.TheVariants.{Outer, Inner}
use Rattle.text.specs.declared.place.Place.{Place}
use Rattle.text.specs.declared.place.Place.TheVariants.{Start, Opened, InName, InNumber, Complete, Spaced, Done}

-- behind a closing bracket: the line is done, or an item of the outer form is
abbrev pub closed : Depth → Place
closed Outer = Done
closed Inner = Complete Outer

-- behind an item: a space or a closing bracket
abbrev pub ended : Depth → ℕ → Option Place
ended d b = cond (b == 32) (Some (Spaced d)) (cond (b == 41) (Some (closed d)) None)

-- an item of the outer form may be a form
abbrev pub bracketed : Depth → ℕ → Option Place
bracketed Outer b = cond (b == 40) (Some (Opened Inner)) None
bracketed Inner b = None

-- where an item begins: a name, a 0, which is complete, another number, or a form
abbrev pub item : Depth → ℕ → Option Place
item d b =
    cond (is_letter b)
    (Some (InName d))
    (cond (b == 48) (Some (Complete d)) (cond (is_digit b) (Some (InNumber d)) (bracketed d b)))

-- where a byte leads, if a form may go on with it
abbrev pub next : Place → ℕ → Option Place
next Start b = cond (b == 40) (Some (Opened Outer)) None
next (Opened d) b = cond (is_letter b) (Some (InName d)) None
next (InName d) b = cond (is_letter b) (Some (InName d)) (ended d b)
next (InNumber d) b = cond (is_digit b) (Some (InNumber d)) (ended d b)
next (Complete d) b = ended d b
next (Spaced d) b = item d b
next Done b = None
