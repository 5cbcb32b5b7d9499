-- Brackets and items, each with the place behind it. One that does not fit is a fault at its column, whatever stands
-- there: so an extra item is a fault where a closing bracket belongs, and a closing bracket where an item is missing.
use Rattle.std.specs.Prelude.{ℕ, List, Some, None, Ok, Err, Option}
use Rattle.forms.specs.Views.{Read}
use Rattle.forms.specs.declared.form_fault.FormFault.{FormFault}
use Rattle.forms.specs.declared.form_fault.FormFault.TheVariants.{Item}
use Rattle.forms.specs.declared.item.Bracket.{Bracket}
use Rattle.forms.specs.declared.item.Bracket.TheVariants.{Open, Close}
use Rattle.text.specs.Numerals.{numeral}
use Rattle.text.specs.Tokens.{Token, opening, closing, name, number, end, column_of, Spot, Taken, token_at}

-- the fault of a token that does not fit where it stands
abbrev pub misfit : Token → FormFault
misfit t = Item (column_of t)

-- the item that a token is, if it fits
abbrev pub item_of : {A : Type 0} → Taken → Option A → Read A
item_of t (Some a) = Ok (record { value = a; after = t.after })
item_of t None = Err (misfit t.token)

-- the item at a place, by what its token is
abbrev pub item_at : {A : Type 0} → (Token → Option A) → Spot → Read A
item_at in_token s = item_of (token_at s) (in_token (token_at s).token)

-- the bracket that a token is
abbrev pub bracket_in : Bracket → Token → Option (Unit {0})
bracket_in Open (opening c) = Some tt
bracket_in Open (closing c) = None
bracket_in Open (name c n) = None
bracket_in Open (number c ds) = None
bracket_in Open (end c) = None
bracket_in Close (opening c) = None
bracket_in Close (closing c) = Some tt
bracket_in Close (name c n) = None
bracket_in Close (number c ds) = None
bracket_in Close (end c) = None

abbrev pub bracket_at : Bracket → Spot → Read (Unit {0})
bracket_at b s = item_at (bracket_in b) s

-- the number that a token writes, if it fits 32 bits
abbrev pub number_in : Token → Option ℕ
number_in (opening c) = None
number_in (closing c) = None
number_in (name c n) = None
number_in (number c ds) = numeral ds
number_in (end c) = None

-- what a token names
abbrev pub name_in : {A : Type 0} → (List ℕ → Option A) → Token → Option A
name_in named (opening c) = None
name_in named (closing c) = None
name_in named (name c n) = named n
name_in named (number c ds) = None
name_in named (end c) = None
