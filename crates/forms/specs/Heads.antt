-- The name that heads a line's form.
use Rattle.std.specs.Prelude.{ℕ, Bool, cond, not, List, Some, None, Ok, Err, codes, Option}
use Rattle.forms.specs.Items.{name_in}
use Rattle.forms.specs.Names.{spells}
use Rattle.forms.specs.Views.{Read}
use Rattle.forms.specs.declared.form_fault.FormFault.TheVariants.{Name}
use Rattle.forms.specs.declared.head.Head.{Head}
use Rattle.forms.specs.declared.head.Head.TheVariants.{Engine, Call, Roll, Peek}
use Rattle.rules.specs.declared.kind.Kind.TheVariants.{Begin, Load, Store, Seal, Drain, Back}
use Rattle.text.specs.Tokens.{column_of, Spot, Taken, token_at}

-- the form that a name heads
abbrev pub head_named : List ℕ → Option Head
head_named n =
    cond (spells n (codes "engine")) (Some Engine)
    (cond (spells n (codes "begin")) (Some (Call Begin))
    (cond (spells n (codes "load")) (Some (Call Load))
    (cond (spells n (codes "store")) (Some (Call Store))
    (cond (spells n (codes "seal")) (Some (Call Seal))
    (cond (spells n (codes "drain")) (Some (Call Drain))
    (cond (spells n (codes "back")) (Some (Call Back))
    (cond (spells n (codes "roll")) (Some Roll)
    (cond (spells n (codes "peek")) (Some Peek) None))))))))

-- the form may come now: an engine where there is none, any other behind it
abbrev pub is_due : Head → Bool → Bool
is_due Engine has_engine = not has_engine
is_due (Call c) has_engine = has_engine
is_due Roll has_engine = has_engine
is_due Peek has_engine = has_engine

-- a token that heads no form is a wrong name
abbrev pub head_of : Taken → Option Head → Read Head
head_of t (Some h) = Ok (record { value = h; after = t.after })
head_of t None = Err (Name (column_of t.token))

-- the head is the token behind the first, which is the opening bracket
abbrev pub head_behind : Taken → Read Head
head_behind t = head_of (token_at t.after) (name_in head_named (token_at t.after).token)

-- the head of the form that begins at a place
abbrev pub head_at : Spot → Read Head
head_at s = head_behind (token_at s)
