-- The engine form: seven parts in their order, each a form with one item.
use Rattle.std.specs.Prelude.{Bool, true, false, Ok, Err, Option, Result}
use Rattle.forms.specs.Items.{bracket_at, item_at, name_in, number_in}
use Rattle.forms.specs.Names.{kind_named, part_named, policy_named}
use Rattle.forms.specs.Views.{Read, ◌>>=◌}
use Rattle.forms.specs.declared.form.EngineForm.{EngineForm}
use Rattle.forms.specs.declared.form_fault.FormFault.{FormFault}
use Rattle.forms.specs.declared.form_fault.FormFault.TheVariants.{Name}
use Rattle.forms.specs.declared.item.Bracket.TheVariants.{Open, Close}
use Rattle.forms.specs.declared.names.Part.{Part}
use Rattle.forms.specs.declared.names.Part.TheVariants.{Threads, Stripes, Shift, Limit, Words, Kind, Policy}
use Rattle.text.specs.Tokens.{Token, opening, closing, name, number, end, column_of, Spot, Taken, token_at}

-- the token is the name of the part
abbrev pub names_part : Part → Token → Bool
names_part p (opening c) = false
names_part p (closing c) = false
names_part p (name c n) = part_named p n
names_part p (number c ds) = false
names_part p (end c) = false

-- any other token is a wrong name
abbrev pub part_name : Taken → Bool → Read (Unit {0})
part_name t true = Ok (record { value = tt; after = t.after })
part_name t false = Err (Name (column_of t.token))

-- the opening bracket and the name of a part
abbrev pub part_begun : Part → Spot → Read (Unit {0})
part_begun p s = bracket_at Open s >>= λ b. part_name (token_at b.after) (names_part p (token_at b.after).token)

-- a part: its name and its item between brackets
abbrev pub part_at : {A : Type 0} → (Token → Option A) → Part → Spot → Read A
part_at in_token p s =
    part_begun p s >>= λ b.
    item_at in_token b.after >>= λ a.
    bracket_at Close a.after >>= λ c.
    Ok (record { value = a.value; after = c.after })

-- the engine form behind its name
abbrev pub engine_at : Spot → Result EngineForm FormFault
engine_at s =
    part_at number_in Threads s >>= λ t.
    part_at number_in Stripes t.after >>= λ n.
    part_at number_in Shift n.after >>= λ h.
    part_at number_in Limit h.after >>= λ l.
    part_at number_in Words l.after >>= λ w.
    part_at (name_in kind_named) Kind w.after >>= λ k.
    part_at (name_in policy_named) Policy k.after >>= λ p.
    bracket_at Close p.after >>= λ c.
    Ok (record { threads = t.value; stripes = n.value; shift = h.value; limit = l.value; words = w.value; kind = k.value; policy = p.value })
