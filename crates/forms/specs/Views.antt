-- What a reader gives, as the definitions see it: a value with the place behind it, or a fault.
use Rattle.forms.specs.declared.form_fault.FormFault.{FormFault}
use Rattle.text.specs.Tokens.{Spot}
use Rattle.text.specs.Views.{spot}
use Rattle.text.specs.declared.cursor.Cursor.{Cursor}
use Rattle.std.specs.Prelude.{Ok, Err, Result}

-- a value read from a line, and the place behind it
pub record Reading (A : Type 0) : Type 0 where
  pub value : A
  pub after : Spot

-- a reading, or a fault
abbrev pub Read : Type 0 → Type 0
Read A = Result (Reading A) FormFault

-- what a reader returned, with the place where it left the cursor
abbrev pub reading_view : {A : Type 0} → Result A FormFault → Cursor → Read A
reading_view (Ok a) c = Ok (record { value = a; after = spot c })
reading_view (Err f) c = Err f

-- what is done next, unless there was a fault
infixl 10 ◌>>=◌
abbrev pub ◌>>=◌ : {A B : Type 0} → Result A FormFault → (A → Result B FormFault) → Result B FormFault
(Ok a) >>= next = next a
(Err f) >>= next = Err f
