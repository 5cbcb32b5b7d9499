-- The faults of a line, by number and column.
use Rattle.std.specs.Prelude.{ℕ}
use Rattle.forms.specs.declared.form_fault.FormFault.{FormFault}
use Rattle.forms.specs.declared.form_fault.FormFault.TheVariants.{Text, Name, Item, Order}

-- the number of a fault
abbrev pub fault_number : FormFault → ℕ
fault_number (Text f) = 41
fault_number (Name c) = 42
fault_number (Item c) = 43
fault_number Order = 44

-- the column of a fault; a form that is not due is wrong from its start
abbrev pub fault_column : FormFault → ℕ
fault_column (Text f) = f.column
fault_column (Name c) = c
fault_column (Item c) = c
fault_column Order = 1
