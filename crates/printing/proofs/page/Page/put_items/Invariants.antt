use Rattle.std.proofs.Common.{◌+◌, ◌*◌, ◌≤◌, length, take}
use Rattle.printing.specs.Forms.{items_of}
use Rattle.printing.specs.Pages.{Printed}
use Rattle.printing.proofs.page.Page.put_items.Given as goal

-- the numbers so far are printed
abbrev pub invariant-loop-number : goal.invariant-loop-number
invariant-loop-number g l =
    Printed (items_of g.I.Integer.text (take l.number-index l.numbers)) l.initial.self l.self ×
    (length (items_of g.I.Integer.text (take l.number-index l.numbers)) ≤ l.number-index * (g.I.Integer.MAX_STR_LEN + 1))
