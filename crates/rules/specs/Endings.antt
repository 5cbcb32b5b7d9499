-- The numbers of a transaction's ending: 20 and 0 where its thread gave it up, else those of the loss.
use Rattle.std.specs.Prelude.{ℕ}
use Rattle.common.specs.Numbers.{loss_cause, loss_detail}
use Rattle.rules.specs.declared.ending.Ending.{Ending}
use Rattle.rules.specs.declared.ending.Ending.TheVariants.{GivenUp, Lost}

-- the number of the cause
abbrev pub ending_cause : Ending → ℕ
ending_cause GivenUp = 20
ending_cause (Lost l) = loss_cause l

-- the thread or the stripe that the cause names, or 0
abbrev pub ending_detail : Ending → ℕ
ending_detail GivenUp = 0
ending_detail (Lost l) = loss_detail l
