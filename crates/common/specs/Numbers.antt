-- The numbers of refusals and losses: one table for contracts, console and documents.
use Rattle.std.specs.Prelude.{ℕ}
use Rattle.common.specs.declared.refusal.Refusal.{Refusal}
use Rattle.common.specs.declared.refusal.Refusal.TheVariants.{ThreadCount, StripeCount, Shift, ClockLimit, LockWord, NoSuchThread, WrongState, AlreadyLost, RollPending, NoSuchPlace, LogFull, StripeBusy, RollNotDue, ThreadsActive, AlreadyClaimed}
use Rattle.common.specs.declared.loss.Loss.{Loss}
use Rattle.common.specs.declared.loss.Loss.TheVariants.{Beaten, Invalid, ClockSpent, Stolen}

-- the number of a refusal
abbrev pub refusal_number : Refusal → ℕ
refusal_number ThreadCount = 1
refusal_number StripeCount = 2
refusal_number Shift = 3
refusal_number ClockLimit = 4
refusal_number LockWord = 5
refusal_number NoSuchThread = 11
refusal_number WrongState = 12
refusal_number AlreadyLost = 13
refusal_number RollPending = 14
refusal_number NoSuchPlace = 15
refusal_number LogFull = 16
refusal_number StripeBusy = 17
refusal_number RollNotDue = 18
refusal_number ThreadsActive = 19
refusal_number AlreadyClaimed = 31

-- the number of a loss
abbrev pub loss_cause : Loss → ℕ
loss_cause (Beaten h) = 21
loss_cause (Invalid s) = 22
loss_cause ClockSpent = 23
loss_cause (Stolen t) = 24

-- the thread or the stripe that the cause names
abbrev pub loss_detail : Loss → ℕ
loss_detail (Beaten h) = h
loss_detail (Invalid s) = s
loss_detail ClockSpent = 0
loss_detail (Stolen t) = t
