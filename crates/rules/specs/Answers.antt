-- What each call returns, as an answer.
use Rattle.std.specs.Prelude.{ℕ, Ok, Err, Result}
use Rattle.common.specs.declared.refusal.Refusal.{Refusal}
use Rattle.rules.specs.declared.answer.Answer.{Answer}
use Rattle.rules.specs.declared.answer.Answer.TheVariants.{Done, Word, Sealed, Left, Back, Refused, Lost}
use Rattle.rules.specs.declared.ending.Ending.{Ending}
use Rattle.rules.specs.declared.ending.Sealed.{Sealed as Seal}
use Rattle.rules.specs.declared.stop.Stop.{Stop}
use Rattle.rules.specs.declared.stop.Stop.TheVariants.{Refused as StopRefused, Lost as StopLost}

-- why a load, a store or a seal did not go through
abbrev pub stop_answer : Stop → Answer
stop_answer (StopRefused r) = Refused r
stop_answer (StopLost l) = Lost l

-- what a begin or a roll returns
abbrev pub begin_answer : Result (Unit {0}) Refusal → Answer
begin_answer (Ok _) = Done
begin_answer (Err r) = Refused r

-- what a load returns
abbrev pub load_answer : Result ℕ Stop → Answer
load_answer (Ok v) = Word v
load_answer (Err s) = stop_answer s

-- what a store returns
abbrev pub store_answer : Result (Unit {0}) Stop → Answer
store_answer (Ok _) = Done
store_answer (Err s) = stop_answer s

-- what a seal returns
abbrev pub seal_answer : Result Seal Stop → Answer
seal_answer (Ok s) = Sealed s
seal_answer (Err s) = stop_answer s

-- what a drain returns
abbrev pub drain_answer : Result ℕ Refusal → Answer
drain_answer (Ok k) = Left k
drain_answer (Err r) = Refused r

-- what a back returns
abbrev pub back_answer : Result Ending Refusal → Answer
back_answer (Ok e) = Back e
back_answer (Err r) = Refused r
