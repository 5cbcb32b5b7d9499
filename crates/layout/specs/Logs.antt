-- What a log holds.
use Rattle.std.specs.Prelude.{ℕ, cond, List, take, Ok, Err, Result, nat_lt}
use Rattle.common.specs.declared.refusal.Refusal.{Refusal}
use Rattle.common.specs.declared.refusal.Refusal.TheVariants.{LogFull}
use Rattle.layout.specs.declared.log.Log.{Log}

-- the logged entries, the oldest first
abbrev pub logged : {E : Type 0} → Log E → List E
logged l = take l.len l.entries

-- whether a log of so many entries has room for one more
abbrev pub room_or_refusal : ℕ → Result (Unit {0}) Refusal
room_or_refusal n = cond (nat_lt n 32) (Ok tt) (Err LogFull)
