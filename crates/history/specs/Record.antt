-- The record of a run, and the transactions that it shows.
use Rattle.std.specs.Prelude.{ℕ, zero, suc, Bool, true, false, cond, not, ◌&&◌, ◌||◌, List, [], ◌∷◌, ◌++◌, length, Some, None, Option, ◌==◌, slice_set}
use Rattle.common.specs.declared.loss.Loss.{Loss}
use Rattle.layout.specs.declared.set_up.SetUp.{SetUp}
use Rattle.rules.specs.Outcomes.{Table}
use Rattle.rules.specs.declared.answer.Answer.{Answer}
use Rattle.rules.specs.declared.answer.Answer.TheVariants.{Done, Word, Sealed, Left, Back as WentBack, Refused, Lost}
use Rattle.rules.specs.declared.call.Call.{Call}
use Rattle.rules.specs.declared.call.Call.TheVariants.{Begin, Load, Store, Seal, Drain, Back, Roll}
use Rattle.rules.specs.declared.ending.Ending.{Ending}
use Rattle.rules.specs.declared.ending.Ending.TheVariants.{GivenUp, Lost as EndedLost}
use Rattle.rules.specs.declared.ending.Sealed.{Sealed as SealKind}
use Rattle.rules.specs.declared.ending.Sealed.TheVariants.{Reader, Updater}

-- what an observer sees of one call: the policy's table at its start, the call and its answer, and after it the
-- words of the store and the loss that the engine keeps for each thread, if any
pub record Line : Type 0 where
  pub table : Table
  pub call : Call
  pub answer : Answer
  pub words : List ℕ
  pub losses : ℕ → Option Loss

-- a transaction's work: its thread, the moments of its begin and of its last loaded word (of its begin if it loaded
-- nothing), its calls after the begin without refused and losing ones, the words that they loaded, both newest first,
-- and its number if it is a sealed updater. A moment is a count of the updaters sealed so far; their numbers are from 0
pub record Work : Type 0 where
  pub thread : ℕ
  pub begun : ℕ
  pub loaded_at : ℕ
  pub calls : List Call
  pub loaded : List ℕ
  pub number : Option ℕ

-- how a transaction was lost: why, at which moment, and whether its thread led at each call from its begin to then
pub record Fall : Type 0 where
  pub cause : Loss
  pub moment : ℕ
  pub led : Bool

-- a transaction: its work, whether its thread led at each call since its begin, and its fall if it was lost
pub record Transaction : Type 0 where
  pub work : Work
  pub led : Bool
  pub fall : Option Fall

-- a run so far: the words of the store, the sealed updaters in seal order, the latest transaction of each thread, and
-- all transactions before those
pub record History : Type 0 where
  pub stored : List ℕ
  pub updaters : List Work
  pub present : ℕ → Transaction
  pub past : List Transaction

-- the work of a thread's transaction that begins at this moment
abbrev pub no_work : ℕ → ℕ → Work
no_work n m = record { thread = n; begun = m; loaded_at = m; calls = []; loaded = []; number = None }

abbrev pub newborn : ℕ → ℕ → Transaction
newborn n m = record { work = no_work n m; led = true; fall = None }

-- before the first call; a thread that has begun nothing yet has an empty transaction
abbrev pub no_history : List ℕ → History
no_history ws = record { stored = ws; updaters = []; present = λ n. newborn n 0; past = [] }

-- the thread that makes a call; a roll has none
abbrev pub caller : Call → ℕ
caller (Begin n) = n
caller (Load n a) = n
caller (Store n a v) = n
caller (Seal n) = n
caller (Drain n) = n
caller (Back n) = n
caller Roll = 0

-- what a call, by its answer, does to its thread's transaction
pub data Deed : Type 0 where
  -- nothing: it was refused, it lost the transaction, or it is no thread's
  none : Deed
  -- it begins the next one
  begins : Deed
  -- it makes it a sealed updater
  seals : Deed
  -- it loads this word
  loads : ℕ → Deed
  -- it is one call more
  goes_on : Deed

abbrev pub deed_done : Call → Deed
deed_done (Begin n) = begins
deed_done (Load n a) = goes_on
deed_done (Store n a v) = goes_on
deed_done (Seal n) = goes_on
deed_done (Drain n) = goes_on
deed_done (Back n) = goes_on
deed_done Roll = none

abbrev pub deed_sealed : SealKind → Deed
deed_sealed (Reader e) = goes_on
deed_sealed (Updater t) = seals

abbrev pub deed : Call → Answer → Deed
deed c Done = deed_done c
deed c (Word v) = loads v
deed c (Sealed s) = deed_sealed s
deed c (Left k) = goes_on
deed c (WentBack e) = goes_on
deed c (Refused r) = none
deed c (Lost l) = none

-- the work with one more call
abbrev pub called : Call → Work → Work
called c w = record w { calls = c ∷ w.calls }

-- the work with one more call, a load that was answered this word at this moment
abbrev pub called_load : Call → ℕ → ℕ → Work → Work
called_load c m v w = record w { loaded_at = m; calls = c ∷ w.calls; loaded = v ∷ w.loaded }

-- the work with one more call, a seal that made it the updater of this number
abbrev pub called_seal : Call → ℕ → Work → Work
called_seal c k w = record w { calls = c ∷ w.calls; number = Some k }

abbrev pub with_work : Transaction → Work → Transaction
with_work t w = record t { work = w }

-- the caller's transaction after a deed at this moment
abbrev pub acted : Call → ℕ → Transaction → Deed → Transaction
acted c m t none = t
acted c m t begins = newborn (caller c) m
acted c m t seals = with_work t (called_seal c m t.work)
acted c m t (loads v) = with_work t (called_load c m v t.work)
acted c m t goes_on = with_work t (called c t.work)

-- the updaters with the work of this number replaced
abbrev pub rewritten : Option ℕ → Work → List Work → List Work
rewritten None w us = us
rewritten (Some k) w us = slice_set us k w

-- the updaters after a deed of a transaction that had this number, and has done this work now
abbrev pub sealed_after : Deed → Option ℕ → Work → List Work → List Work
sealed_after none k w us = us
sealed_after begins k w us = us
sealed_after seals k w us = rewritten k w us ++ w ∷ []
sealed_after (loads v) k w us = rewritten k w us
sealed_after goes_on k w us = rewritten k w us

-- the past after a deed; a begin sends the thread's latest transaction there
abbrev pub past_after : Deed → Transaction → List Transaction → List Transaction
past_after none t ts = ts
past_after begins t ts = t ∷ ts
past_after seals t ts = ts
past_after (loads v) t ts = ts
past_after goes_on t ts = ts

-- the thread beats every other one of the threads up to this number, and none of them beats it
abbrev pub leads : Table → ℕ → ℕ → Bool
leads beats n zero = true
leads beats n (suc m) = (suc m == n || (beats n (suc m) && not (beats (suc m) n))) && leads beats n m

-- the transaction when a call starts at which its thread leads or not
abbrev pub watched : Bool → Transaction → Transaction
watched b t = record t { led = t.led && b }

-- the loss that an answer tells its caller
abbrev pub ended_loss : Ending → Option Loss
ended_loss GivenUp = None
ended_loss (EndedLost l) = Some l

abbrev pub told_loss : Answer → Option Loss
told_loss Done = None
told_loss (Word v) = None
told_loss (Sealed s) = None
told_loss (Left k) = None
told_loss (WentBack e) = ended_loss e
told_loss (Refused r) = None
told_loss (Lost l) = Some l

abbrev pub or_else : Option Loss → Option Loss → Option Loss
or_else (Some l) o = Some l
or_else None o = o

-- the loss of a thread that a line shows: told to it, or kept for it
abbrev pub shown_loss : Line → ℕ → Option Loss
shown_loss l n = cond (n == caller l.call) (or_else (told_loss l.answer) (l.losses n)) (l.losses n)

-- the transaction when this loss is seen at this moment; only its first one counts
abbrev pub first_fall : Loss → ℕ → Transaction → Option Fall → Transaction
first_fall l m t (Some f) = t
first_fall l m t None =
    record t { fall = Some (record { cause = l; moment = m; led = t.led }) }

abbrev pub fallen : ℕ → Transaction → Option Loss → Transaction
fallen m t None = t
fallen m t (Some l) = first_fall l m t t.fall

-- a thread's latest transaction after its part in a line, as caller or not
abbrev pub took_part : Line → ℕ → Deed → Transaction → Bool → Transaction
took_part l m d t true = acted l.call m t d
took_part l m d t false = t

-- a thread's latest transaction after a line at this moment
abbrev pub present_after : SetUp → ℕ → Line → Deed → ℕ → Transaction → Transaction
present_after u m l d n t =
    fallen m (took_part l m d (watched (leads l.table n u.threads) t) (n == caller l.call)) (shown_loss l n)

abbrev pub after_deed : SetUp → History → Line → Transaction → Deed → History
after_deed u h l t d = record {
  stored = l.words;
  updaters = sealed_after d t.work.number (acted l.call (length h.updaters) t d).work h.updaters;
  present = λ n. present_after u (length h.updaters) l d n (h.present n);
  past = past_after d t h.past;
}

-- a run with one more line
abbrev pub after_line : SetUp → History → Line → History
after_line u h l = after_deed u h l (h.present (caller l.call)) (deed l.call l.answer)

-- a run with these lines more
abbrev pub after_lines : SetUp → History → List Line → History
after_lines u h [] = h
after_lines u h (l ∷ ls) = after_lines u (after_line u h l) ls

-- the run of a record that started from these words
abbrev pub history : SetUp → List ℕ → List Line → History
history u ws ls = after_lines u (no_history ws) ls
