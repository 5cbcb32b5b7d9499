-- Which ticket is in hand after each call, by what the numbered call answers.
use Rattle.std.specs.Prelude.{ℕ, cond, Ok, Err, Result, ◌==◌}
use Rattle.common.specs.declared.refusal.Refusal.{Refusal}
use Rattle.rules.specs.declared.ending.Ending.{Ending}
use Rattle.rules.specs.declared.ending.Sealed.{Sealed as Seal}
use Rattle.rules.specs.declared.ending.Sealed.TheVariants.{Reader, Updater}
use Rattle.rules.specs.declared.stop.Stop.{Stop}

-- a ticket by its kind and the number of its thread
pub data Hand : Type 0 where
  idle : ℕ → Hand
  running : ℕ → Hand
  sealed : ℕ → Hand

-- a begin opens; refused, the ticket stays idle
abbrev pub begin_hand : ℕ → Result (Unit {0}) Refusal → Hand
begin_hand n (Ok _) = running n
begin_hand n (Err r) = idle n

-- a reader is done, an updater is to be drained
abbrev pub sealed_hand : ℕ → Seal → Hand
sealed_hand n (Reader snapshot) = idle n
sealed_hand n (Updater ticket) = sealed n

-- a seal that was refused or lost leaves the ticket open
abbrev pub seal_hand : ℕ → Result Seal Stop → Hand
seal_hand n (Ok s) = sealed_hand n s
seal_hand n (Err s) = running n

-- a ticket is sealed while words are left to drain; a refused drain has none
abbrev pub drain_hand : ℕ → Result ℕ Refusal → Hand
drain_hand n (Ok left) = cond (left == 0) (idle n) (sealed n)
drain_hand n (Err r) = idle n

-- a back ends the transaction; refused, the ticket stays open
abbrev pub back_hand : ℕ → Result Ending Refusal → Hand
back_hand n (Ok e) = idle n
back_hand n (Err r) = running n
