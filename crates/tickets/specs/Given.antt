-- What each ticket call returns, taken apart: what the numbered call returns, and the ticket in hand.
use Rattle.std.specs.Prelude.{◌≡◌, ℕ, Ok, Err, Result}
use Rattle.common.specs.declared.refusal.Refusal.{Refusal}
use Rattle.rules.specs.declared.ending.Ending.{Ending}
use Rattle.rules.specs.declared.ending.Sealed.{Sealed as Seal}
use Rattle.rules.specs.declared.ending.Sealed.TheVariants.{Reader as ReaderSeal, Updater as UpdaterSeal}
use Rattle.rules.specs.declared.stop.Stop.{Stop}
use Rattle.std.specs.Result.{result_map_both}
use Rattle.tickets.specs.Hands.{Hand, idle, running, sealed}
use Rattle.tickets.specs.declared.outcomes.Drained.{Drained}
use Rattle.tickets.specs.declared.outcomes.Drained.TheVariants.{More, All}
use Rattle.tickets.specs.declared.outcomes.Ended.{Ended}
use Rattle.tickets.specs.declared.outcomes.Kept.{Kept}
use Rattle.tickets.specs.declared.outcomes.Sealing.{Sealing}
use Rattle.tickets.specs.declared.outcomes.Sealing.TheVariants.{Reader, Updater}
use Rattle.tickets.specs.declared.ticket.Idle.{Idle}
use Rattle.tickets.specs.declared.ticket.Open.{Open}
use Rattle.tickets.specs.declared.ticket.Ticket.{Ticket}

abbrev pub IdleTicket : Type 0
IdleTicket = Ticket Idle

abbrev pub OpenTicket : Type 0
OpenTicket = Ticket Open

-- what a call gave, or why it did not go through
abbrev pub given : {A B T E : Type 0} → (A → B) → Result A (Kept T E) → Result B E
given f r = result_map_both f (λ k. k.reason) r

-- the ticket in hand after a call: what it gave leads to one, and what was kept has one
abbrev pub left : {A T E : Type 0} → (A → Hand) → (T → Hand) → Result A (Kept T E) → Hand
left f g (Ok a) = f a
left f g (Err k) = g k.ticket

-- an idle and an open ticket, by the number of its thread
abbrev pub idle_hand : IdleTicket → Hand
idle_hand t = idle t.thread.number

abbrev pub open_hand : OpenTicket → Hand
open_hand t = running t.thread.number

-- claim: the number of the thread whose ticket is given
abbrev pub claim_given : Result IdleTicket Refusal → Result ℕ Refusal
claim_given r = result_map_both (λ t. t.thread.number) (λ e. e) r

-- begin

abbrev pub begin_given : Result OpenTicket (Kept IdleTicket Refusal) → Result (Unit {0}) Refusal
begin_given r = given (λ t. tt) r

abbrev pub begin_left : Result OpenTicket (Kept IdleTicket Refusal) → Hand
begin_left r = left open_hand idle_hand r

-- seal

abbrev pub sealing : Sealing → Seal
sealing (Reader t snapshot) = ReaderSeal snapshot
sealing (Updater t number) = UpdaterSeal number

abbrev pub sealing_left : Sealing → Hand
sealing_left (Reader t snapshot) = idle t.thread.number
sealing_left (Updater t number) = sealed t.thread.number

abbrev pub seal_given : Result Sealing (Kept OpenTicket Stop) → Result Seal Stop
seal_given r = given sealing r

abbrev pub seal_left : Result Sealing (Kept OpenTicket Stop) → Hand
seal_left r = left sealing_left open_hand r

-- the sealed ticket of a seal has the number that the seal gave
abbrev pub seal_numbers : Result Sealing (Kept OpenTicket Stop) → Type 0
seal_numbers (Ok (Reader t snapshot)) = Unit {0}
seal_numbers (Ok (Updater t number)) = t.state.number ≡ number
seal_numbers (Err k) = Unit {0}

-- drain

abbrev pub draining : Drained → ℕ
draining (More t left) = left
draining (All t) = 0

abbrev pub draining_left : Drained → Hand
draining_left (More t left) = sealed t.thread.number
draining_left (All t) = idle t.thread.number

abbrev pub drain_given : Result Drained (Kept IdleTicket Refusal) → Result ℕ Refusal
drain_given r = given draining r

abbrev pub drain_left : Result Drained (Kept IdleTicket Refusal) → Hand
drain_left r = left draining_left idle_hand r

-- the sealed ticket that a drain leaves has the number that it had
abbrev pub drain_numbers : ℕ → Result Drained (Kept IdleTicket Refusal) → Type 0
drain_numbers n (Ok (More t left)) = t.state.number ≡ n
drain_numbers n (Ok (All t)) = Unit {0}
drain_numbers n (Err k) = Unit {0}

-- back

abbrev pub back_given : Result Ended (Kept OpenTicket Refusal) → Result Ending Refusal
back_given r = given (λ e. e.ending) r

abbrev pub back_left : Result Ended (Kept OpenTicket Refusal) → Hand
back_left r = left (λ e. idle_hand e.ticket) open_hand r

-- drains to the end: no word is left, or the drain is refused

abbrev pub finish_given : Result IdleTicket (Kept IdleTicket Refusal) → Result ℕ Refusal
finish_given r = given (λ t. 0) r

abbrev pub finish_left : Result IdleTicket (Kept IdleTicket Refusal) → Hand
finish_left r = left idle_hand idle_hand r
