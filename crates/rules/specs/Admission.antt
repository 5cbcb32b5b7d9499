-- Which calls a thread's number and state let in.
use Rattle.std.specs.Prelude.{ℕ, Bool, true, false, cond, ◌&&◌, ◌||◌, Ok, Err, Result, nat_le}
use Rattle.common.specs.declared.refusal.Refusal.{Refusal}
use Rattle.common.specs.declared.refusal.Refusal.TheVariants.{NoSuchThread, WrongState, AlreadyLost}
use Rattle.layout.specs.declared.set_up.SetUp.{SetUp}
use Rattle.rules.specs.States.{State, thread_of}
use Rattle.rules.specs.declared.kind.Kind.{Kind}
use Rattle.rules.specs.declared.kind.Kind.TheVariants.{Begin, Load, Store, Seal, Drain, Back}
use Rattle.rules.specs.declared.phase.Phase.{Phase}
use Rattle.rules.specs.declared.phase.Phase.TheVariants.{Idle, Running, Sealed, Lost}

-- the thread has no transaction
abbrev pub is_idle : Phase → Bool
is_idle Idle = true
is_idle Running = false
is_idle (Sealed t d) = false
is_idle (Lost l) = false

-- its transaction may load and store
abbrev pub is_running : Phase → Bool
is_running Idle = false
is_running Running = true
is_running (Sealed t d) = false
is_running (Lost l) = false

-- its transaction has its ticket and is to be drained
abbrev pub is_sealed : Phase → Bool
is_sealed Idle = false
is_sealed Running = false
is_sealed (Sealed t d) = true
is_sealed (Lost l) = false

-- its transaction was lost
abbrev pub is_lost : Phase → Bool
is_lost Idle = false
is_lost Running = false
is_lost (Sealed t d) = false
is_lost (Lost l) = true

-- the states that a call is for
abbrev pub is_for : Kind → Phase → Bool
is_for Begin p = is_idle p
is_for Load p = is_running p
is_for Store p = is_running p
is_for Seal p = is_running p
is_for Drain p = is_sealed p
is_for Back p = is_running p || is_lost p

-- the calls that tell a lost transaction that it is lost
abbrev pub tells_loss : Kind → Bool
tells_loss Begin = false
tells_loss Load = true
tells_loss Store = true
tells_loss Seal = true
tells_loss Drain = false
tells_loss Back = false

-- whether the call may go on in this state
abbrev pub admission : Kind → Phase → Result (Unit {0}) Refusal
admission k p =
    cond (is_for k p) (Ok tt) (cond (tells_loss k && is_lost p) (Err AlreadyLost) (Err WrongState))

-- a thread number of the set-up
abbrev pub is_thread : SetUp → ℕ → Bool
is_thread u n = nat_le 1 n && nat_le n u.threads

-- the checks that every call begins with: the thread's number, then its state
abbrev pub admitted : State → Kind → ℕ → Result (Unit {0}) Refusal
admitted st k n =
    cond (is_thread st.set_up n) (admission k (thread_of st n).phase) (Err NoSuchThread)
