-- The engine as the rules see it: tables by number, logs as lists, an owner as a number.
use Rattle.std.specs.Prelude.{ℕ, List, ◌∷◌, map, Some, None, Ok, Err, Option, Result, slice_index_or}
use Rattle.common.specs.declared.thread_id.ThreadId.{ThreadId}
use Rattle.layout.specs.Logs.{logged}
use Rattle.layout.specs.declared.stripe_id.StripeId.{StripeId}
use Rattle.std.specs.Option.{option_map}
use Rattle.layout.specs.declared.entries.ReadEntry.{ReadEntry}
use Rattle.memory.specs.declared.engine.Engine.{Engine}
use Rattle.memory.specs.declared.stripes.Stripe.{Stripe as StripeCell}
use Rattle.memory.specs.declared.threads.Thread.{Thread as ThreadCell}
use Rattle.rules.specs.Maps.{Map}
use Rattle.rules.specs.NewEngine.{new_stripe, new_thread}
use Rattle.rules.specs.States.{ReadMark, Stripe, Thread, State}
use Rattle.common.specs.declared.refusal.Refusal.{Refusal}

-- an owner by its number, 0 for none
abbrev pub owner_number : Option ThreadId → ℕ
owner_number None = 0
owner_number (Some t) = t.number

-- a stripe by its version and the number of its owner
abbrev pub stripe_view : StripeCell → Stripe
stripe_view x = record { version = x.version; owner = owner_number x.owner }

-- a read entry by the number of its stripe
abbrev pub read_mark : ReadEntry → ReadMark
read_mark e = record { stripe = e.stripe.number; version = e.version }

-- a thread with its logs as lists
abbrev pub thread_view : ThreadCell → Thread
thread_view t =
    record { phase = t.phase; snapshot = t.snapshot; reads = map read_mark (logged t.reads); writes = logged t.writes }

-- a list as a table, with this behind its end
unfoldable pub listed : {A : Type 0} → A → List A → Map A
listed d xs = record { fun = λ n. slice_index_or xs n d }

-- stripes are numbered from 0
unfoldable pub stripe_table : List StripeCell → Map Stripe
stripe_table xs = listed new_stripe (map stripe_view xs)

-- threads are numbered from 1
unfoldable pub thread_table : List ThreadCell → Map Thread
thread_table ts = listed new_thread (new_thread ∷ map thread_view ts)

-- the engine with its arrays as tables
abbrev pub engine_view : Engine → State
engine_view e = record {
  set_up = e.set_up;
  clock = e.clock;
  mark = e.mark;
  stripes = stripe_table e.stripes.all;
  threads = thread_table e.threads.all;
}

-- a thread was let in, or why not
abbrev pub let_in : Result ThreadId Refusal → Result (Unit {0}) Refusal
let_in (Ok t) = Ok tt
let_in (Err r) = Err r

-- an optional stripe by its number
abbrev pub stripe_numbered : Option StripeId → Option ℕ
stripe_numbered s = option_map (λ x. x.number) s
