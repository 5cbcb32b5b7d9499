-- What the engine keeps, and the edits of it that the rules are written with.
use Rattle.std.specs.Prelude.{ℕ, Bool, true, List}
use Rattle.common.specs.declared.loss.Loss.{Loss}
use Rattle.layout.specs.declared.entries.WriteEntry.{WriteEntry}
use Rattle.layout.specs.declared.set_up.SetUp.{SetUp}
use Rattle.rules.specs.Maps.{Map, at, put}
use Rattle.rules.specs.declared.phase.Phase.{Phase}
use Rattle.rules.specs.declared.phase.Phase.TheVariants.{Lost}

-- a stripe that was read, and the version that it had then
pub record ReadMark : Type 0 where
  pub stripe : ℕ
  pub version : ℕ

-- a stripe: the ticket of its last drained updater, and the thread that owns it, 0 for none
pub record Stripe : Type 0 where
  pub version : ℕ
  pub owner : ℕ

-- a thread: what it is doing, its snapshot end, and its logs in the order in which they grew
pub record Thread : Type 0 where
  pub phase : Phase
  pub snapshot : ℕ
  pub reads : List ReadMark
  pub writes : List WriteEntry

-- the engine: its set-up, clock and roll mark, its stripes from 0 and its threads from 1
pub record State : Type 0 where
  pub set_up : SetUp
  pub clock : ℕ
  pub mark : Bool
  pub stripes : Map Stripe
  pub threads : Map Thread

-- the engine with the words of its store
pub record World : Type 0 where
  pub engine : State
  pub words : List ℕ

-- a thread of the engine
abbrev pub thread_of : State → ℕ → Thread
thread_of st n = at st.threads n

-- a stripe of the engine
abbrev pub stripe_at : State → ℕ → Stripe
stripe_at st s = at st.stripes s

-- the engine with one part changed

-- with this thread in its place
abbrev pub with_thread : State → ℕ → Thread → State
with_thread st n t =
    record { set_up = st.set_up; clock = st.clock; mark = st.mark; stripes = st.stripes; threads = put st.threads n t }

-- with these stripes
abbrev pub with_stripes : State → Map Stripe → State
with_stripes st m =
    record { set_up = st.set_up; clock = st.clock; mark = st.mark; stripes = m; threads = st.threads }

-- with this stripe in its place
abbrev pub with_stripe : State → ℕ → Stripe → State
with_stripe st s x = with_stripes st (put st.stripes s x)

-- with this clock
abbrev pub with_clock : State → ℕ → State
with_clock st c =
    record { set_up = st.set_up; clock = c; mark = st.mark; stripes = st.stripes; threads = st.threads }

-- with the roll mark on
abbrev pub marked : State → State
marked st =
    record { set_up = st.set_up; clock = st.clock; mark = true; stripes = st.stripes; threads = st.threads }

-- a thread with one part changed

-- in this phase
abbrev pub with_phase : Thread → Phase → Thread
with_phase t p = record { phase = p; snapshot = t.snapshot; reads = t.reads; writes = t.writes }

-- with this snapshot end
abbrev pub with_snapshot : Thread → ℕ → Thread
with_snapshot t e = record { phase = t.phase; snapshot = e; reads = t.reads; writes = t.writes }

-- with this read log
abbrev pub with_reads : Thread → List ReadMark → Thread
with_reads t rs = record { phase = t.phase; snapshot = t.snapshot; reads = rs; writes = t.writes }

-- with this write log
abbrev pub with_writes : Thread → List WriteEntry → Thread
with_writes t ws = record { phase = t.phase; snapshot = t.snapshot; reads = t.reads; writes = ws }

-- the engine after a thread moved on to a phase
abbrev pub enter : State → ℕ → Phase → State
enter st n p = with_thread st n (with_phase (thread_of st n) p)

-- the engine after a thread's transaction was lost
abbrev pub lose : State → ℕ → Loss → State
lose st n l = enter st n (Lost l)
