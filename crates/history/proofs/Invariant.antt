-- What holds between an engine and the history of its calls, after each call.
use Rattle.std.proofs.Common.{◌≡◌, ℕ, ◌+◌, ◌<◌, ◌≤◌, Bool, true, false, ◌⊎◌, List, [], length, get_or, drop, Some, None, Option}
use Rattle.history.specs.Law.{updater, LoadsAt, Point, Spared, StoredByOther}
use Rattle.history.specs.Record.{History, Transaction, Work, Fall}
use Rattle.history.specs.Serial.{kept, loaded_on, serial_run, put_in, write_log, drain_count, not_drained}
use Rattle.layout.specs.Lookups.{has_key}
use Rattle.layout.specs.SetUps.{stripe_of}
use Rattle.layout.specs.declared.entries.WriteEntry.{WriteEntry}
use Rattle.layout.specs.declared.set_up.SetUp.{SetUp}
use Rattle.rules.specs.Admission.{is_thread}
use Rattle.rules.specs.Conflicts.{owner_of}
use Rattle.rules.specs.States.{State, World, Thread, ReadMark, thread_of, stripe_at}
use Rattle.rules.specs.declared.phase.Phase.{Phase}
use Rattle.rules.specs.declared.phase.Phase.TheVariants.{Idle, Running, Sealed, Lost}
use Rattle.std.specs.List.{AllByRecursion}

-- how a sealed thread holds its stripes: its ticket, and the entries that it has still to drain
pub record Hold : Type 0 where
  pub ticket : ℕ
  pub left : List WriteEntry

-- how a thread with this write log holds its stripes in this phase
abbrev pub hold_in : List WriteEntry → Phase → Option Hold
hold_in es Idle = None
hold_in es Running = None
hold_in es (Sealed t d) = Some (record { ticket = t; left = drop d es })
hold_in es (Lost l) = None

-- how a thread holds its stripes
abbrev pub hold_of : Thread → Option Hold
hold_of t = hold_in t.writes t.phase

-- what transactions see of a stripe: its version, and how a sealed owner holds it
pub record Front : Type 0 where
  pub version : ℕ
  pub hold : Option Hold

-- what is seen of a stripe now
abbrev pub front : State → ℕ → Front
front st s = record { version = (stripe_at st s).version; hold = hold_of (thread_of st (owner_of st s)) }

-- the ticket of the last updater that stored in the stripe and sealed since the last roll, 0 if there is none
abbrev pub top_of : ℕ → Option Hold → ℕ
top_of v None = v
top_of v (Some x) = x.ticket

-- the same of what is seen of it
abbrev pub top : Front → ℕ
top f = top_of f.version f.hold

-- what is still to be drained into the stripe
abbrev pub left_of : Option Hold → List WriteEntry
left_of None = []
left_of (Some x) = x.left

-- the same of what is seen of it
abbrev pub left_in : Front → List WriteEntry
left_in f = left_of f.hold

-- the transaction stored in the stripe
abbrev pub stores_in : SetUp → ℕ → Work → Bool
stores_in u s w = has_key (λ e. stripe_of u e.address) s (kept w.calls)

-- a stripe: no updater numbered from the base and its top on has stored in it
pub record StripeFits (u : SetUp) (us : List Work) (base clock s : ℕ) (f : Front) : Type 0 where
  pub rises : f.version ≤ top f
  pub by_clock : top f ≤ clock
  pub untouched : (k : ℕ) → base + top f ≤ k → k < length us → stores_in u s (updater us k) ≡ false

-- an address: the serial run's word is the last one still to be drained there, else the stored word
abbrev pub WordFits : SetUp → List ℕ → List Work → List ℕ → (ℕ → Front) → ℕ → Type 0
WordFits u ws us now fs a =
    get_or (serial_run ws us) a 0 ≡ get_or (put_in now (left_in (fs (stripe_of u a)))) a 0

-- another thread's updater that sealed since this moment stored in the stripe
abbrev pub Overtaken : SetUp → List Work → ℕ → ℕ → ℕ → Type 0
Overtaken u us n begun s = (k : ℕ) × (begun ≤ k) × (k < length us) × StoredByOther u us n s k

-- a read entry: it is no newer than the snapshot end, and still as it was read, or overtaken
pub record MarkFits (u : SetUp) (us : List Work) (n begun end : ℕ) (f : Front) (e : ReadMark) : Type 0 where
  pub old : e.version ≤ end
  pub state : ((f.version ≡ e.version) × (f.hold ≡ None)) ⊎ Overtaken u us n begun e.stripe

-- the read log has an entry of the stripe
abbrev pub has_stripe : ℕ → List ReadMark → Bool
has_stripe s rs = has_key (λ e. e.stripe) s rs

-- words that are equal wherever the read log looks
abbrev pub SameRead : SetUp → List ReadMark → List ℕ → List ℕ → Type 0
SameRead u rs xs ys = (a : ℕ) → has_stripe (stripe_of u a) rs ≡ true → get_or xs a 0 ≡ get_or ys a 0

-- the loads see only stripes of the read log: words that are equal there give the same loads
abbrev pub Covered : SetUp → List ReadMark → Work → Type 0
Covered u rs w = (xs ys : List ℕ) → SameRead u rs xs ys → loaded_on xs w.calls ≡ loaded_on ys w.calls

-- the thread owns the stripe of each address in its write log
abbrev pub OwnsLog : SetUp → (ℕ → ℕ) → ℕ → List WriteEntry → Type 0
OwnsLog u owner n es = (a : ℕ) → has_key (λ e. e.address) a es ≡ true → owner (stripe_of u a) ≡ n

-- the thread owns only stripes that it stored in
abbrev pub OwnsStored : SetUp → (ℕ → ℕ) → ℕ → Work → Type 0
OwnsStored u owner n w = (s : ℕ) → owner s ≡ n → stores_in u s w ≡ true

-- a running transaction: it has drained nothing, and its loads agree at its snapshot end
pub record RunningFits (u : SetUp) (ws : List ℕ) (us : List Work) (base : ℕ) (fs : ℕ → Front) (owner : ℕ → ℕ)
    (n : ℕ) (t : Thread) (w : Work) (f : Option Fall) : Type 0 where
  pub unnumbered : w.number ≡ None
  pub standing : f ≡ None
  pub log : t.writes ≡ write_log w.calls
  pub undrained : drain_count w.calls ≡ 0
  pub owns_log : OwnsLog u owner n t.writes
  pub owns_stored : OwnsStored u owner n w
  pub since_begin : w.begun ≤ base + t.snapshot
  pub by_last_load : base + t.snapshot ≤ w.loaded_at
  pub so_far : w.loaded_at ≤ length us
  pub loads : LoadsAt ws us (base + t.snapshot) w
  pub covered : Covered u t.reads w
  pub marks : AllByRecursion (λ e. MarkFits u us n w.begun t.snapshot (fs e.stripe) e) t.reads
  pub others : (k : ℕ) → w.begun ≤ k → k < length us → (updater us k).thread ≡ n → ⊥

-- a sealed transaction: it is the updater of its ticket, and its stripes are its own
pub record SealedFits (u : SetUp) (us : List Work) (base : ℕ) (owner : ℕ → ℕ) (n ticket drained : ℕ) (t : Thread)
    (w : Work) (f : Option Fall) : Type 0 where
  pub place : ℕ
  pub numbered : w.number ≡ Some place
  pub standing : f ≡ None
  pub by_ticket : place + 1 ≡ base + ticket
  pub so_far : place < length us
  pub same : updater us place ≡ w
  pub log : t.writes ≡ write_log w.calls
  pub drains : drained ≡ drain_count w.calls
  pub owns_log : OwnsLog u owner n t.writes

-- a lost transaction: its fall is on record, and it is no updater
pub record LostFits (w : Work) (f : Option Fall) : Type 0 where
  pub unnumbered : w.number ≡ None
  pub fall : Fall
  pub fallen : f ≡ Some fall

-- a transaction, by the phase of its thread
abbrev pub PhaseFits : SetUp → List ℕ → List Work → ℕ → (ℕ → Front) → (ℕ → ℕ) → ℕ → Thread → Work → Option Fall → Phase → Type 0
PhaseFits u ws us base fs owner n t w f Idle = (s : ℕ) → owner s ≡ n → n ≡ 0
PhaseFits u ws us base fs owner n t w f Running = RunningFits u ws us base fs owner n t w f
PhaseFits u ws us base fs owner n t w f (Sealed k d) = SealedFits u us base owner n k d t w f
PhaseFits u ws us base fs owner n t w f (Lost l) = LostFits w f

-- a thread and its latest transaction
pub record Seat (u : SetUp) (ws : List ℕ) (us : List Work) (base : ℕ) (fs : ℕ → Front) (owner : ℕ → ℕ) (n : ℕ)
    (t : Thread) (x : Transaction) : Type 0 where
  pub named : x.work.thread ≡ n
  pub inside : is_thread u n ≡ false → t.phase ≡ Idle
  pub phase : PhaseFits u ws us base fs owner n t x.work x.fall t.phase
  pub point : Point ws us x.work
  pub spared : Spared u us x.work x.fall

-- a seat in a world and after a history, with these owners of the stripes
abbrev pub Seated : List ℕ → ℕ → World → History → (ℕ → ℕ) → ℕ → Thread → Transaction → Type 0
Seated ws base w h owner n t x = Seat w.engine.set_up ws h.updaters base (front w.engine) owner n t x

-- a running transaction in a world and after a history, with these owners
abbrev pub RunsOn : List ℕ → ℕ → World → History → (ℕ → ℕ) → ℕ → Thread → Work → Option Fall → Type 0
RunsOn ws base w h owner n t x f = RunningFits w.engine.set_up ws h.updaters base (front w.engine) owner n t x f

-- a read entry of a thread's latest transaction, at this snapshot end
abbrev pub Marked : World → History → ℕ → ℕ → ReadMark → Type 0
Marked w h n end e =
    MarkFits w.engine.set_up h.updaters n (h.present n).work.begun end (front w.engine e.stripe) e

-- an updater that has words to drain is the latest transaction of a sealed thread
pub record Draining (st : State) (h : History) (k : ℕ) : Type 0 where
  pub thread : ℕ
  pub ticket : ℕ
  pub drained : ℕ
  pub sealed : (thread_of st thread).phase ≡ Sealed ticket drained
  pub numbered : (h.present thread).work.number ≡ Some k

-- an updater has drained all, or is at it
abbrev pub Spent : State → History → ℕ → Type 0
Spent st h k = (not_drained (updater h.updaters k) ≡ []) ⊎ Draining st h k

-- the engine and its words fit the history; the base is the moment of the last roll
pub record Fits (ws : List ℕ) (base : ℕ) (w : World) (h : History) : Type 0 where
  pub stored : h.stored ≡ w.words
  pub sized : length w.words ≡ length ws
  pub count : length h.updaters ≡ base + w.engine.clock
  pub stripes : (s : ℕ) → StripeFits w.engine.set_up h.updaters base w.engine.clock s (front w.engine s)
  pub words : (a : ℕ) → a < length w.words → WordFits w.engine.set_up ws h.updaters w.words (front w.engine) a
  pub seats : (n : ℕ) → Seated ws base w h (owner_of w.engine) n (thread_of w.engine n) (h.present n)
  pub spent : (k : ℕ) → k < length h.updaters → Spent w.engine h k
  pub loads : (k : ℕ) → k < length h.updaters → LoadsAt ws h.updaters k (updater h.updaters k)
  pub past_points : AllByRecursion (λ t. Point ws h.updaters t.work) h.past
  pub past_spared : AllByRecursion (λ t. Spared w.engine.set_up h.updaters t.work t.fall) h.past
