-- What each call keeps, as statements; each is proved in the file that is named for its call.
use Rattle.std.proofs.Common.{◌≡◌, ℕ, List}
use Rattle.history.proofs.Invariant.{Fits}
use Rattle.history.specs.Law.{Holds}
use Rattle.history.specs.Record.{History, after_line, no_history}
use Rattle.history.specs.Runs.{line_of}
use Rattle.layout.specs.declared.set_up.SetUp.{SetUp}
use Rattle.rules.specs.Back.{back}
use Rattle.rules.specs.Begin.{begin}
use Rattle.rules.specs.Calls.{perform}
use Rattle.rules.specs.Drain.{drain}
use Rattle.rules.specs.Load.{load}
use Rattle.rules.specs.NewEngine.{new_world}
use Rattle.rules.specs.Outcomes.{Outcome, Table}
use Rattle.rules.specs.Roll.{roll}
use Rattle.rules.specs.Seal.{seal}
use Rattle.rules.specs.States.{World}
use Rattle.rules.specs.Store.{store}
use Rattle.rules.specs.declared.call.Call.{Call}
use Rattle.rules.specs.declared.call.Call.TheVariants.{Begin, Load, Store, Seal, Drain, Back, Roll}

-- the history with the line of a call that had this outcome
abbrev pub then : World → History → Table → Call → Outcome → History
then w h beats c o = after_line w.engine.set_up h (line_of beats c o)

-- the outcome of a call on a world that fits the history fits the history with its line
pub record Kept (ws : List ℕ) (base : ℕ) (w : World) (h : History) (beats : Table) (c : Call) (o : Outcome) : Type 0 where
  pub fits : Fits ws base o.after (then w h beats c o)
  pub same_set_up : o.after.engine.set_up ≡ w.engine.set_up

-- a new engine
abbrev pub NewFits : Type 0
NewFits = (u : SetUp) (ws : List ℕ) → Fits ws 0 (new_world u ws) (no_history ws)

-- a begin
abbrev pub BeginKeeps : Type 0
BeginKeeps = (ws : List ℕ) (base : ℕ) (w : World) (h : History) (beats : Table) (n : ℕ) →
    Fits ws base w h → Kept ws base w h beats (Begin n) (begin w n)

-- a load
abbrev pub LoadKeeps : Type 0
LoadKeeps = (ws : List ℕ) (base : ℕ) (w : World) (h : History) (beats : Table) (n a : ℕ) →
    Fits ws base w h → Kept ws base w h beats (Load n a) (load beats w n a)

-- a store
abbrev pub StoreKeeps : Type 0
StoreKeeps = (ws : List ℕ) (base : ℕ) (w : World) (h : History) (beats : Table) (n a v : ℕ) →
    Fits ws base w h → Kept ws base w h beats (Store n a v) (store beats w n a v)

-- a seal
abbrev pub SealKeeps : Type 0
SealKeeps = (ws : List ℕ) (base : ℕ) (w : World) (h : History) (beats : Table) (n : ℕ) →
    Fits ws base w h → Kept ws base w h beats (Seal n) (seal w n)

-- a drain
abbrev pub DrainKeeps : Type 0
DrainKeeps = (ws : List ℕ) (base : ℕ) (w : World) (h : History) (beats : Table) (n : ℕ) →
    Fits ws base w h → Kept ws base w h beats (Drain n) (drain w n)

-- a back
abbrev pub BackKeeps : Type 0
BackKeeps = (ws : List ℕ) (base : ℕ) (w : World) (h : History) (beats : Table) (n : ℕ) →
    Fits ws base w h → Kept ws base w h beats (Back n) (back w n)

-- a roll moves the base to its own moment
abbrev pub RollKeeps : Type 0
RollKeeps = (ws : List ℕ) (base : ℕ) (w : World) (h : History) (beats : Table) →
    Fits ws base w h → (next : ℕ) × Kept ws next w h beats Roll (roll w)

-- any call, by its own lemma
abbrev pub CallKeeps : Type 0
CallKeeps = (ws : List ℕ) (base : ℕ) (w : World) (h : History) (beats : Table) (c : Call) →
    Fits ws base w h → (next : ℕ) × Kept ws next w h beats c (perform beats w c)

-- the law follows from what the calls keep
abbrev pub FitsHolds : Type 0
FitsHolds = (ws : List ℕ) (base : ℕ) (w : World) (h : History) → Fits ws base w h → Holds w.engine.set_up ws h
