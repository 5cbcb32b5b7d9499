-- The law of every run: its updaters are serializable, every transaction has seen one moment, and leaders are spared.
use Rattle.std.specs.Prelude.{◌≡◌, ℕ, ◌<◌, ◌≤◌, true, List, length, take, Some, None, Option, slice_index_or}
use Rattle.common.specs.declared.loss.Loss.{Loss}
use Rattle.common.specs.declared.loss.Loss.TheVariants.{Beaten, Invalid, ClockSpent, Stolen}
use Rattle.history.specs.Record.{History, Line, Transaction, Fall, Work, no_work, history}
use Rattle.history.specs.Serial.{kept, loaded_on, serial_run, put_in, all_not_drained}
use Rattle.layout.specs.Lookups.{has_key}
use Rattle.layout.specs.SetUps.{stripe_of}
use Rattle.layout.specs.declared.set_up.SetUp.{SetUp}
use Rattle.std.specs.List.{AllByRecursion}

-- the updater of a number
abbrev pub updater : List Work → ℕ → Work
updater us k = slice_index_or us k (no_work 0 0)

-- the words of the serial run at a moment
abbrev pub words_at : List ℕ → List Work → ℕ → List ℕ
words_at ws us m = serial_run ws (take m us)

-- run alone at this moment of the serial run, the calls load the words that they were answered
abbrev pub LoadsAt : List ℕ → List Work → ℕ → Work → Type 0
LoadsAt ws us m w = loaded_on (words_at ws us m) w.calls ≡ w.loaded

-- each sealed updater loaded what it loads in the serial run, and the stored words, with those that are not drained
-- yet put in, are the serial run's words
pub record UpdatersSerialize (ws : List ℕ) (h : History) : Type 0 where
  pub loads : (k : ℕ) → k < length h.updaters → LoadsAt ws h.updaters k (updater h.updaters k)
  pub words : put_in h.stored (all_not_drained h.updaters) ≡ serial_run ws h.updaters

-- a moment from the transaction's begin to its last loaded word at which it could have loaded all its words
pub record Point (ws : List ℕ) (us : List Work) (w : Work) : Type 0 where
  pub moment : ℕ
  pub since_begin : w.begun ≤ moment
  pub by_last_load : moment ≤ w.loaded_at
  pub so_far : moment ≤ length us
  pub loads : LoadsAt ws us moment w

-- something holds of every transaction ever begun
pub record OfAll (P : Transaction → Type 0) (h : History) : Type 0 where
  pub latest : (n : ℕ) → P (h.present n)
  pub earlier : AllByRecursion P h.past

-- every transaction, also a running or a lost one, has such a moment
abbrev pub PointsExist : List ℕ → History → Type 0
PointsExist ws h = OfAll (λ t. Point ws h.updaters t.work) h

-- the updater of this number is another thread's, and stored in the stripe
pub record StoredByOther (u : SetUp) (us : List Work) (n s k : ℕ) : Type 0 where
  pub other : (updater us k).thread ≡ n → ⊥
  pub stored : has_key (λ e. stripe_of u e.address) s (kept (updater us k).calls) ≡ true

-- the losses that a leading transaction may meet: the spent clock, or a stripe in which another thread's updater
-- stored that sealed from its begin to its fall
abbrev pub Excused : SetUp → List Work → Work → ℕ → Loss → Type 0
Excused u us w m (Beaten h) = ⊥
Excused u us w m (Invalid s) = (k : ℕ) × (w.begun ≤ k) × (k < m) × StoredByOther u us w.thread s k
Excused u us w m ClockSpent = Unit {0}
Excused u us w m (Stolen h) = ⊥

abbrev pub Spared : SetUp → List Work → Work → Option Fall → Type 0
Spared u us w None = Unit {0}
Spared u us w (Some f) = f.led ≡ true → Excused u us w f.moment f.cause

-- a transaction whose thread led at the start of each call from its begin to its fall met no other loss
abbrev pub LeadersAreSpared : SetUp → History → Type 0
LeadersAreSpared u h = OfAll (λ t. Spared u h.updaters t.work t.fall) h

-- the law of a run so far
pub record Holds (u : SetUp) (ws : List ℕ) (h : History) : Type 0 where
  pub updaters_serialize : UpdatersSerialize ws h
  pub points_exist : PointsExist ws h
  pub leaders_are_spared : LeadersAreSpared u h

-- the law of a record, of an engine with this set-up whose store had these words first
abbrev pub Law : SetUp → List ℕ → List Line → Type 0
Law u ws ls = Holds u ws (history u ws ls)
