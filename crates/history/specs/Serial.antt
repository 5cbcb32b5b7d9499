-- The serial run: sealed updaters one after another, fed with their calls alone.
use Rattle.std.specs.Prelude.{ℕ, ◌+◌, cond, List, [], ◌∷◌, ◌++◌, drop, Some, None, Option, slice_index, slice_set}
use Rattle.history.specs.Record.{Work}
use Rattle.layout.specs.Lookups.{first_with, has_key, replaced}
use Rattle.layout.specs.declared.entries.WriteEntry.{WriteEntry}
use Rattle.rules.specs.declared.call.Call.{Call}
use Rattle.rules.specs.declared.call.Call.TheVariants.{Begin, Load, Store, Seal, Drain, Back, Roll}

-- what a call has to do with words
pub data Use : Type 0 where
  reads : ℕ → Use
  writes : WriteEntry → Use
  drains : Use
  no_use : Use

abbrev pub use_of : Call → Use
use_of (Begin n) = no_use
use_of (Load n a) = reads a
use_of (Store n a v) = writes (record { address = a; word = v })
use_of (Seal n) = no_use
use_of (Drain n) = drains
use_of (Back n) = no_use
use_of Roll = no_use

-- the words that a transaction's stores keep, newest first; its calls stand newest first too
abbrev pub keep : Use → List WriteEntry → List WriteEntry
keep (reads a) es = es
keep (writes e) es = e ∷ es
keep drains es = es
keep no_use es = es

abbrev pub kept : List Call → List WriteEntry
kept [] = []
kept (c ∷ cs) = keep (use_of c) (kept cs)

-- the word of the entry that was found, else the run's word
abbrev pub word_or : ℕ → Option WriteEntry → ℕ
word_or v (Some e) = e.word
word_or v None = v

-- a load: the latest kept word for its address, else the run's word
abbrev pub seen : List ℕ → List WriteEntry → ℕ → ℕ
seen ws es a = word_or (slice_index ws a) (first_with (λ e. e.address) a es)

-- the words loaded with one more call, which comes after these kept words
abbrev pub see : List ℕ → List WriteEntry → Use → List ℕ → List ℕ
see ws es (reads a) vs = seen ws es a ∷ vs
see ws es (writes e) vs = vs
see ws es drains vs = vs
see ws es no_use vs = vs

-- the words that a transaction's calls load when it runs alone on these words, newest first
abbrev pub loaded_on : List ℕ → List Call → List ℕ
loaded_on ws [] = []
loaded_on ws (c ∷ cs) = see ws (kept cs) (use_of c) (loaded_on ws cs)

-- the words with the kept ones moved in, oldest first
abbrev pub moved_into : List ℕ → List WriteEntry → List ℕ
moved_into ws [] = ws
moved_into ws (e ∷ older) = slice_set (moved_into ws older) e.address e.word

-- the serial run of these updaters, from these words
abbrev pub serial_run : List ℕ → List Work → List ℕ
serial_run ws [] = ws
serial_run ws (w ∷ us) = serial_run (moved_into ws (kept w.calls)) us

-- the write log that stores make: a store to an address that is logged replaces the word in its place
abbrev pub log_entry : WriteEntry → List WriteEntry → List WriteEntry
log_entry e es = cond (has_key (λ x. x.address) e.address es) (replaced (λ x. x.address) e es) (es ++ e ∷ [])

abbrev pub log_use : Use → List WriteEntry → List WriteEntry
log_use (reads a) es = es
log_use (writes e) es = log_entry e es
log_use drains es = es
log_use no_use es = es

abbrev pub write_log : List Call → List WriteEntry
write_log [] = []
write_log (c ∷ cs) = log_use (use_of c) (write_log cs)

-- how many drains there are among the calls
abbrev pub count_drain : Use → ℕ → ℕ
count_drain (reads a) n = n
count_drain (writes e) n = n
count_drain drains n = n + 1
count_drain no_use n = n

abbrev pub drain_count : List Call → ℕ
drain_count [] = 0
drain_count (c ∷ cs) = count_drain (use_of c) (drain_count cs)

-- what an updater has not drained yet: of its write log, the entries beyond the count of its drains
abbrev pub not_drained : Work → List WriteEntry
not_drained w = drop (drain_count w.calls) (write_log w.calls)

abbrev pub all_not_drained : List Work → List WriteEntry
all_not_drained [] = []
all_not_drained (w ∷ us) = not_drained w ++ all_not_drained us

-- the words with these entries put in, one after another
abbrev pub put_in : List ℕ → List WriteEntry → List ℕ
put_in ws [] = ws
put_in ws (e ∷ es) = put_in (slice_set ws e.address e.word) es
