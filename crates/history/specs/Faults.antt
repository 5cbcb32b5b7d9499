-- Records with one fault each, which the law has to forbid, and one with none.
-- In all of them the store has two words, at first both 1, and thread 1 is ahead of every other thread.
use Rattle.std.specs.Prelude.{ℕ, cond, List, [], ◌∷◌, ◌++◌, Some, None, ◌==◌}
use Rattle.common.specs.declared.loss.Loss.{Loss}
use Rattle.common.specs.declared.loss.Loss.TheVariants.{Beaten, Invalid, Stolen}
use Rattle.history.specs.Law.{Law}
use Rattle.history.specs.Record.{Line}
use Rattle.layout.specs.declared.set_up.SetUp.{SetUp}
use Rattle.rules.specs.Outcomes.{Table}
use Rattle.rules.specs.declared.answer.Answer.{Answer}
use Rattle.rules.specs.declared.answer.Answer.TheVariants.{Done, Word, Sealed, Left, Back as WentBack, Lost}
use Rattle.rules.specs.declared.call.Call.{Call}
use Rattle.rules.specs.declared.call.Call.TheVariants.{Begin, Load, Store, Seal, Drain, Back}
use Rattle.rules.specs.declared.ending.Ending.TheVariants.{GivenUp}
use Rattle.rules.specs.declared.ending.Sealed.TheVariants.{Reader, Updater}

abbrev pub first_words : List ℕ
first_words = 1 ∷ 1 ∷ []

-- thread 1 beats all threads, and no other thread beats any
abbrev pub one_ahead : Table
one_ahead n m = n == 1

-- the record keeps the law under each set-up
abbrev pub Lawful : List Line → Type 0
Lawful ls = (u : SetUp) → Law u first_words ls

-- the record breaks the law under each set-up
abbrev pub Unlawful : List Line → Type 0
Unlawful ls = (u : SetUp) → Law u first_words ls → ⊥

-- a call, its answer and the two words after it, when no thread is lost
abbrev pub line : Call → Answer → ℕ → ℕ → Line
line c a v w = record { table = one_ahead; call = c; answer = a; words = v ∷ w ∷ []; losses = λ n. None }

-- the same when thread 1 is lost
abbrev pub line_one_lost : Loss → Call → Answer → ℕ → ℕ → Line
line_one_lost l c a v w =
    record { table = one_ahead; call = c; answer = a; words = v ∷ w ∷ []; losses = λ n. cond (n == 1) (Some l) None }

-- no fault: thread 1 makes both words 2, and drains them one after the other
abbrev pub both_made_two : List Line
both_made_two =
    line (Begin 1) Done 1 1 ∷
    line (Store 1 0 2) Done 1 1 ∷
    line (Store 1 1 2) Done 1 1 ∷
    line (Seal 1) (Sealed (Updater 1)) 1 1 ∷
    line (Drain 1) (Left 1) 2 1 ∷
    line (Drain 1) (Left 0) 2 2 ∷
    []

-- thread 1 stores two words and seals; its first drain writes one, its second says that nothing is left, but the
-- second word was never written
abbrev pub half_drained : List Line
half_drained =
    line (Begin 1) Done 1 1 ∷
    line (Store 1 0 2) Done 1 1 ∷
    line (Store 1 1 2) Done 1 1 ∷
    line (Seal 1) (Sealed (Updater 1)) 1 1 ∷
    line (Drain 1) (Left 1) 2 1 ∷
    line (Drain 1) (Left 0) 2 1 ∷
    []

-- both threads load the word 1 to add one to it; thread 1 makes it 2, and then thread 2 makes it 2 as well
abbrev pub lost_update : List Line
lost_update =
    line (Begin 1) Done 1 1 ∷
    line (Begin 2) Done 1 1 ∷
    line (Load 1 0) (Word 1) 1 1 ∷
    line (Load 2 0) (Word 1) 1 1 ∷
    line (Store 1 0 2) Done 1 1 ∷
    line (Seal 1) (Sealed (Updater 1)) 1 1 ∷
    line (Drain 1) (Left 0) 2 1 ∷
    line (Store 2 0 2) Done 2 1 ∷
    line (Seal 2) (Sealed (Updater 2)) 2 1 ∷
    line (Drain 2) (Left 0) 2 1 ∷
    []

-- thread 2 loads the first word before thread 1 makes both words 2, and the second word after; it is still running
abbrev pub torn_read : List Line
torn_read =
    (line (Begin 2) Done 1 1 ∷ line (Load 2 0) (Word 1) 1 1 ∷ []) ++
    both_made_two ++
    line (Load 2 1) (Word 2) 2 2 ∷
    []

-- thread 2 is answered what the store has, whoever has written it meanwhile: the first word is 1, then both words
-- are 2; so it seals, as a reader
abbrev pub unchecked_loads : List Line
unchecked_loads =
    (line (Begin 2) Done 1 1 ∷ line (Load 2 0) (Word 1) 1 1 ∷ []) ++
    both_made_two ++
    line (Load 2 1) (Word 2) 2 2 ∷
    line (Load 2 0) (Word 2) 2 2 ∷
    line (Seal 2) (Sealed (Reader 1)) 2 2 ∷
    []

-- thread 1 meets a stripe that thread 2 holds, and loses, though it is ahead
abbrev pub leader_beaten : List Line
leader_beaten =
    line (Begin 2) Done 1 1 ∷
    line (Store 2 0 2) Done 1 1 ∷
    line (Begin 1) Done 1 1 ∷
    line_one_lost (Beaten 2) (Store 1 0 3) (Lost (Beaten 2)) 1 1 ∷
    []

-- thread 2 meets a stripe that thread 1 holds, and takes it, though thread 1 is ahead
abbrev pub leader_stolen_from : List Line
leader_stolen_from =
    line (Begin 1) Done 1 1 ∷
    line (Store 1 0 2) Done 1 1 ∷
    line (Begin 2) Done 1 1 ∷
    line_one_lost (Stolen 2) (Store 2 0 3) Done 1 1 ∷
    []

-- thread 1 is told that a stripe is no longer as it read it, though nobody has sealed
abbrev pub leader_invalid : List Line
leader_invalid =
    line (Begin 1) Done 1 1 ∷
    line (Load 1 0) (Word 1) 1 1 ∷
    line_one_lost (Invalid 0) (Load 1 1) (Lost (Invalid 0)) 1 1 ∷
    []

-- thread 2 gives its transaction up, and what it stored is in the store, over the words of thread 1
abbrev pub given_up_word : List Line
given_up_word =
    both_made_two ++
    line (Begin 2) Done 2 2 ∷
    line (Store 2 0 3) Done 2 2 ∷
    line (Back 2) (WentBack GivenUp) 3 2 ∷
    []
