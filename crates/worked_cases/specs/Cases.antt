-- Worked cases: what these scripts print, and what these stores hold.
use Rattle.std.specs.Prelude.{◌≡◌, ℕ, List, [], ◌∷◌, ◌++◌, length, Err, codes}
use Rattle.common.specs.declared.refusal.Refusal.TheVariants.{NoSuchPlace}
use Rattle.session.specs.Runs.{script_printed}
use Rattle.stores.specs.Parts.{part}
use Rattle.stores.specs.Registers.{halved, paired}
use Rattle.stores.specs.Words.{word_at}

-- a line of a script or of what it prints
abbrev pub line : List ℕ → List ℕ
line bytes = bytes ++ (10 ∷ [])

-- a line with its answer
pub record Exchange : Type 0 where
  pub said : List ℕ
  pub answer : List ℕ

-- all that is said, line by line
abbrev pub said_in : List Exchange → List ℕ
said_in [] = []
said_in (x ∷ xs) = line x.said ++ said_in xs

-- all that is answered, line by line
abbrev pub answered_in : List Exchange → List ℕ
answered_in [] = []
answered_in (x ∷ xs) = line x.answer ++ answered_in xs

-- a script prints these answers, line by line
abbrev pub Goes : List Exchange → Type 0
Goes xs = script_printed (said_in xs) ≡ answered_in xs

-- two tasks under Karma, at four stripes: the second takes a stripe and is ahead by its points; the first is lost, goes back,
-- waits while the second's word is drained, and loads it
abbrev pub two_tasks : List Exchange
two_tasks =
    record { said = codes "(engine (threads 2) (stripes 4) (shift 0) (limit 3) (words 8) (kind plain) (policy karma))"; answer = codes "(points 1 10)" } ∷
    record { said = codes "(begin 1)"; answer = codes "(ok)" } ∷
    record { said = codes "(begin 2)"; answer = codes "(ok)" } ∷
    record { said = codes "(load 1 0)"; answer = codes "(word 0)" } ∷
    record { said = codes "(store 2 4 9)"; answer = codes "(ok)" } ∷
    record { said = codes "(peek 0)"; answer = codes "(lock 8589934593)" } ∷
    record { said = codes "(load 1 4)"; answer = codes "(lost 21 2)" } ∷
    record { said = codes "(seal 2)"; answer = codes "(sealed 1)" } ∷
    record { said = codes "(load 1 0)"; answer = codes "(refused 13)" } ∷
    record { said = codes "(back 1)"; answer = codes "(back 21 2)" } ∷
    record { said = codes "(begin 1)"; answer = codes "(ok)" } ∷
    record { said = codes "(load 1 4)"; answer = codes "(refused 17)" } ∷
    record { said = codes "(drain 2)"; answer = codes "(left 0)" } ∷
    record { said = codes "(load 1 4)"; answer = codes "(word 9)" } ∷
    record { said = codes "(seal 1)"; answer = codes "(read 1)" } ∷
    record { said = codes "(peek 0)"; answer = codes "(lock 2)" } ∷ []

-- under Aggressive thread 2 takes a stripe of thread 1, whose seal is refused and whose back tells who it was
abbrev pub stolen_stripe : List Exchange
stolen_stripe =
    record { said = codes "(engine (threads 2) (stripes 4) (shift 0) (limit 3) (words 8) (kind plain) (policy aggressive))"; answer = codes "(points 0 0)" } ∷
    record { said = codes "(begin 1)"; answer = codes "(ok)" } ∷
    record { said = codes "(begin 2)"; answer = codes "(ok)" } ∷
    record { said = codes "(store 1 0 7)"; answer = codes "(ok)" } ∷
    record { said = codes "(store 2 0 8)"; answer = codes "(ok)" } ∷
    record { said = codes "(seal 1)"; answer = codes "(refused 13)" } ∷
    record { said = codes "(back 1)"; answer = codes "(back 24 2)" } ∷ []

-- at a clock limit of 1 a second updater's seal is lost to the spent clock, and then an idle thread's begin is refused
abbrev pub spent_clock : List Exchange
spent_clock =
    record { said = codes "(engine (threads 2) (stripes 1) (shift 0) (limit 1) (words 1) (kind plain) (policy suicide))"; answer = codes "(points 0 0)" } ∷
    record { said = codes "(begin 1)"; answer = codes "(ok)" } ∷
    record { said = codes "(store 1 0 5)"; answer = codes "(ok)" } ∷
    record { said = codes "(seal 1)"; answer = codes "(sealed 1)" } ∷
    record { said = codes "(drain 1)"; answer = codes "(left 0)" } ∷
    record { said = codes "(begin 1)"; answer = codes "(ok)" } ∷
    record { said = codes "(store 1 0 6)"; answer = codes "(ok)" } ∷
    record { said = codes "(seal 1)"; answer = codes "(lost 23 0)" } ∷
    record { said = codes "(begin 2)"; answer = codes "(refused 14)" } ∷ []

-- a number has no leading zero
abbrev pub leading_zero : List Exchange
leading_zero = record { said = codes "(begin 01)"; answer = codes "(fault text 41 9)" } ∷ []

-- a window of base 6 and length 4 over 8 words has 2 of them, and no address 2
pub record NarrowWindow (ws : List ℕ) : Type 0 where
  pub size : length (part 6 4 ws) ≡ 2
  pub beyond : word_at (part 6 4 ws) 2 ≡ Err NoSuchPlace

-- the worked cases
pub record WorkedCases : Type 0 where
  pub two_tasks_go : Goes two_tasks
  pub stripe_is_stolen : Goes stolen_stripe
  pub clock_is_spent : Goes spent_clock
  pub leading_zero_faults : Goes leading_zero
  pub window_is_narrow : (ws : List ℕ) → length ws ≡ 8 → NarrowWindow ws
  pub registers_hold_halves : halved (65538 ∷ []) ≡ 1 ∷ (2 ∷ [])
  pub halves_make_the_word : paired (1 ∷ (2 ∷ [])) ≡ 65538 ∷ []
