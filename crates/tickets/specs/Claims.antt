-- Which threads' tickets are given out: a flag for each thread, thread 1 first.
use Rattle.std.specs.Prelude.{ℕ, ◌-◌, Bool, true, false, List, replicate, Some, None, Ok, Err, Option, Result, slice_index_or, slice_set}
use Rattle.common.specs.declared.refusal.Refusal.{Refusal}
use Rattle.common.specs.declared.refusal.Refusal.TheVariants.{AlreadyClaimed}
use Rattle.common.specs.Threads.{thread_number}
use Rattle.layout.specs.SetUps.{thread_or_refusal}
use Rattle.layout.specs.declared.set_up.SetUp.{SetUp}

-- no ticket is given out
abbrev pub unclaimed : List Bool
unclaimed = replicate 8 false

-- the ticket of this thread is given out
abbrev pub is_claimed : List Bool → ℕ → Bool
is_claimed cs n = slice_index_or cs (n - 1) false

-- the claims without that of a thread, if there is one of this number: a thread that is not claimed stays so
abbrev pub freed : List Bool → Option ℕ → List Bool
freed cs None = cs
freed cs (Some n) = slice_set cs (n - 1) false

abbrev pub handed_in : List Bool → ℕ → List Bool
handed_in cs n = freed cs (thread_number n)

-- the thread whose ticket is given, unless it was given out before
abbrev pub claim_once : ℕ → Bool → Result ℕ Refusal
claim_once n true = Err AlreadyClaimed
claim_once n false = Ok n

abbrev pub claim_of : List Bool → Result ℕ Refusal → Result ℕ Refusal
claim_of cs (Err r) = Err r
claim_of cs (Ok n) = claim_once n (is_claimed cs n)

-- what a claim answers: the number's refusal first, whatever the thread is doing
abbrev pub claim : SetUp → List Bool → ℕ → Result ℕ Refusal
claim u cs n = claim_of cs (thread_or_refusal u n)

-- the claims after this answer
abbrev pub after_claim : List Bool → Result ℕ Refusal → List Bool
after_claim cs (Err r) = cs
after_claim cs (Ok n) = slice_set cs (n - 1) true
