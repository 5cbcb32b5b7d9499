-- A store is a list of words, and an address is a place in it.
use Rattle.std.specs.Prelude.{ℕ, ◌≤◌, cond, List, length, take, Ok, Err, Result, nat_lt, slice_index}
use Rattle.std.proofs.Common.{arith, length-take}
use Rattle.common.specs.declared.refusal.Refusal.{Refusal}
use Rattle.common.specs.declared.refusal.Refusal.TheVariants.{NoSuchPlace}

-- what a read answers: the word at the address, or that there is no such place
abbrev pub word_at : List ℕ → ℕ → Result ℕ Refusal
word_at ws a = cond (nat_lt a (length ws)) (Ok (slice_index ws a)) (Err NoSuchPlace)

-- what a write answers: done, or that there is no such place
abbrev pub written_at : List ℕ → ℕ → Result (Unit {0}) Refusal
written_at ws a = cond (nat_lt a (length ws)) (Ok tt) (Err NoSuchPlace)

-- the words that a store holds of those in its memory: the first 65,536
unfoldable pub held : List ℕ → List ℕ
held ws = take 65536 ws

-- so there are no more
pub held_small : (ws : List ℕ) → length (held ws) ≤ 65536
unfolding held
held_small ws = simp length-take (omega arith)
