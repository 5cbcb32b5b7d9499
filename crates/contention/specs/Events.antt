-- What a contention policy is told, and a policy after a list of tellings.
use Rattle.std.specs.Prelude.{ℕ, List, [], ◌∷◌}

-- an event that a policy is told; threads go by their numbers
pub data Event : Type 0 where
  -- the thread loaded a word
  word_loaded : ℕ → Event
  -- the thread took a stripe
  stripe_taken : ℕ → Event
  -- the first thread won over the second
  win_over : ℕ → ℕ → Event
  -- the thread sealed
  seal_of : ℕ → Event

-- a policy after these events, the newest first
abbrev pub after_events : {P : Type 0} → (P → Event → P) → P → List Event → P
after_events moved p [] = p
after_events moved p (e ∷ es) = moved (after_events moved p es) e
