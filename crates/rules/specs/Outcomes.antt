-- What a step of a call leaves, and what a whole call leaves.
use Rattle.std.specs.Prelude.{◌≡◌, ℕ, Bool, List, [], Ok, Err, Result}
use Rattle.common.specs.declared.loss.Loss.{Loss}
use Rattle.common.specs.declared.refusal.Refusal.{Refusal}
use Rattle.contention.specs.Events.{Event}
use Rattle.rules.specs.States.{State, World}
use Rattle.rules.specs.declared.answer.Answer.{Answer}
use Rattle.rules.specs.declared.answer.Answer.TheVariants.{Refused, Lost}

-- whether the first thread beats the second, as the policy has it at the start of the call
abbrev pub Table : Type 0
Table = ℕ → ℕ → Bool

-- a step of a call: it goes on, with what the policy is told, or it loses the caller's transaction
pub data Step : Type 0 where
  goes : State → List Event → Step
  loses : Loss → State → Step

-- what the policy is told in a step
abbrev pub step_told : Step → List Event
step_told (goes st es) = es
step_told (loses l st) = []

-- what is known of a step by its result and the engine after it
abbrev pub Stepped : Step → Result (Unit {0}) Loss → State → Type 0
Stepped s (Ok _) st = s ≡ goes st (step_told s)
Stepped s (Err l) st = s ≡ loses l st

-- a whole call: its answer, what the policy is told, the newest first, and what it leaves
pub record Outcome : Type 0 where
  pub answer : Answer
  pub told : List Event
  pub after : World

-- the world with another engine over the same words
abbrev pub over : World → State → World
over w st = record { engine = st; words = w.words }

-- a refusal changes nothing
abbrev pub refuse : World → Refusal → Outcome
refuse w r = record { answer = Refused r; told = []; after = w }

-- a loss, with the engine as the losing step left it
abbrev pub lost : World → Loss → State → Outcome
lost w l st = record { answer = Lost l; told = []; after = over w st }

-- a call that went through
abbrev pub done : World → Answer → List Event → State → Outcome
done w a es st = record { answer = a; told = es; after = over w st }
