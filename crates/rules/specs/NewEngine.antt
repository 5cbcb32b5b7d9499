-- The engine that nobody has called yet.
use Rattle.std.specs.Prelude.{ℕ, false, List, []}
use Rattle.layout.specs.declared.set_up.SetUp.{SetUp}
use Rattle.rules.specs.Maps.{everywhere}
use Rattle.rules.specs.States.{State, World, Stripe, Thread}
use Rattle.rules.specs.declared.phase.Phase.TheVariants.{Idle}

-- a stripe that nobody has touched
abbrev pub new_stripe : Stripe
new_stripe = record { version = 0; owner = 0 }

-- a thread that has begun nothing
abbrev pub new_thread : Thread
new_thread = record { phase = Idle; snapshot = 0; reads = []; writes = [] }

-- all numbers 0, the mark off, no owners, empty logs, all threads idle
abbrev pub new_engine : SetUp → State
new_engine u = record { set_up = u; clock = 0; mark = false; stripes = everywhere new_stripe; threads = everywhere new_thread }

-- a new engine over these words
abbrev pub new_world : SetUp → List ℕ → World
new_world u ws = record { engine = new_engine u; words = ws }
