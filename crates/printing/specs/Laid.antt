-- Text that is written into an output from a place on.
use Rattle.std.specs.Prelude.{ℕ, ◌+◌, ◌-◌, min, List, ◌++◌, length, take, drop}

-- the output with this text laid over it from a place on: what does not fit is cut off, and the bytes around the text stay
unfoldable pub laid : ℕ → List ℕ → List ℕ → List ℕ
laid at text out = take at out ++ (take (length out - at) text ++ drop (at + length text) out)

-- where the text ends in an output of this size
unfoldable pub end_of : ℕ → List ℕ → ℕ → ℕ
end_of at text size = at + min (length text) (size - at)
