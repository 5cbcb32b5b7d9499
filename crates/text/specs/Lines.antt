-- The lines of a script.
use Rattle.std.specs.Prelude.{ℕ, Bool, true, false, cond, List, [], ◌∷◌, ◌==◌}

-- a line: its bytes, and whether a line feed ended it
pub record Line : Type 0 where
  pub bytes : List ℕ
  pub ended : Bool

-- a byte in front of the first line; with no line behind it, it is a line that nothing ended
abbrev pub lengthened : ℕ → List Line → List Line
lengthened b [] = record { bytes = b ∷ []; ended = false } ∷ []
lengthened b (l ∷ ls) = record { bytes = b ∷ l.bytes; ended = l.ended } ∷ ls

-- the lines of a script: a line feed, 10, ends each; bytes behind the last one are a line that nothing ended
unfoldable pub lines : List ℕ → List Line
lines [] = []
lines (b ∷ bs) = cond (b == 10) (record { bytes = []; ended = true } ∷ lines bs) (lengthened b (lines bs))
