-- A part of a list of words: where it begins, and how many words it has at most.
use Rattle.std.specs.Prelude.{ℕ, ◌≤◌, List, length, take, drop}
use Rattle.std.proofs.Common.{arith, length-take, length-drop}

-- n words from the place b on, as far as there are any
unfoldable pub part : ℕ → ℕ → List ℕ → List ℕ
part b n ws = take n (drop b ws)

-- the words before the place b
unfoldable pub before : ℕ → List ℕ → List ℕ
before b ws = take b ws

-- the words from the place e on
unfoldable pub past : ℕ → List ℕ → List ℕ
past e ws = drop e ws

-- a part of a small store is small
pub part_small : (b n : ℕ) (ws : List ℕ) → length ws ≤ 65536 → length (part b n ws) ≤ 65536
unfolding part
part_small b n ws small = simp (length-take, length-drop) (omega arith)
