-- Words that lie in registers of 16 bits, two to a word.
use Rattle.std.specs.Prelude.{ℕ, ◌+◌, ◌*◌, ◌/◌, ◌%◌, min, List, [], ◌∷◌, length, drop}

-- the words that registers hold, the high half of each first; an odd last register holds none
unfoldable pub paired : List ℕ → List ℕ
paired [] = []
paired (h ∷ []) = []
paired (h ∷ (l ∷ rest)) = (h * 65536 + l) ∷ paired rest

-- the registers that words lie in
unfoldable pub halved : List ℕ → List ℕ
halved [] = []
halved (w ∷ ws) = (w / 65536) ∷ ((w % 65536) ∷ halved ws)

-- the registers that hold none of the first n words: an odd last one, and those past n words
unfoldable pub past_pairs : ℕ → List ℕ → List ℕ
past_pairs n rs = drop (2 * min n (length rs / 2)) rs

-- the registers that hold no word of a store: an odd last one, and those past 65,536 words
abbrev pub unpaired : List ℕ → List ℕ
unpaired rs = past_pairs 65536 rs
