-- The tokens of a line.
use Rattle.std.specs.Prelude.{ℕ, ◌+◌, ◌-◌, cond, List, [], ◌∷◌, length, take, drop, ◌==◌}
use Rattle.std.specs.List.{prefix_len}
use Rattle.text.specs.Bytes.{is_letter, is_digit}

-- a token with the column of its first byte
pub data Token : Type 0 where
  opening : ℕ → Token
  closing : ℕ → Token
  name : ℕ → List ℕ → Token
  number : ℕ → List ℕ → Token
  end : ℕ → Token

-- the column of a token
abbrev pub column_of : Token → ℕ
column_of (opening c) = c
column_of (closing c) = c
column_of (name c t) = c
column_of (number c t) = c
column_of (end c) = c

-- a place in a line: how long the line is, and what is left of it
pub record Spot : Type 0 where
  pub size : ℕ
  pub rest : List ℕ

-- the place from which this is left
abbrev pub from_rest : Spot → List ℕ → Spot
from_rest s bs = record { size = s.size; rest = bs }

-- the column of a place, counted from 1
abbrev pub column_at : Spot → ℕ
column_at s = (s.size - length s.rest) + 1

-- a token, and the place behind it
pub record Taken : Type 0 where
  pub token : Token
  pub after : Spot

-- the first n bytes as a token
abbrev pub run : (List ℕ → Token) → Spot → ℕ → Taken
run made s n = record { token = made (take n s.rest); after = from_rest s (drop n s.rest) }

-- the token that begins with these bytes of the place
abbrev pub taken : Spot → List ℕ → Taken
taken s [] = record { token = end (column_at s); after = s }
taken s (b ∷ bs) =
    cond (b == 40) (record { token = opening (column_at s); after = from_rest s bs })
    (cond (b == 41) (record { token = closing (column_at s); after = from_rest s bs })
    (cond (is_digit b) (run (number (column_at s)) s (prefix_len is_digit s.rest)) (run (name (column_at s)) s (prefix_len is_letter s.rest))))

-- a space before a token is passed over
abbrev pub unspaced : List ℕ → List ℕ
unspaced [] = []
unspaced (b ∷ bs) = cond (b == 32) bs (b ∷ bs)

-- the next token of a place
unfoldable pub token_at : Spot → Taken
token_at s = taken (from_rest s (unspaced s.rest)) (unspaced s.rest)
