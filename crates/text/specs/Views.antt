-- Lines, tokens and places of the code as the definitions see them: a borrowed part by its bytes.
use Rattle.std.specs.Prelude.{ℕ, ◌<◌, List, length, Option, OnSome}
use Rattle.std.specs.Iterator.{YieldsFirstBy}
use Rattle.text.specs.Lines.{Line, lines}
use Rattle.text.specs.Tokens.{Token, opening, closing, name, number, end, Spot, Taken}
use Rattle.text.specs.declared.cursor.Cursor.{Cursor}
use Rattle.text.specs.declared.line.Line.{Line as LineCell}
use Rattle.text.specs.declared.token.Token.{Token as TokenCell}
use Rattle.text.specs.declared.token.Token.TheVariants.{Open, Close, Name, Number, End}

-- a line by its bytes
abbrev pub line_view : LineCell → Line
line_view l = record { bytes = l.bytes.now; ended = l.ended }

-- the first of the lines of these bytes is taken, and the others are those of fewer bytes; or there is none
abbrev pub TakesLine : List ℕ → Option LineCell → List ℕ → Type 0
TakesLine bs l rest = YieldsFirstBy line_view lines bs l rest × OnSome l (length rest < length bs)

-- a token by its bytes
abbrev pub token_view : TokenCell → Token
token_view (Open c) = opening c
token_view (Close c) = closing c
token_view (Name t c) = name c t.now
token_view (Number t c) = number c t.now
token_view (End c) = end c

-- a place by the length of its line and the bytes that are left
abbrev pub spot : Cursor → Spot
spot c = record { size = length c.line.now; rest = c.rest.now }

-- a token and the place behind it
abbrev pub taken_view : TokenCell × Cursor → Taken
taken_view t = record { token = token_view t.0; after = spot t.1 }
