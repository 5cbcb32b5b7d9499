-- How much a line prints.
use Rattle.std.specs.Prelude.{ℕ, ◌+◌, ◌*◌, ◌≤◌, List, length}
use Rattle.forms.specs.Faults.{fault_column}
use Rattle.session.specs.declared.reply.Reply.{Reply}
use Rattle.session.specs.declared.reply.Reply.TheVariants.{Answered, EngineRefused, Points, Lock, Fault}
use Rattle.text.specs.Lines.{lines}

-- the column that a reply names, if it is a fault
abbrev pub reply_column : Reply → ℕ
reply_column (Answered a) = 0
reply_column (EngineRefused r) = 0
reply_column (Points p) = 0
reply_column (Lock b) = 0
reply_column (Fault f) = fault_column f

-- a reply to a line of at most 32,768 bytes prints at most 31 bytes
abbrev pub Brief : Reply → List ℕ → Type 0
Brief r text = reply_column r ≤ 32769 → length text ≤ 31

-- so many lines and those of a script of at most 32,768 bytes print at most 31 bytes each
abbrev pub BriefLines : ℕ → List ℕ → List ℕ → Type 0
BriefLines more script text = length script ≤ 32768 → length text ≤ 31 * (more + length (lines script))
