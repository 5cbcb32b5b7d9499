-- A length, or a refusal below 0.
use Rattle.std.specs.Prelude.{ℕ, ℤ, pos, neg_ℤ, Ok, Err, Result}
use Rattle.session.specs.ConsoleRefusals.{console_refusal_number}
use Rattle.session.specs.declared.console_refusal.ConsoleRefusal.{ConsoleRefusal}

-- the length, or the number of the refusal, negated
abbrev pub length_or_refusal : Result ℕ ConsoleRefusal → ℤ
length_or_refusal (Ok n) = pos n
length_or_refusal (Err r) = neg_ℤ (pos (console_refusal_number r))
