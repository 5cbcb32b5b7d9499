-- The numbers of the console's own refusals, beside those of the memory's.
use Rattle.std.specs.Prelude.{ℕ}
use Rattle.session.specs.declared.console_refusal.ConsoleRefusal.{ConsoleRefusal}
use Rattle.session.specs.declared.console_refusal.ConsoleRefusal.TheVariants.{WordCount, LongScript, ShortOutput}

-- the number of a refusal of the console
abbrev pub console_refusal_number : ConsoleRefusal → ℕ
console_refusal_number WordCount = 6
console_refusal_number LongScript = 51
console_refusal_number ShortOutput = 52
