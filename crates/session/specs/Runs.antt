-- What a whole script is answered, and what it leaves in the output.
use Rattle.std.specs.Prelude.{ℕ, ◌*◌, cond, List, ◌++◌, length, drop, Some, None, Ok, Err, Option, Result, nat_lt}
use Rattle.session.specs.declared.console_refusal.ConsoleRefusal.{ConsoleRefusal}
use Rattle.session.specs.declared.console_refusal.ConsoleRefusal.TheVariants.{LongScript, ShortOutput}
use Rattle.session.specs.Scripts.{script_text}
use Rattle.text.specs.Lines.{lines}

-- what the lines of a script print
abbrev pub script_printed : List ℕ → List ℕ
script_printed script = script_text (lines script)

-- why a script is not run with an output of this size: it has more than 32,768 bytes, or the output less than 32 for each line
abbrev pub script_refusal : List ℕ → ℕ → Option ConsoleRefusal
script_refusal script size =
    cond (nat_lt 32768 (length script)) (Some LongScript)
    (cond (nat_lt size (32 * length (lines script))) (Some ShortOutput) None)

-- a script that is run answers how many bytes it prints
abbrev pub answer_unless : Option ConsoleRefusal → List ℕ → Result ℕ ConsoleRefusal
answer_unless None text = Ok (length text)
answer_unless (Some r) text = Err r

abbrev pub script_answer : List ℕ → ℕ → Result ℕ ConsoleRefusal
script_answer script size = answer_unless (script_refusal script size) (script_printed script)

-- what is printed stands first in the output, and what is behind it stays; a refusal leaves all of it
abbrev pub output_unless : Option ConsoleRefusal → List ℕ → List ℕ → List ℕ
output_unless None text out = text ++ drop (length text) out
output_unless (Some r) text out = out

abbrev pub script_output : List ℕ → List ℕ → List ℕ
script_output script out = output_unless (script_refusal script (length out)) (script_printed script) out
