-- What a line does to a memory.
use Rattle.std.specs.Prelude.{◌≡◌, ℕ, true, List, [], Ok, Err, Result}
use Rattle.common.specs.declared.refusal.Refusal.{Refusal}
use Rattle.contention.specs.Events.{Event, after_events}
use Rattle.forms.specs.Forms.{form_of}
use Rattle.forms.specs.declared.form.Form.{Form}
use Rattle.forms.specs.declared.form.Form.TheVariants.{Engine, Call, Peek}
use Rattle.forms.specs.declared.form_fault.FormFault.{FormFault}
use Rattle.forms.specs.declared.form_fault.FormFault.TheVariants.{Order}
use Rattle.memory.specs.Memories.{world}
use Rattle.memory.specs.declared.memory.Memory.{Memory}
use Rattle.rules.specs.Calls.{performed}
use Rattle.rules.specs.Outcomes.{Outcome, Table}
use Rattle.rules.specs.Peek.{peek}
use Rattle.rules.specs.States.{World}
use Rattle.rules.specs.declared.answer.Answer.TheVariants.{Refused}
use Rattle.session.specs.declared.reply.Reply.{Reply}
use Rattle.session.specs.declared.reply.Reply.TheVariants.{Answered, Lock, Fault}
use Rattle.stores.specs.Homes.{Home}
use Rattle.text.specs.Lines.{Line}

-- a line's reply, what the policy is told, the newest first, and what the line leaves
pub record Turn : Type 0 where
  pub reply : Reply
  pub told : List Event
  pub after : World

-- a reply that changes nothing
abbrev pub still : World → Reply → Turn
still w r = record { reply = r; told = []; after = w }

-- a call's outcome as a turn
abbrev pub call_turn : Outcome → Turn
call_turn o = record { reply = Answered o.answer; told = o.told; after = o.after }

-- what a peek is answered
abbrev pub peek_reply : Result ℕ Refusal → Reply
peek_reply (Ok b) = Lock b
peek_reply (Err r) = Answered (Refused r)

-- a form makes its call, a fault is answered; an engine form does not come through, since there is an engine
abbrev pub form_turn : Table → World → Result Form FormFault → Turn
form_turn beats w (Err f) = still w (Fault f)
form_turn beats w (Ok (Call c)) = call_turn (performed beats w c)
form_turn beats w (Ok (Peek s)) = still w (peek_reply (peek w.engine s))
form_turn beats w (Ok (Engine e)) = still w (Fault Order)

-- a line once there is an engine
abbrev pub line_turn : Table → World → Line → Turn
line_turn beats w l = form_turn beats w (form_of l true)

-- a memory did what a turn says: its reply, the engine and the words after it, and the policy moved by what it is told, in order.
-- The words stay in the memory that they were lent
pub record Spoke {S P : Type 0} (words : S → List ℕ) (home : S → Home) (moved : P → Event → P) (before after : Memory S P) (reply : Reply) (due : Turn) : Type 0 where
  pub replied : reply ≡ due.reply
  pub left : world words after ≡ due.after
  pub told : after.policy ≡ after_events moved before.policy due.told
  pub lender : home after.words ≡ home before.words
