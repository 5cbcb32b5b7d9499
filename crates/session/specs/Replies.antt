-- What each reply prints: a form on a line.
use Rattle.std.specs.Prelude.{ℕ, List, [], ◌∷◌, codes}
use Rattle.common.specs.Numbers.{refusal_number, loss_cause, loss_detail}
use Rattle.forms.specs.Faults.{fault_number, fault_column}
use Rattle.forms.specs.declared.form_fault.FormFault.{FormFault}
use Rattle.forms.specs.declared.form_fault.FormFault.TheVariants.{Text, Name, Item, Order}
use Rattle.printing.specs.Forms.{form_text}
use Rattle.rules.specs.Endings.{ending_cause, ending_detail}
use Rattle.rules.specs.declared.answer.Answer.{Answer}
use Rattle.rules.specs.declared.answer.Answer.TheVariants.{Done, Word, Sealed, Left, Back, Refused, Lost}
use Rattle.rules.specs.declared.ending.Sealed.{Sealed as Seal}
use Rattle.rules.specs.declared.ending.Sealed.TheVariants.{Reader, Updater}
use Rattle.session.specs.ConsoleRefusals.{console_refusal_number}
use Rattle.session.specs.declared.reply.Reply.{Reply}
use Rattle.session.specs.declared.reply.Reply.TheVariants.{Answered, EngineRefused, Points, Lock, Fault}

-- a reader's seal shows its snapshot end, an updater's its ticket
abbrev pub seal_text : Seal → List ℕ
seal_text (Reader s) = form_text (codes "read") (s ∷ [])
seal_text (Updater t) = form_text (codes "sealed") (t ∷ [])

-- what a call answers
abbrev pub answer_text : Answer → List ℕ
answer_text Done = form_text (codes "ok") []
answer_text (Word w) = form_text (codes "word") (w ∷ [])
answer_text (Sealed s) = seal_text s
answer_text (Left k) = form_text (codes "left") (k ∷ [])
answer_text (Back e) = form_text (codes "back") (ending_cause e ∷ ending_detail e ∷ [])
answer_text (Refused r) = form_text (codes "refused") (refusal_number r ∷ [])
answer_text (Lost l) = form_text (codes "lost") (loss_cause l ∷ loss_detail l ∷ [])

-- the layer that found a fault
abbrev pub fault_layer : FormFault → List ℕ
fault_layer (Text t) = codes "fault text"
fault_layer (Name c) = codes "fault form"
fault_layer (Item c) = codes "fault form"
fault_layer Order = codes "fault form"

-- a fault by its layer, its number and its column
abbrev pub fault_text : FormFault → List ℕ
fault_text f = form_text (fault_layer f) (fault_number f ∷ fault_column f ∷ [])

-- what a line is answered
abbrev pub reply_text : Reply → List ℕ
reply_text (Answered a) = answer_text a
reply_text (EngineRefused r) = form_text (codes "refused") (console_refusal_number r ∷ [])
reply_text (Points p) = form_text (codes "points") (p.load ∷ p.take ∷ [])
reply_text (Lock b) = form_text (codes "lock") (b ∷ [])
reply_text (Fault f) = fault_text f
