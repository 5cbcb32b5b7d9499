-- What a line does before there is an engine.
use Rattle.std.specs.Prelude.{◌≡◌, Bool, true, false, Ok, Err, Result, nat_le, refl}
use Rattle.std.proofs.Common.{leb-true}
use Rattle.common.specs.declared.refusal.Refusal.{Refusal}
use Rattle.forms.specs.Forms.{form_of}
use Rattle.forms.specs.declared.form.EngineForm.{EngineForm}
use Rattle.forms.specs.declared.form.Form.{Form}
use Rattle.forms.specs.declared.form.Form.TheVariants.{Engine, Call, Peek}
use Rattle.forms.specs.declared.form_fault.FormFault.{FormFault}
use Rattle.forms.specs.declared.form_fault.FormFault.TheVariants.{Order}
use Rattle.layout.specs.declared.set_up.SetUp.{SetUp}
use Rattle.rules.specs.declared.answer.Answer.TheVariants.{Refused}
use Rattle.session.specs.SetUps.{set_up_of}
use Rattle.session.specs.declared.console_refusal.ConsoleRefusal.TheVariants.{WordCount}
use Rattle.session.specs.declared.opening.Opening.{Opening}
use Rattle.session.specs.declared.reply.Reply.{Reply}
use Rattle.session.specs.declared.reply.Reply.TheVariants.{Answered, EngineRefused, Fault}
use Rattle.text.specs.Lines.{Line}

-- a console's engine has at most 256 words
abbrev pub sized_opening : (e : EngineForm) → SetUp → (ok : Bool) → nat_le e.words 256 ≡ ok → Result Opening Reply
sized_opening e u true few = Ok (record { set_up = u; engine = e; small = leb-true e.words 256 few })
sized_opening e u false many = Err (EngineRefused WordCount)

-- the set-up counts before the words
abbrev pub set_up_opening : EngineForm → Result SetUp Refusal → Result Opening Reply
set_up_opening e (Err r) = Err (Answered (Refused r))
set_up_opening e (Ok u) = sized_opening e u (nat_le e.words 256) refl

-- an engine form is accepted, or refused and leaves no engine
abbrev pub engine_opening : EngineForm → Result Opening Reply
engine_opening e = set_up_opening e (set_up_of e.threads e.stripes e.shift e.limit)

-- an engine form, or a fault; another form does not come through, since there is no engine
abbrev pub form_opening : Result Form FormFault → Result Opening Reply
form_opening (Err f) = Err (Fault f)
form_opening (Ok (Engine e)) = engine_opening e
form_opening (Ok (Call c)) = Err (Fault Order)
form_opening (Ok (Peek s)) = Err (Fault Order)

-- a line before there is an engine
abbrev pub opening : Line → Result Opening Reply
opening l = form_opening (form_of l false)
