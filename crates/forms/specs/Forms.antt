-- What a line asks for, or what is wrong with it: first its text, then the name of its form, then whether that form is
-- due, then the items from left to right. The first fault is the answer.
use Rattle.std.specs.Prelude.{Bool, true, false, length, Ok, Err, Result, slice_index}
use Rattle.forms.specs.Engines.{engine_at}
use Rattle.forms.specs.Heads.{head_at, is_due}
use Rattle.forms.specs.Items.{bracket_at}
use Rattle.forms.specs.Numbers.{numbers_at}
use Rattle.forms.specs.Views.{Reading, ◌>>=◌}
use Rattle.forms.specs.declared.form.Form.{Form}
use Rattle.forms.specs.declared.form.Form.TheVariants.{Engine, Call, Peek}
use Rattle.forms.specs.declared.form_fault.FormFault.{FormFault}
use Rattle.forms.specs.declared.form_fault.FormFault.TheVariants.{Text, Order}
use Rattle.forms.specs.declared.head.Head.{Head}
use Rattle.forms.specs.declared.head.Head.TheVariants.{Engine as EngineHead, Call as CallHead, Roll as RollHead, Peek as PeekHead}
use Rattle.forms.specs.declared.item.Bracket.TheVariants.{Close}
use Rattle.rules.specs.declared.call.Call.{Call as CallValue}
use Rattle.rules.specs.declared.call.Call.TheVariants.{Begin as BeginCall, Load as LoadCall, Store as StoreCall, Seal as SealCall, Drain as DrainCall, Back as BackCall, Roll as RollCall}
use Rattle.rules.specs.declared.kind.Kind.{Kind}
use Rattle.rules.specs.declared.kind.Kind.TheVariants.{Begin, Load, Store, Seal, Drain, Back}
use Rattle.text.specs.Lines.{Line}
use Rattle.text.specs.Tokens.{Spot}
use Rattle.text.specs.Verdicts.{text_verdict}
use Rattle.text.specs.declared.text_fault.TextFault.{TextFault}

-- what is made of the items, unless one is at fault
abbrev pub made_of : {A B : Type 0} → (A → B) → Result A FormFault → Result B FormFault
made_of make (Err f) = Err f
made_of make (Ok a) = Ok (make a)

-- the items of a call on a thread: the thread, the address of a load or a store, the word of a store
abbrev pub call_at : Kind → Spot → Result CallValue FormFault
call_at Begin s = made_of (λ n. BeginCall (slice_index n 0)) (numbers_at 1 s)
call_at Load s = made_of (λ n. LoadCall (slice_index n 0) (slice_index n 1)) (numbers_at 2 s)
call_at Store s = made_of (λ n. StoreCall (slice_index n 0) (slice_index n 1) (slice_index n 2)) (numbers_at 3 s)
call_at Seal s = made_of (λ n. SealCall (slice_index n 0)) (numbers_at 1 s)
call_at Drain s = made_of (λ n. DrainCall (slice_index n 0)) (numbers_at 1 s)
call_at Back s = made_of (λ n. BackCall (slice_index n 0)) (numbers_at 1 s)

-- the items of a form; a roll has none
abbrev pub items_at : Head → Spot → Result Form FormFault
items_at EngineHead s = made_of Engine (engine_at s)
items_at (CallHead k) s = made_of Call (call_at k s)
items_at RollHead s = made_of (λ c. Call RollCall) (bracket_at Close s)
items_at PeekHead s = made_of (λ n. Peek (slice_index n 0)) (numbers_at 1 s)

-- the items count once the form is due
abbrev pub form_due : Reading Head → Bool → Result Form FormFault
form_due h false = Err Order
form_due h true = items_at h.value h.after

-- the name counts once the text is a form, and has to be due then
abbrev pub form_read : Line → Bool → Result (Unit {0}) TextFault → Result Form FormFault
form_read l has_engine (Err f) = Err (Text f)
form_read l has_engine (Ok _) =
    head_at (record { size = length l.bytes; rest = l.bytes }) >>= λ h. form_due h (is_due h.value has_engine)

-- the form of a line, where an engine was accepted before or not
abbrev pub form_of : Line → Bool → Result Form FormFault
form_of l has_engine = form_read l has_engine (text_verdict l)
