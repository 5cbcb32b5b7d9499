-- A fault names a column of its line, or one past its end.
use Rattle.std.proofs.Common.{◌≡◌, ℕ, zero, suc, ◌+◌, ◌≤◌, Bool, true, false, cond, eqb, List, [], ◌∷◌, ◌++◌, length, Some, None, Ok, Err, Option, Result, refl, ap, subst, arith}
use Rattle.forms.specs.Engines.{names_part, part_name, part_begun, part_at, engine_at}
use Rattle.forms.specs.Faults.{fault_column}
use Rattle.forms.specs.Forms.{made_of, call_at, items_at, form_due, form_read, form_of}
use Rattle.forms.specs.Heads.{head_named, head_of, head_at, is_due}
use Rattle.forms.specs.Items.{bracket_at, bracket_in, item_of, item_at, name_in, number_in}
use Rattle.forms.specs.Names.{kind_named, policy_named}
use Rattle.forms.specs.Numbers.{numbers_behind, numbers_at}
use Rattle.forms.specs.Views.{Reading, ◌>>=◌}
use Rattle.forms.specs.declared.form_fault.FormFault.{FormFault}
use Rattle.forms.specs.declared.head.Head.{Head}
use Rattle.forms.specs.declared.head.Head.TheVariants.{Engine, Call, Roll, Peek}
use Rattle.forms.specs.declared.item.Bracket.{Bracket}
use Rattle.forms.specs.declared.item.Bracket.TheVariants.{Open, Close}
use Rattle.forms.specs.declared.names.Part.{Part}
use Rattle.forms.specs.declared.names.Part.TheVariants.{Threads, Stripes, Shift, Limit, Words, Kind, Policy}
use Rattle.rules.specs.declared.kind.Kind.{Kind as CallKind}
use Rattle.rules.specs.declared.kind.Kind.TheVariants.{Begin, Load, Store, Seal, Drain, Back}
use Rattle.text.specs.Bytes.{is_digit}
use Rattle.text.specs.Lines.{Line}
use Rattle.text.specs.Places.{next}
use Rattle.text.specs.Tokens.{Token, Spot, Taken, column_of, from_rest, taken, token_at, unspaced}
use Rattle.text.specs.Verdicts.{is_over, reached, text_verdict}
use Rattle.text.specs.declared.place.Place.{Place}
use Rattle.text.specs.declared.place.Place.TheVariants.{Start}
use Rattle.text.specs.declared.text_fault.TextFault.{TextFault}

-- a place in a line of this length
InLine : ℕ → Spot → Type 0
InLine n s = s.size ≡ n

-- a token of such a line, and the place behind it
record OfLine (n : ℕ) (t : Taken) : Type 0 where
  column : column_of t.token ≤ n + 1
  after : InLine n t.after

-- a fault within such a line, or something that holds of what was read
Within : {A : Type 0} → ℕ → (A → Type 0) → Result A FormFault → Type 0
Within n P (Err f) = fault_column f ≤ n + 1
Within n P (Ok a) = P a

-- nothing is asked of what was read
Any : {A : Type 0} → A → Type 0
Any a = Unit {0}

-- what was read has its end in such a line
EndsIn : {A : Type 0} → ℕ → Reading A → Type 0
EndsIn n r = InLine n r.after

-- tokens

-- one of two tokens of a line is one
either_of_line : (n : ℕ) (b : Bool) (t u : Taken) → OfLine n t → OfLine n u → OfLine n (cond b t u)
either_of_line n true t u h k = h
either_of_line n false t u h k = k

taken_of_line : (s : Spot) (bs : List ℕ) → OfLine s.size (taken s bs)
unfolding InLine
taken_of_line s [] = record { column = omega arith; after = refl }
taken_of_line s (b ∷ bs) =
    either_of_line s.size (eqb b 40) _ _ (record { column = omega arith; after = refl })
    (either_of_line s.size (eqb b 41) _ _ (record { column = omega arith; after = refl })
    (either_of_line s.size (is_digit b) _ _ (record { column = omega arith; after = refl }) (record { column = omega arith; after = refl })))

token_of_line : (n : ℕ) (s : Spot) → InLine n s → OfLine n (token_at s)
unfolding InLine token_at
token_of_line n s h = subst (λ m. OfLine m (token_at s)) h (taken_of_line (from_rest s (unspaced s.rest)) (unspaced s.rest))

-- what is read step by step stays within the line, if each step does
then_within : {A B : Type 0} (n : ℕ) (P : A → Type 0) (Q : B → Type 0) (r : Result A FormFault) (next : A → Result B FormFault) → Within n P r → ((a : A) → P a → Within n Q (next a)) → Within n Q (r >>= next)
unfolding Within
then_within n P Q (Err f) next h k = h
then_within n P Q (Ok a) next h k = k a h

-- brackets and items

fitting_within : {A : Type 0} (n : ℕ) (t : Taken) (o : Option A) → OfLine n t → Within n (EndsIn n) (item_of t o)
unfolding Within EndsIn
fitting_within n t (Some a) h = h.after
fitting_within n t None h = h.column

item_within : {A : Type 0} (n : ℕ) (in_token : Token → Option A) (s : Spot) → InLine n s → Within n (EndsIn n) (item_at in_token s)
item_within n in_token s h = fitting_within n (token_at s) (in_token (token_at s).token) (token_of_line n s h)

bracket_within : (n : ℕ) (b : Bracket) (s : Spot) → InLine n s → Within n (EndsIn n) (bracket_at b s)
bracket_within n b s h = item_within n (bracket_in b) s h

-- numbers to the end of a form

behind_within : (n : ℕ) (ns : List ℕ) (k : ℕ) (s : Spot) → InLine n s → Within n Any (numbers_behind ns k s)
unfolding Within EndsIn Any
behind_within n ns zero s h =
    then_within n (EndsIn n) Any (bracket_at Close s) _ (bracket_within n Close s h) (λ c e. tt)
behind_within n ns (suc k) s h =
    then_within n (EndsIn n) Any (item_at number_in s) _ (item_within n number_in s h) (λ r e. behind_within n (ns ++ (r.value ∷ [])) k r.after e)

numbers_within : (n k : ℕ) (s : Spot) → InLine n s → Within n Any (numbers_at k s)
numbers_within n k s h = behind_within n [] k s h

-- parts of an engine form, and the form

name_within : (n : ℕ) (t : Taken) (b : Bool) → OfLine n t → Within n (EndsIn n) (part_name t b)
unfolding Within EndsIn
name_within n t true h = h.after
name_within n t false h = h.column

begun_within : (n : ℕ) (p : Part) (s : Spot) → InLine n s → Within n (EndsIn n) (part_begun p s)
unfolding EndsIn
begun_within n p s h =
    then_within n (EndsIn n) (EndsIn n) (bracket_at Open s) _ (bracket_within n Open s h) (λ b e. name_within n (token_at b.after) (names_part p (token_at b.after).token) (token_of_line n b.after e))

part_within : {A : Type 0} (n : ℕ) (in_token : Token → Option A) (p : Part) (s : Spot) → InLine n s → Within n (EndsIn n) (part_at in_token p s)
unfolding Within EndsIn
part_within n in_token p s h =
    then_within n (EndsIn n) (EndsIn n) _ _ (begun_within n p s h) λ b e.
    then_within n (EndsIn n) (EndsIn n) _ _ (item_within n in_token b.after e) λ a f.
    then_within n (EndsIn n) (EndsIn n) _ _ (bracket_within n Close a.after f) λ c g. g

engine_within : (n : ℕ) (s : Spot) → InLine n s → Within n Any (engine_at s)
unfolding Within EndsIn Any
engine_within n s h =
    then_within n (EndsIn n) Any _ _ (part_within n number_in Threads s h) λ a e.
    then_within n (EndsIn n) Any _ _ (part_within n number_in Stripes a.after e) λ b f.
    then_within n (EndsIn n) Any _ _ (part_within n number_in Shift b.after f) λ c g.
    then_within n (EndsIn n) Any _ _ (part_within n number_in Limit c.after g) λ d i.
    then_within n (EndsIn n) Any _ _ (part_within n number_in Words d.after i) λ w j.
    then_within n (EndsIn n) Any _ _ (part_within n (name_in kind_named) Kind w.after j) λ k l.
    then_within n (EndsIn n) Any _ _ (part_within n (name_in policy_named) Policy k.after l) λ p m.
    then_within n (EndsIn n) Any _ _ (bracket_within n Close p.after m) λ q o. tt

-- forms

made_within : {A B : Type 0} (n : ℕ) (P : A → Type 0) (make : A → B) (r : Result A FormFault) → Within n P r → Within n Any (made_of make r)
unfolding Within Any
made_within n P make (Err f) h = h
made_within n P make (Ok a) h = tt

call_within : (n : ℕ) (k : CallKind) (s : Spot) → InLine n s → Within n Any (call_at k s)
call_within n Begin s h = made_within n Any _ _ (numbers_within n 1 s h)
call_within n Load s h = made_within n Any _ _ (numbers_within n 2 s h)
call_within n Store s h = made_within n Any _ _ (numbers_within n 3 s h)
call_within n Seal s h = made_within n Any _ _ (numbers_within n 1 s h)
call_within n Drain s h = made_within n Any _ _ (numbers_within n 1 s h)
call_within n Back s h = made_within n Any _ _ (numbers_within n 1 s h)

items_within : (n : ℕ) (k : Head) (s : Spot) → InLine n s → Within n Any (items_at k s)
items_within n Engine s h = made_within n Any _ _ (engine_within n s h)
items_within n (Call c) s h = made_within n Any _ _ (call_within n c s h)
items_within n Roll s h = made_within n (EndsIn n) _ _ (bracket_within n Close s h)
items_within n Peek s h = made_within n Any _ _ (numbers_within n 1 s h)

due_within : (n : ℕ) (k : Reading Head) (b : Bool) → EndsIn n k → Within n Any (form_due k b)
unfolding Within EndsIn
due_within n k true h = items_within n k.value k.after h
due_within n k false h = omega arith

head_of_within : (n : ℕ) (t : Taken) (o : Option Head) → OfLine n t → Within n (EndsIn n) (head_of t o)
unfolding Within EndsIn
head_of_within n t (Some k) h = h.after
head_of_within n t None h = h.column

head_within : (n : ℕ) (s : Spot) → InLine n s → Within n (EndsIn n) (head_at s)
head_within n s h =
    let behind = (token_at s).after in
    head_of_within n (token_at behind) (name_in head_named (token_at behind).token) (token_of_line n behind (token_of_line n s h).after)

-- the text

-- the column of a text fault, 0 for none
text_column : {A : Type 0} → Result A TextFault → ℕ
text_column (Err f) = f.column
text_column (Ok a) = 0

reached_column : (p : Place) (c : ℕ) (bs : List ℕ) → text_column (reached p c bs) ≤ c + length bs
unfolding text_column reached
reached_column p c [] = omega arith
reached_column p c (b ∷ bs) =
    elim (next p b) as (λ o. text_column (elim o [ None ↦ Err (record { column = c }) | Some q ↦ reached q (c + 1) bs ]) ≤ c + length (b ∷ bs)) [
      | None ↦ omega arith
      | Some q ↦ omega (arith, reached_column q (c + 1) bs)
    ]

over_column : (n : ℕ) (b : Bool) (r : Result (Unit {0}) TextFault) → r ≡ cond b (Ok tt) (Err (record { column = n + 1 })) → text_column r ≤ n + 1
unfolding text_column
over_column n true r e = omega (arith, ap text_column e)
over_column n false r e = omega (arith, ap text_column e)

verdict_of : (l : Line) (r : Result Place TextFault) → text_column r ≤ 1 + length l.bytes → (v : Result (Unit {0}) TextFault) → v ≡ elim r [ Err f ↦ Err f | Ok p ↦ cond (is_over p l.ended) (Ok tt) (Err (record { column = length l.bytes + 1 })) ] → text_column v ≤ length l.bytes + 1
unfolding text_column
verdict_of l (Err f) h v e = omega (arith, ap text_column e)
verdict_of l (Ok p) h v e = over_column (length l.bytes) (is_over p l.ended) v e

verdict_column : (l : Line) → text_column (text_verdict l) ≤ length l.bytes + 1
verdict_column l = verdict_of l (reached Start 1 l.bytes) (reached_column Start 1 l.bytes) (text_verdict l) refl

read_within : (l : Line) (b : Bool) (v : Result (Unit {0}) TextFault) → text_column v ≤ length l.bytes + 1 → Within (length l.bytes) Any (form_read l b v)
unfolding Within InLine text_column
read_within l b (Err f) h = h
read_within l b (Ok u) h =
    then_within (length l.bytes) (EndsIn (length l.bytes)) Any _ _ (head_within (length l.bytes) (record { size = length l.bytes; rest = l.bytes }) refl) (λ k e. due_within (length l.bytes) k (is_due k.value b) e)

-- a fault of a line names one of its columns, or one past its end
pub columns_within : (l : Line) (b : Bool) (f : FormFault) → form_of l b ≡ Err f → fault_column f ≤ length l.bytes + 1
unfolding Within
columns_within l b f e = subst (Within (length l.bytes) Any) e (read_within l b (text_verdict l) (verdict_column l))
