-- What a form is, whatever reads it.
use Rattle.std.specs.Prelude.{◌≡◌, ℕ, ◌+◌, ◌<◌, true, List, [], ◌∷◌, ◌++◌, length, take, is_ok, Err, Decides, Result, ◌≢◌}
use Rattle.std.specs.List.{AllByRecursion}
use Rattle.text.specs.Bytes.{is_letter, is_digit}
use Rattle.text.specs.Lines.{Line}
use Rattle.text.specs.declared.text_fault.TextFault.{TextFault}

abbrev pub Letters : List ℕ → Type 0
Letters bs = AllByRecursion (λ b. is_letter b ≡ true) bs

abbrev pub Digits : List ℕ → Type 0
Digits bs = AllByRecursion (λ b. is_digit b ≡ true) bs

-- a name: one letter or more
pub data Name : List ℕ → Type 0 where
  letters : (b : ℕ) (bs : List ℕ) → Letters (b ∷ bs) → Name (b ∷ bs)

-- a number: 0 alone, or digits that do not begin with 0
pub data Number : List ℕ → Type 0 where
  nought : Number (48 ∷ [])
  digits : (b : ℕ) (bs : List ℕ) → (b ≢ 48) → Digits (b ∷ bs) → Number (b ∷ bs)

-- an item that is no form: a name or a number
pub data Plain : List ℕ → Type 0 where
  name : (bs : List ℕ) → Name bs → Plain bs
  number : (bs : List ℕ) → Number bs → Plain bs

-- items, each behind one space
pub data Items (Item : List ℕ → Type 0) : List ℕ → Type 0 where
  none : Items Item []
  more : (item rest : List ℕ) → Item item → Items Item rest → Items Item (32 ∷ (item ++ rest))

-- an opening bracket, a name, items and a closing bracket
pub data Bracketed (Item : List ℕ → Type 0) : List ℕ → Type 0 where
  bracketed : (called items : List ℕ) → Name called → Items Item items → Bracketed Item (40 ∷ (called ++ (items ++ (41 ∷ []))))

-- an item of a line's form: a plain one, or a form whose items are plain
pub data Item : List ℕ → Type 0 where
  plain : (bs : List ℕ) → Plain bs → Item bs
  form : (bs : List ℕ) → Bracketed Plain bs → Item bs

-- a form, which is what a line has to be
abbrev pub Form : List ℕ → Type 0
Form bs = Bracketed Item bs

-- the bytes can go on to a form
abbrev pub Begins : List ℕ → Type 0
Begins bs = (rest : List ℕ) × Form (bs ++ rest)

-- the line is a form, and a line feed ended it
abbrev pub Whole : Line → Type 0
Whole l = Form l.bytes × (l.ended ≡ true)

-- a fault at a column: the bytes before it can go on to a form, and with the byte at it they cannot;
-- or, one past the end, the bytes can go on to a form, and the line is no whole one
pub data Fault (l : Line) : ℕ → Type 0 where
  astray : (k : ℕ) → k < length l.bytes → Begins (take k l.bytes) → (Begins (take (k + 1) l.bytes) → ⊥) → Fault l (k + 1)
  short : Begins l.bytes → (Whole l → ⊥) → Fault l (length l.bytes + 1)

-- what a verdict says of a line: it is accepted exactly if it is a whole form, and a refusal has the fault's column
pub record Judged (l : Line) (r : Result (Unit {0}) TextFault) : Type 0 where
  pub accepted : Decides (is_ok r) (Whole l)
  pub refused : (f : TextFault) → r ≡ Err f → Fault l f.column
