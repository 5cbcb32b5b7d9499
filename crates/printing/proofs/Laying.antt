-- What laying text over an output keeps, and how texts that follow one another lie there.
use Rattle.std.proofs.Common.{◌≡◌, ℕ, zero, suc, ◌+◌, ◌-◌, ◌<◌, ◌≤◌, List, [], ◌∷◌, ◌++◌, length, take, drop, set, sym, refl, ap, ◌∙◌, arith, length-append, length-drop, length-take}
use Rattle.std.proofs.lemmas.List.{nil_from_length, take_at}
use Rattle.printing.specs.Laid.{laid, end_of}

pub length_laid : (at : ℕ) (text out : List ℕ) → length (laid at text out) ≡ length out
unfolding laid
length_laid at text out = simp (length-append, length-take, length-drop) (omega arith)

-- behind the first byte of the output
laid_later : (at : ℕ) (text : List ℕ) (b : ℕ) (out : List ℕ) → laid (suc at) text (b ∷ out) ≡ b ∷ laid at text out
unfolding laid
laid_later at text b out =
    let gap : suc (length out) - suc at ≡ length out - at = omega arith in
    let past : suc at + length text ≡ suc (at + length text) = omega arith in
    ap (λ n. b ∷ (take at out ++ (take n text ++ drop (suc at + length text) (b ∷ out)))) gap
    ∙ ap (λ n. b ∷ (take at out ++ (take (length out - at) text ++ drop n (b ∷ out)))) past

-- over the first byte of the output
laid_here : (x : ℕ) (text : List ℕ) (b : ℕ) (out : List ℕ) → laid 0 (x ∷ text) (b ∷ out) ≡ x ∷ laid 0 text out
unfolding laid
laid_here x text b out =
    let gap : suc (length out) - 0 ≡ suc (length out - 0) = omega arith in
    let past : 0 + suc (length text) ≡ suc (0 + length text) = omega arith in
    ap (λ n. take n (x ∷ text) ++ drop (0 + suc (length text)) (b ∷ out)) gap
    ∙ ap (λ n. x ∷ (take (length out - 0) text ++ drop n (b ∷ out))) past

-- an output with no bytes stays so
laid_nowhere : (at : ℕ) (text : List ℕ) → laid at text [] ≡ []
laid_nowhere at text = nil_from_length (laid at text []) (length_laid at text [])

-- no text changes nothing
pub laid_nothing : (at : ℕ) (out : List ℕ) → laid at [] out ≡ out
unfolding laid
laid_nothing zero [] = refl
laid_nothing zero (b ∷ out) =
    let some : suc (length out) - 0 ≡ suc (length out) = omega arith in
    ap (λ n. take {A = ℕ} n [] ++ (b ∷ out)) some
laid_nothing (suc at) [] = laid_nowhere (suc at) []
laid_nothing (suc at) (b ∷ out) = laid_later at [] b out ∙ ap (λ l. b ∷ l) (laid_nothing at out)

-- from a place past the output nothing is laid
pub laid_past : (at : ℕ) (text out : List ℕ) → length out ≤ at → laid at text out ≡ out
laid_past at text [] h = laid_nowhere at text
laid_past zero text (b ∷ out) h = absurd (omega arith)
laid_past (suc at) text (b ∷ out) h = laid_later at text b out ∙ ap (λ l. b ∷ l) (laid_past at text out (omega arith))

-- a text that fits stands first, and what is behind it stays
pub laid_fits : (text out : List ℕ) → length text ≤ length out → laid 0 text out ≡ text ++ drop (length text) out
laid_fits [] out h = laid_nothing 0 out
laid_fits (x ∷ text) [] h = absurd (omega arith)
laid_fits (x ∷ text) (b ∷ out) h = laid_here x text b out ∙ ap (λ l. x ∷ l) (laid_fits text out (omega arith))

-- a text that fits ends behind its last byte
pub end_fits : (at : ℕ) (text : List ℕ) (size : ℕ) → at + length text ≤ size → end_of at text size ≡ at + length text
unfolding end_of
end_fits at text size h = omega arith

-- a text that fits is what the output then has up to its end
pub take_laid : (text out : List ℕ) → length text ≤ length out → take (end_of 0 text (length out)) (laid 0 text out) ≡ text
take_laid text out h =
    let end : end_of 0 text (length out) ≡ length text = omega (arith, end_fits 0 text (length out) (omega arith)) in
    ap (λ n. take n (laid 0 text out)) end ∙ ap (take (length text)) (laid_fits text out h) ∙ take_at text (drop (length text) out) (length text) refl

-- a byte that is set is a text of one byte
pub laid_byte : (at b : ℕ) (out : List ℕ) → at < length out → set out at b ≡ laid at (b ∷ []) out
laid_byte at b [] h = absurd (omega arith)
laid_byte zero b (o ∷ out) h = ap (λ l. b ∷ l) (sym (laid_nothing 0 out)) ∙ sym (laid_here b [] o out)
laid_byte (suc at) b (o ∷ out) h = ap (λ l. o ∷ l) (laid_byte at b out (omega arith)) ∙ sym (laid_later at (b ∷ []) o out)

-- a text and a second one behind it lie as the two in one
pub laid_joined : (at : ℕ) (s t out : List ℕ) → laid (end_of at s (length out)) t (laid at s out) ≡ laid at (s ++ t) out
unfolding end_of
laid_joined at s t [] =
    ap (laid (end_of at s 0) t) (laid_nowhere at s)
    ∙ laid_nowhere (end_of at s 0) t
    ∙ sym (laid_nowhere at (s ++ t))
laid_joined zero [] t (b ∷ out) =
    let none : end_of 0 [] (suc (length out)) ≡ 0 = omega arith in
    ap (λ e. laid e t (laid 0 [] (b ∷ out))) none ∙ ap (laid 0 t) (laid_nothing 0 (b ∷ out))
laid_joined zero (x ∷ s) t (b ∷ out) =
    let one : end_of 0 (x ∷ s) (suc (length out)) ≡ suc (end_of 0 s (length out)) = omega arith in
    ap (λ e. laid e t (laid 0 (x ∷ s) (b ∷ out))) one
    ∙ ap (laid (suc (end_of 0 s (length out))) t) (laid_here x s b out)
    ∙ laid_later (end_of 0 s (length out)) t x (laid 0 s out)
    ∙ ap (λ l. x ∷ l) (laid_joined zero s t out)
    ∙ sym (laid_here x (s ++ t) b out)
laid_joined (suc at) s t (b ∷ out) =
    let one : end_of (suc at) s (suc (length out)) ≡ suc (end_of at s (length out)) = omega arith in
    ap (λ e. laid e t (laid (suc at) s (b ∷ out))) one
    ∙ ap (laid (suc (end_of at s (length out))) t) (laid_later at s b out)
    ∙ laid_later (end_of at s (length out)) t b (laid at s out)
    ∙ ap (λ l. b ∷ l) (laid_joined at s t out)
    ∙ sym (laid_later at (s ++ t) b out)

-- and end where the two in one end
pub end_joined : (at : ℕ) (s t : List ℕ) (size : ℕ) → end_of (end_of at s size) t size ≡ end_of at (s ++ t) size
unfolding end_of
end_joined at s t size = simp length-append (omega arith)

-- what is laid where a text ends is laid with that text, and ends where the two in one end
pub laid_further : (at end : ℕ) (s t out now after : List ℕ) → now ≡ laid at s out → end ≡ end_of at s (length out) → after ≡ laid end t now → after ≡ laid at (s ++ t) out
laid_further at end s t out now after n e h = h ∙ ap (λ a. laid a t now) e ∙ ap (laid (end_of at s (length out)) t) n ∙ laid_joined at s t out

pub end_further : (at end further : ℕ) (s t out now : List ℕ) → now ≡ laid at s out → end ≡ end_of at s (length out) → further ≡ end_of end t (length now) → further ≡ end_of at (s ++ t) (length out)
end_further at end further s t out now n e h =
    h
    ∙ ap (λ a. end_of a t (length now)) e
    ∙ ap (end_of (end_of at s (length out)) t) (ap length n ∙ length_laid at s out)
    ∙ end_joined at s t (length out)
