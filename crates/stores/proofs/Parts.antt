-- A list cut to a part of it: what is read there, and what a write there changes.
use Rattle.std.proofs.Common.{◌≡◌, ℕ, zero, suc, ◌+◌, ◌-◌, ◌<◌, ◌≤◌, min, List, [], ◌∷◌, ◌++◌, length, get_or, take, drop, set, refl, ap, ◌∙◌, arith, length-drop, take-append-drop, length-take}
use Rattle.std.proofs.lemmas.List.{get_or-take, get_or-drop, take-set-le, drop-set-lt, drop-set-add, drop-drop, set_past}
use Rattle.stores.specs.Words.{held}
use Rattle.stores.specs.Parts.{part, before, past}

-- a cut list with a word put in is the list with the word put in, cut
pub take_set_any : (n : ℕ) (ws : List ℕ) (a w : ℕ) → take n (set ws a w) ≡ set (take n ws) a w
take_set_any zero ws a w = refl
take_set_any (suc n) [] a w = refl
take_set_any (suc n) (x ∷ ws) zero w = refl
take_set_any (suc n) (x ∷ ws) (suc a) w = ap (λ t. x ∷ t) (take_set_any n ws a w)

pub held_length : (ws : List ℕ) → length (held ws) ≡ min 65536 (length ws)
unfolding held
held_length ws = simp length-take

pub held_at : (ws : List ℕ) (a : ℕ) → a < length (held ws) → get_or (held ws) a 0 ≡ get_or ws a 0
unfolding held
held_at ws a h = get_or-take 65536 ws a 0 (omega (arith, length-take {A = ℕ}))

pub held_set : (ws : List ℕ) (a w : ℕ) → held (set ws a w) ≡ set (held ws) a w
unfolding held
held_set ws a w = take_set_any 65536 ws a w

pub past_set : (n : ℕ) (ws : List ℕ) (a w : ℕ) → a < n → past n (set ws a w) ≡ past n ws
unfolding past
past_set n ws a w h = drop-set-lt n ws a w h

pub before_set : (n : ℕ) (ws : List ℕ) (a w : ℕ) → n ≤ a → before n (set ws a w) ≡ before n ws
unfolding before
before_set n ws a w h = take-set-le n ws a w h

pub part_length : (b n : ℕ) (ws : List ℕ) → length (part b n ws) ≡ min n (length ws - b)
unfolding part
part_length b n ws = simp (length-take, length-drop)

pub part_at : (b n : ℕ) (ws : List ℕ) (a : ℕ) → a < length (part b n ws) → get_or (part b n ws) a 0 ≡ get_or ws (b + a) 0
unfolding part
part_at b n ws a h = get_or-take n (drop b ws) a 0 (omega (arith, part_length b n ws)) ∙ get_or-drop b ws a 0

pub part_set : (b n : ℕ) (ws : List ℕ) (a w : ℕ) → part b n (set ws (b + a) w) ≡ set (part b n ws) a w
unfolding part
part_set b n ws a w = ap (take n) (drop-set-add b ws a w) ∙ take_set_any n (drop b ws) a w

-- a list is what is held of it and what is past that
pub held_whole : (ws : List ℕ) → held ws ++ past 65536 ws ≡ ws
unfolding held past
held_whole ws = take-append-drop 65536 ws

-- a list is a part of it with what is around that
pub part_whole : (b n : ℕ) (ws : List ℕ) → before b ws ++ (part b n ws ++ past (b + n) ws) ≡ ws
unfolding part before past
part_whole b n ws = simp (← drop-drop, take-append-drop)

-- for the proofs of lent cells
pub ruleset in_cells = (held_length, held_at, held_set)

-- for the proofs of windows
pub ruleset in_windows = (part_length, part_at, part_set, past_set, before_set, set_past)
