-- Words that lie in pairs of registers: what is read there, and what a write there changes.
use Rattle.std.proofs.Common.{◌≡◌, ℕ, zero, suc, ◌+◌, ◌*◌, ◌/◌, ◌%◌, ◌<◌, min, List, [], ◌∷◌, ◌++◌, length, get_or, take, drop, set, sym, refl, ap, ◌∙◌, add-one, arith, length-set}
use Rattle.std.proofs.lemmas.Nat.{shr_high, mod_low}
use Rattle.std.proofs.lemmas.List.{drop-set-lt}
use Rattle.stores.specs.Registers.{paired, halved, past_pairs, unpaired}
use Rattle.stores.specs.Words.{held}

pub length_paired : (rs : List ℕ) → length (paired rs) ≡ length rs / 2
unfolding paired
length_paired [] = refl
length_paired (h ∷ []) = refl
length_paired (h ∷ (l ∷ rest)) = omega (arith, length_paired rest)

-- the word of address a lies in the registers 2 * a and 2 * a + 1
pub pair_inside : (rs : List ℕ) (a : ℕ) → a < length (paired rs) → 2 * a + 1 < length rs
pair_inside rs a h = omega (arith, length_paired)

pub pair_at : (rs : List ℕ) (a : ℕ) → a < length (paired rs) → get_or rs (2 * a) 0 * 65536 + get_or rs (2 * a + 1) 0 ≡ get_or (paired rs) a 0
unfolding paired
pair_at [] a h = absurd (omega arith)
pair_at (x ∷ []) a h = absurd (omega arith)
pair_at (x ∷ (y ∷ rest)) zero h = refl
pair_at (x ∷ (y ∷ rest)) (suc a) h =
    let two : 2 * suc a ≡ suc (suc (2 * a)) = omega arith in
    let here = pair_at rest a (omega arith) in
    rw (add-one, two) (rw add-one at here)

-- two halves put in a word's registers are the word that they are halves of
pub paired_set : (rs : List ℕ) (a high low : ℕ) → a < length (paired rs) → paired (set (set rs (2 * a) high) (2 * a + 1) low) ≡ set (paired rs) a (high * 65536 + low)
unfolding paired
paired_set [] a high low h = absurd (omega arith)
paired_set (x ∷ []) a high low h = absurd (omega arith)
paired_set (x ∷ (y ∷ rest)) zero high low h = refl
paired_set (x ∷ (y ∷ rest)) (suc a) high low h =
    let two : 2 * suc a ≡ suc (suc (2 * a)) = omega arith in
    let here = paired_set rest a high low (omega arith) in
    rw (add-one, two) (ap (λ t. (x * 65536 + y) ∷ t) (rw add-one at here))

pub pair_set : (rs : List ℕ) (a w high low : ℕ) → a < length (paired rs) → high ≡ w / 65536 → low ≡ w % 65536 → paired (set (set rs (2 * a) high) (2 * a + 1) low) ≡ set (paired rs) a w
pair_set rs a w high low h is_high is_low =
    let whole : high * 65536 + low ≡ w = omega arith in
    paired_set rs a high low h ∙ ap (set (paired rs) a) whole

-- a word put where the first n words lie leaves the registers past them as they are
past_pairs_set : (n : ℕ) (rs : List ℕ) (i v : ℕ) → i < 2 * min n (length rs / 2) → past_pairs n (set rs i v) ≡ past_pairs n rs
unfolding past_pairs
past_pairs_set n rs i v h = rw length-set (drop-set-lt (2 * min n (length rs / 2)) rs i v h)

pub pair_past : (rs : List ℕ) (a n high low : ℕ) → a < length (paired rs) → a < n → past_pairs n (set (set rs (2 * a) high) (2 * a + 1) low) ≡ past_pairs n rs
pair_past rs a n high low h before =
    past_pairs_set n (set rs (2 * a) high) (2 * a + 1) low (omega (arith, length_paired, length-set {A = ℕ}))
    ∙ past_pairs_set n rs (2 * a) high (omega (arith, length_paired))

-- registers are the halves of the first n words in them and what is left
halves_whole : (n : ℕ) (rs : List ℕ) → ((i : ℕ) → get_or rs i 0 < 65536) → halved (take n (paired rs)) ++ drop (2 * min n (length rs / 2)) rs ≡ rs
unfolding paired halved
halves_whole zero rs small =
    let none : 2 * min 0 (length rs / 2) ≡ 0 = omega arith in
    rw none
halves_whole (suc n) [] small =
    let none : 2 * min (suc n) 0 ≡ 0 = omega arith in
    rw none
halves_whole (suc n) (h ∷ []) small =
    let none : 2 * min (suc n) 0 ≡ 0 = omega arith in
    rw none
halves_whole (suc n) (h ∷ (l ∷ rest)) small =
    let two : 2 * min (suc n) (suc (suc (length rest)) / 2) ≡ suc (suc (2 * min n (length rest / 2))) = omega arith in
    let high : (h * 65536 + l) / 65536 ≡ h = shr_high h 16 l (small 1) in
    let low : (h * 65536 + l) % 65536 ≡ l = mod_low h 16 l (small 1) in
    rw (two, high, low) (ap (λ t. h ∷ (l ∷ t)) (halves_whole n rest (λ i. small (suc (suc i)))))

-- registers are the halves of the words that are held of them, and what holds no word
pub registers_whole : (rs : List ℕ) → ((i : ℕ) → get_or rs i 0 < 65536) → halved (held (paired rs)) ++ unpaired rs ≡ rs
unfolding held past_pairs
registers_whole rs small = halves_whole 65536 rs small

-- for the proofs of registers
pub ruleset in_registers = (length_paired, length-set, pair_inside, pair_at, pair_set, pair_past)
