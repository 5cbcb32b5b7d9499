-- Words that are all 0, in cells and in registers.
use Rattle.std.proofs.Common.{◌≡◌, ℕ, zero, suc, ◌-◌, ◌*◌, ◌≤◌, ◌∷◌, take, drop, replicate, refl, ap, ◌∙◌, arith}
use Rattle.stores.specs.Registers.{paired}
use Rattle.stores.specs.Words.{held}

-- a beginning of zeros is zeros
take_zeros : (n m : ℕ) → n ≤ m → take {A = ℕ} n (replicate m 0) ≡ replicate n 0
take_zeros zero m h = refl
take_zeros (suc n) zero h = absurd (omega arith)
take_zeros (suc n) (suc m) h = ap (λ l. 0 ∷ l) (take_zeros n m (omega arith))

-- more than there are of them is all of them
take_all_zeros : (n m : ℕ) → n ≤ m → take {A = ℕ} m (replicate n 0) ≡ replicate n 0
take_all_zeros zero zero h = refl
take_all_zeros zero (suc m) h = refl
take_all_zeros (suc n) zero h = absurd (omega arith)
take_all_zeros (suc n) (suc m) h = ap (λ l. 0 ∷ l) (take_all_zeros n m (omega arith))

-- a store holds all zeros of a small memory
held_zeros : (n : ℕ) → n ≤ 65536 → held (replicate n 0) ≡ replicate n 0
unfolding held
held_zeros n h = take_all_zeros n 65536 h

-- registers of zeros hold half as many words
paired_zeros : (n : ℕ) → paired (replicate (2 * n) 0) ≡ replicate n 0
unfolding paired
paired_zeros zero = refl
paired_zeros (suc n) =
    let two : 2 * suc n ≡ suc (suc (2 * n)) = omega arith in
    ap (λ m. paired (replicate m 0)) two ∙ ap (λ l. 0 ∷ l) (paired_zeros n)

-- a store over the first cells of zeros
pub cells_of_zeros : (n : ℕ) → n ≤ 256 → held (take (n - 0) (drop 0 (replicate 256 0))) ≡ replicate n 0
cells_of_zeros n h =
    let all : n - 0 ≡ n = omega arith in
    ap (λ m. held (take m (replicate 256 0))) all ∙ ap held (take_zeros n 256 h) ∙ held_zeros n (omega arith)

-- a store over the first registers of zeros
pub registers_of_zeros : (n : ℕ) → n ≤ 256 → held (paired (take (2 * n - 0) (drop 0 (replicate 512 0)))) ≡ replicate n 0
registers_of_zeros n h =
    let all : 2 * n - 0 ≡ 2 * n = omega arith in
    ap (λ m. held (paired (take m (replicate 512 0)))) all
    ∙ ap (λ l. held (paired l)) (take_zeros (2 * n) 512 (omega arith))
    ∙ ap held (paired_zeros n)
    ∙ held_zeros n (omega arith)
