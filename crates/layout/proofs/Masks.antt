-- A stripe count is a power of two, so the number one below it is a mask.
use Rattle.std.proofs.Common.{◌≡◌, ℕ, ◌-◌, ◌%◌, ◌^◌, Bool, true, eqb, ◌⊎◌, sym, subst, inl, inr}
use lib.Bits.{bit_and}
use Rattle.layout.specs.Limits.{stripe_count}
use Rattle.std.proofs.lemmas.Nat.{and_mask}
use Rattle.std.proofs.lemmas.Bool.{or_cases, eqb-true}

-- the exponent of a stripe count
pub exponent : (n : ℕ) → stripe_count n ≡ true → (k : ℕ) × (n ≡ 2 ^ k)
exponent n h =
    one_of 6 (or_cases _ _ h) (λ h. one_of 5 (or_cases _ _ h) (λ h. one_of 4 (or_cases _ _ h)
    (λ h. one_of 3 (or_cases _ _ h) (λ h. one_of 2 (or_cases _ _ h) (λ h. one_of 1 (or_cases _ _ h)
    (λ h. (0, eqb-true n 1 h)))))))
  where
    one_of : (k : ℕ) {x : Bool} → (x ≡ true) ⊎ (eqb n (2 ^ k) ≡ true) → (x ≡ true → (k : ℕ) × (n ≡ 2 ^ k)) → (k : ℕ) × (n ≡ 2 ^ k)
    one_of k (inl h) rest = rest h
    one_of k (inr h) rest = (k, eqb-true n (2 ^ k) h)

-- the mask of a stripe count leaves the remainder
pub mask_remainder : (a n : ℕ) → stripe_count n ≡ true → bit_and a (n - 1) ≡ a % n
mask_remainder a n h =
    let e = exponent n h in
    subst (λ (m : ℕ). bit_and a (m - 1) ≡ a % m) (sym e.1) (and_mask a e.0)
