-- The bits of a lock word against sums and quotients, and both round trips.
use Rattle.std.proofs.Common.{◌≡◌, ℕ, ◌+◌, ◌*◌, ◌/◌, ◌%◌, ◌^◌, ◌<◌, ◌≤◌, Bool, true, false, cond, ◌&&◌, eqb, leb, ◌⊎◌, Ok, Err, sym, ap, ◌∙◌, inl, inr, arith}
use lib.Bits.{bit_and, bit_or}
use Rattle.common.specs.declared.refusal.Refusal.TheVariants.{LockWord as NoLockWord}
use Rattle.layout.specs.LockWords.{owned, word_of, packed, fields_in, well_formed, unpacked, NeverWritten}
use Rattle.layout.specs.declared.lock_word.LockWord.{LockWord}
use Rattle.std.proofs.lemmas.Nat.{and_mask, or_shifted}
use Rattle.std.proofs.lemmas.Bool.{and_parts, and_from, both_ways, cases_Bool, cond-true, cond-false, eq-eqb, eqb-true, le-leb, leb-true}

-- bit 0 is a bit
pub owned_bit : (o : ℕ) → owned o < 2
owned_bit o = at (eqb o 0)
  where
    at : (b : Bool) → cond b 0 1 < 2
    at true = omega arith
    at false = omega arith

-- the three parts do not overlap, so joining them is adding them
pub joined_bits : (v o d : ℕ) → v ≤ 2147483647 → o ≤ 8 → d ≡ owned o → bit_or (o * 2 ^ 32 % 2 ^ 64) (bit_or (v * 2 % 2 ^ 64) d) ≡ word_of v o
joined_bits v o d h k e =
    (λ i. bit_or (high i) (bit_or (low i) (e i)))
    ∙ ap (bit_or (o * 2 ^ 32)) (or_shifted v 1 (owned o) (owned_bit o))
    ∙ or_shifted o 32 (v * 2 + owned o) (omega (arith, owned_bit o))
  where
    high : o * 2 ^ 32 % 2 ^ 64 ≡ o * 2 ^ 32
    high = omega arith

    low : v * 2 % 2 ^ 64 ≡ v * 2
    low = omega arith

-- bit 0 by a mask
pub formed : (b d : ℕ) → b / 2 ^ 32 ≤ 8 → d ≡ owned (b / 2 ^ 32) → eqb (bit_and b 1) d ≡ well_formed b
formed b d h e =
    (λ i. eqb (and_mask b 1 i) (e i))
    ∙ ap (λ t. t && eqb (b % 2) (owned (b / 2 ^ 32))) (sym (le-leb (b / 2 ^ 32) 8 h))

-- the version and the owner by a mask
pub masked_fields : (b : ℕ) → ◌≡◌ {A = LockWord} (record { version = bit_and b 4294967295 / 2; owner = b / 2 ^ 32 }) (fields_in b)
masked_fields b = λ i. record { version = and_mask b 32 i / 2; owner = b / 2 ^ 32 }

-- the owner, the version and bit 0 of the bits of a word
pub owner_back : (v o : ℕ) → v ≤ 2147483647 → word_of v o / 2 ^ 32 ≡ o
owner_back v o h = omega (arith, owned_bit o)

pub version_back : (v o : ℕ) → v ≤ 2147483647 → word_of v o % 2 ^ 32 / 2 ≡ v
version_back v o h = omega (arith, owned_bit o)

pub owned_back : (v o : ℕ) → v ≤ 2147483647 → word_of v o % 2 ≡ owned o
owned_back v o h = omega (arith, owned_bit o)

-- the bits of a word are well formed
pub word_formed : (v o : ℕ) → v ≤ 2147483647 → o ≤ 8 → well_formed (word_of v o) ≡ true
word_formed v o h k =
    and_from (leb (b / 2 ^ 32) 8) (eqb (b % 2) (owned (b / 2 ^ 32)))
    (le-leb (b / 2 ^ 32) 8 (omega (arith, owner_back v o h)))
    (eq-eqb (b % 2) (owned (b / 2 ^ 32)) (owned_back v o h ∙ ap owned (sym (owner_back v o h))))
  where
    b : ℕ
    b = word_of v o

-- what was written reads back
pub reads_back : (v o : ℕ) → v ≤ 2147483647 → o ≤ 8 → unpacked (word_of v o) ≡ Ok (record { version = v; owner = o })
reads_back v o h k =
    cond-true (well_formed (word_of v o)) (Ok (fields_in (word_of v o))) _ (word_formed v o h k)
    ∙ (λ i. Ok (record { version = version_back v o h i; owner = owner_back v o h i }))

-- what is not well formed was never written
pub never_written : (b : ℕ) → well_formed b ≡ false → NeverWritten b
never_written b w v o = at (cases_Bool (leb v 2147483647 && leb o 8))
  where
    at : ((leb v 2147483647 && leb o 8) ≡ true) ⊎ ((leb v 2147483647 && leb o 8) ≡ false) → packed v o ≡ Ok b → ⊥
    at (inl t) e =
        let p = and_parts (leb v 2147483647) (leb o 8) t in
        let f = word_formed v o (leb-true v 2147483647 p.0) (leb-true o 8 p.1) in
        let c = cond-true (leb v 2147483647 && leb o 8) (Ok (word_of v o)) (Err NoLockWord) t in
        let s : word_of v o ≡ b = cc in
        both_ways (well_formed b) w (ap well_formed (sym s) ∙ f)
    at (inr t) e =
        let c = cond-false (leb v 2147483647 && leb o 8) (Ok (word_of v o)) (Err NoLockWord) t in
        let z : ◌≡◌ {A = ℕ} 0 1 = cc in omega arith

-- what was read writes back
pub writes_back : (b : ℕ) → well_formed b ≡ true → packed (b % 2 ^ 32 / 2) (b / 2 ^ 32) ≡ Ok b
writes_back b w =
    cond-true (leb (b % 2 ^ 32 / 2) 2147483647 && leb (b / 2 ^ 32) 8) (Ok (word_of (b % 2 ^ 32 / 2) (b / 2 ^ 32))) _
    (and_from (leb (b % 2 ^ 32 / 2) 2147483647) (leb (b / 2 ^ 32) 8) (le-leb (b % 2 ^ 32 / 2) 2147483647 (omega arith)) parts.0)
    ∙ ap Ok (omega (arith, eqb-true (b % 2) (owned (b / 2 ^ 32)) parts.1))
  where
    parts : (leb (b / 2 ^ 32) 8 ≡ true) × (eqb (b % 2) (owned (b / 2 ^ 32)) ≡ true)
    parts = and_parts (leb (b / 2 ^ 32) 8) (eqb (b % 2) (owned (b / 2 ^ 32))) w
