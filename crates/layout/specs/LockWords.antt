-- A stripe's lock word of 64 bits: bit 0 says whether a thread owns the stripe, bits 1 to 31 are the version,
-- bits 32 to 39 the owner or 0, and all others are 0.
use Rattle.std.specs.Prelude.{◌≡◌, ℕ, ◌+◌, ◌*◌, ◌/◌, ◌%◌, ◌^◌, Bool, cond, ◌&&◌, Ok, Err, Result, ◌==◌, ◌≢◌, nat_le}
use Rattle.common.specs.declared.refusal.Refusal.{Refusal}
use Rattle.common.specs.declared.refusal.Refusal.TheVariants.{LockWord as NoLockWord}
use Rattle.layout.specs.declared.lock_word.LockWord.{LockWord}

-- 1 if there is an owner, 0 for none
abbrev pub owned : ℕ → ℕ
owned owner = cond (owner == 0) 0 1

-- the bits of a version and an owner
abbrev pub word_of : ℕ → ℕ → ℕ
word_of version owner = owner * 2 ^ 32 + (version * 2 + owned owner)

-- the bits of a version of 31 bits and an owner of at most 8; no others are written
abbrev pub packed : ℕ → ℕ → Result ℕ Refusal
packed version owner = cond (nat_le version 2147483647 && nat_le owner 8) (Ok (word_of version owner)) (Err NoLockWord)

-- the version and the owner that stand in the bits
abbrev pub fields_in : ℕ → LockWord
fields_in b = record { version = b % 2 ^ 32 / 2; owner = b / 2 ^ 32 }

-- bits are a lock word if the owner is at most 8 and bit 0 says whether there is one
abbrev pub well_formed : ℕ → Bool
well_formed b = nat_le (b / 2 ^ 32) 8 && b % 2 == owned (b / 2 ^ 32)

-- the version and the owner of a lock word; no other bits are read
abbrev pub unpacked : ℕ → Result LockWord Refusal
unpacked b = cond (well_formed b) (Ok (fields_in b)) (Err NoLockWord)

-- what was written reads back
abbrev pub ReadsBack : ℕ → ℕ → Result ℕ Refusal → Type 0
ReadsBack version owner (Ok b) = unpacked b ≡ Ok (record { version = version; owner = owner })
ReadsBack version owner (Err e) = Unit {0}

-- no version and owner are written as these bits
abbrev pub NeverWritten : ℕ → Type 0
NeverWritten b = (version owner : ℕ) → packed version owner ≢ Ok b

-- what was read writes back, and what is not read was never written
abbrev pub WritesBack : ℕ → Result LockWord Refusal → Type 0
WritesBack b (Ok w) = packed w.version w.owner ≡ Ok b
WritesBack b (Err e) = NeverWritten b
