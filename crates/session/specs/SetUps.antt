-- The set-up of four numbers, made with the facts that their tests show.
use Rattle.std.specs.Prelude.{◌≡◌, ℕ, Bool, true, false, Ok, Err, Result, nat_le, refl}
use Rattle.std.proofs.Common.{leb-true}
use Rattle.common.specs.declared.refusal.Refusal.{Refusal}
use Rattle.common.specs.declared.refusal.Refusal.TheVariants.{ThreadCount, StripeCount, Shift, ClockLimit}
use Rattle.layout.specs.Limits.{thread_count, stripe_count, shift_width, clock_limit}
use Rattle.layout.specs.declared.set_up.SetUp.{SetUp}
use Rattle.std.proofs.lemmas.Bool.{and_parts}

-- the clock limit is checked last
abbrev pub limited : (t s h l : ℕ) → thread_count t ≡ true → stripe_count s ≡ true → shift_width h ≡ true → (ok : Bool) → clock_limit l ≡ ok → Result SetUp Refusal
limited t s h l threads stripes shift false no_limit = Err ClockLimit
limited t s h l threads stripes shift true limit = Ok (record {
  threads = t;
  stripes = s;
  shift = h;
  limit = l;
  some = leb-true 1 t (and_parts (nat_le 1 t) (nat_le t 8) threads).0;
  eight = leb-true t 8 (and_parts (nat_le 1 t) (nat_le t 8) threads).1;
  powers = stripes;
  narrow = leb-true h 8 shift;
  ticks = leb-true 1 l (and_parts (nat_le 1 l) (nat_le l 2147483647) limit).0;
  fits = leb-true l 2147483647 (and_parts (nat_le 1 l) (nat_le l 2147483647) limit).1;
})

-- the shift before it
abbrev pub shifted : (t s h l : ℕ) → thread_count t ≡ true → stripe_count s ≡ true → (ok : Bool) → shift_width h ≡ ok → Result SetUp Refusal
shifted t s h l threads stripes false no_shift = Err Shift
shifted t s h l threads stripes true shift = limited t s h l threads stripes shift (clock_limit l) refl

-- the stripes before that
abbrev pub striped : (t s h l : ℕ) → thread_count t ≡ true → (ok : Bool) → stripe_count s ≡ ok → Result SetUp Refusal
striped t s h l threads false no_stripes = Err StripeCount
striped t s h l threads true stripes = shifted t s h l threads stripes (shift_width h) refl

-- and the threads first
abbrev pub threaded : (t s h l : ℕ) → (ok : Bool) → thread_count t ≡ ok → Result SetUp Refusal
threaded t s h l false no_threads = Err ThreadCount
threaded t s h l true threads = striped t s h l threads (stripe_count s) refl

-- the set-up of four numbers, or the first that is out of its limits
abbrev pub set_up_of : ℕ → ℕ → ℕ → ℕ → Result SetUp Refusal
set_up_of t s h l = threaded t s h l (thread_count t) refl
