-- What a set-up says: its four numbers and the stripe of an address.
use Rattle.std.specs.Prelude.{ℕ, ◌/◌, ◌%◌, ◌^◌, cond, ◌&&◌, Ok, Err, Result, nat_le, nat_lt}
use Rattle.common.specs.declared.refusal.Refusal.{Refusal}
use Rattle.common.specs.declared.refusal.Refusal.TheVariants.{ThreadCount, StripeCount, Shift, ClockLimit, NoSuchThread, NoSuchPlace}
use Rattle.common.specs.declared.thread_id.ThreadId.{ThreadId}
use Rattle.layout.specs.Limits.{thread_count, stripe_count, shift_width, clock_limit}
use Rattle.layout.specs.declared.set_up.SetUp.{SetUp}
use Rattle.layout.specs.declared.stripe_id.StripeId.{StripeId}
use Rattle.std.specs.Result.{result_map_both}

-- the four numbers of a set-up
pub record Numbers : Type 0 where
  pub threads : ℕ
  pub stripes : ℕ
  pub shift : ℕ
  pub limit : ℕ

-- a set-up by its four numbers
abbrev pub numbers : SetUp → Numbers
numbers u = record { threads = u.threads; stripes = u.stripes; shift = u.shift; limit = u.limit }

-- a set-up, or why there is none, by its four numbers
abbrev pub numbers_of : Result SetUp Refusal → Result Numbers Refusal
numbers_of r = result_map_both numbers (λ e. e) r

-- the four numbers, or the first that is out of its limits
abbrev pub set_up_or_refusal : ℕ → ℕ → ℕ → ℕ → Result Numbers Refusal
set_up_or_refusal threads stripes shift limit =
    cond (thread_count threads)
    (cond (stripe_count stripes)
    (cond (shift_width shift)
    (cond (clock_limit limit)
    (Ok (record { threads = threads; stripes = stripes; shift = shift; limit = limit }))
    (Err ClockLimit))
    (Err Shift))
    (Err StripeCount))
    (Err ThreadCount)

-- the stripe of an address: the quotient by 2 to the shift, and the remainder by the stripe count
abbrev pub stripe_of : SetUp → ℕ → ℕ
stripe_of u a = (a / 2 ^ u.shift) % u.stripes

-- a stripe, or why there is none, by its number
abbrev pub stripe_numbered : Result StripeId Refusal → Result ℕ Refusal
stripe_numbered r = result_map_both (λ s. s.number) (λ e. e) r

-- the stripe of a number, if it is below the stripe count
abbrev pub stripe_or_refusal : SetUp → ℕ → Result ℕ Refusal
stripe_or_refusal u n = cond (nat_lt n u.stripes) (Ok n) (Err NoSuchPlace)

-- a thread, or why there is none, by its number
abbrev pub thread_numbered : Result ThreadId Refusal → Result ℕ Refusal
thread_numbered r = result_map_both (λ t. t.number) (λ e. e) r

-- the thread of a number, if it is 1 to the thread count
abbrev pub thread_or_refusal : SetUp → ℕ → Result ℕ Refusal
thread_or_refusal u n = cond (nat_le 1 n && nat_le n u.threads) (Ok n) (Err NoSuchThread)
