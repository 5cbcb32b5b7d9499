-- The limits of the four numbers of a set-up.
use Rattle.std.specs.Prelude.{ℕ, Bool, ◌&&◌, ◌||◌, ◌==◌, nat_le}

-- 1 to 8 threads
abbrev pub thread_count : ℕ → Bool
thread_count n = nat_le 1 n && nat_le n 8

-- a power of two of stripes, 64 at most
abbrev pub stripe_count : ℕ → Bool
stripe_count n = n == 1 || n == 2 || n == 4 || n == 8 || n == 16 || n == 32 || n == 64

-- at most 8 low bits of an address do not pick its stripe
abbrev pub shift_width : ℕ → Bool
shift_width n = nat_le n 8

-- a clock that fits the version of a lock word, and that moves at least once
abbrev pub clock_limit : ℕ → Bool
clock_limit n = nat_le 1 n && nat_le n 2147483647
