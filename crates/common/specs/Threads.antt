-- Thread numbers: 1 to 8.
use Rattle.std.specs.Prelude.{ℕ, cond, ◌&&◌, Some, None, Option, nat_le}
use Rattle.common.specs.declared.thread_id.ThreadId.{ThreadId}
use Rattle.std.specs.Option.{option_map}

-- the thread of a number, if there is one
abbrev pub thread_number : ℕ → Option ℕ
thread_number n = cond (nat_le 1 n && nat_le n 8) (Some n) None

-- an optional thread by its number
abbrev pub numbered : Option ThreadId → Option ℕ
numbered t = option_map (λ x. x.number) t
