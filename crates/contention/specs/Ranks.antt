-- Tables of counts, one for each thread, and the rules that move and compare them.
use Rattle.std.specs.Prelude.{ℕ, ◌+◌, ◌-◌, min, Bool, ◌&&◌, ◌||◌, List, replicate, ◌==◌, nat_lt, slice_index, slice_set}

-- where a count stops
abbrev pub top_count : ℕ
top_count = 4294967295

-- the counts at the start, 0 for each of the 8 threads
abbrev pub no_counts : List ℕ
no_counts = replicate 8 0

-- the count of a thread, by its number
abbrev pub count_of : List ℕ → ℕ → ℕ
count_of counts n = slice_index counts (n - 1)

-- the counts with one thread's grown by so much
abbrev pub grown : List ℕ → ℕ → ℕ → List ℕ
grown counts n by = slice_set counts (n - 1) (min (count_of counts n + by) top_count)

-- the counts with one thread's back at 0
abbrev pub cleared : List ℕ → ℕ → List ℕ
cleared counts n = slice_set counts (n - 1) 0

-- the higher count beats, and at equal counts the lower thread number
abbrev pub outranks : List ℕ → ℕ → ℕ → Bool
outranks counts a b =
    nat_lt (count_of counts b) (count_of counts a) ||
    (count_of counts a == count_of counts b && nat_lt a b)
