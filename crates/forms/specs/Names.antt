-- Names, by their bytes.
use Rattle.std.specs.Prelude.{ℕ, ◌+◌, Bool, true, cond, ◌&&◌, List, [], ◌∷◌, length, Some, None, codes, Option, ◌==◌, slice_index}
use Rattle.forms.specs.declared.form.PolicyName.{PolicyName}
use Rattle.forms.specs.declared.form.PolicyName.TheVariants.{Suicide, Aggressive, Karma, KillPrio}
use Rattle.forms.specs.declared.form.StoreKind.{StoreKind}
use Rattle.forms.specs.declared.form.StoreKind.TheVariants.{Plain, Registers}
use Rattle.forms.specs.declared.names.Part.{Part}
use Rattle.forms.specs.declared.names.Part.TheVariants.{Threads, Stripes, Shift, Limit, Words, Kind, Policy}

-- the bytes from an index on are these
abbrev pub has_at : List ℕ → ℕ → List ℕ → Bool
has_at bs i [] = true
has_at bs i (w ∷ ws) = slice_index bs i == w && has_at bs (i + 1) ws

-- the bytes are the word: as long, and the same one by one
abbrev pub spells : List ℕ → List ℕ → Bool
spells bs w = length bs == length w && has_at bs 0 w

-- whether the part of an engine form has this name
abbrev pub part_named : Part → List ℕ → Bool
part_named Threads n = spells n (codes "threads")
part_named Stripes n = spells n (codes "stripes")
part_named Shift n = spells n (codes "shift")
part_named Limit n = spells n (codes "limit")
part_named Words n = spells n (codes "words")
part_named Kind n = spells n (codes "kind")
part_named Policy n = spells n (codes "policy")

-- the kind of store that a name means
abbrev pub kind_named : List ℕ → Option StoreKind
kind_named n =
    cond (spells n (codes "plain")) (Some Plain)
    (cond (spells n (codes "registers")) (Some Registers) None)

-- the policy that a name means
abbrev pub policy_named : List ℕ → Option PolicyName
policy_named n =
    cond (spells n (codes "suicide")) (Some Suicide)
    (cond (spells n (codes "aggressive")) (Some Aggressive)
    (cond (spells n (codes "karma")) (Some Karma)
    (cond (spells n (codes "killprio")) (Some KillPrio) None)))
