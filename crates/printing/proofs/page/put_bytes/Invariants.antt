use Rattle.std.proofs.Common.{◌≡◌, length, take}
use Rattle.printing.specs.Laid.{laid, end_of}
use Rattle.printing.proofs.page.put_bytes.Given as goal

-- the bytes so far are laid, and end here
abbrev pub invariant-loop-byte : goal.invariant-loop-byte
invariant-loop-byte l =
    (l.output ≡ laid l.initial.at (take l.byte-index l.bytes) l.initial.output) ×
    (l.at ≡ end_of l.initial.at (take l.byte-index l.bytes) (length l.initial.output))
