use Rattle.std.proofs.Common.{◌≡◌, ◌<◌, length, take, drop, rules}
use Rattle.std.specs.List.{prefix_len}
use Rattle.text.proofs.Parts.{Parted, parted, ended_line, no_line, last_line}
use Rattle.text.proofs.line.LinesIterator.next.Goals as goal
use Rattle.text.proofs.line.LinesIterator.next.Goals.{After-split_while}
use Rattle.text.specs.Bytes.{in_line}

parts : (c : After-split_while) → Parted c.rest.result.now c.split_while.result.0.now c.split_while.result.1.now
parts c =
    let script = c.rest.result.now in
    let front : c.split_while.result.0.now ≡ take (prefix_len in_line script) script = search rules in
    let back : c.split_while.result.1.now ≡ drop (prefix_len in_line script) script = search rules in
    parted script _ _ front back

pub returns-in_default-len1-up : goal.returns-in_default-len1-up
returns-in_default-len1-up c =
    let p = parts (goal.at.returns-in_default-len1-up c).After-split_while in
    let some : 0 < length c.split_while.result.1.now = search rules in
    let e = ended_line _ _ _ p some in
    record { steps = search (rules, e, p.size); goes = search (rules, p.size) }

pub returns-in-empty-empty-clause-steps : goal.returns-in-empty-empty-clause-steps
returns-in-empty-empty-clause-steps c =
    let none : length c.split_while.result.1.now ≡ 0 = search rules in
    let no_front : length c.split_while.result.0.now ≡ 0 = search rules in
    search (rules, no_line _ _ _ (parts (goal.at.returns-in-empty-empty-clause-steps c).After-split_while) none no_front)

pub returns-in_default-empty : goal.returns-in_default-empty
returns-in_default-empty c =
    let p = parts (goal.at.returns-in_default-empty c).After-split_while in
    let none : length c.split_while.result.1.now ≡ 0 = search rules in
    let some : 0 < length c.split_while.result.0.now = search rules in
    let e = last_line _ _ _ p none some in
    record { steps = search (rules, e, p.size); goes = search (rules, p.size) }
