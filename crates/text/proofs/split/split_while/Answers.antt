use Rattle.std.proofs.Common.{◌≡◌, ℕ, Bool, ◌∙◌, rules}
use Rattle.std.proofs.lemmas.Iterator.{YieldsList-from_slice}
use Rattle.std.proofs.lemmas.Iterator.Consumers.{YieldsList-from_copied, count_from_yields_List}
use Rattle.std.proofs.lemmas.Iterator.Search.{YieldsList-from_take_while}
use Rattle.std.proofs.lemmas.List.Folds.{length-prefix_len}
use Rattle.std.specs.Iterator.{ActsAsAt}
use Rattle.std.specs.List.{prefix_len}
use Rattle.text.proofs.split.split_while.Goals as goal

-- as many bytes are counted as pass the test from the first on
counted : (g : _) (c : goal.After-split_at g) (p : ℕ → Bool) → ActsAsAt g.F.FnMut c.args.passes p → c.count.result ≡ prefix_len p c.args.bytes.now
counted g c p h =
    let road = YieldsList-from_take_while _ p (YieldsList-from_copied (YieldsList-from_slice c.args.bytes.now cc)) c.take_while.ensures.closure c.take_while.ensures.done h in
    count_from_yields_List c.take_while.result c.count.result c.count.ensures.ran road ∙ length-prefix_len p c.args.bytes.now

pub returns : goal.returns
returns g c = record {
  front = λ p h. let n = counted g c p h in search (rules, n);
  back = λ p h. let n = counted g c p h in search (rules, n);
}
