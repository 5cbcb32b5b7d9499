use Rattle.std.proofs.Common.{◌≡◌, ℕ, ◌+◌, ◌*◌, ◌≤◌, List, ◌∷◌, ◌++◌, length, take, sym, ap, ◌∙◌, subst, arith, take_all, length-append}
use Rattle.printing.specs.Forms.{items_of}
use Rattle.printing.proofs.Printed.{printed_none, printed_as, printed_more}
use Rattle.printing.proofs.Texts.{items_more, longer}
use Rattle.printing.proofs.page.Page.put_items.Goals as goal

pub loop-number-init : goal.loop-number-init
loop-number-init g c = (printed_none c.args.self.now, omega arith)

pub loop-number-preserved : goal.loop-number-preserved
loop-number-preserved g c =
    let text = g.I.Integer.text in
    let most = g.I.Integer.MAX_STR_LEN in
    let numbers = c.args.numbers.now in
    let i = c.loop-number.number-index in
    let n = c.number-item.result in
    let before = items_of text (take i numbers) in
    let one_more : before ++ (32 ∷ text n) ≡ items_of text (take (i + 1) numbers) =
    ap (λ x. before ++ (32 ∷ text x)) c.number-item.is ∙ sym (items_more text numbers i n c.loop-number-test.true) in
    let few : length (text n) ≤ most = c.put_number.ensures.short in
    let count : length before + (1 + length (text n)) ≡ length (items_of text (take (i + 1) numbers)) =
    omega (arith, length-append before (32 ∷ text n), ap length one_more) in (
      printed_as one_more (printed_more c.loop-number.invariant.0 (printed_more c.put.ensures c.put_number.ensures.printed)),
      subst (λ (k : ℕ). k ≤ (i + 1) * (most + 1)) count (longer (length before) (length (text n)) i most c.loop-number.invariant.1 few),
    )

pub returns : goal.returns
returns g c =
    let most = g.I.Integer.MAX_STR_LEN in
    let numbers = c.args.numbers.now in
    let i = c.loop-number.number-index in
    let all = ap (items_of g.I.Integer.text) (take_all i numbers c.loop-number-test.false) in
    let end : i ≡ length numbers = omega (arith, c.loop-number-test.false, c.loop-number.auto.number-index-end) in
    let short = subst (λ (t : List ℕ). length t ≤ i * (most + 1)) all c.loop-number.invariant.1 in
    record {
      printed = printed_as all c.loop-number.invariant.0;
      short = subst (λ (k : ℕ). length (items_of g.I.Integer.text numbers) ≤ k * (most + 1)) end short;
    }
