use Rattle.std.proofs.Common.{[], ◌∷◌, length, get_or, take, sym, ap, ◌∙◌, arith}
use Rattle.std.proofs.lemmas.List.{take_more}
use Rattle.printing.specs.Laid.{laid, end_of}
use Rattle.printing.proofs.Laying.{laid_nothing, laid_further, end_further}
use Rattle.printing.proofs.page.put_bytes.Goals as goal

pub loop-byte-init : goal.loop-byte-init
unfolding end_of
loop-byte-init c = (sym (laid_nothing c.args.at c.args.output.now), omega arith)

pub loop-byte-preserved : goal.loop-byte-preserved
loop-byte-preserved c =
    let at = c.args.at in
    let out = c.args.output.now in
    let i = c.loop-byte.byte-index in
    let before = take i c.args.bytes.now in
    let byte = get_or c.args.bytes.now i 0 ∷ [] in
    let there = c.loop-byte.invariant.0 in
    let place = c.loop-byte.invariant.1 in
    let longer = sym (take_more c.args.bytes.now i 0 c.loop-byte-test.true) in (
      laid_further at _ before byte out _ _ there place c.put_byte-at.ensures.after ∙ ap (λ t. laid at t out) longer,
      end_further at _ _ before byte out _ there place c.put_byte-at.ensures.end ∙ ap (λ t. end_of at t (length out)) longer,
    )
