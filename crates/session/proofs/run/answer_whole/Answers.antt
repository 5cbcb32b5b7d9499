use Rattle.std.proofs.Common.{◌≡◌, ◌+◌, ◌≤◌, ◌++◌, length, drop, ap, ◌∙◌, arith, rules}
use Rattle.printing.proofs.Laying.{laid_fits, end_fits}
use Rattle.printing.specs.Laid.{laid, end_of}
use Rattle.session.proofs.Columns.{lines_few}
use Rattle.session.proofs.run.answer_whole.Goals as goal
use Rattle.session.specs.Runs.{script_printed}

pub returns : goal.returns
returns c =
    let text = script_printed c.args.script.now in
    let out = c.args.output.now in
    let done = c.answer_script.ensures in
    let short = done.brief c.requires.0 in
    let fits : length text ≤ length out = omega (arith, short, c.requires.1) in
    let lent : c.new-page.result.output.now ≡ out = ap (λ x. x.now) c.new-page.ensures.output in
    let page = c.answer_script.new.page in
    let there : page.output.now ≡ text ++ drop (length text) out =
    done.printed.output
    ∙ ap (λ at. laid at text c.new-page.result.output.now) c.new-page.ensures.at
    ∙ ap (laid 0 text) lent
    ∙ laid_fits text out fits in
    let ends : 0 + length text ≡ length text = omega arith in
    let end : c.end.result ≡ length text =
    c.end.ensures
    ∙ done.printed.place
    ∙ ap (λ at. end_of at text (length c.new-page.result.output.now)) c.new-page.ensures.at
    ∙ ap (λ o. end_of 0 text (length o)) lent
    ∙ end_fits 0 text (length out) (omega (arith, fits))
    ∙ ends in
    record {
      count = end;
      after = search rules;
      few = omega (arith, end, short, c.requires.0, lines_few c.args.script.now);
    }
