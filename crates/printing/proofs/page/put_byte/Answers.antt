use Rattle.std.proofs.Common.{sym, arith}
use Rattle.printing.specs.Laid.{end_of}
use Rattle.printing.proofs.Laying.{laid_past}
use Rattle.printing.proofs.page.put_byte.Goals as goal

pub returns-else-at-output-clause-after : goal.returns-else-at-output-clause-after
returns-else-at-output-clause-after c = sym (laid_past c.args.at _ c.args.output.now (omega (arith, c.if-at-output.false)))

pub returns-else-at-output-clause-end : goal.returns-else-at-output-clause-end
unfolding end_of
returns-else-at-output-clause-end c = omega (arith, c.if-at-output.false)
