use Rattle.std.proofs.Common.{arith}
use Rattle.printing.specs.Laid.{end_of}
use Rattle.printing.proofs.Laying.{laid_byte}
use Rattle.printing.proofs.page.write_byte.Goals as goal

pub returns : goal.returns
unfolding end_of
returns c =
    record {
      after = laid_byte c.args.at c.args.byte c.args.output.now c.requires;
      end = omega (arith, c.requires);
    }
