use Rattle.std.proofs.Common.{arith}
use Rattle.session.proofs.Columns.{lines_few}
use Rattle.session.proofs.run.run_script.Goals as goal

-- there are no more lines than bytes, so the room for them is a small number
pub overflow_mul-line_count : goal.overflow_mul-line_count
overflow_mul-line_count c = omega (arith, c.line_count.ensures, lines_few c.args.script.now)
