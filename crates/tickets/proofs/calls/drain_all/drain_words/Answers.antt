use Rattle.std.proofs.Common.{arith}
use Rattle.std.proofs.lemmas.Result.{err_from_is_err_and}
use Rattle.tickets.proofs.Underway.{goes_on, ends_empty, ends_refused}
use Rattle.tickets.proofs.calls.drain_all.drain_words.Goals as goal

pub loop-smaller : goal.loop-smaller
loop-smaller g c = (goes_on _ _ _ _ _ _ _ c.loop.invariant _ c.if-branch-gt0.true c.in_ok-drain.ensures).1

pub loop-preserved : goal.loop-preserved
loop-preserved g c = (goes_on _ _ _ _ _ _ _ c.loop.invariant _ c.if-branch-gt0.true c.in_ok-drain.ensures).0

pub returns : goal.returns
returns g c = ends_empty _ _ _ _ _ _ _ c.loop.invariant _ (omega arith) c.in_ok-drain.ensures

pub returns-in_err-drain : goal.returns-in_err-drain
returns-in_err-drain g c =
    let p = err_from_is_err_and c.from_residual.result c.from_residual.ensures.1 in
    rw (p.1, p.2) (ends_refused _ _ _ _ _ _ _ c.loop.invariant _ c.in_err-drain.ensures)
