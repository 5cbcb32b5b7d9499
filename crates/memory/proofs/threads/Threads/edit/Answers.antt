use Rattle.std.proofs.Common.{◌≡◌, suc, ◌<◌, length, sym, refl, arith}
use Rattle.memory.proofs.Tables.{at_threads, put_threads}
use Rattle.memory.proofs.threads.Threads.edit.Goals as goal

pub returns : goal.returns
returns g c =
    let e : c.args.thread.number ≡ suc c.index.result = omega arith in
    let h : c.index.result < length c.args.self.now.all = omega arith in
    record {
      cell = _;
      edited = _;
      found = sym (at_threads c.args.self.now.all c.index.result c.args.thread.number c.index-all-index.result e h);
      stepped = record { shown = _; shows = refl; left = _; met = c.edit.ensures; leaves = refl };
      left = put_threads c.args.self.now.all c.index.result c.args.thread.number _ e h;
    }
