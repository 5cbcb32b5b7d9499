use Rattle.memory.proofs.Tables.{new_threads}
use Rattle.memory.proofs.threads.Threads.new.Goals as goal

pub returns : goal.returns
returns c = new_threads 8 c.new.result c.new.ensures
