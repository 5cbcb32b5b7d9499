use Rattle.std.proofs.Common.{refl}
use Rattle.memory.proofs.Tables.{new_stripes}
use Rattle.memory.proofs.stripes.Stripes.new.Goals as goal

pub returns : goal.returns
returns c = new_stripes 64 _ refl
