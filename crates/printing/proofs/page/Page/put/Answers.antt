use Rattle.std.proofs.Common.{refl}
use Rattle.printing.proofs.Printed.{printed}
use Rattle.printing.proofs.page.Page.put.Goals as goal

pub returns : goal.returns
returns c = printed c.args.text.now c.args.self.now _ refl c.put_bytes.ensures.after c.put_bytes.ensures.end
