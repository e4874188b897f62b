use Rattle.growth.proofs.Ordering.{entry-placed}
use Rattle.growth.proofs.law.growth_keeps_order.Goals as goal

pub returns : goal.returns
returns c = entry-placed
