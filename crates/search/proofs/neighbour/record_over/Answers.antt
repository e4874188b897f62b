use Rattle.std.proofs.Common.{arith}
use Rattle.search.proofs.Sides.{over_end, over_is}
use Rattle.search.proofs.neighbour.record_over.Goals as goal

pub returns : goal.returns
returns c = grind (arith, over_end, over_is)
