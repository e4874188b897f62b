use Rattle.std.proofs.Common.{arith}
use Rattle.keys.proofs.Table.{entry_right}
use Rattle.keys.proofs.zeros.leading_zeros.Goals as goal

pub returns : goal.returns
returns c = rw c.from.ensures (entry_right c.args.byte (omega arith))
