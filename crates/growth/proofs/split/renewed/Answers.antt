use Rattle.std.proofs.Common.{arith}
use Rattle.std.proofs.Math.Seq.{take-set-lt}
use Rattle.growth.proofs.split.renewed.Goals as goal

pub returns-then-i-from-clause-entries : goal.returns-then-i-from-clause-entries
returns-then-i-from-clause-entries c = let n = c.args.n.now in take-set-lt n.count n.entries c.args.i c.args.next (omega arith)
