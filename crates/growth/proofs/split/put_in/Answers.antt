use Rattle.std.proofs.Common.{◌+◌, arith}
use Rattle.std.proofs.lemmas.Grind.{common_steps}
use Rattle.growth.proofs.Shifting.{take_inserted}
use Rattle.growth.proofs.split.put_in.Goals as goal

pub returns : goal.returns
returns c =
    let n = c.args.n.now in
    let w = c.new-wide.ensures in
    let a = take_inserted c.args.i n.count n.entries c.args.e c.requires.place (omega (arith, w.long)) in
    let b = take_inserted (c.args.i + 1) (n.count + 1) n.children c.args.right (omega (arith, c.requires.place)) (omega (arith, w.long)) in
    grind (arith, common_steps)
