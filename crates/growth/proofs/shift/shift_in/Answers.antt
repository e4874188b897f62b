use Rattle.std.proofs.Common.{arith}
use Rattle.std.specs.List.{insert}
use Rattle.std.proofs.lemmas.List.Edits.{length-insert}
use Rattle.growth.proofs.Shifting.{fill_end, fill_step}
use Rattle.growth.proofs.shift.shift_in.Goals as goal

pub loop-k-preserved : goal.loop-k-preserved
loop-k-preserved g c =
    let n = length-insert c.args.src.now c.args.i c.args.x c.requires.place in
    fill_step c.loop-k.out (insert c.args.src.now c.args.i c.args.x) c.loop-k.k c.shifted.result c.args.x (omega (arith, c.requires.room, c.loop-k.auto.out)) (omega arith) c.loop-k.invariant c.shifted.ensures

pub returns : goal.returns
returns g c =
    let n = length-insert c.args.src.now c.args.i c.args.x c.requires.place in
    fill_end c.loop-k.out (insert c.args.src.now c.args.i c.args.x) c.loop-k.k (omega arith) (omega (arith, c.requires.room)) c.loop-k.invariant
