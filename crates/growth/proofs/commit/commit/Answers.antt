use Rattle.std.proofs.Common.{refl, arith}
use Rattle.growth.proofs.Pathing.{entry_at}
use Rattle.growth.proofs.Rooting.{root_fresh, root_rises, root_stays}
use Rattle.growth.proofs.commit.commit.Goals as goal

pub returns-in_default : goal.returns-in_default
returns-in_default c =
    let h = root_stays c.args.top c.requires.ready c.commit_below-rise.ensures c.in_default.is in
    record { written = h.written; once = h.once; shape = h.shape; growth = h.growth; faith = h.faith }

pub bounds-table-from : goal.bounds-table-from
bounds-table-from c =
    let fresh = root_fresh c.args.top c.requires.ready c.commit_below-rise.ensures c.in-Some.is c.requires.room in
    omega (arith, c.from-2.ensures)

pub overflow_add-result-2 : goal.overflow_add-result-2
overflow_add-result-2 c =
    let fresh = root_fresh c.args.top c.requires.ready c.commit_below-rise.ensures c.in-Some.is c.requires.room in
    omega (arith, c.commit_below-rise.ensures.long, c.requires.ready.few)

pub returns : goal.returns
returns c =
    let e = entry_at c.args.plan.now c.from.ensures in
    let h = root_rises c.args.top c.requires.ready c.commit_below-rise.ensures c.in-Some.is c.requires.room _ (rw (c.from-2.ensures, c.node_of.ensures, e) refl) in
    record { written = h.written; once = h.once; shape = h.shape; growth = h.growth; faith = h.faith }
