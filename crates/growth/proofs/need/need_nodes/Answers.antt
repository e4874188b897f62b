use Rattle.std.proofs.Common.{◌≡◌, length, sym, ◌∙◌, arith}
use Rattle.growth.proofs.Needing.{need_all, need_along, need_stop, node_known}
use Rattle.growth.proofs.need.need_nodes.Goals as goal
use Rattle.growth.specs.Paths.{nodes_of}
use Rattle.growth.specs.Routes.{way}

pub bounds-table-from : goal.bounds-table-from
bounds-table-from c = (node_known c.args.table.now c.args.path.now c.requires.known c.from.ensures (omega arith)).0

pub returns-then-table-from-lt-FULL : goal.returns-then-table-from-lt-FULL
returns-then-table-from-lt-FULL c =
    let W = way c.args.table.now (nodes_of c.args.path.now) in
    let n = node_known c.args.table.now c.args.path.now c.requires.known c.from.ensures (omega arith) in
    let v = need_stop W c.loop-h.h (length c.args.path.now) c.loop-h.invariant (omega (arith, n.1, c.if-table-from-lt-FULL.true)) (omega arith) in
    record { value = v; law = λ ps t a. v ∙ sym (need_along W ps _ t a); few = omega arith }

pub returns-clause-law : goal.returns-clause-law
returns-clause-law c ps t a =
    let W = way c.args.table.now (nodes_of c.args.path.now) in
    let all : c.loop-h.h ≡ length c.args.path.now = omega (arith, c.loop-h.auto.h-end, c.loop-h-test.false) in
    need_all W (length c.args.path.now) (rw all at c.loop-h.invariant) ∙ sym (need_along W ps _ t a)
