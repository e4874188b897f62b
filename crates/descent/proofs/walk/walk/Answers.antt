use Rattle.std.proofs.Common.{◌≡◌, ℕ, suc, ◌+◌, ◌-◌, ◌≤◌, List, [], length, get_or, refl, sym, ap, ◌∙◌, subst, arith}
use Rattle.descent.proofs.Climbing.{climb, climb_add, climb_start, descent_climbs, descent_low, descent_stands}
use Rattle.descent.proofs.Filling.{filled_none}
use Rattle.descent.proofs.Weaving.{at_clean, at_down, at_within}
use Rattle.descent.specs.Reading.{Filled, Readable}
use Rattle.nodes.specs.Tables.{held, no_node}
use Rattle.nodes.specs.declared.node.Node.{Node}
use Rattle.growth.proofs.Pathing.{node_at, place_at}
use Rattle.growth.specs.Paths.{nodes_of, places_of}
use Rattle.descent.proofs.walk.walk.Goals as goal

pub loop-h-init : goal.loop-h-init
loop-h-init c =
    let d = c.args.descent.now in
    climb_start c.args.table.now (nodes_of d.path) (places_of d.path) d.bottom c.args.list.now _

pub node_at-n-requires : goal.node_at-n-requires
node_at-n-requires c =
    let t = c.args.table.now in
    let d = c.args.descent.now in
    let h = c.loop-h.h in
    let z = descent_stands t c.args.top.used c.args.top.levels c.args.top.root c.requires.searched.0 c.requires.searched.1.0 d c.requires.readable c.requires.searched.1.1 h c.loop-h.auto.h c.loop-h-test.true in
    let a = at_down z.0 (omega arith) refl in
    rw (node_at d.path c.from.ensures) (record { within = omega (arith, at_within a, c.requires.readable.fits); packs = at_clean a })

pub walk_after-walked-requires : goal.walk_after-walked-requires
walk_after-walked-requires c =
    let t = c.args.table.now in
    let d = c.args.descent.now in
    let h = c.loop-h.h in
    let one : suc h ≡ h + 1 = omega arith in
    let z = descent_stands t c.args.top.used c.args.top.levels c.args.top.root c.requires.searched.0 c.requires.searched.1.0 d c.requires.readable c.requires.searched.1.1 h c.loop-h.auto.h c.loop-h-test.true in
    let n = c.node_at-n.ensures in
    let here : c.node_at-n.result ≡ get_or t (get_or (nodes_of d.path) h 0) no_node = rw (node_at d.path c.from.ensures) at n.value in
    let held_here : length (held c.node_at-n.result) ≡ length (held (get_or t (get_or (nodes_of d.path) h 0) no_node)) = ap (λ (x : Node). length (held x)) here in
    record {
      some = omega arith;
      readable = rw (node_at d.path c.from.ensures) (subst (λ (m : ℕ). Readable t c.args.top.used m (get_or (nodes_of d.path) h 0)) one z.0);
      root = n.value;
      few = n.few;
      within = rw (place_at d.path c.from.ensures) (omega (arith, n.long, held_here, z.1));
    }

pub loop-h-preserved : goal.loop-h-preserved
loop-h-preserved c =
    let d = c.args.descent.now in
    let h = c.loop-h.h in
    let back : h + 1 - 1 ≡ h = omega arith in
    climb_add c.args.table.now (nodes_of d.path) (places_of d.path) d.bottom h _ _ _ _ _ _ c.loop-h.auto.h c.loop-h.invariant (rw (back, node_at d.path c.from.ensures, place_at d.path c.from.ensures) at c.walk_after-walked.ensures)

pub returns : goal.returns
returns c s fetch w =
    let t = c.args.table.now in
    let d = c.args.descent.now in
    let le : d.bottom ≤ c.args.top.levels = descent_low t c.args.top.used c.args.top.levels c.args.top.root s fetch d c.requires.readable w in
    let all : c.loop-h.h ≡ c.args.top.levels = omega (arith, c.loop-h.auto.h-end le, c.loop-h-test.false) in
    let e = ap (climb t (nodes_of d.path) (places_of d.path) d.bottom) all ∙ sym (descent_climbs t c.args.top.used c.args.top.levels c.args.top.root s fetch d c.requires.readable w) in
    subst (λ (z : List ℕ). Filled c.args.list.now z c.loop-h.list c.loop-h.walked) e (c.loop-h.invariant c.args.list.now [] (filled_none c.args.list.now))
