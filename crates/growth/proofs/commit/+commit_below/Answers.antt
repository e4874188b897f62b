use Rattle.std.proofs.Common.{ℕ, get_or, refl, ◌∙◌, arith}
use Rattle.std.proofs.lemmas.List.{length-set}
use Rattle.growth.proofs.Pathing.{entry_at, follower_at, no_line, place_at}
use Rattle.growth.proofs.Placing.{Step, at_empty, at_fresh, at_place, at_put, at_ready, at_room, at_split, at_stays, root_known}
use Rattle.growth.proofs.commit.+commit_below.Goals as goal
use Rattle.growth.proofs.commit.+commit_below.Goals.{After-node_at-n}
use Rattle.growth.specs.Paths.{entries_of, followers_of, places_of}

-- what is known once the root's node was read
stepped : (t : ℕ) (c : After-node_at-n t) → Step c.args.table.now c.args.top.used (entries_of c.args.plan.now) (followers_of c.args.plan.now) (places_of c.args.path.now) c.args.top.levels c.args.top.root
    c.node_at-n.result c.from-place.result (get_or c.args.plan.now.lines c.from-h.result no_line).entry (get_or c.args.plan.now.lines c.from-h.result no_line).follower
stepped t c = record {
  ready = c.requires.ready;
  room = c.requires.room;
  one_up = omega arith;
  node = c.node_at-n.ensures.value;
  place = c.from-place.ensures ∙ place_at c.args.path.now c.from-h.ensures;
  entry = entry_at c.args.plan.now c.from-h.ensures;
  next = follower_at c.args.plan.now c.from-h.ensures;
}

pub returns-then-top-eq0 : goal.returns-then-top-eq0
returns-then-top-eq0 t c = at_empty c.if-top-eq0.true c.requires.ready

pub node_at-n-requires : goal.node_at-n-requires
node_at-n-requires t c = let r = root_known c.requires.ready (omega arith) in record { within = r.0; packs = r.1 }

pub offset_bounds-n-place : goal.offset_bounds-n-place
offset_bounds-n-place t c = omega (arith, at_place (stepped t (goal.at.offset_bounds-n-place t c).After-node_at-n), c.node_at-n.ensures.few)

pub bounds-n-place : goal.bounds-n-place
bounds-n-place t c = omega (arith, at_place (stepped t (goal.at.bounds-n-place t c).After-node_at-n), c.node_at-n.ensures.few)

pub commit_below-below-requires : goal.commit_below-below-requires
commit_below-below-requires t c =
    let s = stepped t (goal.at.commit_below-below-requires t c).After-node_at-n in
    rw c.under.ensures (omega (arith, c.decreases), (omega (arith, c.requires.deep), (omega (arith, c.requires.placed), (at_ready s, at_room s))))

pub returns-in_default : goal.returns-in_default
returns-in_default t c = at_stays (stepped t (goal.at.returns-in_default t c).After-node_at-n) (rw c.under.ensures at c.commit_below-below.ensures) c.in_default.is

pub put_in-requires-clause-place : goal.put_in-requires-clause-place
put_in-requires-clause-place t c = omega (arith, at_place (stepped t (goal.at.put_in-requires-clause-place t c).After-node_at-n), c.renewed-m.ensures.count)

pub split_in-halves-requires-clause-place : goal.split_in-halves-requires-clause-place
split_in-halves-requires-clause-place t c = omega (arith, at_place (stepped t (goal.at.split_in-halves-requires-clause-place t c).After-node_at-n), c.node_at-n.ensures.few)

pub returns-then-n-lt-FULL : goal.returns-then-n-lt-FULL
returns-then-n-lt-FULL t c =
    at_put (stepped t (goal.at.returns-then-n-lt-FULL t c).After-node_at-n) (rw c.under.ensures at c.commit_below-below.ensures) c.in-Some.is c.renewed-m.result c.renewed-m.ensures.entries c.renewed-m.ensures.links
    c.if-n-lt-FULL.true _ _ c.put_in.ensures (rw c.from.ensures refl)

pub bounds-table-from-3 : goal.bounds-table-from-3
bounds-table-from-3 t c =
    let fresh = at_fresh (stepped t (goal.at.bounds-table-from-3 t c).After-node_at-n) (rw c.under.ensures at c.commit_below-below.ensures) c.in-Some.is c.if-n-lt-FULL.false in
    omega (arith, fresh, c.from-3.ensures, length-set c.commit_below-below.new.table c.from-2.result c.split_in-halves.result.left)

pub overflow_add-result : goal.overflow_add-result
overflow_add-result t c =
    let fresh = at_fresh (stepped t (goal.at.overflow_add-result t c).After-node_at-n) (rw c.under.ensures at c.commit_below-below.ensures) c.in-Some.is c.if-n-lt-FULL.false in
    omega (arith, fresh, c.commit_below-below.ensures.long, c.requires.ready.few)

pub returns : goal.returns
returns t c =
    at_split (stepped t (goal.at.returns t c).After-node_at-n) (rw c.under.ensures at c.commit_below-below.ensures) c.in-Some.is c.renewed-m.result c.renewed-m.ensures.entries c.renewed-m.ensures.links
    c.if-n-lt-FULL.false _ _ _ c.split_in-halves.ensures.left c.split_in-halves.ensures.right (rw (c.from-2.ensures, c.from-3.ensures) refl)
