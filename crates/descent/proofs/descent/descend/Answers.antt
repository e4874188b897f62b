use Rattle.std.proofs.Common.{Ok, Err, sym, refl, ap, ◌∙◌, arith}
use Rattle.descent.proofs.Going.{Turned, at_old, at_packs, found_in, going_found, going_lost, going_on, going_start, level_down, place_in}
use Rattle.descent.proofs.descent.descend.Goals as goal
use Rattle.descent.proofs.descent.descend.Goals.{In-Found, In-Place}
use Rattle.descent.proofs.descent.descend.Given as given
use Rattle.descent.specs.Reading.{Descends}
use Rattle.growth.specs.Commits.{tree_at}
use Rattle.keys.specs.Bits.{bits}
use Rattle.search.specs.TreeLaw.{fetching}
use Rattle.search.specs.declared.place.Placement.TheVariants.{Found, Place}
use Rattle.store.proofs.Fetching.{passed_up}

-- what is known where the record was found in a node
turned_found : (g : given.Over) (c : In-Found g) → Turned (level_down c.loop-level.invariant.going c.loop-level-test.true) (g.S.ReadingStore.meaning c.look_through.new.store) c.node_at-n.result (Ok (Found c.in-Found.c))
turned_found g c = record { node = c.node_at-n.ensures.value; to = ap Ok (sym c.in-Found.is) ∙ rw c.from.ensures at c.in_ok-c.ensures.to; reads = rw c.from.ensures at c.in_ok-c.ensures.reads }

-- and where the search goes on below it
turned_place : (g : given.Over) (c : In-Place g) → Turned (level_down c.loop-level.invariant.going c.loop-level-test.true) (g.S.ReadingStore.meaning c.look_through.new.store) c.node_at-n.result (Ok (Place c.in-Place.i c.in-Place.offset))
turned_place g c = record { node = c.node_at-n.ensures.value; to = ap Ok (sym c.in-Place.is) ∙ rw c.from.ensures at c.in_ok-c.ensures.to; reads = rw c.from.ensures at c.in_ok-c.ensures.reads }

pub loop-level-init : goal.loop-level-init
loop-level-init g c = record {
  going = going_start (g.S.ReadingStore.meaning c.args.store.now) c.args.table.now c.args.key.now c.args.top.used c.args.top.levels c.args.top.root (g.S.ReadingStore.lawful c.args.store.now) c.requires.deep c.requires.readable;
  bottom = refl;
}

pub node_at-n-requires : goal.node_at-n-requires
node_at-n-requires g c =
    let at = level_down c.loop-level.invariant.going c.loop-level-test.true in
    record { within = omega (arith, at_old at, at.safe.fits); packs = at_packs at }

pub returns-in_err-c : goal.returns-in_err-c
returns-in_err-c g c =
    let w : Turned (level_down c.loop-level.invariant.going c.loop-level-test.true) (g.S.ReadingStore.meaning c.look_through.new.store) c.node_at-n.result (Err c.in_err-c.field-0.0) =
    record { node = c.node_at-n.ensures.value; to = rw c.from.ensures at c.in_err-c.ensures.to; reads = rw c.from.ensures at c.in_err-c.ensures.reads } in
    let r = going_lost w in
    record { search = passed_up (Descends (bits c.args.key.now) (fetching (g.S.ReadingStore.meaning c.args.store.now) c.args.key.now) c.args.top.levels (tree_at c.args.table.now c.args.top)) c.from_residual.result _ c.from_residual.ensures.1 r.0; reads = r.1 }

pub overflow_cast-place : goal.overflow_cast-place
overflow_cast-place g c = omega (arith, found_in (turned_found g (goal.at.overflow_cast-place g c).In-Found), c.node_at-n.ensures.few, c.node_at-n.ensures.long)

pub offset_bounds-entries-c : goal.offset_bounds-entries-c
offset_bounds-entries-c g c = omega (arith, found_in (turned_found g (goal.at.offset_bounds-entries-c g c).In-Found), c.node_at-n.ensures.few, c.node_at-n.ensures.long)

pub bounds-entries-c : goal.bounds-entries-c
bounds-entries-c g c = rw c.from.ensures (found_in (turned_found g (goal.at.bounds-entries-c g c).In-Found))

pub returns-in-Found : goal.returns-in-Found
returns-in-Found g c = let r = going_found (turned_found g (goal.at.returns-in-Found g c).In-Found) in record { search = rw (c.from-in-Found.ensures, c.from.ensures) r.0; reads = r.1 }

pub overflow_cast-place-in-Place : goal.overflow_cast-place-in-Place
overflow_cast-place-in-Place g c = omega (arith, place_in (turned_place g (goal.at.overflow_cast-place-in-Place g c).In-Place), c.node_at-n.ensures.few, c.node_at-n.ensures.long)

pub record_under-below-requires : goal.record_under-below-requires
record_under-below-requires g c = rw c.from.ensures (place_in (turned_place g (goal.at.record_under-below-requires g c).In-Place))

pub offset_bounds-n-i : goal.offset_bounds-n-i
offset_bounds-n-i g c = omega (arith, place_in (turned_place g (goal.at.offset_bounds-n-i g c).In-Place), c.node_at-n.ensures.few, c.node_at-n.ensures.long)

pub bounds-n-i : goal.bounds-n-i
bounds-n-i g c = omega (arith, place_in (turned_place g (goal.at.bounds-n-i g c).In-Place), c.node_at-n.ensures.few, c.node_at-n.ensures.long)

pub loop-level-preserved : goal.loop-level-preserved
loop-level-preserved g c =
    let on = going_on (turned_place g (goal.at.loop-level-preserved g c).In-Place) c.record_under-below.result c.record_over-above.result (rw c.from.ensures at c.record_under-below.ensures) (rw c.from.ensures at c.record_over-above.ensures) in
    record { going = rw c.from-in-Place.ensures on; bottom = c.loop-level.invariant.bottom }
