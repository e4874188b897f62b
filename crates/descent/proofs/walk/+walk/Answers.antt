use Rattle.std.proofs.Common.{◌≡◌, ℕ, ◌<◌, ◌+◌, ◌-◌, List, [], ◌∷◌, ◌++◌, length, get_or, sym, refl, ap, ◌∙◌, subst, rules, arith}
use Rattle.std.proofs.lemmas.List.{length_push}
use Rattle.descent.proofs.Filling.{add_none}
use Rattle.descent.proofs.Weaving.{at_clean, at_down, at_kid, at_long, at_within, part, part_all, part_none, turn_at, turns_all, walk_more, walk_whole}
use Rattle.descent.specs.Reading.{Adds}
use Rattle.nodes.specs.Tables.{no_node}
use Rattle.descent.proofs.walk.+walk.Goals as goal

pub walk_below-node_at-n-requires : goal.walk_below-node_at-n-requires
walk_below-node_at-n-requires t c =
    let pos : 0 < c.args.top.levels = omega arith in
    let a = at_down c.requires pos refl in
    record { within = omega (arith, at_within a, c.requires.fits); packs = at_clean a }

pub walk_after-loop-entry-init : goal.walk_after-loop-entry-init
walk_after-loop-entry-init t c =
    let none : c.args.place + 0 ≡ c.args.place = omega arith in
    let l = c.args.top.levels - 1 in
    let n = get_or c.args.table.now c.args.top.root no_node in
    subst (λ (z : List ℕ). Adds z c.args.list.now c.args.so_far c.args.list.now c.args.so_far) (sym (part_none c.args.table.now l n c.args.place) ∙ ap (part c.args.table.now l n c.args.place) (sym none))
    (add_none c.args.list.now c.args.so_far)

pub walk_after-loop-entry-preserved : goal.walk_after-loop-entry-preserved
walk_after-loop-entry-preserved t c =
    let a = at_down c.requires.readable c.requires.some c.requires.root in
    let k = turn_at a c.loop-entry.yielded c.into_iter-entry-iterator.result c.loop-entry.entry-iterator c.next.new.self c.next.result c.from-first.ensures c.from-end.ensures (search rules) (search rules) c.loop-entry.yielded_by c.next.ensures.steps _ c.in-Some.is in
    let one_more : c.args.place + length (c.loop-entry.yielded ++ ((c.in-Some.entry, c.in-Some.field-0-1) ∷ [])) ≡ c.args.place + length c.loop-entry.yielded + 1 = omega (arith, length_push c.loop-entry.yielded (c.in-Some.entry, c.in-Some.field-0-1)) in
    rw (one_more, sym c.requires.root) (walk_more a c.args.place (c.args.place + length c.loop-entry.yielded) (omega arith) k.within
    (rw (sym c.requires.root) at c.loop-entry.invariant) (rw k.entry at c.put_record-walked.ensures) (rw k.kid at (rw c.under.ensures at c.walk_below-walked.ensures)))

pub walk_after-returns : goal.walk_after-returns
walk_after-returns t c =
    let a = at_down c.requires.readable c.requires.some c.requires.root in
    let all = turns_all a c.loop-entry.yielded c.into_iter-entry-iterator.result c.loop-entry.entry-iterator c.next.new.self c.next.result c.from-first.ensures c.from-end.ensures (search rules) (search rules) c.loop-entry.yielded_by c.next.ensures.steps (rw (sym c.requires.root) (omega (arith, c.requires.within, at_long a))) c.in-None.is in
    rw (sym (part_all a c.args.place _ all), c.requires.root) c.loop-entry.invariant

pub walk_after-walk_below-walked-requires : goal.walk_after-walk_below-walked-requires
walk_after-walk_below-walked-requires t c =
    let a = at_down c.requires.readable c.requires.some c.requires.root in
    let k = turn_at a c.loop-entry.yielded c.into_iter-entry-iterator.result c.loop-entry.entry-iterator c.next.new.self c.next.result c.from-first.ensures c.from-end.ensures (search rules) (search rules) c.loop-entry.yielded_by c.next.ensures.steps _ c.in-Some.is in
    rw c.under.ensures (omega (arith, c.decreases), rw k.kid (at_kid a _ (omega (arith, k.within))))

pub walk_below-walk_below-walked-requires : goal.walk_below-walk_below-walked-requires
walk_below-walk_below-walked-requires t c =
    let pos : 0 < c.args.top.levels = omega arith in
    rw c.under.ensures (omega (arith, c.decreases), at_kid (at_down c.requires pos c.node_at-n.ensures.value) 0 (omega arith))

pub walk_below-returns : goal.walk_below-returns
walk_below-returns t c =
    let pos : 0 < c.args.top.levels = omega arith in
    walk_whole (at_down c.requires pos c.node_at-n.ensures.value) pos (rw c.under.ensures at c.walk_below-walked.ensures) c.walk_after.ensures
