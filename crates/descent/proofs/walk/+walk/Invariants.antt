use Rattle.std.proofs.Common.{◌*◌, ◌+◌, ◌-◌, length, get_or}
use Rattle.descent.proofs.Weaving.{part}
use Rattle.descent.specs.Reading.{Adds}
use Rattle.nodes.specs.Tables.{no_node}
use Rattle.descent.proofs.walk.+walk.Given as goal

abbrev pub decreases-walk_below : goal.decreases-walk_below
decreases-walk_below l = 2 * l.top.levels + 1

abbrev pub decreases-walk_after : goal.decreases-walk_after
decreases-walk_after l = 2 * l.top.levels

abbrev pub invariant-walk_after-loop-entry : goal.invariant-walk_after-loop-entry
invariant-walk_after-loop-entry l = Adds (part l.table (l.top.levels - 1) (get_or l.table l.top.root no_node) l.place (l.place + length l.yielded)) l.fn.list l.fn.so_far l.list l.walked
