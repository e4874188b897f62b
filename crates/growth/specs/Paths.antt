-- A path and a plan, as lists by height.
use Rattle.std.specs.Prelude.{ℕ, List, map}
use Rattle.growth.specs.declared.path.Waypoint.{Waypoint}
use Rattle.growth.specs.declared.plan.Line.{Line}
use Rattle.growth.specs.declared.plan.Plan.{Plan}
use Rattle.nodes.specs.declared.node.Entry.{Entry}

-- the nodes of a path, and its places in them
abbrev pub nodes_of : List Waypoint → List ℕ
nodes_of path = map (λ (w : Waypoint). w.node) path

abbrev pub places_of : List Waypoint → List ℕ
places_of path = map (λ (w : Waypoint). w.place) path

-- the entries of a plan, and the following ones
abbrev pub entries_of : Plan → List Entry
entries_of p = map (λ (k : Line). k.entry) p.lines

abbrev pub followers_of : Plan → List Entry
followers_of p = map (λ (k : Line). k.follower) p.lines
