-- What holds of the course of a search.
use Rattle.std.specs.Prelude.{◌≡◌, ℕ, ◌<◌, true, List, length, Option, slice_index}
use Rattle.descent.specs.Course.{course}
use Rattle.descent.specs.Reading.{Readable}
use Rattle.growth.specs.Routes.{Along, Route, Trail, Within, way}
use Rattle.keys.specs.Digits.{Digits, floor}
use Rattle.keys.specs.declared.comparison.Comparison.{Comparison}
use Rattle.nodes.specs.Faith.{Faithful, View, free}
use Rattle.nodes.specs.Tables.{tree_of}
use Rattle.nodes.specs.Trees.{Tree, records, shaped}
use Rattle.nodes.specs.declared.node.Node.{Node}
use Rattle.search.specs.Seek.{gap, sought}
use Rattle.search.specs.TreeLaw.{AtHand, FitsView, OfBits}
use Rattle.search.specs.declared.neighbour.Neighbour.{Neighbour}

-- Over a faithful tree, a search that ends in a gap took the route to the place of its key.
abbrev pub CourseRoutes : Type 0
CourseRoutes = (v : View) (l : ℕ) (t : Tree l) (s : Digits) (fetch : ℕ → Option Comparison) (below : Option Neighbour) (above : Option ℕ) →
    OfBits v → FitsView v s → Faithful v l floor free t → AtHand v s fetch (records l t) → (sought s fetch l t).end ≡ gap below above →
    Route v l floor free t (course s fetch l t 0).places s (course s fetch l t 0).offset

-- Over any tree and any store, its places are places of its nodes.
abbrev pub CourseWithin : Type 0
CourseWithin = (l : ℕ) (t : Tree l) (s : Digits) (fetch : ℕ → Option Comparison) (below : Option Neighbour) (above : Option ℕ) →
    (sought s fetch l t).end ≡ gap below above → Within (course s fetch l t 0).places l t

-- In a tree of a table its nodes lead down by its places.
abbrev pub CourseTrails : Type 0
CourseTrails = (table : List Node) (l least root : ℕ) (s : Digits) (fetch : ℕ → Option Comparison) (below : Option Neighbour) (above : Option ℕ) →
    shaped l least (tree_of table l root) ≡ true → (sought s fetch l (tree_of table l root)).end ≡ gap below above →
    Trail table (course s fetch l (tree_of table l root) 0).nodes (course s fetch l (tree_of table l root) 0).places l root
    × Along (way table (course s fetch l (tree_of table l root) 0).nodes) (course s fetch l (tree_of table l root) 0).places l (tree_of table l root)

-- and they are nodes in use
abbrev pub CourseInUse : Type 0
CourseInUse = (table : List Node) (used l root : ℕ) (s : Digits) (fetch : ℕ → Option Comparison) (below : Option Neighbour) (above : Option ℕ) →
    Readable table used l root → (sought s fetch l (tree_of table l root)).end ≡ gap below above →
    (h : ℕ) → h < l → slice_index (course s fetch l (tree_of table l root) 0).nodes h < used

-- it has a node and a place for every level
abbrev pub CourseLong : Type 0
CourseLong = (l : ℕ) (t : Tree l) (s : Digits) (fetch : ℕ → Option Comparison) (o : ℕ) →
    (length (course s fetch l t o).nodes ≡ l) × (length (course s fetch l t o).places ≡ l)
