-- The way that a search takes down a tree, by the same steps as the search.
use Rattle.std.specs.Prelude.{ℕ, zero, suc, List, [], ◌∷◌, ◌++◌, length, get_or, replicate, Some, None, Ok, Err, Option, Result, slice_index_or}
use Rattle.keys.specs.Digits.{Digits}
use Rattle.keys.specs.declared.comparison.Comparison.{Comparison}
use Rattle.nodes.specs.Trees.{Tree, bare, no_entry}
use Rattle.nodes.specs.declared.node.Entry.{Entry}
use Rattle.search.specs.Parts.{parts_of}
use Rattle.search.specs.Placing.{looked, settled}
use Rattle.search.specs.declared.place.Placement.{Placement}
use Rattle.search.specs.declared.place.Placement.TheVariants.{Found, Place}
use Rattle.search.specs.declared.place.Step.{Step}
use Rattle.search.specs.declared.place.Step.TheVariants.{Ask, Known}
use Rattle.store.specs.declared.reading.Missing.{Missing}

-- What a search makes of a node: the placement of its key, or the record that the store lacks; and the record fetched for
-- that, if one is.
pub record Turn : Type 0 where
  pub to : Result Placement Missing
  pub fetched : List ℕ

abbrev pub heard : (Comparison → Placement) → ℕ → Option Comparison → Turn
heard on r None = record { to = Err (record { number = r }); fetched = [] }
heard on r (Some x) = record { to = Ok (on x); fetched = r ∷ [] }

abbrev pub turned : (ℕ → Option Comparison) → List Entry → Step → Turn
turned fetch es (Known q o) = record { to = Ok (Place q o); fetched = [] }
turned fetch es (Ask high c) = heard (settled (parts_of es) high c) (get_or es c no_entry).number (fetch (get_or es c no_entry).number)

abbrev pub turn : Digits → (fetch : ℕ → Option Comparison) → List Entry → (o : ℕ) → Turn
turn s fetch es o = turned fetch es (looked s (parts_of es) (length es) o)

-- The nodes of a search and its places in them, by height: the entry l is that of the node with l levels under it. The offset
-- is that of the search key to the key before its place, and the bottom the height of the node where the search ended.
pub record Course : Type 0 where
  pub nodes : List ℕ
  pub places : List ℕ
  pub offset : ℕ
  pub bottom : ℕ

-- a course that goes on under the place q of a node, and one that ends at the place c of it, with no node below
abbrev pub through : (at q : ℕ) → Course → Course
through at q below = record { nodes = below.nodes ++ (at ∷ []); places = below.places ++ (q ∷ []); offset = below.offset; bottom = below.bottom }

abbrev pub ends_at : (l at c o : ℕ) → Course
ends_at l at c o = record { nodes = replicate l 0 ++ (at ∷ []); places = replicate l 0 ++ (c ∷ []); offset = o; bottom = l }

abbrev pub course_on : {T : Type 0} → (T → ℕ → Course) → T → (l at o : ℕ) → List T → Result Placement Missing → Course
course_on down d l at o ts (Ok (Found c)) = ends_at l at c o
course_on down d l at o ts (Ok (Place q e)) = through at q (down (slice_index_or ts q d) e)
course_on down d l at o ts (Err r) = ends_at l at 0 o

-- The course of the search for s in a tree; o is the offset of s to the key before the tree.
abbrev pub course : Digits → (fetch : ℕ → Option Comparison) → (l : ℕ) → Tree l → (o : ℕ) → Course
course s fetch zero t o = record { nodes = []; places = []; offset = o; bottom = 0 }
course s fetch (suc l) t o = course_on (course s fetch l) (bare l) l t.at o t.kids (turn s fetch t.entries o).to
