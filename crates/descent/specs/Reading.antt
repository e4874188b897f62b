-- What a descent and a walk give, and what they ask of a table.
use Rattle.std.specs.Prelude.{◌≡◌, ℕ, ◌<◌, ◌≤◌, min, true, List, ◌++◌, map, length, take, drop, Ok, Err, Option, Result, nat_lt, slice_index_or}
use Rattle.descent.specs.Course.{course}
use Rattle.descent.specs.declared.descent.Descent.{Descent}
use Rattle.descent.specs.declared.descent.Ending.{Ending}
use Rattle.descent.specs.declared.descent.Ending.TheVariants.{Found, Gap}
use Rattle.descent.specs.declared.walk.Walked.{Walked}
use Rattle.growth.specs.Paths.{nodes_of, places_of}
use Rattle.keys.specs.Digits.{Digits}
use Rattle.keys.specs.declared.comparison.Comparison.{Comparison}
use Rattle.nodes.specs.Tables.{Packed, held, links, no_node, reached, tree_of}
use Rattle.nodes.specs.Trees.{Tree, records, shaped}
use Rattle.nodes.specs.declared.node.Node.{Node}
use Rattle.search.specs.Seek.{End, found, gap, gone, sought}
use Rattle.search.specs.Walk.{after_place}
use Rattle.store.specs.declared.reading.Missing.{Missing}

-- What a tree of a table has to be for it to be read: of lawful shape, its nodes in use, and every node in use packed.
pub record Readable (table : List Node) (used level at : ℕ) : Type 0 where
  pub shape : shaped level 0 (tree_of table level at) ≡ true
  pub known : (p : ℕ) → used ≤ p → reached p level (tree_of table level at) ≡ 0
  pub fits : used ≤ length table
  pub packs : (p : ℕ) → p < used → Packed (slice_index_or table p no_node)

abbrev pub end_of : Ending → End
end_of (Found r) = found r
end_of (Gap below above) = gap below above

-- A descent is the one of the search for s in a tree: it ends as the search does, by the same course.
pub record DescentOf (s : Digits) (fetch : ℕ → Option Comparison) (l : ℕ) (t : Tree l) (d : Descent) : Type 0 where
  pub end : (sought s fetch l t).end ≡ end_of d.ending
  pub nodes : take l (nodes_of d.path) ≡ (course s fetch l t 0).nodes
  pub places : take l (places_of d.path) ≡ (course s fetch l t 0).places
  pub offset : d.offset ≡ (course s fetch l t 0).offset
  pub bottom : d.bottom ≡ (course s fetch l t 0).bottom
  pub long : length d.path ≡ 7

-- or the record that the store lacks
abbrev pub Descends : (s : Digits) → (fetch : ℕ → Option Comparison) → (l : ℕ) → Tree l → Result Descent Missing → Type 0
Descends s fetch l t (Ok d) = DescentOf s fetch l t d
Descends s fetch l t (Err e) = (sought s fetch l t).end ≡ gone e.number

-- A list is filled with the first of some records, as many as it has places for; the places beyond stay as they were. There
-- are more exactly if not all of them had a place.
pub record Filled (before records : List ℕ) (after : List ℕ) (w : Walked) : Type 0 where
  pub list : after ≡ take w.count records ++ drop w.count before
  pub count : w.count ≡ min (length before) (length records)
  pub more : w.more ≡ nat_lt (length before) (length records)

-- whatever it was filled with, it is filled with these records too
abbrev pub Adds : (records : List ℕ) → (list : List ℕ) → Walked → (list' : List ℕ) → Walked → Type 0
Adds rs list w list' w' = (before xs : List ℕ) → Filled before xs list w → Filled before (xs ++ rs) list' w'

-- the records after a place of a node with l levels under it
abbrev pub records_after : List Node → (l at place : ℕ) → List ℕ
records_after table l at q = after_place q (held (slice_index_or table at no_node)) (map (records l) (map (tree_of table l) (links (slice_index_or table at no_node))))
