-- The tree that a table of nodes holds.
use Rattle.std.specs.Prelude.{◌≡◌, ℕ, zero, suc, ◌+◌, ◌-◌, ◌≤◌, min, cond, List, [], ◌++◌, map, length, take, drop, replicate, ◌==◌, slice_index_or}
use Rattle.nodes.specs.declared.node.Entry.{Entry}
use Rattle.nodes.specs.declared.node.Node.{Node}
use Rattle.nodes.specs.Trees.{Tree, no_entry, total}

-- what stands for a node where the table has none
abbrev pub no_node : Node
no_node = record { count = 0; entries = []; children = [] }

-- an unused node
abbrev pub zero_node : Node
zero_node = record { count = 0; entries = replicate 7 no_entry; children = replicate 8 0 }

-- how many nodes of a table an index may use
abbrev pub usable : List Node → ℕ
usable table = min (length table) 4096

-- a table taken: the usable nodes are zero, the others as they were
abbrev pub cleared : List Node → List Node
cleared table = replicate (usable table) zero_node ++ drop (usable table) table

-- a node's records in use, and its links: one more
abbrev pub held : Node → List Entry
held n = take n.count n.entries

abbrev pub links : Node → List ℕ
links n = take (n.count + 1) n.children

-- the tree of so many levels at a node of the table
abbrev pub tree_of : List Node → (l : ℕ) → (at : ℕ) → Tree l
tree_of table zero at = at
tree_of table (suc l) at = record { at = at; entries = held (slice_index_or table at no_node); kids = map (tree_of table l) (links (slice_index_or table at no_node)) }

-- how often a tree reaches the node p
abbrev pub here : (p at : ℕ) → ℕ
here p at = cond (p == at) 1 0

abbrev pub reached : (p : ℕ) → (l : ℕ) → Tree l → ℕ
reached p zero t = 0
reached p (suc l) t = here p t.at + total (map (reached p l) t.kids)

-- a node made of its entries and links, with zero in the unused places
abbrev pub packed : List Entry → List ℕ → Node
packed es cs = record { count = length es; entries = es ++ replicate (7 - length es) no_entry; children = cs ++ replicate (8 - length cs) 0 }

abbrev pub Packed : Node → Type 0
Packed n = (n.count ≤ 7) × (n ≡ packed (held n) (links n))
