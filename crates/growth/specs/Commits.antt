-- What the writes of an entry leave in a table of nodes.
use Rattle.std.specs.Prelude.{◌≡◌, ℕ, zero, suc, ◌+◌, ◌<◌, ◌≤◌, true, cond, List, length, get_or, Some, None, Option, nat_le, nat_lt, slice_index_or}
use Rattle.growth.specs.Growth.{Row, need, nodes_for, one_more}
use Rattle.growth.specs.Routes.{Within}
use Rattle.growth.specs.Writes.{Right, Standing, build, built, none, some}
use Rattle.growth.specs.declared.commit.Top.{Top}
use Rattle.keys.specs.Digits.{Above, Digits}
use Rattle.nodes.specs.Faith.{Ceiling, Faithful, View, made, under}
use Rattle.nodes.specs.Tables.{Packed, no_node, reached, tree_of}
use Rattle.nodes.specs.Trees.{Tree, no_entry, shaped}
use Rattle.nodes.specs.declared.node.Entry.{Entry}
use Rattle.nodes.specs.declared.node.Node.{Node}

-- the node to the right of what rises holds its tree
abbrev pub Linked : List Node → (l : ℕ) → Right (Tree l) → Option ℕ → Type 0
Linked table l none None = Unit {0}
Linked table l none (Some y) = ⊥
Linked table l (some t) None = ⊥
Linked table l (some t) (Some y) = tree_of table l y ≡ t

-- What a tree has to be for a plan to be written into it: of lawful shape, with the places in it, its nodes distinct and in
-- use, and every node in use packed.
pub record Ready (table : List Node) (used : ℕ) (places : List ℕ) (level at : ℕ) : Type 0 where
  pub shape : shaped level 0 (tree_of table level at) ≡ true
  pub within : Within places level (tree_of table level at)
  pub once : (p : ℕ) → reached p level (tree_of table level at) ≤ 1
  pub known : (p : ℕ) → used ≤ p → reached p level (tree_of table level at) ≡ 0
  pub fits : used ≤ length table
  pub few : length table < 65536
  pub packs : (p : ℕ) → p < used → Packed (slice_index_or table p no_node)

-- A plan written into a tree: the tree built by it stands where the old one stood, with what is to the right of what rises;
-- no node of another tree has changed, nor one past those taken, and nodes in use are packed.
pub record Entered (before after : List Node) (used : ℕ) (ents nexts : List Entry) (places : List ℕ) (level at : ℕ) (right : Option ℕ) (used' : ℕ) : Type 0 where
  pub left : tree_of after level at ≡ (build used ents nexts places level (tree_of before level at)).left
  pub linked : Linked after level (build used ents nexts places level (tree_of before level at)).right right
  pub taken : used' ≡ (build used ents nexts places level (tree_of before level at)).used
  pub frame : (p : ℕ) → p < used → reached p level (tree_of before level at) ≡ 0 → slice_index_or after p no_node ≡ slice_index_or before p no_node
  pub long : length after ≡ length before
  pub packs : (p : ℕ) → p < used' → Packed (slice_index_or after p no_node)
  pub rest : (p : ℕ) → used' ≤ p → slice_index_or after p no_node ≡ slice_index_or before p no_node

-- something rose: a record with its entry, over a faithful tree and under another
pub record Risen (v : View) (l : ℕ) (base : Digits) (c : Ceiling) (table : List Node) (at : ℕ) (ents : List Entry) (y : ℕ) : Type 0 where
  pub number : ℕ
  pub offset : ℕ
  pub entry : get_or ents l no_entry ≡ made v number offset
  pub above : Above (v.key number) base offset
  pub left : Faithful v l base (under (v.key number)) (tree_of table l at)
  pub right : Faithful v l (v.key number) c (tree_of table l y)

-- the tree then is faithful, and with what rises from it its right side too
abbrev pub After : View → (l : ℕ) → (base : Digits) → Ceiling → List Node → (at : ℕ) → (ents : List Entry) → (right : Option ℕ) → Type 0
After v l b c t at ents None = Faithful v l b c (tree_of t l at)
After v l b c t at ents (Some y) = Risen v l b c t at ents y

-- the tree under a top
abbrev pub tree_at : List Node → (top : Top) → Tree top.levels
tree_at table top = tree_of table top.levels top.root

abbrev pub stands : List Node → Top → Standing
stands table top = record { levels = top.levels; tree = tree_at table top; used = top.used }

-- 1 if a ≤ p < b
abbrev pub between : (p a b : ℕ) → ℕ
between p a b = cond (nat_le a p) (cond (nat_lt p b) 1 0) 0

-- lawful links: each node in use is reached once, and no other
abbrev pub Once : List Node → Top → Type 0
Once table top = (p : ℕ) → reached p top.levels (tree_at table top) ≡ cond (nat_lt p top.used) 1 0

-- A plan written into a whole tree: the table holds the tree built by it, with its levels, root and nodes in use; each node is
-- reached as often as before, and each one taken once; the others have not changed.
pub record Committed (before after : List Node) (top : Top) (ents nexts : List Entry) (places : List ℕ) (top' : Top) : Type 0 where
  pub tree : stands after top' ≡ built top.used ents nexts places top.levels (tree_at before top)
  pub taken : top'.used ≡ top.used + need places top.levels (tree_at before top)
  pub links : (p : ℕ) → reached p top'.levels (tree_at after top') ≡ reached p top.levels (tree_at before top) + between p top.used top'.used
  pub frame : (p : ℕ) → p < top.used → reached p top.levels (tree_at before top) ≡ 0 → slice_index_or after p no_node ≡ slice_index_or before p no_node
  pub rest : (p : ℕ) → top'.used ≤ p → slice_index_or after p no_node ≡ slice_index_or before p no_node
  pub packs : (p : ℕ) → p < top'.used → Packed (slice_index_or after p no_node)
  pub long : length after ≡ length before

-- the nodes that an entry takes, by the entries of the way down alone
abbrev pub row_way : (es : ℕ → List Entry) → (h : ℕ) → Row
row_way es zero = record { nodes = 0; whole = true }
row_way es (suc h) = one_more (nat_le 7 (length (es h))) (row_way es h)

abbrev pub need_way : (es : ℕ → List Entry) → (levels : ℕ) → ℕ
need_way es l = nodes_for (row_way es l)
