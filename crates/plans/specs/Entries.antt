-- An entry whose place is known: what it is refused for, and what it leaves.
use Rattle.std.specs.Prelude.{◌≡◌, ℕ, ◌+◌, ◌<◌, ◌≤◌, Bool, true, cond, List, [], ◌∷◌, length, Some, None, Ok, Err, Option, Result, nat_lt, slice_index_or}
use Rattle.growth.specs.Commits.{Once, between, stands, tree_at}
use Rattle.growth.specs.Growth.{Whole, entered, need}
use Rattle.growth.specs.Orders.{placed}
use Rattle.growth.specs.Routes.{Route}
use Rattle.growth.specs.Writes.{standing}
use Rattle.growth.specs.declared.commit.Top.{Top}
use Rattle.keys.specs.Digits.{floor}
use Rattle.nodes.specs.Faith.{Faithful, View, free}
use Rattle.nodes.specs.Tables.{Packed, no_node, reached}
use Rattle.nodes.specs.Trees.{records, shaped}
use Rattle.nodes.specs.declared.node.Node.{Node}
use Rattle.plans.specs.Reads.{Reads, reads_until}
use Rattle.search.specs.TreeLaw.{view_of}
use Rattle.store.specs.Grounds.{Ground, first_ground}
use Rattle.store.specs.Meaning.{Meaning, after_reads}
use Rattle.store.specs.declared.refusal.Refusal.{Refusal}
use Rattle.store.specs.declared.refusal.Refusal.TheVariants.{NodesSpent, PartialKeyMissing}

-- the growth of the tree under a top, by record x at the places
abbrev pub grows_to : View → (x o : ℕ) → List Node → Top → (places : List ℕ) → Whole
grows_to v x o table top ps = entered v top.used x o ps top.levels (tree_at table top)

-- more nodes are needed than are unused, of those that may be in use
abbrev pub spent : (limit : ℕ) → List Node → Top → (places : List ℕ) → Bool
spent limit table top ps = nat_lt limit (top.used + need ps top.levels (tree_at table top))

-- the reads of a growth, over a store
abbrev pub growth_reads : Meaning → Whole → Reads
growth_reads m w = reads_until (length m.keys) w.fetched

abbrev pub missing_ground : Option ℕ → List Ground
missing_ground None = []
missing_ground (Some r) = record { holds = true; gives = PartialKeyMissing r } ∷ []

-- the grounds, in checking order: the nodes, then the first record that the growth fetches and the store lacks
abbrev pub entry_grounds : (spent : Bool) → Reads → List Ground
entry_grounds none_left u = record { holds = none_left; gives = NodesSpent } ∷ missing_ground u.missing

-- the keys fetched: none where the nodes are spent
abbrev pub entry_reads : (spent : Bool) → Reads → ℕ
entry_reads none_left u = cond none_left 0 (length u.before)

-- A tree grown in its table. It is the growth's, with its levels and nodes in use; each node is reached as often as before,
-- and each one taken once; the others have not changed. Where it was lawful it is, and at the place of a key a faithful one
-- stays faithful, with the record after those of smaller key.
pub record GrownIn (v : View) (limit x o : ℕ) (before after : List Node) (top : Top) (places : List ℕ) (top' : Top) : Type 0 where
  pub tree : stands after top' ≡ standing (grows_to v x o before top places)
  pub taken : top'.used ≡ top.used + need places top.levels (tree_at before top)
  pub fits : top'.used ≤ limit
  pub links : (p : ℕ) → reached p top'.levels (tree_at after top') ≡ reached p top.levels (tree_at before top) + between p top.used top'.used
  pub frame : (p : ℕ) → p < top.used → reached p top.levels (tree_at before top) ≡ 0 → slice_index_or after p no_node ≡ slice_index_or before p no_node
  pub rest : (p : ℕ) → top'.used ≤ p → slice_index_or after p no_node ≡ slice_index_or before p no_node
  pub packs : (p : ℕ) → p < top'.used → Packed (slice_index_or after p no_node)
  pub long : length after ≡ length before
  pub once : Once before top → Once after top'
  pub shape : shaped top.levels 1 (tree_at before top) ≡ true → shaped top'.levels 1 (tree_at after top') ≡ true
  pub faith : Faithful v top.levels floor free (tree_at before top) → Route v top.levels floor free (tree_at before top) places (v.key x) o
      → Faithful v top'.levels floor free (tree_at after top')
      × (shaped top.levels 1 (tree_at before top) ≡ true → records top'.levels (tree_at after top') ≡ placed v x (records top.levels (tree_at before top)))

-- An entry done: it has no ground, the tree has grown in the table, and each record that the growth fetches was read once.
-- Refused, by the first ground, the table is as it was.
abbrev pub Enters : (keep limit : ℕ) → Meaning → (x o : ℕ) → (before : List Node) → Top → (places : List ℕ) → Result Top Refusal → (after : List Node) → Meaning → Type 0
Enters keep limit m x o t top ps (Ok top') t1 m' =
    (first_ground (entry_grounds (spent limit t top ps) (growth_reads m (grows_to (view_of keep m) x o t top ps))) ≡ None)
    × (GrownIn (view_of keep m) limit x o t t1 top ps top' × (m' ≡ after_reads (length (grows_to (view_of keep m) x o t top ps).fetched) m))
Enters keep limit m x o t top ps (Err e) t1 m' =
    (first_ground (entry_grounds (spent limit t top ps) (growth_reads m (grows_to (view_of keep m) x o t top ps))) ≡ Some e)
    × ((t1 ≡ t) × (m' ≡ after_reads (entry_reads (spent limit t top ps) (growth_reads m (grows_to (view_of keep m) x o t top ps))) m))
