-- The plan of an entry, and what is read for it.
use Rattle.std.specs.Prelude.{◌≡◌, ℕ, ◌<◌, ◌≤◌, List, length, get_or, Some, None, Ok, Err, Result, slice_index, slice_index_or}
use Rattle.growth.specs.Paths.{entries_of, followers_of}
use Rattle.growth.specs.Plans.{Planned, trace}
use Rattle.growth.specs.declared.plan.Plan.{Plan}
use Rattle.nodes.specs.Tables.{held, no_node}
use Rattle.nodes.specs.declared.node.Entry.{Entry}
use Rattle.nodes.specs.declared.node.Node.{Node}
use Rattle.plans.specs.Reads.{Fetches}
use Rattle.search.specs.TreeLaw.{view_of}
use Rattle.store.specs.Meaning.{Meaning, key_of}
use Rattle.store.specs.declared.reading.Missing.{Missing}

-- the key of a record, as wide as the store's keys
abbrev pub ItsKey : Meaning → (r : ℕ) → List ℕ → Type 0
ItsKey m r key = (length key ≡ m.width) × (key ≡ key_of m r)

-- the nodes of a path are in the table, none is overfull, and each place is one of its node
abbrev pub Passable : List Node → (path places : List ℕ) → (levels : ℕ) → Type 0
Passable table path ps levels = (h : ℕ) → h < levels
    → (slice_index path h < length table) × (((get_or table (slice_index path h) no_node).count ≤ 7) × ((length (held (slice_index_or table (slice_index path h) no_node)) ≡ (get_or table (slice_index path h) no_node).count) × (slice_index ps h ≤ (get_or table (slice_index path h) no_node).count)))

-- A plan made, with the reads of its trace; or the first record of the trace that the store lacks, with the reads before it.
abbrev pub Plans : (keep : ℕ) → Meaning → (x o : ℕ) → (es : ℕ → List Entry) → (places : List ℕ) → (levels : ℕ) → Result Plan Missing → Meaning → Type 0
Plans keep m x o es ps levels (Ok p) m' = Planned (view_of keep m) x o es ps levels (entries_of p) (followers_of p) × Fetches m (trace (view_of keep m) x o es ps levels).list None m'
Plans keep m x o es ps levels (Err e) m' = Fetches m (trace (view_of keep m) x o es ps levels).list (Some e.number) m'
