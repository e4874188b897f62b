-- The reads of an entry at one node of its way up.
use Rattle.std.specs.Prelude.{◌≡◌, ℕ, ◌<◌, List, length, Some, None, Ok, Err, Result, slice_index_or}
use Rattle.growth.specs.Growth.{asked, follow}
use Rattle.growth.specs.Plans.{lifted}
use Rattle.nodes.specs.Trees.{no_entry}
use Rattle.nodes.specs.declared.node.Entry.{Entry}
use Rattle.plans.specs.Reads.{Fetches}
use Rattle.search.specs.TreeLaw.{view_of}
use Rattle.store.specs.Meaning.{Meaning, key_of}
use Rattle.store.specs.declared.reading.Missing.{Missing}

-- what the entry at place i becomes once the record r at offset o stands before it, and the store then
abbrev pub Nexted : (keep : ℕ) → Meaning → (r o i : ℕ) → List Entry → Result Entry Missing → Meaning → Type 0
Nexted keep m r o i es (Ok n) m' = (i < length es → n ≡ follow (view_of keep m) r o (slice_index_or es i no_entry)) × Fetches m (asked o i es) None m'
Nexted keep m r o i es (Err e) m' = Fetches m (asked o i es) (Some e.number) m'

-- the key of the record r that moved up: fetched, unless it is x, the one entered
abbrev pub Refilled : Meaning → (x r : ℕ) → Result (Unit {0}) Missing → Meaning → (key : List ℕ) → Type 0
Refilled m x r (Ok u) m' key = (key ≡ key_of m r) × Fetches m (lifted x r) None m'
Refilled m x r (Err e) m' key = Fetches m (lifted x r) (Some e.number) m'
