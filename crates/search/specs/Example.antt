-- A tree of eight records in three nodes over a store of keys of one byte: the laws of the search speak of something.
use Rattle.std.specs.Prelude.{ℕ, List, [], ◌∷◌}
use Rattle.keys.specs.Bytes.{Key}
use Rattle.nodes.specs.declared.node.Entry.{Entry}
use Rattle.nodes.specs.Trees.{Tree}
use Rattle.search.specs.TreeLaw.{StandsOver}
use Rattle.store.specs.Meaning.{Meaning}

abbrev pub eight_keys : Meaning
eight_keys = record {
  width = 1;
  keys = (0x20 ∷ []) ∷ (0x24 ∷ []) ∷ (0x30 ∷ []) ∷ (0x60 ∷ []) ∷ (0xA0 ∷ []) ∷ (0x2C ∷ []) ∷ (0x22 ∷ []) ∷ (0x50 ∷ []) ∷ [];
  capacity = 8;
  tally = 0;
}

abbrev pub entry : (r offset length kept : ℕ) → Entry
entry r o l b = record { number = r; partial = record { offset = o; length = l; bits = b } }

-- two bits are kept of each key
abbrev pub left : Tree 1
left = record { at = 0; entries = entry 0 0 2 0 ∷ entry 6 7 1 0 ∷ entry 1 6 2 0 ∷ entry 5 5 2 2 ∷ []; kids = 0 ∷ 0 ∷ 0 ∷ 0 ∷ 0 ∷ [] }

abbrev pub right : Tree 1
right = record { at = 1; entries = entry 7 2 2 1 ∷ entry 3 3 2 0 ∷ entry 4 1 2 1 ∷ []; kids = 0 ∷ 0 ∷ 0 ∷ 0 ∷ [] }

abbrev pub eight : Tree 2
eight = record { at = 2; entries = entry 2 0 2 0 ∷ []; kids = left ∷ right ∷ [] }

-- the tree is faithful to the store, whatever key is searched
abbrev pub ExampleStands : Type 0
ExampleStands = (key : List ℕ) → Key 1 key → StandsOver eight_keys 2 2 eight key
