-- Trees of nodes, by their levels.
use Rattle.std.specs.Prelude.{ℕ, zero, suc, ◌+◌, Bool, true, ◌&&◌, List, [], ◌∷◌, ◌++◌, map, length, ◌==◌, nat_le}
use Rattle.nodes.specs.declared.node.Entry.{Entry}

-- what an unused place holds
abbrev pub no_entry : Entry
no_entry = record { number = 0; partial = record { offset = 0; length = 0; bits = 0 } }

-- a node of a tree: its place in the table, its entries, and the trees under it
pub record Knot (T : Type 0) : Type 0 where
  pub at : ℕ
  pub entries : List Entry
  pub kids : List T

-- A tree of so many levels. With none it is the empty tree; a leaf is a node whose kids are empty trees, so all leaves lie at
-- one depth.
abbrev pub Tree : ℕ → Type 0
Tree zero = ℕ
Tree (suc l) = Knot (Tree l)

-- what stands for a tree where there is none
abbrev pub bare : (l : ℕ) → Tree l
bare zero = 0
bare (suc l) = record { at = 0; entries = []; kids = [] }

-- entries and the lists under them, in turn
abbrev pub weave : List Entry → List (List ℕ) → List ℕ
weave [] [] = []
weave [] (f ∷ fs) = f
weave (e ∷ es) [] = e.number ∷ weave es []
weave (e ∷ es) (f ∷ fs) = f ++ (e.number ∷ weave es fs)

-- the records of a tree, read from left to right
abbrev pub records : (l : ℕ) → Tree l → List ℕ
records zero t = []
records (suc l) t = weave t.entries (map (records l) t.kids)

abbrev pub all : {X : Type 0} → (X → Bool) → List X → Bool
all f [] = true
all f (x ∷ xs) = f x && all f xs

-- A lawful shape: from `least` to 7 records in a node, one kid more than records, and at least 3 records in every node below.
abbrev pub shaped : (l : ℕ) → (least : ℕ) → Tree l → Bool
shaped zero least t = t == 0
shaped (suc l) least t = nat_le least (length t.entries) && (nat_le (length t.entries) 7 && (length t.kids == length t.entries + 1 && all (shaped l 3) t.kids))

abbrev pub total : List ℕ → ℕ
total [] = 0
total (n ∷ ns) = n + total ns

-- the nodes of a tree
abbrev pub nodes : (l : ℕ) → Tree l → ℕ
nodes zero t = 0
nodes (suc l) t = 1 + total (map (nodes l) t.kids)
