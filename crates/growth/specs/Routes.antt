-- The way down to the place of a key.
use Rattle.std.specs.Prelude.{◌≡◌, ℕ, zero, suc, ◌<◌, ◌≤◌, List, [], ◌∷◌, length, get_or, slice_index, slice_index_or}
use Rattle.keys.specs.Digits.{Above, Digits}
use Rattle.nodes.specs.Faith.{Ceiling, Under, View, under}
use Rattle.nodes.specs.Tables.{Packed, held, no_node}
use Rattle.nodes.specs.Trees.{Tree, bare}
use Rattle.nodes.specs.declared.node.Entry.{Entry}
use Rattle.nodes.specs.declared.node.Node.{Node}

-- the key before place i of a node, and what lies after it
abbrev pub base_at : View → Digits → List Entry → ℕ → Digits
base_at v b [] i = b
base_at v b (e ∷ es) zero = b
base_at v b (e ∷ es) (suc i) = base_at v (v.key e.number) es i

abbrev pub ceiling_at : View → Ceiling → List Entry → ℕ → Ceiling
ceiling_at v c [] i = c
ceiling_at v c (e ∷ es) zero = under (v.key e.number)
ceiling_at v c (e ∷ es) (suc i) = ceiling_at v c es i

-- the places lead to where the key s belongs, and o is its offset to the key before it
abbrev pub Route : View → (l : ℕ) → (base : Digits) → Ceiling → Tree l → (places : List ℕ) → (s : Digits) → (o : ℕ) → Type 0
Route v zero b c t ps s o = Above s b o × Under c s
Route v (suc l) b c t ps s o = (slice_index ps l ≤ length t.entries) × Route v l (base_at v b t.entries (slice_index ps l)) (ceiling_at v c t.entries (slice_index ps l)) (slice_index_or t.kids (slice_index ps l) (bare l)) ps s o

-- each place is one of its node
abbrev pub Within : (places : List ℕ) → (l : ℕ) → Tree l → Type 0
Within ps zero t = Unit {0}
Within ps (suc l) t = (slice_index ps l ≤ length t.entries) × Within ps l (slice_index_or t.kids (slice_index ps l) (bare l))

-- es h are the entries of the node at height h on the way down
abbrev pub Along : (es : ℕ → List Entry) → (places : List ℕ) → (l : ℕ) → Tree l → Type 0
Along es ps zero t = Unit {0}
Along es ps (suc l) t = (es l ≡ t.entries) × Along es ps l (slice_index_or t.kids (slice_index ps l) (bare l))

-- the nodes of a path, by height, and their entries
abbrev pub way : List Node → (path : List ℕ) → ℕ → List Entry
way table path h = held (slice_index_or table (slice_index path h) no_node)

-- each node of a path is one of the table, and packed
abbrev pub PathIn : List Node → (path : List ℕ) → Type 0
PathIn table path = (h : ℕ) → h < length path → (slice_index path h < length table) × Packed (slice_index_or table (slice_index path h) no_node)

-- a path's nodes lead down from `at` by the places
abbrev pub Trail : List Node → (path places : List ℕ) → (l : ℕ) → (at : ℕ) → Type 0
Trail t path ps zero at = Unit {0}
Trail t path ps (suc l) at = (slice_index path l ≡ at) × Trail t path ps l (slice_index (get_or t at no_node).children (slice_index ps l))

-- no key has a digit past the last place
abbrev pub Bounded : View → Type 0
Bounded v = (r j : ℕ) → v.last < j → v.key r j ≡ 0
