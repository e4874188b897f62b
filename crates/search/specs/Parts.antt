-- The partial keys of one node, and when they are true of the node's keys. The digits may be of any ordered kind.
use Rattle.std.specs.Prelude.{◌≡◌, ℕ, zero, suc, ◌/◌, ◌%◌, ◌^◌, ◌<◌, ◌≤◌, List, [], ◌∷◌, slice_index_or}
use Rattle.keys.specs.Digits.{Above, Below, Digits}
use Rattle.nodes.specs.declared.node.Entry.{Entry}
use Rattle.nodes.specs.Trees.{no_entry}

-- What a node keeps, key by key: the offset to the key before it, the digit there, and the digits right after it.
pub record Parts : Type 0 where
  pub offset : ℕ → ℕ
  pub lead : ℕ → ℕ
  pub rest : ℕ → List ℕ

-- xs are the digits of a from place b on
abbrev pub Stored : Digits → ℕ → List ℕ → Type 0
Stored a b [] = Unit {0}
Stored a b (x ∷ xs) = (a b ≡ x) × Stored a (suc b) xs

-- A true node of n keys: k 0 is the base, k (suc i) the key at place i. Each key lies above the one before it, at the offset
-- kept, and the digits kept are its own.
pub record TrueNode (n : ℕ) (k : ℕ → Digits) (p : Parts) : Type 0 where
  pub rises : (i : ℕ) → i < n → Above (k (suc i)) (k i) (p.offset i)
  pub kept : (i : ℕ) → i < n → Stored (k (suc i)) (p.offset i) (p.lead i ∷ p.rest i)

-- the place q is right for s: the key under it is smaller, at the offset o, and the key over it greater
pub record Placed (n : ℕ) (k : ℕ → Digits) (s : Digits) (q o : ℕ) : Type 0 where
  pub within : q ≤ n
  pub under : Above s (k q) o
  pub over : q < n → Below s (k (suc q))

-- the lowest m bits of v, the first highest
abbrev pub low_bits : (m v : ℕ) → List ℕ
low_bits zero v = []
low_bits (suc m) v = ((v / 2 ^ m) % 2) ∷ low_bits m v

-- The entries of a node as its parts. On bits the digit at an offset is always 1: the key before has the smaller one.
abbrev pub parts_of : List Entry → Parts
parts_of es = record {
  offset = λ i. (slice_index_or es i no_entry).partial.offset;
  lead = λ i. 1;
  rest = λ i. low_bits (slice_index_or es i no_entry).partial.length (slice_index_or es i no_entry).partial.bits;
}
