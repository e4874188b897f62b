-- When the partial keys of a tree are true of the keys that its records have.
use Rattle.std.specs.Prelude.{◌≡◌, ℕ, zero, suc, List, [], ◌∷◌}
use Rattle.keys.specs.Digits.{Above, Below, Digits}
use Rattle.keys.specs.Partials.{partial_at}
use Rattle.nodes.specs.declared.node.Entry.{Entry}
use Rattle.nodes.specs.Trees.{Tree}

-- How an index sees a store: the digits of each record's key, the place of the last digit, and the partial length.
pub record View : Type 0 where
  pub key : ℕ → Digits
  pub last : ℕ
  pub keep : ℕ

-- record r with the partial key of its key at an offset
abbrev pub made : View → (r o : ℕ) → Entry
made v r o = record { number = r; partial = partial_at v.keep v.last (v.key r) o }

-- An entry is true over its base: its record's key lies above the base, at the entry's offset, and its partial key is the
-- one defined there.
pub record TrueOver (v : View) (base : Digits) (e : Entry) : Type 0 where
  pub above : Above (v.key e.number) base e.partial.offset
  pub whole : e ≡ made v e.number e.partial.offset

-- what the keys of a subtree stay under: nothing, or the key after it
pub data Ceiling : Type 0 where
  free : Ceiling
  under : Digits → Ceiling

abbrev pub Under : Ceiling → Digits → Type 0
Under free a = Unit {0}
Under (under c) a = Below a c

-- The entries of a node and the trees under them, in turn. The base of each is the key before it; a subtree lies between the
-- keys on its two sides.
abbrev pub Strung : {T : Type 0} → View → (Digits → Ceiling → T → Type 0) → Digits → Ceiling → List Entry → List T → Type 0
Strung v F base c [] [] = ⊥
Strung v F base c [] (t ∷ []) = F base c t
Strung v F base c [] (t ∷ (u ∷ ts)) = ⊥
Strung v F base c (e ∷ es) [] = ⊥
Strung v F base c (e ∷ es) (t ∷ ts) = F base (under (v.key e.number)) t × (TrueOver v base e × Strung v F (v.key e.number) c es ts)

-- A faithful tree over a base and under a ceiling: keys ascend, and every partial key is true over its base. The base of a
-- node's first key is the nearest smaller key in an ancestor, or the floor.
abbrev pub Faithful : View → (l : ℕ) → (base : Digits) → Ceiling → Tree l → Type 0
Faithful v zero base c t = Under c base
Faithful v (suc l) base c t = Strung v (Faithful v l) base c t.entries t.kids
