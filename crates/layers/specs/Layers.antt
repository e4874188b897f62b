-- Layers: a store that shows each key of the store below by a map.
use Rattle.std.specs.Prelude.{ℕ, ◌-◌, List, ◌++◌, map, take, drop}
use Rattle.keys.specs.Bytes.{Key}
use Rattle.store.specs.Meaning.{Meaning}

-- the store below with each key shown by f; width, capacity, number held and tally are those below
abbrev pub shown : (List ℕ → List ℕ) → Meaning → Meaning
shown f m = record { width = m.width; keys = map f m.keys; capacity = m.capacity; tally = m.tally }

-- f shows keys of every width as keys of that width
abbrev pub KeepsKeys : (List ℕ → List ℕ) → Type 0
KeepsKeys f = (w : ℕ) (k : List ℕ) → Key w k → Key w (f k)

-- newest-first: every bit inverted
abbrev pub inverted : List ℕ → List ℕ
inverted key = map (λ b. 255 - b) key

-- turned: the bytes from the cut on, then those before it; a cut above the width counts as the width
abbrev pub turned : (cut : ℕ) → List ℕ → List ℕ
turned cut key = drop cut key ++ take cut key
