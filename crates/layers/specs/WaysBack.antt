-- The way back from a map of keys, by which a layer files.
use Rattle.std.specs.Prelude.{◌≡◌, ℕ, ◌-◌, List, length}
use Rattle.keys.specs.Bytes.{Key}
use Rattle.layers.specs.Layers.{turned}

-- g is the way back from f: for every key, g gives a key of its width, which f shows as that key
abbrev pub Hides : (f g : List ℕ → List ℕ) → Type 0
Hides f g = (w : ℕ) (k : List ℕ) → Key w k → Key w (g k) × (f (g k) ≡ k)

-- the way back from a turn: as many bytes as the cut from the end, then those before them
abbrev pub turned_back : (cut : ℕ) → List ℕ → List ℕ
turned_back cut key = turned (length key - cut) key
