-- The pocket: up to 64 keys in rows of its own.
use Rattle.std.specs.Prelude.{◌≡◌, ℕ, ◌≤◌, List, [], map, take, Some}
use Rattle.store.specs.Grounds.{first_ground, width_grounds}
use Rattle.store.specs.Meaning.{Meaning}
use Rattle.stores.specs.declared.pocket.PocketError.{PocketError}
use Rattle.stores.specs.declared.pocket.PocketError.TheVariants.{NoMemory, Refused}
use Rattle.stores.specs.declared.row.Row.{Row}

-- the key in a row
abbrev pub key_in : (w : ℕ) → Row → List ℕ
key_in w row = take w row.bytes

-- a pocket of width w with keys in the first n of its rows, after t reads
abbrev pub pocket_of : (w : ℕ) → List Row → (n t : ℕ) → Meaning
pocket_of w rows n t = record { width = w; keys = map (key_in w) (take n rows); capacity = 64; tally = t }

-- a pocket that nothing was filed in or fetched from
abbrev pub empty_pocket : (w : ℕ) → Meaning
empty_pocket w = record { width = w; keys = []; capacity = 64; tally = 0 }

-- No pocket of width w was made: it was refused by a ground, or no ground held and there was no memory.
abbrev pub Unmade : (w : ℕ) → PocketError → Type 0
Unmade w (Refused e) = first_ground (width_grounds w) ≡ Some e
Unmade w (NoMemory want) = (1 ≤ w) × (w ≤ 32)
