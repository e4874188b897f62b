-- Keys as bytes.
use Rattle.std.specs.Prelude.{◌≡◌, ℕ, zero, suc, ◌/◌, ◌%◌, ◌<◌, ◌⊎◌, List, [], ◌∷◌, ◌++◌, length, slice_index, ◌≢◌}
use Rattle.std.specs.List.{AllByRecursion}

-- k is a key of w bytes
abbrev pub Key : ℕ → List ℕ → Type 0
Key w k = (length k ≡ w) × AllByRecursion (λ b. b < 256) k

-- the order of the bytes read one after the other: smaller at the first place where the two differ
abbrev pub Smaller : List ℕ → List ℕ → Type 0
Smaller [] ys = ⊥
Smaller (x ∷ xs) [] = ⊥
Smaller (x ∷ xs) (y ∷ ys) = (x < y) ⊎ ((x ≡ y) × Smaller xs ys)

-- byte i is the first in which two keys of one width differ
pub record PartsAt (a b : List ℕ) (i : ℕ) : Type 0 where
  pub within : i < length a
  pub same : (k : ℕ) → k < i → slice_index a k ≡ slice_index b k
  pub differ : slice_index a i ≢ slice_index b i

-- n in w bytes, the highest first
abbrev pub big_endian : (w n : ℕ) → List ℕ
big_endian zero n = []
big_endian (suc w) n = big_endian w (n / 256) ++ n % 256 ∷ []
