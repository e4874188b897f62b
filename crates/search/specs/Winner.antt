-- The winner for a key and a head: of the records not above the key that share the head, the greatest.
use Rattle.std.specs.Prelude.{◌≡◌, ℕ, ◌*◌, ◌<◌, cond, ◌⊎◌, List, [], ◌∷◌, Some, None, Option, nat_lt, slice_index}
use Rattle.keys.specs.Bytes.{Smaller}
use Rattle.search.specs.Seek.{End, found, gap, gone}
use Rattle.search.specs.declared.neighbour.Neighbour.{Neighbour}

-- the same first bytes, as many as the head has
abbrev pub Shares : (head : ℕ) → List ℕ → List ℕ → Type 0
Shares head a b = (i : ℕ) → i < head → slice_index a i ≡ slice_index b i

abbrev pub IsIn : ℕ → List ℕ → Type 0
IsIn r [] = ⊥
IsIn r (x ∷ xs) = (r ≡ x) ⊎ IsIn r xs

-- k may win for the key: it is not above it, and shares the head
abbrev pub Runs : (head : ℕ) → (key k : List ℕ) → Type 0
Runs head key k = ((key ≡ k) ⊎ Smaller k key) × Shares head key k

-- Of the records in a list that may win, r is the greatest, or there is none; keys r is the key of record r.
abbrev pub Wins : (head : ℕ) → (keys : ℕ → List ℕ) → (key : List ℕ) → List ℕ → Option ℕ → Type 0
Wins head keys key rs None = (q : ℕ) → IsIn q rs → Runs head key (keys q) → ⊥
Wins head keys key rs (Some r) =
    IsIn r rs × Runs head key (keys r) × ((q : ℕ) → IsIn q rs → Runs head key (keys q) → (q ≡ r) ⊎ Smaller (keys q) (keys r))

-- the winner that a search shows: the record found, or the one below, if the offset to it lies past the head
abbrev pub near_wins : (head : ℕ) → Option Neighbour → Option ℕ
near_wins head None = None
near_wins head (Some x) = cond (nat_lt (8 * head) x.offset) (Some x.number) None

abbrev pub winner : (head : ℕ) → End → Option ℕ
winner head (found r) = Some r
winner head (gap below above) = near_wins head below
winner head (gone r) = None
