-- What the plain list answers: its records in key order, each compared with the search key.
use Rattle.std.specs.Prelude.{ℕ, List, [], ◌∷◌, Some, None, Option}
use Rattle.keys.specs.declared.comparison.Comparison.{Comparison}
use Rattle.keys.specs.declared.comparison.Comparison.TheVariants.{Equal, Greater, Less}
use Rattle.search.specs.Seek.{End, found, gap}
use Rattle.search.specs.declared.neighbour.Neighbour.{Neighbour}

-- the record of equal key
abbrev pub equal_in : (ℕ → Comparison) → List ℕ → Option ℕ
equal_in tell [] = None
equal_in tell (r ∷ rs) = elim (tell r) [ Equal ↦ Some r | Greater o ↦ equal_in tell rs | Less o ↦ equal_in tell rs ]

-- the last record of smaller key, with the offset to it, or else b
abbrev pub last_smaller : (ℕ → Comparison) → Option Neighbour → List ℕ → Option Neighbour
last_smaller tell b [] = b
last_smaller tell b (r ∷ rs) = elim (tell r) [
  | Equal ↦ last_smaller tell b rs
  | Greater o ↦ last_smaller tell (Some (record { number = r; offset = o })) rs
  | Less o ↦ last_smaller tell b rs
]

-- the first record of greater key
abbrev pub first_greater : (ℕ → Comparison) → List ℕ → Option ℕ
first_greater tell [] = None
first_greater tell (r ∷ rs) = elim (tell r) [ Equal ↦ first_greater tell rs | Greater o ↦ first_greater tell rs | Less o ↦ Some r ]

-- the records whose keys are not below the search key
abbrev pub not_below : (ℕ → Comparison) → List ℕ → List ℕ
not_below tell [] = []
not_below tell (r ∷ rs) = elim (tell r) [ Equal ↦ r ∷ not_below tell rs | Greater o ↦ not_below tell rs | Less o ↦ r ∷ not_below tell rs ]

-- the record of equal key, or else the two neighbours
abbrev pub plain : (ℕ → Comparison) → List ℕ → End
plain tell rs = elim (equal_in tell rs) [ Some r ↦ found r | None ↦ gap (last_smaller tell None rs) (first_greater tell rs) ]
