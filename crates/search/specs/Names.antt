-- What an answer can name, over any store at all.
use Rattle.std.specs.Prelude.{◌≡◌, ℕ, List, [], ◌∷◌, ◌++◌, Some, Option}
use Rattle.search.specs.Seek.{End, found, gap, gone, neighbour}
use Rattle.search.specs.declared.neighbour.Neighbour.{Neighbour}

-- the last record of a list, or else the one before it; the first, or else the one after it
abbrev pub last_of : Option ℕ → List ℕ → Option ℕ
last_of b [] = b
last_of b (x ∷ xs) = last_of (Some x) xs

abbrev pub first_of : List ℕ → Option ℕ → Option ℕ
first_of [] a = a
first_of (y ∷ ys) a = Some y

-- r is a record of the list
pub record StandsIn (xs : List ℕ) (r : ℕ) : Type 0 where
  pub before : List ℕ
  pub after : List ℕ
  pub whole : xs ≡ before ++ (r ∷ after)

-- two neighbours in the list, one of them none at its ends
pub record StandSideBySide (xs : List ℕ) (b a : Option ℕ) (below : Option Neighbour) (above : Option ℕ) : Type 0 where
  pub before : List ℕ
  pub after : List ℕ
  pub offset : ℕ
  pub whole : xs ≡ before ++ after
  pub left : below ≡ neighbour (last_of b before) offset
  pub right : above ≡ first_of after a

-- an answer of a list between the records b and a names a record of it, or two neighbours in it
abbrev pub Names : (xs : List ℕ) (b a : Option ℕ) → End → Type 0
Names xs b a (found r) = StandsIn xs r
Names xs b a (gap below above) = StandSideBySide xs b a below above
Names xs b a (gone r) = StandsIn xs r
