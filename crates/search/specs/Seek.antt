-- The search down a tree, one node a level, with the records that it fetches.
use Rattle.std.specs.Prelude.{ℕ, zero, suc, List, [], ◌∷◌, length, get_or, Some, None, Option, slice_index_or}
use Rattle.keys.specs.Digits.{Digits}
use Rattle.keys.specs.declared.comparison.Comparison.{Comparison}
use Rattle.nodes.specs.declared.node.Entry.{Entry}
use Rattle.nodes.specs.Trees.{Tree, bare, no_entry}
use Rattle.search.specs.Parts.{parts_of}
use Rattle.search.specs.Placing.{looked, settled}
use Rattle.search.specs.declared.neighbour.Neighbour.{Neighbour}
use Rattle.search.specs.declared.place.Placement.{Placement}
use Rattle.search.specs.declared.place.Placement.TheVariants.{Found, Place}
use Rattle.search.specs.declared.place.Step.{Step}
use Rattle.search.specs.declared.place.Step.TheVariants.{Ask, Known}

-- How a search ends: at a record of equal key; in a gap, with the record below it and its offset, and the record above; or at
-- a record that the store lacks.
pub data End : Type 0 where
  found : ℕ → End
  gap : (below : Option Neighbour) → (above : Option ℕ) → End
  gone : ℕ → End

pub record Sought : Type 0 where
  pub end : End
  pub fetched : List ℕ

-- the record under a place of a node, or the one before the node; and the record over it, or the one after the node
abbrev pub under_at : ℕ → Option ℕ → List Entry → Option ℕ
under_at zero before es = before
under_at (suc q) before [] = before
under_at (suc q) before (e ∷ es) = under_at q (Some e.number) es

abbrev pub over_at : ℕ → List Entry → Option ℕ → Option ℕ
over_at q [] after = after
over_at zero (e ∷ es) after = Some e.number
over_at (suc q) (e ∷ es) after = over_at q es after

abbrev pub neighbour : Option ℕ → ℕ → Option Neighbour
neighbour None o = None
neighbour (Some r) o = Some (record { number = r; offset = o })

-- from a placement on: at the record found, or down under the place
abbrev pub onward : {T : Type 0} → (T → Option ℕ → ℕ → Option ℕ → Sought) → T → List Entry → List T → Option ℕ → Option ℕ → Placement → Sought
onward down d es ts b a (Found c) = record { end = found (get_or es c no_entry).number; fetched = [] }
onward down d es ts b a (Place q o) = down (slice_index_or ts q d) (under_at q b es) o (over_at q es a)

-- on, once record r was asked for: a record that the store lacks ends the search
abbrev pub answered : (Comparison → Sought) → ℕ → Option Comparison → Sought
answered on r None = record { end = gone r; fetched = [] }
answered on r (Some x) = record { end = (on x).end; fetched = r ∷ (on x).fetched }

abbrev pub stepped : {T : Type 0} → (ℕ → Option Comparison) → (T → Option ℕ → ℕ → Option ℕ → Sought) → T → List Entry → List T → Option ℕ → Option ℕ → Step → Sought
stepped fetch down d es ts b a (Known q o) = onward down d es ts b a (Place q o)
stepped fetch down d es ts b a (Ask high c) = answered (λ x. onward down d es ts b a (settled (parts_of es) high c x)) (get_or es c no_entry).number (fetch (get_or es c no_entry).number)

-- The search for s in a tree: b is the record before it, o the offset of s to that record's key, and a the record after it.
-- fetch r compares s with the key of record r, if the store holds it.
abbrev pub seek : Digits → (fetch : ℕ → Option Comparison) → (l : ℕ) → Tree l → (b : Option ℕ) → (o : ℕ) → (a : Option ℕ) → Sought
seek s fetch zero t b o a = record { end = gap (neighbour b o) a; fetched = [] }
seek s fetch (suc l) t b o a = stepped fetch (seek s fetch l) (bare l) t.entries t.kids b a (looked s (parts_of t.entries) (length t.entries) o)

-- a whole search, from the root and the floor
abbrev pub sought : Digits → (ℕ → Option Comparison) → (l : ℕ) → Tree l → Sought
sought s fetch l t = seek s fetch l t None 0 None
