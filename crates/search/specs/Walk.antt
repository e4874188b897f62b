-- The records from the searched place on, which a walk gives.
use Rattle.std.specs.Prelude.{ℕ, zero, suc, List, [], ◌∷◌, ◌++◌, map, length, get_or, Some, None, Option, slice_index_or}
use Rattle.keys.specs.Digits.{Digits}
use Rattle.keys.specs.declared.comparison.Comparison.{Comparison}
use Rattle.nodes.specs.declared.node.Entry.{Entry}
use Rattle.nodes.specs.Trees.{Tree, bare, no_entry, records, weave}
use Rattle.search.specs.Parts.{parts_of}
use Rattle.search.specs.Placing.{looked, settled}
use Rattle.search.specs.declared.place.Placement.{Placement}
use Rattle.search.specs.declared.place.Placement.TheVariants.{Found, Place}
use Rattle.search.specs.declared.place.Step.{Step}
use Rattle.search.specs.declared.place.Step.TheVariants.{Ask, Known}

-- what follows the list under a place
abbrev pub after_place : ℕ → List Entry → List (List ℕ) → List ℕ
after_place q [] fs = []
after_place q (e ∷ es) [] = []
after_place zero (e ∷ es) (f ∷ fs) = e.number ∷ weave es fs
after_place (suc q) (e ∷ es) (f ∷ fs) = after_place q es fs

abbrev pub rest_onward : {T : Type 0} → (T → ℕ → List ℕ) → (T → List ℕ) → T → List Entry → List T → Placement → List ℕ
rest_onward down f d es ts (Found c) = after_place c es (map f ts)
rest_onward down f d es ts (Place q o) = down (slice_index_or ts q d) o ++ after_place q es (map f ts)

abbrev pub rest_answered : (Comparison → List ℕ) → Option Comparison → List ℕ
rest_answered on None = []
rest_answered on (Some x) = on x

abbrev pub rest_stepped : {T : Type 0} → (ℕ → Option Comparison) → (T → ℕ → List ℕ) → (T → List ℕ) → T → List Entry → List T → Step → List ℕ
rest_stepped fetch down f d es ts (Known q o) = rest_onward down f d es ts (Place q o)
rest_stepped fetch down f d es ts (Ask high c) = rest_answered (λ x. rest_onward down f d es ts (settled (parts_of es) high c x)) (fetch (get_or es c no_entry).number)

-- The records of a tree from the place of s on, by the same steps as the search; o is the offset of s to the key before it.
abbrev pub rest : Digits → (fetch : ℕ → Option Comparison) → (l : ℕ) → Tree l → (o : ℕ) → List ℕ
rest s fetch zero t o = []
rest s fetch (suc l) t o = rest_stepped fetch (rest s fetch l) (records l) (bare l) t.entries t.kids (looked s (parts_of t.entries) (length t.entries) o)
