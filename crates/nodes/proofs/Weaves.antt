-- What holds of a woven list holds of its parts.
use Rattle.std.proofs.Common.{◌≡◌, ℕ, zero, suc, ◌+◌, ◌≤◌, List, [], ◌∷◌, ◌++◌, length, get_or, arith}
use Rattle.std.specs.List.{AllByRecursion}
use Rattle.nodes.specs.Trees.{weave}
use Rattle.nodes.specs.declared.node.Entry.{Entry}

module _ (P : ℕ → Type 0) where
  pub all_front : (xs ys : List ℕ) → AllByRecursion P (xs ++ ys) → AllByRecursion P xs
  all_front [] ys h = tt
  all_front (x ∷ xs) ys h = (h.0, all_front xs ys h.1)

  pub all_back : (xs ys : List ℕ) → AllByRecursion P (xs ++ ys) → AllByRecursion P ys
  all_back [] ys h = h
  all_back (x ∷ xs) ys h = all_back xs ys h.1

  pub woven_kid : (q : ℕ) (es : List Entry) (fs : List (List ℕ)) → length fs ≡ length es + 1 → q ≤ length es → AllByRecursion P (weave es fs) → AllByRecursion P (get_or fs q [])
  woven_kid q es [] e l h = absurd (omega arith)
  woven_kid zero [] (f ∷ fs) e l h = h
  woven_kid (suc q) [] (f ∷ fs) e l h = absurd (omega arith)
  woven_kid zero (x ∷ es) (f ∷ fs) e l h = all_front f (x.number ∷ weave es fs) h
  woven_kid (suc q) (x ∷ es) (f ∷ fs) e l h = woven_kid q es fs (omega arith) (omega arith) (all_back f (x.number ∷ weave es fs) h).1
