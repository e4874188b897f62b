-- The records on the two sides of a place, read from a node's entries.
use Rattle.std.proofs.Common.{◌≡◌, ℕ, zero, suc, ◌-◌, ◌<◌, ◌≤◌, List, [], ◌∷◌, length, get_or, take, Some, Option, ap, refl, ◌∙◌, arith}
use Rattle.std.specs.List.{slice_get}
use Rattle.std.specs.Option.{option_map, option_or}
use Rattle.std.proofs.lemmas.List.{get_or-take, length-take-le}
use Rattle.std.proofs.lemmas.Option.{slice_get-get_or}
use Rattle.nodes.specs.declared.node.Entry.{Entry}
use Rattle.nodes.specs.Trees.{no_entry}
use Rattle.search.specs.Seek.{over_at, under_at}

pub under_is : (q : ℕ) (b : Option ℕ) (es : List Entry) → q < length es → under_at (suc q) b es ≡ Some (get_or es q no_entry).number
under_is q b [] l = absurd (omega arith)
under_is zero b (e ∷ es) l = refl
under_is (suc q) b (e ∷ es) l = under_is q (Some e.number) es (omega arith)

pub over_is : (q : ℕ) (es : List Entry) (a : Option ℕ) → q < length es → over_at q es a ≡ Some (get_or es q no_entry).number
over_is q [] a l = absurd (omega arith)
over_is zero (e ∷ es) a l = refl
over_is (suc q) (e ∷ es) a l = over_is q es a (omega arith)

pub over_end : (q : ℕ) (es : List Entry) (a : Option ℕ) → length es ≤ q → over_at q es a ≡ a
over_end q [] a l = refl
over_end zero (e ∷ es) a l = absurd (omega arith)
over_end (suc q) (e ∷ es) a l = over_end q es a (omega arith)

-- the same by the last of the entries before a place
pub under_of : (q : ℕ) (b : Option ℕ) (es : List Entry) → q ≤ length es → under_at q b es ≡ option_or (option_map (λ (e : Entry). e.number) (slice_get (take q es) (q - 1))) b
under_of zero b es l = refl
under_of (suc q) b es l =
    let h : slice_get (take (suc q) es) q ≡ Some (get_or es q no_entry) = slice_get-get_or (take (suc q) es) q no_entry (omega (arith, length-take-le (suc q) es l)) ∙ ap Some (get_or-take (suc q) es q no_entry (omega arith)) in
    let e : suc q - 1 ≡ q = omega arith in
    rw (e, h) (under_is q b es l)
