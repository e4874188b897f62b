-- From its bottom up, the nodes of a course can be read.
use Rattle.std.proofs.Common.{◌≡◌, ℕ, zero, suc, ◌<◌, ◌≤◌, List, [], ◌∷◌, ◌++◌, map, length, get_or, replicate, None, Ok, Err, Option, Result, sym, refl, ◌∙◌, subst, inl, inr, arith}
use Rattle.std.proofs.lemmas.Bool.{cases_lt}
use Rattle.descent.proofs.Extending.{long, push_alike, push_top, zeros_top}
use Rattle.descent.proofs.Routing.{turn_end}
use Rattle.descent.proofs.Trailing.{readable_kid, readable_old}
use Rattle.descent.proofs.Turning.{InTurn, ended, turn_within}
use Rattle.descent.specs.Course.{course, course_on, turn}
use Rattle.descent.specs.Reading.{Readable, end_of}
use Rattle.descent.specs.Theorems.{CourseInUse}
use Rattle.descent.specs.declared.descent.Ending.{Ending}
use Rattle.descent.specs.declared.descent.Ending.TheVariants.{Found as At, Gap}
use Rattle.keys.specs.Digits.{Digits}
use Rattle.keys.specs.declared.comparison.Comparison.{Comparison}
use Rattle.nodes.proofs.Shapes.{kid_is}
use Rattle.nodes.specs.Tables.{held, links, no_node, tree_of}
use Rattle.nodes.specs.Trees.{Tree, bare}
use Rattle.nodes.specs.declared.node.Node.{Node}
use Rattle.search.specs.Seek.{gap, gone, over_at, seek, under_at}
use Rattle.search.specs.declared.neighbour.Neighbour.{Neighbour}
use Rattle.search.specs.declared.place.Placement.{Placement}
use Rattle.search.specs.declared.place.Placement.TheVariants.{Found, Place}
use Rattle.store.specs.declared.reading.Missing.{Missing}

pub not_gone : (q : ℕ) (y : Ending) → gone q ≡ end_of y → ⊥
not_gone q (At z) eq = let z : ◌≡◌ {A = ℕ} 0 1 = cc in omega arith
not_gone q (Gap z w) eq = let z : ◌≡◌ {A = ℕ} 0 1 = cc in omega arith

-- From its bottom up, the nodes of a course can be read, and its places are places of them.
abbrev pub Stands : List Node → (used : ℕ) → (path places : List ℕ) → (bottom l : ℕ) → Type 0
Stands table used path ps bottom l = (h : ℕ) → bottom ≤ h → h < l → Readable table used (suc h) (get_or path h 0) × (get_or ps h 0 ≤ length (held (get_or table (get_or path h 0) no_node)))

module _ (table : List Node) (used : ℕ) (s : Digits) (fetch : ℕ → Option Comparison) where
  abbrev pub Standing : ℕ → Type 0
  Standing l = (at : ℕ) (b : Option ℕ) (o : ℕ) (a : Option ℕ) (x : Ending) → Readable table used l at → (seek s fetch l (tree_of table l at) b o a).end ≡ end_of x →
      Stands table used (course s fetch l (tree_of table l at) o).nodes (course s fetch l (tree_of table l at) o).places (course s fetch l (tree_of table l at) o).bottom l

  module _ (l : ℕ) (ih : Standing l) (at : ℕ) (b : Option ℕ) (o : ℕ) (a : Option ℕ) (x : Ending) (r : Readable table used (suc l) at) where
    abbrev nd : Node
    nd = get_or table at no_node

    abbrev ts : List (Tree l)
    ts = map (tree_of table l) (links nd)

    -- at its top
    here : (path ps : List ℕ) (q : ℕ) → get_or path l 0 ≡ at → get_or ps l 0 ≡ q → q ≤ length (held nd) → (h : ℕ) → h ≡ l → Readable table used (suc h) (get_or path h 0) × (get_or ps h 0 ≤ length (held (get_or table (get_or path h 0) no_node)))
    here path ps q pe qe le h is =
        subst (λ (z : ℕ). Readable table used (suc z) (get_or path z 0) × (get_or ps z 0 ≤ length (held (get_or table (get_or path z 0) no_node)))) (sym is)
        (subst (λ (z : ℕ). Readable table used (suc l) z × (get_or ps l 0 ≤ length (held (get_or table z no_node)))) (sym pe) (r, omega arith))

    stand_on : (y : Result Placement Missing) → InTurn (length (held nd)) y → (ended (seek s fetch l) (bare l) (held nd) ts b a y).end ≡ end_of x →
        Stands table used (course_on (course s fetch l) (bare l) l at o ts y).nodes (course_on (course s fetch l) (bare l) l at o ts y).places (course_on (course s fetch l) (bare l) l at o ts y).bottom (suc l)
    stand_on (Ok (Found i)) p eq h lo lt = here (replicate l 0 ++ (at ∷ [])) (replicate l 0 ++ (i ∷ [])) i (zeros_top l at) (zeros_top l i) (omega arith) h (omega arith)
    stand_on (Err q) p eq h lo lt = absurd (not_gone q.number x eq)
    stand_on (Ok (Place q d)) p eq h lo lt =
        let kid = get_or ts q (bare l) in
        let child = get_or nd.children q 0 in
        let k = course s fetch l kid d in
        let is = kid_is table l 0 at r.shape q p in
        let m = long s fetch l kid d in
        let w = ih child (under_at q b (held nd)) d (over_at q (held nd) a) x (readable_kid r q p) (subst (λ z. (seek s fetch l z (under_at q b (held nd)) d (over_at q (held nd) a)).end ≡ end_of x) is eq) in
        let wk : Stands table used k.nodes k.places k.bottom l = subst (λ z. Stands table used (course s fetch l z d).nodes (course s fetch l z d).places (course s fetch l z d).bottom l) (sym is) w in
        elim (cases_lt h l) [
          | inl g ↦ subst (λ (z : ℕ). Readable table used (suc h) z × (get_or (k.places ++ (q ∷ [])) h 0 ≤ length (held (get_or table z no_node)))) (sym (push_alike l k.nodes at m.0 h g))
              ((wk h lo g).0, subst (λ (z : ℕ). z ≤ length (held (get_or table (get_or k.nodes h 0) no_node))) (sym (push_alike l k.places q m.1 h g)) (wk h lo g).1)
          | inr g ↦ here (k.nodes ++ (at ∷ [])) (k.places ++ (q ∷ [])) q (push_top l k.nodes at m.0) (push_top l k.places q m.1) p h (omega arith)
        ]

  pub stands : (l : ℕ) → Standing l
  stands zero at b o a x r e = λ h lo lt. absurd (omega arith)
  stands (suc l) at b o a x r e =
      stand_on l (stands l) at b o a x r (turn s fetch (held (get_or table at no_node)) o).to (turn_within s fetch (held (get_or table at no_node)) o) (turn_end s fetch l (tree_of table (suc l) at) b o a ∙ e)

-- a gap is at the bottom of the tree
module _ (s : Digits) (fetch : ℕ → Option Comparison) (below : Option Neighbour) (above : Option ℕ) where
  abbrev Low : ℕ → Type 0
  Low l = (t : Tree l) (b : Option ℕ) (o : ℕ) (a : Option ℕ) → (seek s fetch l t b o a).end ≡ gap below above → (course s fetch l t o).bottom ≡ 0

  low_on : (l : ℕ) → Low l → (t : Tree (suc l)) (b : Option ℕ) (o : ℕ) (a : Option ℕ) (x : Result Placement Missing) → (ended (seek s fetch l) (bare l) t.entries t.kids b a x).end ≡ gap below above →
      (course_on (course s fetch l) (bare l) l t.at o t.kids x).bottom ≡ 0
  low_on l ih t b o a (Ok (Found i)) eq = absurd (let z : ◌≡◌ {A = ℕ} 0 1 = cc in omega arith)
  low_on l ih t b o a (Err r) eq = absurd (let z : ◌≡◌ {A = ℕ} 0 1 = cc in omega arith)
  low_on l ih t b o a (Ok (Place q d)) eq = ih (get_or t.kids q (bare l)) (under_at q b t.entries) d (over_at q t.entries a) eq

  gap_low : (l : ℕ) → Low l
  gap_low zero t b o a e = refl
  gap_low (suc l) t b o a e = low_on l (gap_low l) t b o a (turn s fetch t.entries o).to (turn_end s fetch l t b o a ∙ e)

pub course_in_use : CourseInUse
course_in_use table used l root s fetch below above r e h lt =
    readable_old (stands table used s fetch l root None 0 None (Gap below above) r e h (omega (arith, gap_low s fetch below above l (tree_of table l root) None 0 None e)) lt).0
