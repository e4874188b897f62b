-- The records from where a search ended: those after its places, from its bottom up.
use Rattle.std.proofs.Common.{◌≡◌, ℕ, zero, suc, ◌+◌, ◌≤◌, cond, leb, List, [], ◌∷◌, ◌++◌, map, length, get_or, replicate, None, Ok, Err, Option, Result, sym, refl, ap, ◌∙◌, subst, arith}
use Rattle.std.proofs.lemmas.List.{get_or-take}
use Rattle.std.proofs.lemmas.Bool.{cond-false, cond-true, le-leb, lt-leb}
use Rattle.descent.proofs.Extending.{Alike, long, low, push_alike, push_top, zeros_top}
use Rattle.descent.proofs.Filling.{add_more, add_none}
use Rattle.descent.proofs.Routing.{turn_end}
use Rattle.descent.proofs.Standing.{Stands, not_gone, stands}
use Rattle.descent.proofs.Trailing.{readable_kid}
use Rattle.descent.proofs.Turning.{InTurn, ended, rest_ended, rest-turn, turn_within}
use Rattle.descent.specs.Course.{course, course_on, turn}
use Rattle.descent.specs.Reading.{Adds, DescentOf, Readable, end_of, records_after}
use Rattle.descent.specs.declared.descent.Descent.{Descent}
use Rattle.descent.specs.declared.descent.Ending.{Ending}
use Rattle.descent.specs.declared.walk.Walked.{Walked}
use Rattle.growth.specs.Paths.{nodes_of, places_of}
use Rattle.keys.specs.Digits.{Digits}
use Rattle.keys.specs.declared.comparison.Comparison.{Comparison}
use Rattle.nodes.proofs.Shapes.{kid_is}
use Rattle.nodes.specs.Tables.{held, links, no_node, tree_of}
use Rattle.nodes.specs.Trees.{Tree, bare, records}
use Rattle.nodes.specs.declared.node.Node.{Node}
use Rattle.search.specs.Seek.{over_at, seek, under_at}
use Rattle.search.specs.Walk.{rest}
use Rattle.search.specs.declared.place.Placement.{Placement}
use Rattle.search.specs.declared.place.Placement.TheVariants.{Found, Place}
use Rattle.store.specs.declared.reading.Missing.{Missing}

-- the records after the places of a path, from a height up to l
abbrev pub climb : List Node → (path places : List ℕ) → (bottom l : ℕ) → List ℕ
climb table path ps bottom zero = []
climb table path ps bottom (suc l) = cond (leb bottom l) (climb table path ps bottom l ++ records_after table l (get_or path l 0) (get_or ps l 0)) []

climb_none : (table : List Node) (path ps : List ℕ) (l : ℕ) → climb table path ps l l ≡ []
climb_none table path ps zero = refl
climb_none table path ps (suc l) = cond-false _ _ _ (lt-leb (suc l) l (omega arith))

climb_more : (table : List Node) (path ps : List ℕ) (bottom l : ℕ) → bottom ≤ l → climb table path ps bottom (suc l) ≡ climb table path ps bottom l ++ records_after table l (get_or path l 0) (get_or ps l 0)
climb_more table path ps bottom l le = cond-true _ _ _ (le-leb bottom l le)

climb_alike : (table : List Node) (path path1 ps qs : List ℕ) (bottom l : ℕ) → Alike l path path1 → Alike l ps qs → climb table path1 qs bottom l ≡ climb table path ps bottom l
climb_alike table path path1 ps qs bottom zero along same = refl
climb_alike table path path1 ps qs bottom (suc l) along same =
    let a = climb_alike table path path1 ps qs bottom l (λ h lt. along h (omega arith)) (λ h lt. same h (omega arith)) in
    let b : records_after table l (get_or path1 l 0) (get_or qs l 0) ≡ records_after table l (get_or path l 0) (get_or ps l 0) =
    ap (λ at. records_after table l at (get_or qs l 0)) (along l (omega arith)) ∙ ap (records_after table l (get_or path l 0)) (same l (omega arith)) in
    ap (λ z. cond (leb bottom l) (z ++ records_after table l (get_or path1 l 0) (get_or qs l 0)) []) a ∙ ap (λ z. cond (leb bottom l) (climb table path ps bottom l ++ z) []) b

module _ (table : List Node) (used : ℕ) (s : Digits) (fetch : ℕ → Option Comparison) where
  abbrev Climbs : ℕ → Type 0
  Climbs l = (at : ℕ) (b : Option ℕ) (o : ℕ) (a : Option ℕ) (x : Ending) → Readable table used l at → (seek s fetch l (tree_of table l at) b o a).end ≡ end_of x →
      rest s fetch l (tree_of table l at) o ≡ climb table (course s fetch l (tree_of table l at) o).nodes (course s fetch l (tree_of table l at) o).places (course s fetch l (tree_of table l at) o).bottom l

  module _ (l : ℕ) (ih : Climbs l) (at : ℕ) (b : Option ℕ) (o : ℕ) (a : Option ℕ) (x : Ending) (r : Readable table used (suc l) at) where
    abbrev nd : Node
    nd = get_or table at no_node

    abbrev ts : List (Tree l)
    ts = map (tree_of table l) (links nd)

    climb_on : (y : Result Placement Missing) → InTurn (length (held nd)) y → (ended (seek s fetch l) (bare l) (held nd) ts b a y).end ≡ end_of x →
        rest_ended (rest s fetch l) (records l) (bare l) (held nd) ts y ≡ climb table (course_on (course s fetch l) (bare l) l at o ts y).nodes (course_on (course s fetch l) (bare l) l at o ts y).places (course_on (course s fetch l) (bare l) l at o ts y).bottom (suc l)
    climb_on (Ok (Found i)) p eq =
        let path = replicate l 0 ++ (at ∷ []) in
        let ps = replicate l 0 ++ (i ∷ []) in
        sym (climb_more table path ps l l (omega arith) ∙ (ap (λ z. z ++ records_after table l (get_or path l 0) (get_or ps l 0)) (climb_none table path ps l)
        ∙ (ap (λ z. records_after table l z (get_or ps l 0)) (zeros_top l at) ∙ ap (records_after table l at) (zeros_top l i))))
    climb_on (Err q) p eq = absurd (not_gone q.number x eq)
    climb_on (Ok (Place q d)) p eq =
        let kid = get_or ts q (bare l) in
        let child = get_or nd.children q 0 in
        let k = course s fetch l kid d in
        let path = k.nodes ++ (at ∷ []) in
        let ps = k.places ++ (q ∷ []) in
        let is = kid_is table l 0 at r.shape q p in
        let m = long s fetch l kid d in
        let w = ih child (under_at q b (held nd)) d (over_at q (held nd) a) x (readable_kid r q p) (subst (λ z. (seek s fetch l z (under_at q b (held nd)) d (over_at q (held nd) a)).end ≡ end_of x) is eq) in
        let wk : rest s fetch l kid d ≡ climb table k.nodes k.places k.bottom l = subst (λ z. rest s fetch l z d ≡ climb table (course s fetch l z d).nodes (course s fetch l z d).places (course s fetch l z d).bottom l) (sym is) w in
        let up : climb table path ps k.bottom l ≡ climb table k.nodes k.places k.bottom l = climb_alike table k.nodes path k.places ps k.bottom l (push_alike l k.nodes at m.0) (push_alike l k.places q m.1) in
        sym (climb_more table path ps k.bottom l (low s fetch l kid d)
        ∙ (ap (λ z. z ++ records_after table l (get_or path l 0) (get_or ps l 0)) (up ∙ sym wk)
        ∙ (ap (λ z. rest s fetch l kid d ++ records_after table l z (get_or ps l 0)) (push_top l k.nodes at m.0) ∙ ap (λ z. rest s fetch l kid d ++ records_after table l at z) (push_top l k.places q m.1))))

  climbs : (l : ℕ) → Climbs l
  climbs zero at b o a x r e = refl
  climbs (suc l) at b o a x r e =
      rest-turn s fetch l (tree_of table (suc l) at) o
      ∙ climb_on l (climbs l) at b o a x r (turn s fetch (held (get_or table at no_node)) o).to (turn_within s fetch (held (get_or table at no_node)) o) (turn_end s fetch l (tree_of table (suc l) at) b o a ∙ e)

-- of a descent
module _ (table : List Node) (used l root : ℕ) (s : Digits) (fetch : ℕ → Option Comparison) (d : Descent) (r : Readable table used l root) (w : DescentOf s fetch l (tree_of table l root) d) where
  path_alike : Alike l (course s fetch l (tree_of table l root) 0).nodes (nodes_of d.path)
  path_alike h lt = sym (get_or-take l (nodes_of d.path) h 0 lt) ∙ ap (λ z. get_or z h 0) w.nodes

  places_alike : Alike l (course s fetch l (tree_of table l root) 0).places (places_of d.path)
  places_alike h lt = sym (get_or-take l (places_of d.path) h 0 lt) ∙ ap (λ z. get_or z h 0) w.places

  pub descent_low : d.bottom ≤ l
  descent_low = omega (arith, w.bottom, low s fetch l (tree_of table l root) 0)

  pub descent_climbs : rest s fetch l (tree_of table l root) 0 ≡ climb table (nodes_of d.path) (places_of d.path) d.bottom l
  descent_climbs =
      let k = course s fetch l (tree_of table l root) 0 in
      climbs table used s fetch l root None 0 None d.ending r w.end
      ∙ (ap (λ z. climb table k.nodes k.places z l) (sym w.bottom) ∙ sym (climb_alike table k.nodes (nodes_of d.path) k.places (places_of d.path) d.bottom l path_alike places_alike))

  pub descent_stands : Stands table used (nodes_of d.path) (places_of d.path) d.bottom l
  descent_stands h lo lt =
      let k = course s fetch l (tree_of table l root) 0 in
      let z = stands table used s fetch l root None 0 None d.ending r w.end h (omega (arith, w.bottom)) lt in
      subst (λ (z : ℕ). Readable table used (suc h) z × (get_or (places_of d.path) h 0 ≤ length (held (get_or table z no_node)))) (sym (path_alike h lt))
      (z.0, subst (λ (q : ℕ). q ≤ length (held (get_or table (get_or k.nodes h 0) no_node))) (sym (places_alike h lt)) z.1)

-- a height more
pub climb_add : (table : List Node) (path ps : List ℕ) (bottom h : ℕ) (list list1 list2 : List ℕ) (w w1 w2 : Walked) → bottom ≤ h → Adds (climb table path ps bottom h) list w list1 w1 →
    Adds (records_after table h (get_or path h 0) (get_or ps h 0)) list1 w1 list2 w2 → Adds (climb table path ps bottom (h + 1)) list w list2 w2
climb_add table path ps bottom h list list1 list2 w w1 w2 le a g =
    let one : suc h ≡ h + 1 = omega arith in
    subst (λ (z : ℕ). Adds (climb table path ps bottom z) list w list2 w2) one
    (subst (λ (z : List ℕ). Adds z list w list2 w2) (sym (climb_more table path ps bottom h le)) (add_more (climb table path ps bottom h) (records_after table h (get_or path h 0) (get_or ps h 0)) list list1 list2 w w1 w2 a g))

pub climb_start : (table : List Node) (path ps : List ℕ) (l : ℕ) (list : List ℕ) (w : Walked) → Adds (climb table path ps l l) list w list w
climb_start table path ps l list w = subst (λ (z : List ℕ). Adds z list w list w) (sym (climb_none table path ps l)) (add_none list w)
