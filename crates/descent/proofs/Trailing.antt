-- In a tree of a table the nodes of a course lead down by its places.
use Rattle.std.proofs.Common.{◌≡◌, ℕ, zero, suc, ◌<◌, ◌≤◌, true, List, [], ◌∷◌, ◌++◌, map, length, get_or, None, Ok, Err, Option, Result, sym, ◌∙◌, subst, arith}
use Rattle.descent.proofs.Extending.{long, push_alike, push_top, trail_alike}
use Rattle.descent.proofs.Routing.{course_within, turn_end}
use Rattle.descent.proofs.Turning.{InTurn, ended, turn_within}
use Rattle.descent.specs.Course.{course, course_on, turn}
use Rattle.descent.specs.Reading.{Readable}
use Rattle.descent.specs.Theorems.{CourseTrails}
use Rattle.growth.proofs.Joining.{along_trail}
use Rattle.growth.proofs.Linking.{kid_reached, root_used}
use Rattle.growth.proofs.Placing.{looser}
use Rattle.growth.specs.Routes.{Trail}
use Rattle.keys.specs.Digits.{Digits}
use Rattle.keys.specs.declared.comparison.Comparison.{Comparison}
use Rattle.nodes.proofs.Shapes.{kid_is, kid_shape}
use Rattle.nodes.specs.Tables.{held, links, no_node, tree_of}
use Rattle.nodes.specs.Trees.{Tree, bare, shaped}
use Rattle.nodes.specs.declared.node.Node.{Node}
use Rattle.search.specs.Seek.{gap, over_at, seek, under_at}
use Rattle.search.specs.declared.neighbour.Neighbour.{Neighbour}
use Rattle.search.specs.declared.place.Placement.{Placement}
use Rattle.search.specs.declared.place.Placement.TheVariants.{Found, Place}
use Rattle.store.specs.declared.reading.Missing.{Missing}

-- a tree that can be read, and the one under a place
pub readable_old : {table : List Node} {used l at : ℕ} → Readable table used (suc l) at → at < used
readable_old {table} {used} {l} {at} r = root_used table used l at r.known

pub readable_kid : {table : List Node} {used l at : ℕ} → Readable table used (suc l) at → (q : ℕ) → q ≤ length (held (get_or table at no_node)) → Readable table used l (get_or (get_or table at no_node).children q 0)
readable_kid {table} {used} {l} {at} r q le = record {
  shape = looser l 3 (tree_of table l (get_or (get_or table at no_node).children q 0)) (kid_shape table l 0 at r.shape q le);
  known = λ p h. omega (arith, r.known p h, kid_reached table l 0 at r.shape q le p);
  fits = r.fits;
  packs = r.packs;
}

module _ (table : List Node) (s : Digits) (fetch : ℕ → Option Comparison) where
  abbrev Trails : ℕ → Type 0
  Trails l = (least at : ℕ) (b : Option ℕ) (o : ℕ) (a : Option ℕ) (below : Option Neighbour) (above : Option ℕ) → shaped l least (tree_of table l at) ≡ true → (seek s fetch l (tree_of table l at) b o a).end ≡ gap below above →
      Trail table (course s fetch l (tree_of table l at) o).nodes (course s fetch l (tree_of table l at) o).places l at

  module _ (l : ℕ) (ih : Trails l) (least at : ℕ) (b : Option ℕ) (o : ℕ) (a : Option ℕ) (below : Option Neighbour) (above : Option ℕ) (h : shaped (suc l) least (tree_of table (suc l) at) ≡ true) where
    abbrev nd : Node
    nd = get_or table at no_node

    abbrev ts : List (Tree l)
    ts = map (tree_of table l) (links nd)

    trail_on : (x : Result Placement Missing) → InTurn (length (held nd)) x → (ended (seek s fetch l) (bare l) (held nd) ts b a x).end ≡ gap below above →
        Trail table (course_on (course s fetch l) (bare l) l at o ts x).nodes (course_on (course s fetch l) (bare l) l at o ts x).places (suc l) at
    trail_on (Ok (Found i)) p eq = absurd (let z : ◌≡◌ {A = ℕ} 0 1 = cc in omega arith)
    trail_on (Err r) p eq = absurd (let z : ◌≡◌ {A = ℕ} 0 1 = cc in omega arith)
    trail_on (Ok (Place q d)) p eq =
        let kid = get_or ts q (bare l) in
        let child = get_or nd.children q 0 in
        let k = course s fetch l kid d in
        let is = kid_is table l least at h q p in
        let m = long s fetch l kid d in
        let w = ih 3 child (under_at q b (held nd)) d (over_at q (held nd) a) below above (kid_shape table l least at h q p) (subst (λ z. (seek s fetch l z (under_at q b (held nd)) d (over_at q (held nd) a)).end ≡ gap below above) is eq) in
        let wk : Trail table k.nodes k.places l child = subst (λ z. Trail table (course s fetch l z d).nodes (course s fetch l z d).places l child) (sym is) w in (
          push_top l k.nodes at m.0,
          subst (λ (z : ℕ). Trail table (k.nodes ++ (at ∷ [])) (k.places ++ (q ∷ [])) l (get_or nd.children z 0)) (sym (push_top l k.places q m.1))
              (trail_alike table l child k.nodes (k.nodes ++ (at ∷ [])) k.places (k.places ++ (q ∷ [])) (push_alike l k.nodes at m.0) (push_alike l k.places q m.1) wk),
        )

  trails : (l : ℕ) → Trails l
  trails zero least at b o a below above h e = tt
  trails (suc l) least at b o a below above h e =
      trail_on l (trails l) least at b o a below above h (turn s fetch (held (get_or table at no_node)) o).to (turn_within s fetch (held (get_or table at no_node)) o) (turn_end s fetch l (tree_of table (suc l) at) b o a ∙ e)

pub course_trails : CourseTrails
course_trails table l least root s fetch below above h e =
    let t = trails table s fetch l least root None 0 None below above h e in
    (t, along_trail table (course s fetch l (tree_of table l root) 0).nodes (course s fetch l (tree_of table l root) 0).places l least root h (course_within l (tree_of table l root) s fetch below above e) t)
