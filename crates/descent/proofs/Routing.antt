-- A search that ends in a gap took the route to the place of its key.
use Rattle.std.proofs.Common.{◌≡◌, ℕ, zero, suc, ◌+◌, ◌<◌, ◌≤◌, List, [], ◌∷◌, ◌++◌, map, length, get_or, Some, None, Ok, Err, Option, Result, sym, refl, ap, ◌∙◌, subst, arith}
use Rattle.std.proofs.lemmas.List.{get_or-map, length-map}
use Rattle.std.specs.List.{AllByRecursion}
use Rattle.descent.proofs.Extending.{long, push_alike, push_top, route_alike, within_alike}
use Rattle.descent.proofs.Turning.{InTurn, TurnsRight, ended, seek-turn, turn_right, turn_within}
use Rattle.descent.specs.Course.{course, course_on, turn}
use Rattle.descent.specs.Theorems.{CourseRoutes, CourseWithin}
use Rattle.growth.specs.Routes.{Route, Within, base_at, ceiling_at}
use Rattle.keys.specs.Digits.{Above, Below, Digits, floor}
use Rattle.keys.specs.declared.comparison.Comparison.{Comparison}
use Rattle.nodes.proofs.Weaves.{woven_kid}
use Rattle.nodes.specs.Faith.{Ceiling, Faithful, Strung, Under, View, free}
use Rattle.nodes.specs.Trees.{Tree, bare, no_entry, records}
use Rattle.nodes.specs.declared.node.Entry.{Entry}
use Rattle.search.proofs.Comparing.{compared_true}
use Rattle.search.proofs.Ladder.{ladder, ladder_key, strung_long, strung_node}
use Rattle.search.proofs.NodeRight.{look_right}
use Rattle.search.proofs.Plainly.{over_floor}
use Rattle.search.proofs.Weaves.{woven_entry}
use Rattle.search.specs.NodeLaw.{Tells}
use Rattle.search.specs.Parts.{parts_of}
use Rattle.search.specs.Seek.{gap, over_at, seek, under_at}
use Rattle.search.specs.TreeLaw.{tells}
use Rattle.search.specs.declared.neighbour.Neighbour.{Neighbour}
use Rattle.search.specs.declared.place.Placement.{Placement}
use Rattle.search.specs.declared.place.Placement.TheVariants.{Found, Place}
use Rattle.store.specs.declared.reading.Missing.{Missing}

base_is : (v : View) (b : Digits) (es : List Entry) (q : ℕ) → q ≤ length es → ladder v b es q ≡ base_at v b es q
base_is v b [] zero le = refl
base_is v b (e ∷ es) zero le = refl
base_is v b [] (suc q) le = absurd (omega arith)
base_is v b (e ∷ es) (suc q) le = base_is v (v.key e.number) es q (omega arith)

ceiling_is : (v : View) (b : Digits) (c : Ceiling) (es : List Entry) (q : ℕ) (s : Digits) → q ≤ length es → Under c s → (q < length es → Below s (ladder v b es (suc q))) → Under (ceiling_at v c es q) s
ceiling_is v b c [] q s le u h = u
ceiling_is v b c (e ∷ es) zero s le u h = h (omega arith)
ceiling_is v b c (e ∷ es) (suc q) s le u h = ceiling_is v (v.key e.number) c es q s (omega arith) u (λ lt. h (omega arith))

strung_at : {T : Type 0} (v : View) (F : Digits → Ceiling → T → Type 0) (d : T) (b : Digits) (c : Ceiling) (es : List Entry) (ts : List T) → Strung v F b c es ts → (q : ℕ) → q ≤ length es → F (base_at v b es q) (ceiling_at v c es q) (get_or ts q d)
strung_at v F d b c [] [] h q le = absurd h
strung_at v F d b c [] (t ∷ []) h zero le = h
strung_at v F d b c [] (t ∷ []) h (suc q) le = absurd (omega arith)
strung_at v F d b c [] (t ∷ (u ∷ ts)) h q le = absurd h
strung_at v F d b c (e ∷ es) [] h q le = absurd h
strung_at v F d b c (e ∷ es) (t ∷ ts) h zero le = h.0
strung_at v F d b c (e ∷ es) (t ∷ ts) h (suc q) le = strung_at v F d (v.key e.number) c es ts h.1.1 q (omega arith)

-- a search on from a turn ends as the search
pub turn_end : (s : Digits) (fetch : ℕ → Option Comparison) (l : ℕ) (t : Tree (suc l)) (b : Option ℕ) (o : ℕ) (a : Option ℕ) →
    (ended (seek s fetch l) (bare l) t.entries t.kids b a (turn s fetch t.entries o).to).end ≡ (seek s fetch (suc l) t b o a).end
turn_end s fetch l t b o a = ap (λ x. x.end) (sym (seek-turn s fetch l t b o a))

module _ (v : View) (N : ℕ) (s : Digits) (fetch : ℕ → Option Comparison) (tell : ℕ → Comparison) (small : (r j : ℕ) → v.key r j ≤ 1) (told : (r : ℕ) → Tells N s (v.key r) (tell r)) where
  abbrev Routes : ℕ → Type 0
  Routes l = (t : Tree l) (base : Digits) (c : Ceiling) (b : Option ℕ) (o : ℕ) (a : Option ℕ) (below : Option Neighbour) (above : Option ℕ) →
      Faithful v l base c t → AllByRecursion (λ r. fetch r ≡ Some (tell r)) (records l t) → Above s base o → Under c s → (seek s fetch l t b o a).end ≡ gap below above →
      Route v l base c t (course s fetch l t o).places s (course s fetch l t o).offset

  module _ (l : ℕ) (ih : Routes l) (t : Tree (suc l)) (base : Digits) (c : Ceiling) (f : Faithful v (suc l) base c t) (hand : AllByRecursion (λ r. fetch r ≡ Some (tell r)) (records (suc l) t)) where
    abbrev es : List Entry
    es = t.entries

    abbrev fs : List (List ℕ)
    fs = map (records l) t.kids

    many : length fs ≡ length es + 1
    many = length-map t.kids (records l) ∙ strung_long (Tree l) v (Faithful v l) base c es t.kids f

    right : (o : ℕ) → Above s base o → TurnsRight N (length es) (ladder v base es) s (turn s fetch es o).to
    right o u = turn_right N s fetch es o (ladder v base es) tell (look_right N (length es) o (ladder v base es) (parts_of es) s (strung_node (Tree l) v (Faithful v l) small base c es t.kids f) u)
        (λ i lt. (woven_entry (λ r. fetch r ≡ Some (tell r)) i es fs many lt hand, subst (λ k. Tells N s k (tell (get_or es i no_entry).number)) (sym (ladder_key v base es i lt)) (told (get_or es i no_entry).number)))

    on : (b : Option ℕ) (o : ℕ) (a : Option ℕ) (below : Option Neighbour) (above : Option ℕ) → Under c s → (x : Result Placement Missing) → TurnsRight N (length es) (ladder v base es) s x → (ended (seek s fetch l) (bare l) es t.kids b a x).end ≡ gap below above →
        Route v (suc l) base c t (course_on (course s fetch l) (bare l) l t.at o t.kids x).places s (course_on (course s fetch l) (bare l) l t.at o t.kids x).offset
    on b o a below above w (Ok (Found i)) p eq = absurd (let z : ◌≡◌ {A = ℕ} 0 1 = cc in omega arith)
    on b o a below above w (Err r) p eq = absurd p
    on b o a below above w (Ok (Place q d)) p eq =
        let kid = get_or t.kids q (bare l) in
        let k = course s fetch l kid d in
        let ps = k.places ++ (q ∷ []) in
        let le : q ≤ length es = p.within in
        let lk : q < length t.kids = omega (arith, many, length-map t.kids (records l)) in
        let kh : AllByRecursion (λ r. fetch r ≡ Some (tell r)) (records l kid) = subst (AllByRecursion (λ r. fetch r ≡ Some (tell r))) (get_or-map (records l) t.kids q (bare l) [] lk) (woven_kid (λ r. fetch r ≡ Some (tell r)) q es fs many le hand) in
        let r : Route v l (base_at v base es q) (ceiling_at v c es q) kid k.places s k.offset = ih kid (base_at v base es q) (ceiling_at v c es q) (under_at q b es) d (over_at q es a) below above
        (strung_at v (Faithful v l) (bare l) base c es t.kids f q le) kh (subst (λ z. Above s z d) (base_is v base es q le) p.under) (ceiling_is v base c es q s le w p.over) eq in
        let n = (long s fetch l kid d).1 in
        subst (λ (z : ℕ). (z ≤ length es) × Route v l (base_at v base es z) (ceiling_at v c es z) (get_or t.kids z (bare l)) ps s k.offset) (sym (push_top l k.places q n))
        (le, route_alike v l (base_at v base es q) (ceiling_at v c es q) kid k.places ps s k.offset (push_alike l k.places q n) r)

  routes : (l : ℕ) → Routes l
  routes zero t base c b o a below above f hand u w e = (u, w)
  routes (suc l) t base c b o a below above f hand u w e =
      on l (routes l) t base c f hand b o a below above w (turn s fetch t.entries o).to (right l (routes l) t base c f hand o u) (turn_end s fetch l t b o a ∙ e)

pub course_routes : CourseRoutes
course_routes v l t s fetch below above of fit f hand e =
    routes v (v.last + 1) s fetch (tells v s) of.each (λ r. compared_true (v.last + 1) s (v.key r)) l t floor free None 0 None below above f hand (over_floor v s fit) tt e

module _ (s : Digits) (fetch : ℕ → Option Comparison) where
  abbrev Inside : ℕ → Type 0
  Inside l = (t : Tree l) (b : Option ℕ) (o : ℕ) (a : Option ℕ) (below : Option Neighbour) (above : Option ℕ) → (seek s fetch l t b o a).end ≡ gap below above → Within (course s fetch l t o).places l t

  inside_on : (l : ℕ) → Inside l → (t : Tree (suc l)) (b : Option ℕ) (o : ℕ) (a : Option ℕ) (below : Option Neighbour) (above : Option ℕ) (x : Result Placement Missing) → InTurn (length t.entries) x →
      (ended (seek s fetch l) (bare l) t.entries t.kids b a x).end ≡ gap below above → Within (course_on (course s fetch l) (bare l) l t.at o t.kids x).places (suc l) t
  inside_on l ih t b o a below above (Ok (Found i)) p eq = absurd (let z : ◌≡◌ {A = ℕ} 0 1 = cc in omega arith)
  inside_on l ih t b o a below above (Err r) p eq = absurd (let z : ◌≡◌ {A = ℕ} 0 1 = cc in omega arith)
  inside_on l ih t b o a below above (Ok (Place q d)) p eq =
      let kid = get_or t.kids q (bare l) in
      let k = course s fetch l kid d in
      let ps = k.places ++ (q ∷ []) in
      let n = (long s fetch l kid d).1 in
      subst (λ (z : ℕ). (z ≤ length t.entries) × Within ps l (get_or t.kids z (bare l))) (sym (push_top l k.places q n))
      (p, within_alike l kid k.places ps (push_alike l k.places q n) (ih kid (under_at q b t.entries) d (over_at q t.entries a) below above eq))

  inside : (l : ℕ) → Inside l
  inside zero t b o a below above e = tt
  inside (suc l) t b o a below above e = inside_on l (inside l) t b o a below above (turn s fetch t.entries o).to (turn_within s fetch t.entries o) (turn_end s fetch l t b o a ∙ e)

pub course_within : CourseWithin
course_within l t s fetch below above e = inside s fetch l t None 0 None below above e
