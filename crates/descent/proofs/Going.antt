-- Where a descent stands: what was fetched and passed, and what is left of the search.
use Rattle.std.proofs.Common.{◌≡◌, ℕ, zero, suc, ◌-◌, ◌<◌, ◌≤◌, List, [], ◌∷◌, ◌++◌, map, length, get_or, take, set, replicate, None, Ok, Err, Option, Result, sym, refl, ap, ◌∙◌, subst, arith}
use Rattle.std.proofs.lemmas.List.{append_assoc, append-nil, length-append, length-set, map-set, take-replicate}
use Rattle.std.proofs.Math.Seq.{take-set-lt}
use Rattle.descent.proofs.Trailing.{readable_kid, readable_old}
use Rattle.descent.proofs.Turning.{InTurn, ended, joined, seek-turn, turn_within}
use Rattle.descent.specs.Course.{Course, Turn, course, course_on, turn}
use Rattle.descent.specs.Reading.{DescentOf, Descends, Readable}
use Rattle.descent.specs.declared.descent.Ending.TheVariants.{Found as At}
use Rattle.growth.proofs.Pathing.{no_waypoint}
use Rattle.growth.specs.Paths.{nodes_of, places_of}
use Rattle.growth.specs.declared.path.Waypoint.{Waypoint}
use Rattle.keys.specs.Bits.{bits}
use Rattle.nodes.proofs.Shapes.{kid_is}
use Rattle.nodes.specs.Tables.{Packed, held, links, no_node, tree_of}
use Rattle.nodes.specs.Trees.{Tree, bare, no_entry}
use Rattle.nodes.specs.declared.node.Node.{Node}
use Rattle.search.specs.Seek.{Sought, found, over_at, seek, sought, under_at}
use Rattle.search.specs.TreeLaw.{fetching}
use Rattle.search.specs.declared.place.Placement.{Placement}
use Rattle.search.specs.declared.place.Placement.TheVariants.{Found, Place}
use Rattle.store.proofs.Fetching.{more_reads, no_reads}
use Rattle.store.specs.Meaning.{Lawful, Meaning, after_reads}
use Rattle.store.specs.declared.reading.Missing.{Missing}

set_zeros : (l v : ℕ) (ys : List ℕ) → set (replicate (suc l) 0 ++ ys) l v ≡ replicate l 0 ++ (v ∷ ys)
set_zeros zero v ys = refl
set_zeros (suc l) v ys = ap (λ zs. 0 ∷ zs) (set_zeros l v ys)

-- a waypoint put into a path: what is read of it, which was zero up to its height
put : (f : Waypoint → ℕ) (n : ℕ) (path : List Waypoint) (l : ℕ) (w : Waypoint) (ys : List ℕ) → l < n → take n (map f path) ≡ replicate (suc l) 0 ++ ys → take n (map f (set path l w)) ≡ replicate l 0 ++ (f w ∷ ys)
put f n path l w ys lt h = ap (take n) (map-set f path l w) ∙ (take-set-lt n (map f path) l (f w) lt ∙ (ap (λ zs. set zs l (f w)) h ∙ set_zeros l (f w) ys))

glue : (xs ys : List ℕ) (z : Sought) → joined xs (joined ys z) ≡ joined (xs ++ ys) z
glue xs ys z = ap (λ (w : List ℕ). let r : Sought = record { end = z.end; fetched = w } in r) (sym (append_assoc xs ys z.fetched))

-- the course of the whole is what is left, and then the heights passed
pub record Passed (whole left : Course) (levels level : ℕ) (path : List Waypoint) : Type 0 where
  pub over : List ℕ
  pub over_places : List ℕ
  pub through : take levels (nodes_of path) ≡ replicate level 0 ++ over
  pub at_places : take levels (places_of path) ≡ replicate level 0 ++ over_places
  pub same_nodes : whole.nodes ≡ left.nodes ++ over
  pub same_places : whole.places ≡ left.places ++ over_places
  pub same_offset : whole.offset ≡ left.offset
  pub same_bottom : whole.bottom ≡ left.bottom

pub record Going (m₀ m : Meaning) (table : List Node) (key : List ℕ) (levels root level at : ℕ) (b : Option ℕ) (o : ℕ) (a : Option ℕ) (path : List Waypoint) : Type 0 where
  pub used : ℕ
  pub done : List ℕ
  pub rose : m ≡ after_reads (length done) m₀
  pub search : sought (bits key) (fetching m₀ key) levels (tree_of table levels root) ≡ joined done (seek (bits key) (fetching m₀ key) level (tree_of table level at) b o a)
  pub passed : Passed (course (bits key) (fetching m₀ key) levels (tree_of table levels root) 0) (course (bits key) (fetching m₀ key) level (tree_of table level at) o) levels level path
  pub safe : Readable table used level at
  pub upto : level ≤ levels
  pub long : length path ≡ 7

pub going_start : (m : Meaning) (table : List Node) (key : List ℕ) (used levels root : ℕ) → Lawful m → levels ≤ 7 → Readable table used levels root → Going m m table key levels root levels root None 0 None (replicate 7 no_waypoint)
going_start m table key used levels root law few h =
    let z : take levels (replicate {A = ℕ} 7 0) ≡ replicate levels 0 ++ [] = take-replicate levels 7 0 few ∙ sym (append-nil (replicate levels 0)) in
    let k = course (bits key) (fetching m key) levels (tree_of table levels root) 0 in
    record {
      used = used;
      done = [];
      rose = no_reads m law.wraps;
      search = refl;
      passed = record { over = []; over_places = []; through = z; at_places = z; same_nodes = sym (append-nil k.nodes); same_places = sym (append-nil k.places); same_offset = refl; same_bottom = refl };
      safe = h;
      upto = omega arith;
      long = refl;
    }

-- one level down
pub level_down : {m₀ m : Meaning} {table : List Node} {key : List ℕ} {levels root level at : ℕ} {b : Option ℕ} {o : ℕ} {a : Option ℕ} {path : List Waypoint} →
    Going m₀ m table key levels root level at b o a path → 0 < level → Going m₀ m table key levels root (suc (level - 1)) at b o a path
level_down {m₀} {m} {table} {key} {levels} {root} {level} {at} {b} {o} {a} {path} g pos =
    let e : level ≡ suc (level - 1) = omega arith in subst (λ (z : ℕ). Going m₀ m table key levels root z at b o a path) e g

-- the node that a descent has come to
module _ {m₀ m : Meaning} {table : List Node} {key : List ℕ} {levels root l at : ℕ} {b : Option ℕ} {o : ℕ} {a : Option ℕ} {path : List Waypoint}
    (g : Going m₀ m table key levels root (suc l) at b o a path) where
  pub at_old : at < g.used
  at_old = readable_old g.safe

  pub at_packs : Packed (get_or table at no_node)
  at_packs = g.safe.packs at at_old

-- and once it was looked through: n is the node, x what the search among its entries tells, and m' the store then
pub record Turned {m₀ m : Meaning} {table : List Node} {key : List ℕ} {levels root l at : ℕ} {b : Option ℕ} {o : ℕ} {a : Option ℕ} {path : List Waypoint}
    (g : Going m₀ m table key levels root (suc l) at b o a path) (m' : Meaning) (n : Node) (x : Result Placement Missing) : Type 0 where
  pub node : n ≡ get_or table at no_node
  pub to : x ≡ (turn (bits key) (fetching m key) (held n) o).to
  pub reads : m' ≡ after_reads (length (turn (bits key) (fetching m key) (held n) o).fetched) m

module _ {m₀ m m' : Meaning} {table : List Node} {key : List ℕ} {levels root l at : ℕ} {b : Option ℕ} {o : ℕ} {a : Option ℕ} {path : List Waypoint}
    {g : Going m₀ m table key levels root (suc l) at b o a path} {n : Node} where
  module _ {x : Result Placement Missing} (w : Turned g m' n x) where
    abbrev nd : Node
    nd = get_or table at no_node

    abbrev now_turn : Turn
    now_turn = turn (bits key) (fetching m₀ key) (held nd) o

    same_turn : turn (bits key) (fetching m key) (held n) o ≡ now_turn
    same_turn = ap (λ (z : Meaning). turn (bits key) (fetching z key) (held n) o) g.rose ∙ ap (λ (z : Node). turn (bits key) (fetching m₀ key) (held z) o) w.node

    to_now : x ≡ now_turn.to
    to_now = w.to ∙ ap (λ (z : Turn). z.to) same_turn

    turn_in : InTurn (length (held n)) x
    turn_in = subst (InTurn (length (held n))) (sym w.to) (turn_within (bits key) (fetching m key) (held n) o)

    whole : sought (bits key) (fetching m₀ key) levels (tree_of table levels root) ≡ joined (g.done ++ now_turn.fetched) (ended (seek (bits key) (fetching m₀ key) l) (bare l) (held nd) (map (tree_of table l) (links nd)) b a x)
    whole = g.search ∙ (ap (joined g.done) (seek-turn (bits key) (fetching m₀ key) l (tree_of table (suc l) at) b o a) ∙ (glue g.done now_turn.fetched (ended (seek (bits key) (fetching m₀ key) l) (bare l) (held nd) (map (tree_of table l) (links nd)) b a now_turn.to)
        ∙ ap (λ z. joined (g.done ++ now_turn.fetched) (ended (seek (bits key) (fetching m₀ key) l) (bare l) (held nd) (map (tree_of table l) (links nd)) b a z)) (sym to_now)))

    passed_on : Passed (course (bits key) (fetching m₀ key) levels (tree_of table levels root) 0) (course_on (course (bits key) (fetching m₀ key) l) (bare l) l at o (map (tree_of table l) (links nd)) x) levels (suc l) path
    passed_on =
        let left = ap (course_on (course (bits key) (fetching m₀ key) l) (bare l) l at o (map (tree_of table l) (links nd))) (sym to_now) in
        subst (λ (z : Course). Passed (course (bits key) (fetching m₀ key) levels (tree_of table levels root) 0) z levels (suc l) path) left g.passed

    rose_on : m' ≡ after_reads (length (g.done ++ now_turn.fetched)) m₀
    rose_on = w.reads ∙ (ap (λ (z : Turn). after_reads (length z.fetched) m) same_turn ∙ (ap (after_reads (length now_turn.fetched)) g.rose ∙ (more_reads m₀ (length g.done) (length now_turn.fetched)
        ∙ ap (λ k. after_reads k m₀) (sym (length-append g.done now_turn.fetched)))))

    -- where nothing more is fetched, the reads are those of the whole search
    counted : (ended (seek (bits key) (fetching m₀ key) l) (bare l) (held nd) (map (tree_of table l) (links nd)) b a x).fetched ≡ [] → m' ≡ after_reads (length (sought (bits key) (fetching m₀ key) levels (tree_of table levels root)).fetched) m₀
    counted none = rose_on ∙ ap (λ k. after_reads (length k) m₀) (sym (append-nil (g.done ++ now_turn.fetched)) ∙ (ap (λ k. (g.done ++ now_turn.fetched) ++ k) (sym none) ∙ sym (ap (λ (z : Sought). z.fetched) whole)))

  pub going_lost : {e : Missing} → Turned g m' n (Err e) →
      Descends (bits key) (fetching m₀ key) levels (tree_of table levels root) (Err e) × (m' ≡ after_reads (length (sought (bits key) (fetching m₀ key) levels (tree_of table levels root)).fetched) m₀)
  going_lost w = (ap (λ (z : Sought). z.end) (whole w), counted w refl)

  pub found_in : {c : ℕ} → Turned g m' n (Ok (Found c)) → c < length (held n)
  found_in w = turn_in w

  pub going_found : {c : ℕ} → Turned g m' n (Ok (Found c)) →
      DescentOf (bits key) (fetching m₀ key) levels (tree_of table levels root) (record { ending = At (get_or (held n) c no_entry).number; bottom = l; path = set path l (record { node = at; place = c }); offset = o })
      × (m' ≡ after_reads (length (sought (bits key) (fetching m₀ key) levels (tree_of table levels root)).fetched) m₀)
  going_found {c} w =
      let p = passed_on w in
      let e : get_or (held (get_or table at no_node)) c no_entry ≡ get_or (held n) c no_entry = ap (λ (z : Node). get_or (held z) c no_entry) (sym w.node) in (
        record {
          end = ap (λ (z : Sought). z.end) (whole w) ∙ ap (λ z. found z.number) e;
          nodes = put (λ w. w.node) levels path l (record { node = at; place = c }) p.over g.upto p.through ∙ (sym (append_assoc (replicate l 0) (at ∷ []) p.over) ∙ sym p.same_nodes);
          places = put (λ w. w.place) levels path l (record { node = at; place = c }) p.over_places g.upto p.at_places ∙ (sym (append_assoc (replicate l 0) (c ∷ []) p.over_places) ∙ sym p.same_places);
          offset = sym p.same_offset;
          bottom = sym p.same_bottom;
          long = length-set path l (record { node = at; place = c }) ∙ g.long;
        },
        counted w refl,
      )

  pub place_in : {q d : ℕ} → Turned g m' n (Ok (Place q d)) → q ≤ length (held n)
  place_in w = turn_in w

  pub going_on : {q d : ℕ} → Turned g m' n (Ok (Place q d)) → (x y : Option ℕ) → x ≡ under_at q b (held n) → y ≡ over_at q (held n) a →
      Going m₀ m' table key levels root l (get_or n.children q 0) x d y (set path l (record { node = at; place = q }))
  going_on {q} {d} w x y ex ey =
      let nd = get_or table at no_node in
      let child = get_or nd.children q 0 in
      let p = passed_on w in
      let le : q ≤ length (held nd) = rw w.node at (place_in w) in
      let kid = get_or (map (tree_of table l) (links nd)) q (bare l) in
      let ki : kid ≡ tree_of table l child = kid_is table l 0 at g.safe.shape q le in
      let k = course (bits key) (fetching m₀ key) l kid d in
      let top = course (bits key) (fetching m₀ key) levels (tree_of table levels root) 0 in
      let pass : Passed top k levels l (set path l (record { node = at; place = q })) = record {
        over = at ∷ p.over;
        over_places = q ∷ p.over_places;
        through = put (λ w. w.node) levels path l (record { node = at; place = q }) p.over g.upto p.through;
        at_places = put (λ w. w.place) levels path l (record { node = at; place = q }) p.over_places g.upto p.at_places;
        same_nodes = p.same_nodes ∙ append_assoc k.nodes (at ∷ []) p.over;
        same_places = p.same_places ∙ append_assoc k.places (q ∷ []) p.over_places;
        same_offset = p.same_offset;
        same_bottom = p.same_bottom;
      } in
      let r : Going m₀ m' table key levels root l child (under_at q b (held nd)) d (over_at q (held nd) a) (set path l (record { node = at; place = q })) = record {
        used = g.used;
        done = g.done ++ (turn (bits key) (fetching m₀ key) (held nd) o).fetched;
        rose = rose_on w;
        search = whole w ∙ ap (λ (z : Tree l). joined (g.done ++ (turn (bits key) (fetching m₀ key) (held nd) o).fetched) (seek (bits key) (fetching m₀ key) l z (under_at q b (held nd)) d (over_at q (held nd) a))) ki;
        passed = subst (λ (z : Tree l). Passed top (course (bits key) (fetching m₀ key) l z d) levels l (set path l (record { node = at; place = q }))) ki pass;
        safe = readable_kid g.safe q le;
        upto = omega (arith, g.upto);
        long = length-set path l (record { node = at; place = q }) ∙ g.long;
      } in
      rw (ex, ey, w.node) r
